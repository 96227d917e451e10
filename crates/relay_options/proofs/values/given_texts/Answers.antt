use Rattle.std.proofs.Common.{◌∙◌, ap, map, string_bytes, sym}
use Rattle.std.proofs.lemmas.Result.{IfOk-weaker}
use Rattle.relay_options.proofs.TextsRead.{texts_found, texts_read}
use Rattle.relay_options.proofs.values.given_texts.Goals as goal

pub returns-in-Some : goal.returns-in-Some
returns-in-Some c =
    let read = texts_read c.args.given.now c.args.name.now c.get_strs.result c.get_strs.ensures in
    IfOk-weaker c.owned.result _ _
    (λ texts is. is ∙ sym (ap texts_found c.in-Some.is) ∙ read) c.owned.ensures

pub returns-in-None : goal.returns-in-None
returns-in-None c =
    let read = texts_read c.args.given.now c.args.name.now c.get_strs.result c.get_strs.ensures in
    ap (map string_bytes) c.new.ensures.items ∙ sym (ap texts_found c.in-None.is) ∙ read
