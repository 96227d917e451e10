use Rattle.std.proofs.Common.{rules, ◌≡◌, ◌∙◌, Some, ap, option_map, string_bytes}
use denote.Ref.{Bor}
use Rattle.clap.specs.Words.{Text}
use Rattle.relay_options.proofs.TextsRead.{text_read}
use Rattle.relay_options.proofs.values.given_text.Goals as goal

pub returns-in_ok-from_str-in-Some : goal.returns-in_ok-from_str-in-Some
returns-in_ok-from_str-in-Some c =
    let read = text_read c.args.given.now c.args.name.now c.get_str.result c.get_str.ensures in
    let copied : c.in-Some.text.now ≡ string_bytes c.in_ok-from_str-in-Some.field-0 =
    search rules in
    read ∙ ap (option_map (λ (s : Bor Text). s.now)) c.in-Some.is ∙ ap Some copied

pub returns-in-None : goal.returns-in-None
returns-in-None c =
    let read = text_read c.args.given.now c.args.name.now c.get_str.result c.get_str.ensures in
    read ∙ ap (option_map (λ (s : Bor Text). s.now)) c.in-None.is
