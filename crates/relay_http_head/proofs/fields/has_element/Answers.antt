-- The fields are tried in their order.
use Rattle.std.proofs.Common.{◌∙◌, sym, rules, tests, ◌&&◌}
use Rattle.std.specs.Str.{str_eq_ignore_ascii_case}
use Rattle.std.proofs.lemmas.Iterator.{YieldsList-from_slice}
use Rattle.std.proofs.lemmas.Iterator.Search.{any_from_yields_List}
use Rattle.httparse.specs.Borrowed.{header_parts}
use Rattle.relay_http_head.specs.Head.{lists}
use Rattle.relay_http_head.proofs.Lists.{list_any_map}
use Rattle.relay_http_head.proofs.fields.has_element.Goals as goal

pub returns : goal.returns
returns c =
    any_from_yields_List (λ field.
    str_eq_ignore_ascii_case field.name.now c.args.name.now
    && lists c.args.element.now field.value.now) _ _ _ c.any.ensures.ran
    (YieldsList-from_slice c.args.fields.now c.iter.ensures.rest) (λ x b q k. search (rules, tests))
    ∙ sym (list_any_map (λ field.
    str_eq_ignore_ascii_case field.0 c.args.name.now
    && lists c.args.element.now field.1) header_parts c.args.fields.now)
