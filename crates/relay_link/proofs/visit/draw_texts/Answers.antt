-- A pass drew one text more.
use Rattle.std.proofs.Common.{rules}
use Rattle.relay_link.proofs.Visiting.{drew_text}
use Rattle.relay_link.proofs.visit.draw_texts.Goals as goal

pub loop-preserved : goal.loop-preserved
loop-preserved c = record {
  drew = drew_text _ _ c.in-Some.text _ _ _ (rw c.shared.ensures at c.push_reserved.ensures.items)
      c.loop.invariant.drew
      (rw c.in-Some.is at c.in_ok-text.ensures.drew);
  passes = search rules;
  adds = search rules;
  each = search rules;
  count = search rules;
  room = search rules;
}
