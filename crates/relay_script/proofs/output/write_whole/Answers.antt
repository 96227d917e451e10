-- One more write appends to what was written.
use Rattle.std.proofs.Common.{arith, sym, subst, length-drop}
use Rattle.std.proofs.Math.Seq.{take-add}
use Rattle.std.proofs.lemmas.List.{take_rest}
use Rattle.std.specs.Io.KnownBytes.{Appends}
use Rattle.std.proofs.KnownBytes.{Appends-trans}
use Rattle.relay_script.proofs.output.write_whole.Goals as goal

pub loop-at-preserved : goal.loop-at-preserved
loop-at-preserved g c =
    let bytes = c.args.bytes.now in
    let at = c.loop-at.at in
    let n = c.in_ok-at.field-0 in
    let more = simp take_rest at c.in_ok-at.ensures.ok in (
      omega (arith, c.in_ok-at.ensures.within, length-drop at bytes),
      subst (Appends _ _) (sym (take-add at n bytes))
          (Appends-trans _ _ _ _ _ c.loop-at.invariant.1 more),
    )
