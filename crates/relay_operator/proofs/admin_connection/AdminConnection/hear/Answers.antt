-- All bytes received are answered.
use Rattle.std.proofs.Common.{inl, inr, refl}
use Rattle.relay_operator.proofs.Moving.{hears, receives_part, receives_then}
use Rattle.relay_operator.proofs.Noting.{unfinished_more, unfinished_same}
use Rattle.relay_operator.proofs.admin_connection.AdminConnection.hear.Goals as goal

pub returns-in-Some : goal.returns-in-Some
returns-in-Some g c =
    hears g.S.Read.remaining _ c.receive.new.self _ _
    (receives_then g.S.Read.remaining _ _ _ c.loop-read.invariant.receives
    c.in_ok-receive.ensures.receives)
    (rw c.in-Some.is at c.in_ok-ask-in-Bytes.ensures) refl

pub returns-in-None : goal.returns-in-None
returns-in-None g c =
    inr (hears g.S.Read.remaining _ c.receive.new.self _ _
    (receives_then g.S.Read.remaining _ _ _ c.loop-read.invariant.receives
    c.in_ok-receive.ensures.receives)
    (rw c.in-None.is at c.in_ok-ask-in-Bytes.ensures) refl)

pub returns-in-Nothing : goal.returns-in-Nothing
returns-in-Nothing g c =
    inl (
      receives_then g.S.Read.remaining _ _ _ c.loop-read.invariant.receives
          c.in_ok-receive.ensures.receives,
      unfinished_same _ _ _ c.loop-read.invariant.unfinished
          (rw c.in-Nothing.is at c.in_ok-receive.ensures.changes),
    )

pub returns-in-Done : goal.returns-in-Done
returns-in-Done g c =
    inl (
      receives_then g.S.Read.remaining _ _ _ c.loop-read.invariant.receives
          c.in_ok-receive.ensures.receives,
      unfinished_same _ _ _ c.loop-read.invariant.unfinished (elim c.in-Done.is [
        | inl done ↦ rw done at c.in_ok-receive.ensures.changes
        | inr failed ↦ rw failed at c.in_ok-receive.ensures.changes
      ]),
    )

pub loop-read-preserved : goal.loop-read-preserved
loop-read-preserved g c = elim c.match-branch-2.branch [
  | goal.in-Bytes+in_ok-ask-in-Bytes+in-Some-More w ↦
      let notes =
      rw (w.in-Some-More.is, w.in-Some-More.field-0-is) at w.in_ok-ask-in-Bytes.ensures in
      rw w.self-is (record {
        receives =
            receives_part g.S.Read.remaining _ _ c.receive.new.self w.ask.new.self
            c.loop-read.invariant.receives c.in_ok-receive.ensures.receives notes;
        unfinished = unfinished_more _ c.receive.new.self.request w.ask.new.self notes;
      })
  | goal.in-Again w ↦ rw w.self-is (record {
    receives =
        receives_then g.S.Read.remaining _ _ _ c.loop-read.invariant.receives
        c.in_ok-receive.ensures.receives;
    unfinished =
        unfinished_same _ _ _ c.loop-read.invariant.unfinished
        (rw w.in-Again.is at c.in_ok-receive.ensures.changes);
  })
]
