use Rattle.std.proofs.Common.{◌≡◌, ◌∙◌, ap, sym, arith, inl, inr, true, ℕ, List, Some, length}
use Rattle.std.proofs.Common.{slice_get}
use Rattle.std.proofs.lemmas.Bool.Decides.{eqb_tells}
use Rattle.std.proofs.lemmas.List.{length-map}
use Rattle.std.proofs.lemmas.Option.{slice_get_within}
use Rattle.relay_hub.specs.Representation.{named, rooms_of}
use Rattle.relay_hub.specs.State.{RoomSessions, is_evictable}
use Rattle.relay_hub.proofs.Lists.{position_first, position_none}
use Rattle.relay_hub.proofs.Representation.{room_at}
use Rattle.relay_hub.proofs.entering.first_vacant.Goals as goal

pub loop-index-init : goal.loop-index-init
loop-index-init c = λ p room less at. absurd (omega (arith, less))

pub returns-then-is_evictable : goal.returns-then-is_evictable
returns-then-is_evictable c =
    let es = c.args.rooms.now.entries in
    let g = c.in-Some.room_sessions.now in
    let at =
    room_at es c.loop-index.index c.in-Some.field-0-0.now g (sym c.in-Some.ensures.entry) in
    let passes : is_evictable g ≡ true = sym c.if-is_evictable.ensures in
    sym (position_first (λ (room : List ℕ × RoomSessions).
    is_evictable room.1) (rooms_of es) c.loop-index.index (named (
      c.in-Some.field-0-0.now,
      g,
    )) c.loop-index.invariant at passes)

pub loop-index-preserved : goal.loop-index-preserved
loop-index-preserved c = λ p room less is.
    let es = c.args.rooms.now.entries in
    let g = c.in-Some.room_sessions.now in
    let at =
    room_at es c.loop-index.index c.in-Some.field-0-0.now g (sym c.in-Some.ensures.entry) in
    elim (eqb_tells p c.loop-index.index) [
      | inl same ↦
          let both : Some room ≡ Some (named (c.in-Some.field-0-0.now, g)) =
          sym is ∙ (ap (λ i. slice_get (rooms_of es) i) same.1 ∙ at) in
          let one : room ≡ named (c.in-Some.field-0-0.now, g) = cc in
          rw one (sym c.if-is_evictable.ensures)
      | inr other ↦ c.loop-index.invariant p room (omega (arith, less, other.1)) is
    ]

pub returns : goal.returns
returns c =
    let es = c.args.rooms.now.entries in
    let end : c.len-index-end.result ≡ length es = c.len-index-end.ensures.len in
    sym (position_none (λ (room : List ℕ × RoomSessions). is_evictable room.1) (rooms_of es)
    (λ p room is.
    c.loop-index.invariant p room (omega (
      arith,
      slice_get_within (rooms_of es) p room is,
      c.loop-index-test.false,
      end,
      length-map es named,
    )) is))
