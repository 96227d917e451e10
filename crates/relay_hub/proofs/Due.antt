-- The meaning of an edit to a view; and that a watcher whose snapshot is due stays as it is.
use Rattle.std.proofs.Common.{◌≡◌, ◌-◌, ◌<◌, true, false, List, Option, Some, None, refl, arith}
use Rattle.std.proofs.Common.{nat_lt}
use Rattle.std.proofs.lemmas.Bool.Decides.{nat_tests}
use Rattle.relay_history.specs.History.{Reaches, oldest, changes_since}
use Rattle.relay_patch.specs.Change.{Leads}
use Rattle.relay_patch.specs.declared.change.Change.{Change}
use Rattle.relay_room.specs.CatchUp.{Fits, MakesPresent}
use Rattle.relay_room.specs.Room.{State as Room, IsRoom, revision}
use Rattle.relay_room.proofs.Missed.{caught_up_fits, makes_within}
use Rattle.relay_translate.specs.Translate.{local}
use Rattle.relay_translate.proofs.Slots.{translation}
use Rattle.relay_tree.specs.Document.{Document}
use Rattle.relay_tree.specs.declared.budget.Budget.{Budget}
use Rattle.relay_view.specs.View.{View}
use Rattle.relay_hub.specs.Allowance.{smaller}
use Rattle.relay_hub.specs.Session.{Session}
use Rattle.relay_hub.specs.Step.{making, telling, NotifiedAs, Notified}
use Rattle.relay_hub.specs.Telling.{updates_with}

module _ (room : Room) (d : Document) (changes : List Change) (is : IsRoom room)
    (edited : 0 < revision room) (reaches : Reaches room.history (revision room - 1))
    (since : changes ≡ changes_since (revision room - 1) room.history)
    (leads : Leads d changes room.document) where
  pub telling_fits : (budget : Budget) (v : View) → Fits (telling budget changes room v)
  telling_fits budget v =
      let held : nat_lt (revision room - 1) (oldest room.history) ≡ false =
      grind (arith, nat_tests, reaches.back) in
      rw since (rw held at (caught_up_fits budget room (revision room - 1) v is))

  pub telling_makes : (budget : Budget) (v : View)
      → MakesPresent room v d (telling budget changes room v)
  telling_makes budget v =
      makes_within budget room v d (local changes room.document v)
      (translation changes room.document v d leads)

  module _ (most : Budget) (given : View → Budget) (x : Session) (due : x.outbox.due ≡ true) where
    pub due_as : (o : Option View)
        → NotifiedAs d room (updates_with (making most changes room) given) o false x x
    due_as (Some v) = (
      rw due refl,
      telling_makes (smaller most (given v)) v,
      telling_fits (smaller most (given v)) v,
    )
    due_as None = (refl, refl)

    pub due_notified : Notified d room (updates_with (making most changes room) given) false x x
    due_notified = due_as x.view
