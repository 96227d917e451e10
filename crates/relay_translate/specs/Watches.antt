-- The views of sessions, and the sessions whose views changes touch.
use Rattle.std.specs.Prelude.{◌≡◌, ℕ, List, [], Bool, false, not, nat_eq, Option, Some, None}
use Rattle.std.specs.List.{list_any}
use Rattle.std.specs.Coded.{Coded, coded_ℕ, coded_list}
use Rattle.std.specs.FinMap as map
use Rattle.std.specs.Ordering.{nat_cmp}
use Rattle.relay_tree.specs.Document.{Document}
use Rattle.relay_patch.specs.declared.change.Change.{Change}
use Rattle.relay_view.specs.View.{View}
use Rattle.relay_view.specs.declared.slot.Slot.{Slot}
use Rattle.relay_translate.specs.Touch.{touch_slot}
use Rattle.relay_translate.specs.Translate.{local}
use Rattle.relay_translate.specs.Local.{is_apart}

-- the view of each session that has one
abbrev pub Watches : Type 0
Watches = map.FinMap nat_cmp View

-- the slots of a view; none if there is no view
abbrev pub slots_of : Option View → List Slot
slots_of None = []
slots_of (Some view) = view

-- the change is not apart from what the slot shows
abbrev pub touches : Change → Slot → Bool
touches c s = not (is_apart (touch_slot c s))

-- some change is not apart from what the slot shows
abbrev pub is_touched : List Change → Slot → Bool
is_touched changes s = list_any (λ c. touches c s) changes

-- some change is not apart from what some slot of the session shows
abbrev pub sees : List Change → Watches → ℕ → Bool
sees changes watches session = list_any (is_touched changes) (slots_of (map.get watches session))

-- for every session not in the list, the changes translate to no operation on its view, whatever
-- document they led to
abbrev pub OthersStay : List Change → Watches → List ℕ → Type 0
OthersStay changes watches sessions =
    (session : ℕ) (now : Document) → list_any (nat_eq session) sessions ≡ false
    → local changes now (slots_of (map.get watches session)) ≡ []

-- how the logic encodes watches
abbrev pub watches_code : Coded Slot → Coded Watches
watches_code slot = map.code coded_ℕ (coded_list slot)
