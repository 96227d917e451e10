-- Notifying the sessions of a room: none comes or goes, and each number stays.
use Rattle.std.proofs.Common.{◌≡◌, ℕ, Bool, List, [], ◌∷◌, Option, Some, None, refl, nat_eq}
use Rattle.std.specs.Prelude.{IsSome}
use Rattle.std.specs.List.{list_any}
use Rattle.relay_patch.specs.declared.change.Change.{Change}
use Rattle.relay_view.specs.View.{View}
use Rattle.relay_room.specs.Room.{State as Room}
use Rattle.relay_room.specs.declared.catch_up.CatchUp.{CatchUp}
use Rattle.relay_tree.specs.Document.{Document}
use Rattle.relay_tree.specs.declared.budget.Budget.{Budget}
use Rattle.relay_hub.specs.Allowance.{update_for}
use Rattle.relay_hub.specs.Session.{Session}
use Rattle.relay_hub.specs.State.{EachOnce, numbers, session_in}
use Rattle.relay_hub.specs.Step.{making, NotifiedIn, AllNotified}
use Rattle.relay_hub.proofs.Sessions.{none_there}

-- a session that is there is notified by some update and stays, and no other comes
abbrev pub IsNotified : Document → Room → Option Session → Option Session → Type 0
IsNotified d room o p =
    (updates : View → CatchUp) × (short : Bool) × NotifiedIn d room updates short o p

pub each_notified : (d : Document) (changes : List Change) (room : Room) (most total : Budget)
    (xs ys : List Session) (n : ℕ) → AllNotified d changes room most total xs ys n
    → (t : ℕ) → IsNotified d room (session_in xs t) (session_in ys t)
each_notified d changes room most total xs ys n h t =
    (update_for (making most changes room) total h.made, list_any (nat_eq t) h.short, h.each t)

pub none_notified : (d : Document) (room : Room) (o p : Option Session)
    → IsNotified d room o p → o ≡ None → p ≡ None
none_notified d room None None h e = refl
none_notified d room None (Some y) h e = absurd h.2
none_notified d room (Some x) p h e = absurd cc

pub some_notified : (d : Document) (room : Room) (o p : Option Session) (x : Session)
    → IsNotified d room o p → o ≡ Some x → IsSome p
some_notified d room None p x h e = absurd (cc e)
some_notified d room (Some z) (Some y) x h e = refl
some_notified d room (Some z) None x h e = absurd h.2

-- equal numbers leave a session absent
still_none : (xs ys : List Session) (t : ℕ) → numbers ys ≡ numbers xs → session_in xs t ≡ None
    → session_in ys t ≡ None
still_none [] [] t same none = refl
still_none (x ∷ xs) (y ∷ ys) t same none =
    let first : y.number ≡ x.number = cc in
    let rest : numbers ys ≡ numbers xs = cc in
    let apart = none_there x xs t none in
    rw (first, apart.0) (still_none xs ys t rest apart.1)
still_none _ _ t same none = cc

-- and occur once if they did
pub once_same : (xs ys : List Session) → numbers ys ≡ numbers xs → EachOnce xs → EachOnce ys
once_same [] [] same once = tt
once_same (x ∷ xs) (y ∷ ys) same once =
    let first : y.number ≡ x.number = cc in
    let rest : numbers ys ≡ numbers xs = cc in
    (rw first (still_none xs ys x.number rest once.0), once_same xs ys rest once.1)
once_same _ _ same once = cc
