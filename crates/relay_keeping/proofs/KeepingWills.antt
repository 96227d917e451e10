-- The changes that keep rooms leave the wills that are kept, and those that keep wills the rooms.
use Rattle.std.proofs.Common.{◌≡◌, ◌∙◌, ℕ, Bool, true, false, List, [], ◌∷◌, ◌++◌, map, min}
use Rattle.std.proofs.Common.{Option, Some, None, is_some, ap, subst, sym, refl, if◌then◌else◌}
use Rattle.std.specs.Prelude.{⊤}
use Rattle.std.specs.List.{AllByRecursion, flat_map}
use Rattle.std.specs.Option.{option_map, option_to_list}
use Rattle.std.specs.String.{string_bytes}
use Rattle.relay_hub.specs.Log.{Bequest}
use Rattle.relay_hub.specs.State.{State}
use Rattle.relay_hub.specs.Summary.{room_named}
use Rattle.relay_limits.specs.declared.TheConstants.{MAX_COUNT}
use Rattle.relay_proto.specs.Message.{will_request}
use Rattle.relay_store.specs.declared.change.Change.{Change}
use Rattle.relay_store.specs.declared.change.Change.TheVariants.{Begin, Edit, End, RaiseFloor}
use Rattle.relay_store.specs.declared.change.Change.TheVariants.{LeaveWill, DropWill}
use Rattle.relay_store.specs.Kept.{Kept, changed, committed, without_will}
use Rattle.relay_keeping.specs.Mirrored.{IsKept, Mirrors, kept_named}
use Rattle.relay_keeping.specs.News.{change_of, changes_of, ended_by}
use Rattle.relay_keeping.specs.Noted.{Noted, NotedRoom, noted_at}
use Rattle.relay_keeping.specs.Wills.{NotedWills, drop_change, is_noted, left_change, number_in}
use Rattle.relay_keeping.specs.Wills.{will_changes}
use Rattle.relay_keeping.specs.declared.news.News.{News}
use Rattle.relay_tree.specs.Text.{text_of}

-- a change of a will
abbrev IsOfWill : Change (List ℕ) → Type 0
IsOfWill (LeaveWill session room text) = ⊤
IsOfWill (DropWill session) = ⊤
IsOfWill _ = ⊥

-- a change of a room, or of the floor
abbrev IsOfRoom : Change (List ℕ) → Type 0
IsOfRoom (LeaveWill session room text) = ⊥
IsOfRoom (DropWill session) = ⊥
IsOfRoom _ = ⊤

all_of_both : {X : Type 0} (P : X → Type 0) (xs ys : List X) → AllByRecursion P xs
    → AllByRecursion P ys → AllByRecursion P (xs ++ ys)
all_of_both P [] ys first more = more
all_of_both P (x ∷ xs) ys first more = (first.0, all_of_both P xs ys first.1 more)

all_mapped : {X Y : Type 0} (P : Y → Type 0) (f : X → List Y)
    → ((x : X) → AllByRecursion P (f x)) → (xs : List X) → AllByRecursion P (flat_map f xs)
all_mapped P f each [] = tt
all_mapped P f each (x ∷ xs) = all_of_both P (f x) (flat_map f xs) (each x) (all_mapped P f each xs)

-- the changes that keep wills are changes of wills
of_wills : (noted : NotedWills) (wills : List Bequest)
    → AllByRecursion IsOfWill (will_changes noted wills)
of_wills noted wills =
    all_of_both IsOfWill (flat_map (drop_change wills) noted) (flat_map (left_change noted) wills)
    (all_mapped IsOfWill (drop_change wills) (λ n. drops (is_some (number_in wills n.0)) n) noted)
    (all_mapped IsOfWill (left_change noted) (λ w. leaves (is_noted noted w) w) wills)
  where
    drops : (b : Bool) (n : ℕ × ℕ)
        → AllByRecursion IsOfWill (if b then [] else DropWill n.0 ∷ [])
    drops true n = tt
    drops false n = (tt, tt)

    leaves : (b : Bool) (w : Bequest)
        → AllByRecursion IsOfWill (if b then []
        else LeaveWill w.session w.room (text_of (will_request w.patch)) ∷ [])
    leaves true w = tt
    leaves false w = (tt, tt)

-- those that keep rooms are changes of rooms
of_rooms : (noted : Noted) (news : List News) (floor : Option ℕ)
    → AllByRecursion IsOfRoom (changes_of noted news floor)
of_rooms noted news floor =
    all_of_both IsOfRoom (flat_map (λ new. option_to_list (ended_by noted new)) news
    ++ map change_of news) (option_to_list (option_map RaiseFloor floor))
    (all_of_both IsOfRoom (flat_map (λ new. option_to_list (ended_by noted new)) news)
    (map change_of news)
    (all_mapped IsOfRoom (λ new. option_to_list (ended_by noted new))
    (λ new. ends new.replaces (noted_at noted new.index)) news)
    (begun news)) (risen floor)
  where
    ends : (b : Bool) (old : Option NotedRoom) → AllByRecursion IsOfRoom
        (option_to_list (if b then option_map (λ room. End room.0) old else None))
    ends true None = tt
    ends true (Some old) = (tt, tt)
    ends false old = tt

    one : (b : Bool) (name text : List ℕ) (rev : ℕ)
        → IsOfRoom (if b then Begin name rev text else Edit name rev text)
    one true name text rev = tt
    one false name text rev = tt

    begun : (news : List News) → AllByRecursion IsOfRoom (map change_of news)
    begun [] = tt
    begun (x ∷ news) = (
      one x.update.is_snapshot (string_bytes x.name) (string_bytes x.update.text)
          x.update.revision,
      begun news,
    )

    risen : (floor : Option ℕ)
        → AllByRecursion IsOfRoom (option_to_list (option_map RaiseFloor floor))
    risen None = tt
    risen (Some floor) = (tt, tt)

-- changes of wills leave the rooms and the floor
rooms_stay : (kept : Kept) (changes : List (Change (List ℕ))) → AllByRecursion IsOfWill changes
    → ((committed kept changes).rooms ≡ kept.rooms) × ((committed kept changes).floor ≡ kept.floor)
rooms_stay kept [] all = (refl, refl)
rooms_stay kept (LeaveWill s name text ∷ changes) all =
    rooms_stay (changed kept (LeaveWill s name text)) changes all.1
rooms_stay kept (DropWill s ∷ changes) all = rooms_stay (changed kept (DropWill s)) changes all.1
rooms_stay kept (Begin name rev text ∷ changes) all = absurd all.0
rooms_stay kept (Edit name rev text ∷ changes) all = absurd all.0
rooms_stay kept (End name ∷ changes) all = absurd all.0
rooms_stay kept (RaiseFloor rev ∷ changes) all = absurd all.0

-- changes of rooms leave the wills
wills_stay : (kept : Kept) (changes : List (Change (List ℕ))) → AllByRecursion IsOfRoom changes
    → (committed kept changes).wills ≡ kept.wills
wills_stay kept [] all = refl
wills_stay kept (LeaveWill s name text ∷ changes) all = absurd all.0
wills_stay kept (DropWill s ∷ changes) all = absurd all.0
wills_stay kept (Begin name rev text ∷ changes) all =
    wills_stay (changed kept (Begin name rev text)) changes all.1
wills_stay kept (Edit name rev text ∷ changes) all =
    wills_stay (changed kept (Edit name rev text)) changes all.1
wills_stay kept (End name ∷ changes) all = wills_stay (changed kept (End name)) changes all.1
wills_stay kept (RaiseFloor rev ∷ changes) all =
    wills_stay (changed kept (RaiseFloor rev)) changes all.1

-- what is kept of wills after some changes is told by what was kept of wills
wills_alone : (one other : Kept) (changes : List (Change (List ℕ))) → one.wills ≡ other.wills
    → (committed one changes).wills ≡ (committed other changes).wills
wills_alone one other [] same = same
wills_alone one other (change ∷ changes) same =
    wills_alone (changed one change) (changed other change) changes (step change)
  where
    step : (change : Change (List ℕ)) → (changed one change).wills ≡ (changed other change).wills
    step (Begin name rev text) = same
    step (Edit name rev text) = same
    step (End name) = same
    step (RaiseFloor rev) = same
    step (LeaveWill s name text) = ap (λ wills. without_will s wills
        ++ record { session = s; room = name; text = text } ∷ []) same
    step (DropWill s) = ap (without_will s) same

module _ (kept : Kept) (noted : Noted) (news : List News) (floor : Option ℕ) (left : NotedWills)
    (wills : List Bequest) where
  abbrev rooms_kept : Kept
  rooms_kept = committed kept (changes_of noted news floor)

  abbrev pub all_kept : Kept
  all_kept = committed rooms_kept (will_changes left wills)

  -- the wills are kept, whatever is kept of rooms in the same commit
  pub wills_kept : all_kept.wills ≡ (committed kept (will_changes left wills)).wills
  wills_kept = wills_alone rooms_kept kept (will_changes left wills)
      (wills_stay kept (changes_of noted news floor) (of_rooms noted news floor))

  pub floor_with_wills : all_kept.floor ≡ rooms_kept.floor
  floor_with_wills = (rooms_stay rooms_kept (will_changes left wills) (of_wills left wills)).1

  -- a hub whose rooms are kept is mirrored, whatever is kept of wills
  pub mirrors_with_wills : (hub : State) → Mirrors rooms_kept hub → Mirrors all_kept hub
  mirrors_with_wills hub mirrors =
      let stay = rooms_stay rooms_kept (will_changes left wills) (of_wills left wills) in
      record {
        rooms = λ name.
            subst (λ rooms. IsKept (kept_named name rooms) (room_named name hub.rooms)) (sym stay.0)
            (mirrors.rooms name);
        floor = mirrors.floor ∙ ap (λ floor. min floor MAX_COUNT) (sym stay.1);
      }
