-- The rooms that are noted at their indexes.
use Rattle.std.proofs.Common.{◌≡◌, ◌∙◌, ◌<◌, ℕ, zero, suc, List, [], ◌∷◌, ◌++◌, map, Option}
use Rattle.std.proofs.Common.{Some, None, is_some, true, false, length, ◌==◌, arith, ap, sym, refl}
use Rattle.std.proofs.Common.{slice_set, ◌≤◌, if◌then◌else◌}
use Rattle.std.proofs.lemmas.Bool.Decides.{nat_tests}
use Rattle.std.proofs.lemmas.List.{map-append}
use Rattle.std.specs.List.{AllByRecursion, flat_map}
use Rattle.std.specs.Option.{option_map, option_to_list}
use Rattle.std.specs.String.{string_bytes}
use Rattle.relay_store.specs.Kept.{Kept, committed}
use Rattle.relay_store.specs.declared.change.Change.TheVariants.{End, RaiseFloor}
use Rattle.relay_keeping.specs.News.{change_of, changes_of, ended_by, noted_by}
use Rattle.relay_keeping.specs.Noted.{Noted, NotedRoom, noted_at, noted_room}
use Rattle.relay_keeping.specs.declared.kept_room.KeptRoom.{KeptRoom}
use Rattle.relay_keeping.specs.declared.news.News.{News}

pushed : (noted : Noted) (i : ℕ) → noted_at (noted ++ None ∷ []) i ≡ noted_at noted i
pushed [] zero = refl
pushed [] (suc i) = refl
pushed (room ∷ noted) zero = refl
pushed (room ∷ noted) (suc i) = pushed noted i

-- a place that was added notes nothing
pub place_added : (rooms : List (Option KeptRoom)) (i : ℕ)
    → noted_at (map (option_map noted_room) (rooms ++ None ∷ [])) i
    ≡ noted_at (map (option_map noted_room) rooms) i
place_added rooms i =
    ap (λ noted. noted_at noted i) (map-append (option_map noted_room) rooms (None ∷ []))
    ∙ pushed (map (option_map noted_room) rooms) i

-- the changes depend on what is noted at each index alone
pub same_changes : (old new : Noted) → ((i : ℕ) → noted_at new i ≡ noted_at old i)
    → (news : List News) (floor : Option ℕ) → changes_of new news floor ≡ changes_of old news floor
same_changes old new same news floor =
    ap (λ ends. ends ++ map change_of news ++ option_to_list (option_map RaiseFloor floor))
    (go news)
  where
    end : (x : News) → ended_by new x ≡ ended_by old x
    end x = ap (λ room. if x.replaces then option_map (λ (room : NotedRoom). End room.0) room
        else None) (same x.index)

    go : (news : List News) → flat_map (λ x. option_to_list (ended_by new x)) news
        ≡ flat_map (λ x. option_to_list (ended_by old x)) news
    go [] = refl
    go (x ∷ news) = λ i. option_to_list (end x i) ++ go news i

-- nothing is committed of no news
pub nothing_new : (kept : Kept) (noted : Noted) (news : List News) (floor : Option ℕ) → news ≡ []
    → floor ≡ None → committed kept (changes_of noted news floor) ≡ kept
nothing_new kept noted news floor none same =
    ap (λ news. committed kept (changes_of noted news floor)) none
    ∙ ap (λ floor. committed kept (changes_of noted [] floor)) same

pub no_items : {X : Type 0} (xs : List X) → (length xs == 0) ≡ true → xs ≡ []
no_items [] none = refl
no_items (x ∷ xs) none = absurd (grind (arith, nat_tests, none))

pub no_value : {X : Type 0} (o : Option X) → is_some o ≡ false → o ≡ None
no_value None none = refl
no_value (Some x) none = absurd (cc none)

-- what is noted where the room at an index was written
pub noted_written : (rooms : List (Option KeptRoom)) (i index : ℕ) (room : Option KeptRoom)
    → i < length rooms
    → noted_at (map (option_map noted_room) (slice_set rooms i room)) index
    ≡ (if i == index then option_map noted_room room
    else noted_at (map (option_map noted_room) rooms) index)
noted_written [] i index room within = absurd (omega (arith, within))
noted_written (r ∷ rooms) zero zero room within = refl
noted_written (r ∷ rooms) zero (suc index) room within =
    let other : (0 == suc index) ≡ false = grind (arith, nat_tests) in rw other refl
noted_written (r ∷ rooms) (suc i) zero room within =
    let other : (suc i == 0) ≡ false = grind (arith, nat_tests) in rw other refl
noted_written (r ∷ rooms) (suc i) (suc index) room within =
    let same : (suc i == suc index) ≡ (i == index) = grind (arith, nat_tests) in
    noted_written rooms i index room (omega (arith, within))
    ∙ ap (λ b. if b then option_map noted_room room
    else noted_at (map (option_map noted_room) rooms) index) (sym same)

-- the last of some news is noted first
pub noted_last : (index : ℕ) (news : List News) (last : News) (was : Option NotedRoom)
    → noted_by index (news ++ last ∷ []) was
    ≡ noted_by index news (noted_by index (last ∷ []) was)
noted_last index [] last was = refl
noted_last index (new ∷ news) last was =
    ap (λ after. if new.index == index then Some (string_bytes new.name, new.update.revision)
    else after) (noted_last index news last was)

-- what holds of all holds of the last, and of those before
pub all_but_last : {X : Type 0} (P : X → Type 0) (xs : List X) (last : X)
    → AllByRecursion P (xs ++ last ∷ []) → AllByRecursion P xs × P last
all_but_last P [] last all = (tt, all.0)
all_but_last P (x ∷ xs) last all =
    let rest = all_but_last P xs last all.1 in ((all.0, rest.0), rest.1)

-- what is noted of rooms of which one more comes last
pub noted_front : (rooms : List (Option KeptRoom)) (last : Option KeptRoom) (i : ℕ)
    → i < length rooms
    → noted_at (map (option_map noted_room) (rooms ++ last ∷ [])) i
    ≡ noted_at (map (option_map noted_room) rooms) i
noted_front [] last i within = absurd (omega (arith, within))
noted_front (r ∷ rooms) last zero within = refl
noted_front (r ∷ rooms) last (suc i) within =
    noted_front rooms last i (omega (arith, within))

pub noted_end : (rooms : List (Option KeptRoom)) (last : Option KeptRoom)
    → noted_at (map (option_map noted_room) (rooms ++ last ∷ [])) (length rooms)
    ≡ option_map noted_room last
noted_end [] last = refl
noted_end (r ∷ rooms) last = noted_end rooms last

-- nothing is noted behind the last room
pub noted_past : (rooms : List (Option KeptRoom)) (i : ℕ) → length rooms ≤ i
    → noted_at (map (option_map noted_room) rooms) i ≡ None
noted_past [] i above = refl
noted_past (r ∷ rooms) zero above = absurd (omega (arith, above))
noted_past (r ∷ rooms) (suc i) above = noted_past rooms i (omega (arith, above))
