-- The operations of a translation on each slot.
use Rattle.std.proofs.Common.{◌≡◌, ◌≢◌, ℕ, suc, zero, ◌+◌, ◌<◌, List, [], ◌∷◌, ◌++◌, map, flat_map}
use Rattle.std.proofs.Common.{Bool, true, false, ◌&&◌, ◌||◌, Some, refl, sym, ap, ◌∙◌, arith}
use Rattle.std.proofs.Common.{bytes_eq, slice_get, if◌then◌else◌}
use Rattle.std.proofs.lemmas.List.{append-nil}
use Rattle.std.proofs.lemmas.List.Elements.{filter-append}
use Rattle.relay_tree.specs.Document.{Document}
use Rattle.relay_tree.proofs.Names.{equal_bytes, bytes_same}
use Rattle.relay_pointer.specs.Index.{index_text, index_of}
use Rattle.relay_pointer.specs.Path.{Path}
use Rattle.relay_pointer.proofs.Indexes.{index_of-index_text}
use Rattle.relay_patch.specs.declared.op.Op.{Op}
use Rattle.relay_patch.specs.declared.op.Op.TheVariants.{Move, Copy}
use Rattle.relay_patch.specs.declared.change.Change.{Change}
use Rattle.relay_view.specs.View.{View}
use Rattle.relay_view.specs.declared.slot.Slot.{Slot}
use Rattle.relay_translate.specs.Touch.{Touch, Apart, Inside, Reset, touch_slot}
use Rattle.relay_translate.specs.Translate.{is_reset, op_of, in_view, when_inside, slot_op}
use Rattle.relay_translate.specs.Translate.{slot_ops, local_from, local}
use Rattle.relay_translate.specs.Local.{is_apart, is_inside, all_apart, some_reset, changes_inside}
use Rattle.relay_translate.specs.Local.{names, on_slot, LeavesApart, FollowsInside, ReplacesReset}

-- An operation on one slot names that slot, and no other.

-- each number has an index of its own
other_index : (j k : ℕ) → j ≢ k → bytes_eq (index_text j) (index_text k) ≡ false
other_index j k differ = go (bytes_eq (index_text j) (index_text k)) refl
  where
    go : (x : Bool) → bytes_eq (index_text j) (index_text k) ≡ x
        → bytes_eq (index_text j) (index_text k) ≡ false
    go true e =
        let numbers : Some j ≡ Some k =
        sym (index_of-index_text j)
        ∙ (ap index_of (equal_bytes (index_text j) (index_text k) e) ∙ index_of-index_text k) in
        let same : j ≡ k = cc in
        absurd (differ same)
    go false e = e

names_own : (k : ℕ) (q : Path) (op : Op) → names k (in_view k q op) ≡ true
names_own k q (Move from path) = rw (bytes_same (index_text k)) refl
names_own k q (Copy from path) = rw (bytes_same (index_text k)) refl
names_own k q _ = bytes_same (index_text k)

names_other : (j k : ℕ) → j ≢ k → (q : Path) (op : Op) → names k (in_view j q op) ≡ false
names_other j k differ q (Move from path) = rw (other_index j k differ) refl
names_other j k differ q (Copy from path) = rw (other_index j k differ) refl
names_other j k differ q _ = other_index j k differ

own_when : (k : ℕ) (q : Path) (t : Touch) (op : Op)
    → on_slot k (when_inside t (in_view k q op)) ≡ when_inside t (in_view k q op)
own_when k q Inside op = rw (names_own k q op) refl
own_when k q _ op = refl

other_when : (j k : ℕ) → j ≢ k → (q : Path) (t : Touch) (op : Op)
    → on_slot k (when_inside t (in_view j q op)) ≡ []
other_when j k differ q Inside op = rw (names_other j k differ q op) refl
other_when j k differ q _ op = refl

own_changes : (k : ℕ) (s : Slot) (changes : List Change)
    → on_slot k (flat_map (slot_op k s) changes) ≡ flat_map (slot_op k s) changes
own_changes k s [] = refl
own_changes k s (c ∷ cs) =
    let here : List Op = slot_op k s c in
    let later : List Op = flat_map (slot_op k s) cs in
    filter-append (names k) here later
    ∙ (ap (λ ops. ops ++ on_slot k later)
    (own_when k s.pointer (touch_slot c s) (op_of s.pointer c))
    ∙ ap (λ ops. here ++ ops) (own_changes k s cs))

other_changes : (j k : ℕ) → j ≢ k → (s : Slot) (changes : List Change)
    → on_slot k (flat_map (slot_op j s) changes) ≡ []
other_changes j k differ s [] = refl
other_changes j k differ s (c ∷ cs) =
    let later : List Op = flat_map (slot_op j s) cs in
    filter-append (names k) (slot_op j s c) later
    ∙ (ap (λ ops. ops ++ on_slot k later)
    (other_when j k differ s.pointer (touch_slot c s) (op_of s.pointer c))
    ∙ other_changes j k differ s cs)

own_slot : (k : ℕ) (s : Slot) (changes : List Change) (now : Document)
    → on_slot k (slot_ops k s changes now) ≡ slot_ops k s changes now
own_slot k s changes now = go (some_reset s changes) refl
  where
    go : (x : Bool) → some_reset s changes ≡ x
        → on_slot k (slot_ops k s changes now) ≡ slot_ops k s changes now
    go true e = rw (e, bytes_same (index_text k)) refl
    go false e = rw e (own_changes k s changes)

other_slot : (j k : ℕ) → j ≢ k → (s : Slot) (changes : List Change) (now : Document)
    → on_slot k (slot_ops j s changes now) ≡ []
other_slot j k differ s changes now = go (some_reset s changes) refl
  where
    go : (x : Bool) → some_reset s changes ≡ x → on_slot k (slot_ops j s changes now) ≡ []
    go true e = rw (e, other_index j k differ) refl
    go false e = rw e (other_changes j k differ s changes)

-- Of all slots, the operations on one are those that name it.

beside : (n k : ℕ) → k < n → (changes : List Change) (now : Document) (pointers : View)
    → on_slot k (local_from n changes now pointers) ≡ []
beside n k before changes now [] = refl
beside n k before changes now (s ∷ pointers) =
    let later : List Op = local_from (suc n) changes now pointers in
    let differ : n ≢ k = λ e. omega (arith, e, before) in
    filter-append (names k) (slot_ops n s changes now) later
    ∙ (ap (λ ops. ops ++ on_slot k later) (other_slot n k differ s changes now)
    ∙ beside (suc n) k (omega (arith, before)) changes now pointers)

at_slot : (n i k : ℕ) → k ≡ n + i
    → (changes : List Change) (now : Document) (pointers : View) (s : Slot)
    → slice_get pointers i ≡ Some s
    → on_slot k (local_from n changes now pointers) ≡ slot_ops k s changes now
at_slot n i k place changes now [] s is = cc
at_slot n zero k place changes now (p ∷ pointers) s is =
    let own : k ≡ n = omega (arith, place) in
    let pointed : p ≡ s = cc in
    let later : List Op = local_from (suc n) changes now pointers in
    rw (own, pointed)
    (filter-append (names n) (slot_ops n s changes now) later
    ∙ (ap (λ ops. ops ++ on_slot n later) (own_slot n s changes now)
    ∙ (ap (λ ops. slot_ops n s changes now ++ ops)
    (beside (suc n) n (omega arith) changes now pointers)
    ∙ append-nil (slot_ops n s changes now))))
at_slot n (suc i) k place changes now (p ∷ pointers) s is =
    let later : List Op = local_from (suc n) changes now pointers in
    let differ : n ≢ k = λ e. omega (arith, e, place) in
    filter-append (names k) (slot_ops n p changes now) later
    ∙ (ap (λ ops. ops ++ on_slot k later) (other_slot n k differ p changes now)
    ∙ at_slot (suc n) i k (omega (arith, place)) changes now pointers s is)

named : (changes : List Change) (now : Document) (pointers : View) (k : ℕ) (s : Slot)
    → slice_get pointers k ≡ Some s
    → on_slot k (local changes now pointers) ≡ slot_ops k s changes now
named changes now pointers k s is = at_slot 0 k k (omega arith) changes now pointers s is

-- The operations on one slot.

-- the operations of one change before those of the others
inside_op : (k : ℕ) (s : Slot) (c : Change) (cs : List Change) (t : Touch)
    → flat_map (slot_op k s) cs
    ≡ map (λ x. in_view k s.pointer (op_of s.pointer x)) (changes_inside s cs)
    → when_inside t (in_view k s.pointer (op_of s.pointer c)) ++ flat_map (slot_op k s) cs
    ≡ map (λ x. in_view k s.pointer (op_of s.pointer x))
    (if is_inside t then c ∷ changes_inside s cs else changes_inside s cs)
inside_op k s c cs Inside rest = ap (λ ops. in_view k s.pointer (op_of s.pointer c) ∷ ops) rest
inside_op k s c cs _ rest = rest

inside_ops : (k : ℕ) (s : Slot) (changes : List Change)
    → flat_map (slot_op k s) changes
    ≡ map (λ c. in_view k s.pointer (op_of s.pointer c)) (changes_inside s changes)
inside_ops k s [] = refl
inside_ops k s (c ∷ cs) = inside_op k s c cs (touch_slot c s) (inside_ops k s cs)

apart_resets : (s : Slot) (changes : List Change) → all_apart s changes ≡ true
    → some_reset s changes ≡ false
apart_resets s [] h = refl
apart_resets s (c ∷ cs) h = go (touch_slot c s) h (apart_resets s cs)
  where
    go : (t : Touch) → (is_apart t && all_apart s cs) ≡ true
        → (all_apart s cs ≡ true → some_reset s cs ≡ false)
        → (is_reset t || some_reset s cs) ≡ false
    go Apart k rest = rest k
    go Inside k rest = cc
    go Reset k rest = cc

apart_insides : (s : Slot) (changes : List Change) → all_apart s changes ≡ true
    → changes_inside s changes ≡ []
apart_insides s [] h = refl
apart_insides s (c ∷ cs) h = go (touch_slot c s) h (apart_insides s cs)
  where
    go : (t : Touch) → (is_apart t && all_apart s cs) ≡ true
        → (all_apart s cs ≡ true → changes_inside s cs ≡ [])
        → (if is_inside t then c ∷ changes_inside s cs else changes_inside s cs) ≡ []
    go Apart k rest = rest k
    go Inside k rest = cc
    go Reset k rest = cc

-- The three promises.

pub follows_inside : (changes : List Change) (now : Document) (pointers : View)
    → FollowsInside changes pointers (local changes now pointers)
follows_inside changes now pointers k s is none =
    named changes now pointers k s is ∙ rw none (inside_ops k s changes)

pub leaves_apart : (changes : List Change) (now : Document) (pointers : View)
    → LeavesApart changes pointers (local changes now pointers)
leaves_apart changes now pointers k s is all =
    follows_inside changes now pointers k s is (apart_resets s changes all)
    ∙ ap (map (λ c. in_view k s.pointer (op_of s.pointer c))) (apart_insides s changes all)

pub replaces_reset : (changes : List Change) (now : Document) (pointers : View)
    → ReplacesReset changes now pointers (local changes now pointers)
replaces_reset changes now pointers k s is some = named changes now pointers k s is ∙ rw some refl
