-- The operations of a translation lead a view, slot by slot, to the view of the present document.
use Rattle.std.proofs.Common.{◌≡◌, ℕ, suc, List, [], ◌∷◌, ◌++◌, length, drop, Bool, true, false}
use Rattle.std.proofs.Common.{Some, Ok, option_and_then, refl, sym, ap, subst, ◌∙◌, flat_map}
use Rattle.std.specs.List.{list_any}
use Rattle.std.specs.Result.{result_ok}
use Rattle.relay_tree.specs.Document.{Document, list, Items, no_items, item}
use Rattle.relay_tree.specs.Part.{items_append, items_length, item_at, put_item}
use Rattle.relay_tree.proofs.Equal.{neither}
use Rattle.relay_pointer.specs.Index.{index_of, index_text}
use Rattle.relay_pointer.specs.Path.{Path}
use Rattle.relay_pointer.proofs.Indexes.{index_of-index_text}
use Rattle.relay_patch.specs.Walk.{walk}
use Rattle.relay_patch.specs.declared.op.Op.{Op}
use Rattle.relay_patch.specs.declared.op.Op.TheVariants.{Replace}
use Rattle.relay_patch.specs.Patch.{effect, free}
use Rattle.relay_patch.specs.After.{spent_after, after_from}
use Rattle.relay_patch.specs.declared.change.Change.{Change}
use Rattle.relay_patch.specs.Change.{Makes, Leads}
use Rattle.relay_patch.proofs.Walks.{at-walk, at_reached}
use Rattle.relay_view.specs.View.{View, shown, slot, slot_of, slots, view}
use Rattle.relay_view.specs.declared.slot.Slot.{Slot}
use Rattle.relay_view.specs.declared.slot.SlotKind.{SlotKind}
use Rattle.relay_view.specs.declared.slot.SlotKind.TheVariants.{Value, Size}
use Rattle.relay_translate.specs.Touch.{Touch, Apart, Inside, Reset, touch_value, touch_size, touch}
use Rattle.relay_translate.specs.Touch.{touch_slot}
use Rattle.relay_translate.specs.Translate.{is_reset, op_of, with_paths, first, in_slot}
use Rattle.relay_translate.specs.Translate.{when_inside, slot_op, slot_ops, local_from, local}
use Rattle.relay_translate.specs.Translate.{IsTranslation}
use Rattle.relay_translate.proofs.Bounds.{within_free}
use Rattle.relay_translate.proofs.Under.{IsElement, effect_under, with_paths-twice, deeper}
use Rattle.relay_translate.proofs.Changes.{ChangedInside, change_apart, change_inside}
use Rattle.relay_translate.proofs.Sized.{change_keeps_size, size_never_inside}

-- each operation passes, and they lead from one document to the other
abbrev pub Passes : Document → List Op → Document → Type 0
Passes d [] e = d ≡ e
Passes d (op ∷ ops) e = (x : Document) × (effect d op ≡ Ok x) × Passes x ops e

pub Passes-append : (a b : List Op) (d e f : Document) → Passes d a e → Passes e b f
    → Passes d (a ++ b) f
Passes-append [] b d e f h k = subst (λ x. Passes x b f) (sym h) k
Passes-append (op ∷ a) b d e f h k = (h.0, h.1, Passes-append a b h.0 e f h.2 k)

pub after-passes : (ops : List Op) (n spent : ℕ) (d e : Document) → Passes d ops e
    → after_from n spent free d ops ≡ Ok e
after-passes [] n spent d e h = ap Ok h
after-passes (op ∷ ops) n spent d e h =
    rw (h.1, within_free h.0) (after-passes ops (suc n) (spent_after spent d op) h.0 e h.2)

-- a slot among the others

item_at-append : (done todo : Items) (s : Document)
    → item_at (items_append done (item s todo)) (items_length done) ≡ Some s
item_at-append no_items todo s = refl
item_at-append (item d done) todo s = item_at-append done todo s

put_item-append : (done todo : Items) (s e : Document)
    → put_item (items_append done (item s todo)) (items_length done) e
    ≡ items_append done (item e todo)
put_item-append no_items todo s e = refl
put_item-append (item d done) todo s e = ap (item d) (put_item-append done todo s e)

append-one : (done rest : Items) (s : Document)
    → items_append (items_append done (item s no_items)) rest ≡ items_append done (item s rest)
append-one no_items rest s = refl
append-one (item d done) rest s = ap (item d) (append-one done rest s)

length-append_one : (done : Items) (s : Document)
    → items_length (items_append done (item s no_items)) ≡ suc (items_length done)
length-append_one no_items s = refl
length-append_one (item d done) s = ap suc (length-append_one done s)

-- the view whose slots are done, s, todo
abbrev with_slot : Items → Items → Document → Document
with_slot done todo s = list (items_append done (item s todo))

the_slot : (done todo : Items) (s : Document)
    → IsElement (items_append done (item s todo)) (index_text (items_length done))
    (items_length done) s
the_slot done todo s =
    record { index = index_of-index_text (items_length done); there = item_at-append done todo s }

first_item : (v : Document) → IsElement (item v no_items) first 0 v
unfolding index_of
first_item v = record { index = refl; there = refl }

in_slot_is : (k : ℕ) (q : Path) (op : Op)
    → with_paths (λ p. index_text k ∷ p)
    (with_paths (λ p. first ∷ p) (with_paths (drop (length q)) op)) ≡ with_paths (in_slot k q) op
in_slot_is k q op =
    ap (with_paths (λ p. index_text k ∷ p)) (with_paths-twice (λ p. first ∷ p) (drop (length q)) op)
    ∙ with_paths-twice (λ p. index_text k ∷ p) (λ p. first ∷ drop (length q) p) op

-- the slot that shows the value to which a pointer leads
abbrev value_slot : Path → Slot
value_slot q = record { pointer = q; kind = Value }

slot_is : (q : Path) (d v : Document) → walk d q ≡ Ok v
    → slot (value_slot q) d ≡ list (item v no_items)
slot_is q d v h = rw (at_reached q d v h) refl

inside_op : (done todo : Items) (q : Path) (op : Op) (d d' : Document) → ChangedInside q op d d'
    → effect (with_slot done todo (slot (value_slot q) d))
    (with_paths (in_slot (items_length done) q) op)
    ≡ Ok (with_slot done todo (slot (value_slot q) d'))
inside_op done todo q op d d' c =
    let local_op : Op = with_paths (drop (length q)) op in
    let old : Document = list (item c.before no_items) in
    let new : Document = list (item c.later no_items) in
    let in_value : effect old (with_paths (λ p. first ∷ p) local_op) ≡ Ok new =
    effect_under local_op (item c.before no_items) first 0 c.before c.later
    (first_item c.before) c.deep c.acted in
    let in_view : effect (with_slot done todo old)
    (with_paths (λ p. index_text (items_length done) ∷ p)
    (with_paths (λ p. first ∷ p) local_op))
    ≡ Ok (list (put_item (items_append done (item old todo)) (items_length done) new)) =
    effect_under (with_paths (λ p. first ∷ p) local_op) (items_append done (item old todo))
    (index_text (items_length done)) (items_length done) old new (the_slot done todo old)
    (deeper first local_op c.deep) in_value
    in
    rw (
      slot_is q d c.before c.stood,
      slot_is q d' c.later c.stands,
      ← in_slot_is (items_length done) q op,
      in_view,
    )
    (ap (λ xs. Ok (list xs)) (put_item-append done todo old new))

reset_op : (done todo : Items) (s e : Document)
    → effect (with_slot done todo s) (Replace (index_text (items_length done) ∷ []) e)
    ≡ Ok (with_slot done todo e)
reset_op done todo s e =
    rw (index_of-index_text (items_length done), item_at-append done todo s)
    (ap (λ xs. Ok (list xs)) (put_item-append done todo s e))

value_passes : (done todo : Items) (q : Path) (c : Change) (d e : Document) (t : Touch)
    → touch_value c q ≡ t → is_reset t ≡ false → Makes d c e
    → Passes (with_slot done todo (slot (value_slot q) d))
    (when_inside t (with_paths (in_slot (items_length done) q) (op_of q c)))
    (with_slot done todo (slot (value_slot q) e))
value_passes done todo q c d e Apart k none makes =
    ap (λ o. with_slot done todo (slot_of (option_and_then (shown Value) o)))
    (sym (at-walk q d) ∙ (ap result_ok (sym (change_apart c q d e makes k)) ∙ at-walk q e))
value_passes done todo q c d e Inside k none makes = (
  with_slot done todo (slot (value_slot q) e),
  inside_op done todo q (op_of q c) d e (change_inside c q d e makes k),
  refl,
)
value_passes done todo q c d e Reset k none makes = cc

-- the slot that shows the size of that value
abbrev size_slot : Path → Slot
size_slot q = record { pointer = q; kind = Size }

size_passes : (done todo : Items) (q : Path) (c : Change) (d e : Document) (t : Touch)
    → touch_size c q ≡ t → is_reset t ≡ false → Makes d c e
    → Passes (with_slot done todo (slot (size_slot q) d))
    (when_inside t (with_paths (in_slot (items_length done) q) (op_of q c)))
    (with_slot done todo (slot (size_slot q) e))
size_passes done todo q c d e Apart k none makes =
    ap (λ o. with_slot done todo (slot_of o)) (sym (change_keeps_size c q d e makes k))
size_passes done todo q c d e Inside k none makes = absurd (size_never_inside c q k)
size_passes done todo q c d e Reset k none makes = cc

change_passes : (done todo : Items) (q : Path) (kind : SlotKind) (c : Change) (d e : Document)
    → is_reset (touch c q kind) ≡ false → Makes d c e
    → Passes (with_slot done todo (slot (record { pointer = q; kind = kind }) d))
    (when_inside (touch c q kind) (with_paths (in_slot (items_length done) q) (op_of q c)))
    (with_slot done todo (slot (record { pointer = q; kind = kind }) e))
change_passes done todo q Value c d e none makes =
    value_passes done todo q c d e (touch_value c q) refl none makes
change_passes done todo q Size c d e none makes =
    size_passes done todo q c d e (touch_size c q) refl none makes

changes_pass : (done todo : Items) (s : Slot) (changes : List Change) (d now : Document)
    → Leads d changes now → list_any (λ c. is_reset (touch_slot c s)) changes ≡ false
    → Passes (with_slot done todo (slot s d)) (flat_map (slot_op (items_length done) s) changes)
    (with_slot done todo (slot s now))
changes_pass done todo s [] d now leads none = ap (λ x. with_slot done todo (slot s x)) leads
changes_pass done todo s (c ∷ cs) d now leads none =
    let parts = neither (is_reset (touch_slot c s))
    (list_any (λ x. is_reset (touch_slot x s)) cs) none in
    Passes-append
    (slot_op (items_length done) s c) (flat_map (slot_op (items_length done) s) cs) _ _ _
    (change_passes done todo s.pointer s.kind c d leads.0 parts.0 leads.1)
    (changes_pass done todo s cs leads.0 now leads.2 parts.1)

slot_passes : (done todo : Items) (s : Slot) (changes : List Change) (d now : Document)
    → Leads d changes now
    → Passes (with_slot done todo (slot s d)) (slot_ops (items_length done) s changes now)
    (with_slot done todo (slot s now))
slot_passes done todo s changes d now leads =
    go (list_any (λ c. is_reset (touch_slot c s)) changes) refl
  where
    go : (x : Bool) → list_any (λ c. is_reset (touch_slot c s)) changes ≡ x
        → Passes (with_slot done todo (slot s d)) (slot_ops (items_length done) s changes now)
        (with_slot done todo (slot s now))
    go true e = rw e
        (with_slot done todo (slot s now), reset_op done todo (slot s d) (slot s now), refl)
    go false e = rw e (changes_pass done todo s changes d now leads e)

slots_pass : (pointers : View) (done : Items) (changes : List Change) (d now : Document)
    → Leads d changes now
    → Passes (list (items_append done (slots pointers d)))
    (local_from (items_length done) changes now pointers)
    (list (items_append done (slots pointers now)))
slots_pass [] done changes d now leads = refl
slots_pass (s ∷ pointers) done changes d now leads =
    let one : Items = item (slot s now) no_items in
    let later = slots_pass pointers (items_append done one) changes d now leads in
    let rest : Passes (with_slot done (slots pointers d) (slot s now))
    (local_from (suc (items_length done)) changes now pointers)
    (with_slot done (slots pointers now) (slot s now)) =
    rw (
      append-one done (slots pointers d) (slot s now),
      append-one done (slots pointers now) (slot s now),
      length-append_one done (slot s now),
    ) at
    later
    in
    Passes-append
    (slot_ops (items_length done) s changes now)
    (local_from (suc (items_length done)) changes now pointers) _ _ _
    (slot_passes done (slots pointers d) s changes d now leads)
    rest

pub translation : IsTranslation
translation changes now pointers d leads =
    after-passes (local changes now pointers) 0 0 (view pointers d) (view pointers now)
    (slots_pass pointers no_items changes d now leads)
