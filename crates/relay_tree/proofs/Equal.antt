-- The equality test is true exactly if the documents are the same tree.
use Rattle.std.proofs.Common.{◌≡◌, Bool, true, false, ◌&&◌, ◌||◌, refl, sym, ap, ap₂, ◌∙◌, bytes_eq}
use Rattle.std.proofs.Common.{Decides}
use Rattle.std.proofs.lemmas.Bool.Decides.{Decides-int_eq}
use Rattle.std.proofs.lemmas.Slice.Eq.{bytes_eq-Decides}
use Rattle.relay_tree.specs.Document.{Document, null, truth, whole, text, list, object, Items}
use Rattle.relay_tree.specs.Document.{no_items, item, Members, no_members, member}
use Rattle.relay_tree.specs.Same.{same, items_same, members_same, bool_same}

-- both sides of a conjunction
pub both : (a b : Bool) → (a && b) ≡ true → (a ≡ true) × (b ≡ true)
both true b h = (refl, h)
both false b h = cc

-- neither side of a disjunction
pub neither : (a b : Bool) → (a || b) ≡ false → (a ≡ false) × (b ≡ false)
neither true b h = cc
neither false b h = (refl, h)

bools : (a b : Bool) → bool_same a b ≡ true → a ≡ b
bools true b h = sym h
bools false true h = cc
bools false false h = refl

mutual
  pub same_tree : (d e : Document) → same d e ≡ true → d ≡ e
  same_tree null null h = refl
  same_tree (truth a) (truth b) h = ap truth (bools a b h)
  same_tree (whole m) (whole n) h = ap whole ((Decides-int_eq m n).0 h)
  same_tree (text a) (text b) h = ap text ((bytes_eq-Decides a b).0 h)
  same_tree (list ds) (list es) h = ap list (same_items ds es h)
  same_tree (object ms) (object ns) h = ap object (same_members ms ns h)
  same_tree _ _ h = cc

  same_items : (ds es : Items) → items_same ds es ≡ true → ds ≡ es
  same_items no_items no_items h = refl
  same_items (item d ds) (item e es) h = let p = both (same d e) (items_same ds es) h in
      ap₂ item (same_tree d e p.0) (same_items ds es p.1)
  same_items _ _ h = cc

  same_members : (ms ns : Members) → members_same ms ns ≡ true → ms ≡ ns
  same_members no_members no_members h = refl
  same_members (member m d ms) (member n e ns) h =
      let p = both (bytes_eq m n) (same d e && members_same ms ns) h in
      let q = both (same d e) (members_same ms ns) p.1 in
      let names : m ≡ n = (bytes_eq-Decides m n).0 p.0 in
      let values : d ≡ e = same_tree d e q.0 in
      let others : ms ≡ ns = same_members ms ns q.1 in
      cc
  same_members _ _ h = cc

bool_itself : (a : Bool) → bool_same a a ≡ true
bool_itself true = refl
bool_itself false = refl

mutual
  pub same_itself : (d : Document) → same d d ≡ true
  same_itself null = refl
  same_itself (truth a) = bool_itself a
  same_itself (whole n) = (Decides-int_eq n n).1 refl
  same_itself (text a) = (bytes_eq-Decides a a).1 refl
  same_itself (list ds) = items_itself ds
  same_itself (object ms) = members_itself ms

  items_itself : (ds : Items) → items_same ds ds ≡ true
  items_itself no_items = refl
  items_itself (item d ds) = rw (same_itself d) (items_itself ds)

  members_itself : (ms : Members) → members_same ms ms ≡ true
  members_itself no_members = refl
  members_itself (member n d ms) =
      rw ((bytes_eq-Decides n n).1 refl, same_itself d) (members_itself ms)

pub same-Decides : (d e : Document) → Decides (same d e) (d ≡ e)
same-Decides d e = (same_tree d e, λ p. ap (same d) (sym p) ∙ same_itself d)
