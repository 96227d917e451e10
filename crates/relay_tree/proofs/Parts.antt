-- A node's parts compared with those of its document.
use Rattle.std.proofs.Common.{◌≡◌, ℕ, ◌<◌, ◌≤◌, length, get_or, Bor, MutBor, arith, List, Option}
use Rattle.std.proofs.Common.{Some, None, Global, String, OnSome, refl, sym, slice_get}
use Rattle.std.proofs.Common.{option_copied, is_some, IfSome, nat_lt, bytes_eq, false}
use Rattle.std.specs.Option.{option_copied_mut}
use Rattle.std.specs.declared.vec.Vec.{Vec}
use Rattle.std.proofs.lemmas.Option.{slice_get_past, slice_get_read}
use Rattle.std.proofs.lemmas.Bool.Decides.{nat_tests}
use Rattle.relay_tree.specs.Document.{Document, null, truth, whole, text, list, object}
use Rattle.relay_tree.specs.Part.{list_item, object_member, with_member}
use Rattle.relay_tree.specs.Seen.{document_of}
use Rattle.relay_tree.specs.Entries.{Rows}
use Rattle.relay_tree.specs.Rows.{node_items, node_members}
use Rattle.relay_tree.specs.declared.tree.Node.{Node}
use Rattle.relay_tree.specs.declared.tree.Node.TheVariants as node
use Rattle.relay_tree.proofs.Named.{member_at-set_other}

pub on_some : {A : Type 0} {P : Type 0} (o : Option A) → P → OnSome o P
on_some None p = tt
on_some (Some x) p = p

pub is_list : (n : Node) (v : Vec Document Global) → Some v ≡ node_items n → n ≡ node.List v
is_list node.Null v h = cc
is_list _ v h = cc

pub is_object : (n : Node) (m : Rows (String Global) Document) → Some m ≡ node_members n
    → n ≡ node.Members m
is_object node.Null m h = cc
is_object _ m h = cc

pub no_item : (n : Node) (i : ℕ) → None ≡ node_items n → None ≡ list_item (document_of n) i
no_item (node.List u) i h = cc
no_item _ i h = refl

pub no_member : (n : Node) (k : List ℕ) → None ≡ node_members n
    → None ≡ object_member (document_of n) k
no_member (node.Members m) k h = cc
no_member _ k h = refl

-- a list's `get_mut` and `get` return the element
pub got_mut : (xs : List Document) (i : ℕ) (r : Option (MutBor Document))
    → is_some r ≡ nat_lt i (length xs) → IfSome r (λ x. x.now ≡ get_or xs i x.now)
    → option_copied_mut r ≡ slice_get xs i
got_mut xs i None some is = let past : length xs ≤ i = grind (arith, nat_tests) in
    sym (slice_get_past xs i past)
got_mut xs i (Some x) some is = let within : i < length xs = grind (arith, nat_tests) in
    sym (slice_get_read xs (length xs) i x.now refl within is)

pub got : (xs : List Document) (i : ℕ) (r : Option (Bor Document))
    → is_some r ≡ nat_lt i (length xs) → IfSome r (λ x. x.now ≡ get_or xs i x.now)
    → option_copied r ≡ slice_get xs i
got xs i None some is = let past : length xs ≤ i = grind (arith, nat_tests) in
    sym (slice_get_past xs i past)
got xs i (Some x) some is = let within : i < length xs = grind (arith, nat_tests) in
    sym (slice_get_read xs (length xs) i x.now refl within is)

-- another member is not seen to change
pub with_member-other : (d : Document) (name other : List ℕ) (e : Document)
    → bytes_eq name other ≡ false
    → object_member (with_member d name e) other ≡ object_member d other
with_member-other (object ms) name other e apart = member_at-set_other ms name other e apart
with_member-other null name other e apart = refl
with_member-other (truth b) name other e apart = refl
with_member-other (whole n) name other e apart = refl
with_member-other (text s) name other e apart = refl
with_member-other (list ds) name other e apart = refl
