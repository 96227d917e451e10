-- Equality of documents (RFC 6902, section 4.6), as a Boolean function.
use Rattle.std.specs.Prelude.{Bool, true, false, not, ◌&&◌, bytes_eq}
use Rattle.std.specs.Ordering.{int_eq}
use Rattle.relay_tree.specs.Document.{Document, null, truth, whole, text, list, object, Items}
use Rattle.relay_tree.specs.Document.{no_items, item, Members, no_members, member}

abbrev pub bool_same : Bool → Bool → Bool
bool_same true b = b
bool_same false b = not b

abbrev mutual
  pub same : Document → Document → Bool
  same null null = true
  same (truth a) (truth b) = bool_same a b
  same (whole m) (whole n) = int_eq m n
  same (text a) (text b) = bytes_eq a b
  same (list ds) (list es) = items_same ds es
  same (object ms) (object ns) = members_same ms ns
  same _ _ = false

  pub items_same : Items → Items → Bool
  items_same no_items no_items = true
  items_same (item d ds) (item e es) = same d e && items_same ds es
  items_same _ _ = false

  pub members_same : Members → Members → Bool
  members_same no_members no_members = true
  members_same (member m d ms) (member n e ns) = bytes_eq m n && (same d e && members_same ms ns)
  members_same _ _ = false
