-- A JSON document: a finite tree whose numbers are whole.
use Rattle.std.specs.Prelude.{ℕ, ◌+◌, ◌-◌, ◌^◌, min, max, ℤ, Bool, List, [], ◌∷◌, length}

mutual
  pub data Document : Type 0 where
    null : Document
    truth : Bool → Document
    whole : ℤ → Document
    text : List ℕ → Document
    list : Items → Document
    object : Members → Document

  -- the elements of a list, in order
  pub data Items : Type 0 where
    no_items : Items
    item : Document → Items → Items

  -- the members of an object, in the byte order of their names
  pub data Members : Type 0 where
    no_members : Members
    member : List ℕ → Document → Members → Members

abbrev pub items_of : List Document → Items
items_of [] = no_items
items_of (d ∷ ds) = item d (items_of ds)

-- the weight: 8 for each value, plus the number of bytes of texts and member names
abbrev mutual
  pub weight : Document → ℕ
  weight null = 8
  weight (truth b) = 8
  weight (whole z) = 8
  weight (text s) = 8 + length s
  weight (list ds) = 8 + items_weight ds
  weight (object ms) = 8 + members_weight ms

  pub items_weight : Items → ℕ
  items_weight no_items = 0
  items_weight (item d ds) = weight d + items_weight ds

  pub members_weight : Members → ℕ
  members_weight no_members = 0
  members_weight (member k d ms) = length k + weight d + members_weight ms

-- a value without parts has depth 1, and a list or an object is one deeper than its deepest part
abbrev mutual
  pub depth : Document → ℕ
  depth null = 1
  depth (truth b) = 1
  depth (whole z) = 1
  depth (text s) = 1
  depth (list ds) = 1 + items_depth ds
  depth (object ms) = 1 + members_depth ms

  pub items_depth : Items → ℕ
  items_depth no_items = 0
  items_depth (item d ds) = max (depth d) (items_depth ds)

  pub members_depth : Members → ℕ
  members_depth no_members = 0
  members_depth (member k d ms) = max (depth d) (members_depth ms)

-- a number, or 2^64 - 1 if it is larger than that
abbrev pub saturated : ℕ → ℕ
saturated n = min n (2 ^ 64 - 1)
