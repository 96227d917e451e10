-- A turn of the grammar's loops under the conversion of what it read: a value, a list's next
-- element, an object's next member.
use Rattle.std.proofs.Common.{◌≡◌, ℕ, zero, suc, ◌-◌, ◌<◌, ◌≤◌, List, [], ◌∷◌, length, Option, Some}
use Rattle.std.proofs.Common.{None, option_map, option_and_then, refl, ap, ◌∙◌, sym, arith}
use Rattle.json.specs.Token.{Token}
use Rattle.json.specs.Json as json
use Rattle.json.specs.Json.{Parse, parse_map, after_end_array, read_key, items_step, members_step}
use Rattle.json.specs.Json.{items, members, if_last}
use Rattle.json.proofs.Grammar.{items_end, items_more, items_fail, members_end, members_no_key}
use Rattle.json.proofs.Grammar.{members_more, members_fail}
use Rattle.serde_json.specs.Data.{Data, array, object, no_items, item, Members, no_members, put}
use Rattle.serde_json.specs.Read.{of_json, of_items, of_members, converted}

pub map_twice : {A B C : Type 0} (f : A → B) (g : B → C) (o : Option A)
    → option_map g (option_map f o) ≡ option_map (λ x. g (f x)) o
map_twice f g None = refl
map_twice f g (Some x) = refl

-- Results of a conversion, in terms of the parsed value.

module _ {A B : Type 0} (f : A → Option B) where
  given : (p : A × List Token) (o : Option B) (b : B) (r : List Token) → f p.0 ≡ o
      → option_map {U = B × List Token} (λ x. (x, p.1)) o ≡ Some (b, r)
      → (f p.0 ≡ Some b) × (p.1 ≡ r)
  given p None b r is h = absurd cc
  given p (Some x) b r is h =
      let same = ap (option_map (λ q. q.0)) h in
      let rest = ap (option_map (λ q. q.1)) h in
      let left : p.1 ≡ r = cc in
      (is ∙ same, left)

  -- it was parsed, and converts
  pub converted_to : (o : Option (A × List Token)) (b : B) (r : List Token)
      → converted f o ≡ Some (b, r) → (a : A) × (o ≡ Some (a, r)) × (f a ≡ Some b)
  converted_to None b r h = absurd cc
  converted_to (Some p) b r h = let both = given p (f p.0) b r refl h in
      (p.0, ap (λ ts. Some (p.0, ts)) both.1, both.0)

  none_given : (p : A × List Token) (o : Option B) → f p.0 ≡ o
      → option_map {U = B × List Token} (λ x. (x, p.1)) o ≡ None → f p.0 ≡ None
  none_given p None is h = is
  none_given p (Some x) is h = absurd cc

  -- if it was parsed, it does not convert
  pub not_converted : (p : A × List Token) → converted f (Some p) ≡ None → f p.0 ≡ None
  not_converted p h = none_given p (f p.0) refl h

-- Containers.

behind : {A B : Type 0} (f : A → B) (r : List Token) (o : Option A)
    → option_map (λ b. (b, r)) (option_map f o) ≡ parse_map f (option_map (λ a. (a, r)) o)
behind f r o = map_twice f (λ b. (b, r)) o ∙ sym (map_twice (λ a. (a, r)) (λ q. (f q.0, q.1)) o)

pub converted_array : (o : Option (json.Items × List Token))
    → converted of_json (parse_map json.array o) ≡ parse_map array (converted of_items o)
converted_array None = refl
converted_array (Some p) = behind array p.1 (of_items p.0)

pub converted_object : (o : Option (json.Members × List Token))
    → converted of_json (parse_map json.object o)
    ≡ parse_map object (converted (λ ms. of_members ms no_members) o)
converted_object None = refl
converted_object (Some p) = behind object p.1 (of_members p.0 no_members)

item_converted : (j : json.Json) (d : Data) (o : Option (json.Items × List Token))
    → of_json j ≡ Some d
    → converted of_items (parse_map (json.item j) o) ≡ parse_map (item d) (converted of_items o)
item_converted j d None is = refl
item_converted j d (Some p) is = rw is (behind (item d) p.1 (of_items p.0))

item_not_converted : (j : json.Json) (o : Option (json.Items × List Token)) → of_json j ≡ None
    → converted of_items (parse_map (json.item j) o) ≡ None
item_not_converted j None is = refl
item_not_converted j (Some p) is = rw is refl

module _ (old : Members) where
  member_converted : (k : List ℕ) (j : json.Json) (d : Data)
      (o : Option (json.Members × List Token)) → of_json j ≡ Some d
      → converted (λ ms. of_members ms old) (parse_map (json.member k j) o)
      ≡ converted (λ ms. of_members ms (put k d old)) o
  member_converted k j d None is = refl
  member_converted k j d (Some p) is = rw is refl

  member_not_converted : (k : List ℕ) (j : json.Json) (o : Option (json.Members × List Token))
      → of_json j ≡ None
      → converted (λ ms. of_members ms old) (parse_map (json.member k j) o) ≡ None
  member_not_converted k j None is = refl
  member_not_converted k j (Some p) is = rw is refl

-- One turn.

module _ (p : Parse json.Json) where
  pub item_turn : (n : ℕ) (ts r : List Token) (d : Data) → 0 < n → after_end_array ts ≡ None
      → converted of_json (p ts) ≡ Some (d, r)
      → converted of_items (items p n ts)
      ≡ parse_map (item d) (converted of_items (items p (n - 1) r))
  item_turn n ts r d some going h =
      let read = converted_to of_json (p ts) d r h in
      ap (converted of_items) (items_more p n ts r read.0 some going read.1)
      ∙ item_converted read.0 d _ read.2

  item_at_fault : (n : ℕ) (ts : List Token) (o : Option (json.Json × List Token))
      → after_end_array ts ≡ None → p ts ≡ o → converted of_json o ≡ None
      → converted of_items (items p n ts) ≡ None
  unfolding items
  item_at_fault n ts None going is h = ap (converted of_items) (items_fail p n ts going is)
  item_at_fault zero ts (Some q) going is h = refl
  item_at_fault (suc n) ts (Some q) going is h =
      ap (converted of_items) (items_more p (suc n) ts q.1 q.0 (omega arith) going is)
      ∙ item_not_converted q.0 _ (not_converted of_json q h)

  pub item_fault : (n : ℕ) (ts : List Token) → after_end_array ts ≡ None
      → converted of_json (p ts) ≡ None → converted of_items (items p n ts) ≡ None
  item_fault n ts going h = item_at_fault n ts (p ts) going refl h

  pub items_over : (n : ℕ) (ts r : List Token) → length ts ≤ n → after_end_array ts ≡ Some r
      → converted of_items (items p n ts) ≡ Some (no_items, r)
  items_over n ts r enough closed = ap (converted of_items) (items_end p n ts r enough closed)

  module _ (old : Members) where
    pub member_turn : (n : ℕ) (k : List ℕ) (ts s r : List Token) (d : Data) → 0 < n
        → read_key ts ≡ Some (Some k, s) → converted of_json (p s) ≡ Some (d, r)
        → converted (λ ms. of_members ms old) (members p n ts)
        ≡ converted (λ ms. of_members ms (put k d old)) (members p (n - 1) r)
    member_turn n k ts s r d some named h =
        let read = converted_to of_json (p s) d r h in
        ap (converted (λ ms. of_members ms old))
        (members_more p n k ts s r read.0 some named read.1)
        ∙ member_converted old k read.0 d _ read.2

    member_at_fault : (n : ℕ) (k : List ℕ) (ts s : List Token) (o : Option (json.Json × List Token))
        → read_key ts ≡ Some (Some k, s) → p s ≡ o → converted of_json o ≡ None
        → converted (λ ms. of_members ms old) (members p n ts) ≡ None
    unfolding members
    member_at_fault n k ts s None named is h =
        ap (converted (λ ms. of_members ms old)) (members_fail p n k ts s named is)
    member_at_fault zero k ts s (Some q) named is h = refl
    member_at_fault (suc n) k ts s (Some q) named is h =
        ap (converted (λ ms. of_members ms old))
        (members_more p (suc n) k ts s q.1 q.0 (omega arith) named is)
        ∙ member_not_converted old k q.0 _ (not_converted of_json q h)

    pub member_fault : (n : ℕ) (k : List ℕ) (ts s : List Token) → read_key ts ≡ Some (Some k, s)
        → converted of_json (p s) ≡ None
        → converted (λ ms. of_members ms old) (members p n ts) ≡ None
    member_fault n k ts s named h = member_at_fault n k ts s (p s) named refl h

    pub key_fault : (n : ℕ) (ts : List Token) → read_key ts ≡ None
        → converted (λ ms. of_members ms old) (members p n ts) ≡ None
    key_fault n ts unnamed =
        ap (converted (λ ms. of_members ms old)) (members_no_key p n ts unnamed)

    pub members_over : (n : ℕ) (ts r : List Token) → length ts ≤ n → read_key ts ≡ Some (None, r)
        → converted (λ ms. of_members ms old) (members p n ts) ≡ Some (old, r)
    members_over n ts r enough closed =
        ap (converted (λ ms. of_members ms old)) (members_end p n ts r enough closed)

-- The whole text.

-- the data of a value behind which nothing is left
abbrev pub whole : Option (json.Json × List Token) → Option Data
whole o = option_and_then of_json (option_and_then (λ p. if_last p.0 p.1) o)

pub whole_read : (o : Option (json.Json × List Token)) (d : Data)
    → converted of_json o ≡ Some (d, []) → whole o ≡ Some d
whole_read o d h = let read = converted_to of_json o d [] h in ap whole read.1 ∙ read.2

pub whole_and_more : (o : Option (json.Json × List Token)) (d : Data) (t : Token) (r : List Token)
    → converted of_json o ≡ Some (d, t ∷ r) → whole o ≡ None
whole_and_more o d t r h = ap whole (converted_to of_json o d (t ∷ r) h).1

pub whole_fault : (o : Option (json.Json × List Token)) → converted of_json o ≡ None
    → whole o ≡ None
whole_fault None h = refl
whole_fault (Some (j, [])) h = not_converted of_json (j, []) h
whole_fault (Some (j, t ∷ r)) h = refl
