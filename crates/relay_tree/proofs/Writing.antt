-- Lists and objects, written one part after the other.
use Rattle.std.proofs.Common.{◌≡◌, ℕ, ◌+◌, ◌<◌, ◌≤◌, List, [], ◌∷◌, ◌++◌, length, take, map, get_or}
use Rattle.std.proofs.Common.{string_bytes, refl, sym, ap, ◌∙◌, subst, append_assoc}
use Rattle.std.proofs.lemmas.List.{flat_map_more, map_more, take_all}
use Rattle.std.specs.List.{AllByRecursion, flat_map}
use Rattle.std.specs.Map.{values_of}
use Rattle.json.specs.Token.{Token, begin_array, end_array, begin_object, end_object, key}
use Rattle.json.specs.Tree.{items_tokens, members_tokens}
use Rattle.serde_json.specs.Written.{items_outline, members_outline}
use Rattle.relay_tree.specs.Document.{Document, list, object, items_of}
use Rattle.relay_tree.specs.Seen.{members_of}
use Rattle.relay_tree.specs.Text.{items_data, members_data, tokens_of, ReadsBack}
use Rattle.relay_tree.proofs.Named.{Entry}
use Rattle.relay_tree.proofs.Texts.{list_back}

pub all_more : {X : Type 0} (P : X → Type 0) (xs : List X) (x : X) → AllByRecursion P xs → P x
    → AllByRecursion P (xs ++ x ∷ [])
all_more P [] x h here = (here, tt)
all_more P (y ∷ xs) x h here = (h.0, all_more P xs x h.1 here)

-- Lists.

-- the elements were written after the tokens `old`
pub record WritesEach (ds : List Document) (old new : List Token) : Type 0 where
  pub tokens : new ≡ old ++ flat_map tokens_of ds
  pub back : AllByRecursion ReadsBack ds

pub writes_more : {old mid new : List Token} (ds : List Document) (d : Document)
    → WritesEach ds old mid → new ≡ mid ++ tokens_of d → ReadsBack d
    → WritesEach (ds ++ d ∷ []) old new
writes_more {old = old} ds d before here back = record {
  tokens = here ∙ ap (λ ts. ts ++ tokens_of d) before.tokens ∙ flat_map_more tokens_of old ds d;
  back = all_more ReadsBack ds d before.back back;
}

list_tokens : (ds : List Document)
    → items_tokens (items_outline (items_data (items_of ds))) ≡ flat_map tokens_of ds ++ end_array
    ∷ []
list_tokens [] = refl
list_tokens (d ∷ ds) =
    ap (λ ts. tokens_of d ++ ts) (list_tokens ds)
    ∙ sym (append_assoc (tokens_of d) (flat_map tokens_of ds) (end_array ∷ []))

enclosed : (old inner : List Token) (begin end : Token)
    → ((old ++ begin ∷ []) ++ inner) ++ end ∷ [] ≡ old ++ begin ∷ (inner ++ end ∷ [])
enclosed old inner begin end = simp append_assoc

pub list_ends : {start mid new : List Token} (ds : List Document) (old : List Token)
    → start ≡ old ++ begin_array ∷ [] → WritesEach ds start mid → new ≡ mid ++ end_array ∷ []
    → new ≡ old ++ tokens_of (list (items_of ds))
list_ends ds old start each end =
    end ∙ ap (λ ts. ts ++ end_array ∷ [])
    (each.tokens ∙ ap (λ ts. ts ++ flat_map tokens_of ds) start)
    ∙ enclosed old (flat_map tokens_of ds) begin_array end_array
    ∙ ap (λ ts. old ++ begin_array ∷ ts) (sym (list_tokens ds))

-- A loop that writes a document for each element of a list.

module _ {A : Type 0} (f : A → Document) (xs : List A) (i : ℕ) where
  pub writes_next : {old mid new : List Token} (x : A) → i < length xs → x ≡ get_or xs i x
      → WritesEach (map f (take i xs)) old mid → new ≡ mid ++ tokens_of (f x) → ReadsBack (f x)
      → WritesEach (map f (take (i + 1) xs)) old new
  writes_next {old = old} {new = new} x within is before here back =
      let more = map_more f xs i x within ∙ ap (λ y. map f (take i xs) ++ f y ∷ []) (sym is) in
      subst (λ ds. WritesEach ds old new) (sym more)
      (writes_more (map f (take i xs)) (f x) before here back)

  pub writes_all : {start mid new : List Token} (old : List Token) → length xs ≤ i
      → start ≡ old ++ begin_array ∷ [] → WritesEach (map f (take i xs)) start mid
      → new ≡ mid ++ end_array ∷ [] → new ≡ old ++ tokens_of (list (items_of (map f xs)))
  writes_all old past start each end =
      list_ends (map f (take i xs)) old start each end
      ∙ ap (λ ys. old ++ tokens_of (list (items_of (map f ys)))) (take_all i xs past)

  pub all_back : {old mid : List Token} → length xs ≤ i → WritesEach (map f (take i xs)) old mid
      → ReadsBack (list (items_of (map f xs)))
  all_back past each =
      subst (λ ys. ReadsBack (list (items_of (map f ys)))) (take_all i xs past)
      (list_back (map f (take i xs)) each.back)

-- Objects.

abbrev pub entry_tokens : Entry → List Token
entry_tokens e = key (string_bytes e.0) ∷ tokens_of e.1

-- the members were written after the tokens `old`
pub record WritesMembers (es : List Entry) (old new : List Token) : Type 0 where
  pub tokens : new ≡ old ++ flat_map entry_tokens es
  pub back : AllByRecursion ReadsBack (values_of es)

all_last : (es : List Entry) (e : Entry) → AllByRecursion ReadsBack (values_of es) → ReadsBack e.1
    → AllByRecursion ReadsBack (values_of (es ++ e ∷ []))
all_last [] e h here = (here, tt)
all_last (x ∷ es) e h here = (h.0, all_last es e h.1 here)

pub writes_member : {old mid named new : List Token} (es : List Entry) (e : Entry)
    → WritesMembers es old mid → named ≡ mid ++ key (string_bytes e.0) ∷ []
    → new ≡ named ++ tokens_of e.1 → ReadsBack e.1
    → WritesMembers (es ++ e ∷ []) old new
writes_member {old = old} {mid = mid} es e before name here back = record {
  tokens = here ∙ ap (λ ts. ts ++ tokens_of e.1) name
      ∙ append_assoc mid (key (string_bytes e.0) ∷ []) (tokens_of e.1)
      ∙ ap (λ ts. ts ++ entry_tokens e) before.tokens ∙ flat_map_more entry_tokens old es e;
  back = all_last es e before.back back;
}

object_tokens : (es : List Entry)
    → members_tokens (members_outline (members_data (members_of es))) ≡ flat_map entry_tokens es
    ++ end_object ∷ []
object_tokens [] = refl
object_tokens (e ∷ es) =
    ap (λ ts. entry_tokens e ++ ts) (object_tokens es)
    ∙ sym (append_assoc (entry_tokens e) (flat_map entry_tokens es) (end_object ∷ []))

pub object_ends : {start mid new : List Token} (es : List Entry) (old : List Token)
    → start ≡ old ++ begin_object ∷ [] → WritesMembers es start mid → new ≡ mid ++ end_object ∷ []
    → new ≡ old ++ tokens_of (object (members_of es))
object_ends es old start each end =
    end ∙ ap (λ ts. ts ++ end_object ∷ [])
    (each.tokens ∙ ap (λ ts. ts ++ flat_map entry_tokens es) start)
    ∙ enclosed old (flat_map entry_tokens es) begin_object end_object
    ∙ ap (λ ts. old ++ begin_object ∷ ts) (sym (object_tokens es))
