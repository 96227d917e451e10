-- The tables by which audiences are found, and what they are after a change at one audience.
use Rattle.std.specs.Prelude.{◌≡◌, ℕ, suc, ◌==◌, ◌<◌, ⊤, List, [], ◌∷◌, map, Option, Some, None}
use Rattle.std.specs.Prelude.{option_map, if◌then◌else◌}
use Rattle.std.specs.BTreeMap as tree
use Rattle.std.specs.BTreeMap.{BTreeMap}
use Rattle.std.specs.FinMap as fin
use Rattle.relay_view.specs.View.{View}
use Rattle.relay_translate.specs.Watches.{Watches}
use Rattle.relay_audience.specs.Audiences.{kept, less_session}
use Rattle.relay_audience.specs.ViewOrder.{same_view, view_cmp}
use Rattle.relay_audience.specs.declared.audience.Audience.{Audience}
use Rattle.relay_audience.specs.declared.table.AudienceTable.{AudienceTable}

-- the numbers and views of audiences
abbrev pub Keys : Type 0
Keys = List (ℕ × View)

abbrev pub keys : List Audience → Keys
keys audiences = map (λ a. (a.number, a.view)) audiences

-- the number of the view
abbrev pub number_in : View → Keys → Option ℕ
number_in v [] = None
number_in v (k ∷ ks) = if same_view v k.1 then Some k.0 else number_in v ks

-- the view with the number
abbrev pub view_in : ℕ → Keys → Option View
view_in n [] = None
view_in n (k ∷ ks) = if k.0 == n then Some k.1 else view_in n ks

-- all but the first with the number
abbrev pub dropped : ℕ → Keys → Keys
dropped n [] = []
dropped n (k ∷ ks) = if k.0 == n then ks else k ∷ dropped n ks

-- each number is above n
abbrev pub AreAfter : ℕ → Keys → Type 0
AreAfter n [] = ⊤
AreAfter n (k ∷ ks) = (n < k.0) × AreAfter n ks

-- each number is below those behind it
abbrev pub IsInOrder : Keys → Type 0
IsInOrder [] = ⊤
IsInOrder (k ∷ ks) = AreAfter k.0 ks × IsInOrder ks

-- no view is there twice
abbrev pub EachOnce : Keys → Type 0
EachOnce [] = ⊤
EachOnce (k ∷ ks) = (number_in k.1 ks ≡ None) × EachOnce ks

-- the number of each view, as a map
abbrev pub Places : Type 0
Places = BTreeMap View ℕ

-- the keys are in order, and the tables have them and no others
pub record IsKeyed (ks : Keys) (places : Places) (index : Watches) : Type 0 where
  pub order : IsInOrder ks
  pub once : EachOnce ks
  pub by_view : (v : View) → tree.get view_cmp places v ≡ number_in v ks
  pub by_number : (n : ℕ) → fin.get index n ≡ view_in n ks

-- the invariant of a table
abbrev pub IsTable : AudienceTable → Type 0
IsTable t = IsKeyed (keys t.list.items) t.places t.index

-- the place of the audience with the number, counted from 0
abbrev pub place : ℕ → List Audience → Option ℕ
place n [] = None
place n (a ∷ audiences) = if a.number == n then Some 0 else option_map suc (place n audiences)

-- the audience with the number is changed
abbrev pub changed_at : ℕ → (Audience → Audience) → List Audience → List Audience
changed_at n change [] = []
changed_at n change (a ∷ audiences) =
    if a.number == n then change a ∷ audiences else a ∷ changed_at n change audiences

-- the session leaves the audience with the number
abbrev pub left_at : ℕ → ℕ → List Audience → List Audience
left_at n s [] = []
left_at n s (a ∷ audiences) =
    if a.number == n then kept (less_session s a) audiences else a ∷ left_at n s audiences

-- the session leaves the audience of the view
abbrev pub parted : ℕ → View → List Audience → List Audience
parted s v [] = []
parted s v (a ∷ audiences) =
    if same_view v a.view then kept (less_session s a) audiences else a ∷ parted s v audiences
