-- Lookups in a router of literal routes.
use Rattle.std.proofs.Common.{◌≡◌, ℕ, suc, ◌<◌, ◌≤◌, ◌&&◌, Bool, true, false, cond, List, [], ◌∷◌}
use Rattle.std.proofs.Common.{length, Option, Some, None, refl, ◌∙◌, ap, ne_eqb, arith, ◌==◌}
use Rattle.std.proofs.Common.{bytes_eq, if◌then◌else◌, option_map, nat_lt}
use Rattle.std.specs.List.{list_all}
use Rattle.std.proofs.lemmas.Bool.Decides.{nat_tests}
use Rattle.matchit.specs.Rows.{RowsOf}
use Rattle.matchit.specs.Router.{RouteOf}
use Rattle.relay_http_head.proofs.Routes.{IsPlain, or-none, nil-step, seek-nil}
use Rattle.relay_admin.specs.Route.{target_of, request_at}
use Rattle.relay_admin.specs.declared.request.AdminRequest.{AdminRequest}
use Rattle.relay_admin.specs.declared.request.AdminRequest.TheVariants.{Health, Metrics, Rooms}
use Rattle.relay_admin.specs.declared.request.AdminRequest.TheVariants.{Wanted, Open, Stop}
use Rattle.matchit.specs.Seek.{seek, param_step, step, own, has_slash}

abbrev pub ArePlain : {K : Type 0} → RowsOf K → Type 0
ArePlain [] = Unit {0}
ArePlain (row ∷ rows) = IsPlain row.0 × ArePlain rows

-- a test of equality the other way round
eqb-sym : (m n : ℕ) → (m == n) ≡ (n == m)
eqb-sym m n = grind (arith, nat_tests)

module _ {K : Type 0} where
  -- the first row whose pattern is the whole path
  abbrev pub row_of : RowsOf K → List ℕ → Option K
  row_of [] path = None
  row_of (row ∷ rows) path = if bytes_eq path row.0 then Some row.1 else row_of rows path

  -- no literal goes on with a token
  no_token : (token : ℕ) (rows : RowsOf K) → 256 ≤ token → ArePlain rows → step token rows ≡ []
  no_token token [] high plain = refl
  no_token token (([], key) ∷ rows) high plain = no_token token rows high plain.1
  no_token token ((x ∷ t, key) ∷ rows) high plain =
      let other : x == token ≡ false = ne_eqb x token (λ e. omega (arith, e, plain.0.0, high)) in
      rw other (no_token token rows high plain.1)

  -- what goes on with a byte is plain too
  step-plain : (b : ℕ) (rows : RowsOf K) → ArePlain rows → ArePlain (step b rows)
  step-plain b [] plain = tt
  step-plain b (([], key) ∷ rows) plain = step-plain b rows plain.1
  step-plain b ((x ∷ t, key) ∷ rows) plain = by_test (x == b) (step-plain b rows plain.1)
    where
      by_test : (test : Bool) → ArePlain (step b rows)
          → ArePlain (cond {A = RowsOf K} test ((t, key) ∷ step b rows) (step b rows))
      by_test true later = (plain.0.1, later)
      by_test false later = later

  -- a byte of the path leaves the rows that go on with it
  row_of-step : (b : ℕ) (path : List ℕ) (rows : RowsOf K)
      → row_of (step b rows) path ≡ row_of rows (b ∷ path)
  row_of-step b path [] = refl
  row_of-step b path (([], key) ∷ rows) = row_of-step b path rows
  row_of-step b path ((x ∷ t, key) ∷ rows) =
      by_test (x == b) (row_of-step b path rows)
      ∙ ap (λ test. if test && bytes_eq path t then Some key
      else row_of rows (b ∷ path)) (eqb-sym x b)
    where
      by_test : (test : Bool) → row_of (step b rows) path ≡ row_of rows (b ∷ path)
          → row_of (cond {A = RowsOf K} test ((t, key) ∷ step b rows) (step b rows)) path
          ≡ (if test && bytes_eq path t then Some key else row_of rows (b ∷ path))
      by_test true later = ap (λ o. if bytes_eq path t then Some key else o) later
      by_test false later = later

  row_of-nil : (rows : RowsOf K) → own rows ≡ row_of rows []
  row_of-nil [] = refl
  row_of-nil (([], key) ∷ rows) = refl
  row_of-nil ((x ∷ t, key) ∷ rows) = row_of-nil rows

  -- a path finds the row that it is
  pub seek-plain : (rows : RowsOf K) (path : List ℕ) → ArePlain rows
      → seek 0 rows path ≡ row_of rows path
  unfolding seek param_step
  seek-plain rows [] plain = row_of-nil rows
  seek-plain rows (b ∷ path) plain =
      let none =
      nil-step {K = K} (cond (b == 47) true (has_slash path)) (suc (length path)) path
      (λ m. seek-nil {K = K} m path) in
      let first : seek 0 (step b rows) path ≡ row_of rows (b ∷ path) =
      seek-plain (step b rows) path (step-plain b rows plain) ∙ row_of-step b path rows in
      rw (
        no_token 256 rows (omega arith) plain,
        no_token 257 rows (omega arith) plain,
        none,
        or-none (seek 0 (step b rows) path),
      ) first

-- the same as a test, which computes on literals
abbrev pub are_plain : {K : Type 0} → RowsOf K → Bool
are_plain rows = list_all (λ row. list_all (λ x. nat_lt x 256) row.0) rows

plain-from : (bytes : List ℕ) → list_all (λ x. nat_lt x 256) bytes ≡ true → IsPlain bytes
plain-from [] e = tt
plain-from (x ∷ bytes) e =
    by_test (nat_lt x 256) (λ t. grind (arith, nat_tests, t)) (λ later. plain-from bytes later) e
  where
    by_test : (t : Bool) → (t ≡ true → x < 256)
        → (list_all (λ y. nat_lt y 256) bytes ≡ true → IsPlain bytes)
        → (t && list_all (λ y. nat_lt y 256) bytes) ≡ true → IsPlain (x ∷ bytes)
    by_test true small later e = (small refl, later e)
    by_test false small later e = absurd (cc)

pub plains-from : {K : Type 0} (rows : RowsOf K) → are_plain rows ≡ true → ArePlain rows
plains-from [] e = tt
plains-from (row ∷ rows) e =
    by_test (list_all (λ x. nat_lt x 256) row.0) (λ t. plain-from row.0 t) (λ later.
    plains-from rows later) e
  where
    by_test : (t : Bool) → (t ≡ true → IsPlain row.0) → (are_plain rows ≡ true → ArePlain rows)
        → (t && are_plain rows) ≡ true → ArePlain (row ∷ rows)
    by_test true here later e = (here refl, later e)
    by_test false here later e = absurd (cc)

-- the value of what one of several tests finds
pub value_of : {K V : Type 0} (f : K → V) (test : Bool) (x : K) (o : Option K) (later : Option V)
    → option_map f o ≡ later
    → option_map f (if test then Some x else o) ≡ (if test then Some (f x) else later)
value_of f true x o later e = refl
value_of f false x o later e = e

-- the routes of the requests

abbrev pub Route : Type 0
Route = RouteOf AdminRequest

abbrev pub route_to : AdminRequest → Route
route_to request =
    record { pattern = target_of request; text = target_of request; names = []; value = request }

abbrev pub rows : RowsOf Route
rows =
    (target_of Health, route_to Health) ∷ (target_of Metrics, route_to Metrics)
    ∷ (target_of Open, route_to Open) ∷ (target_of Rooms, route_to Rooms)
    ∷ (target_of Stop, route_to Stop) ∷ (target_of Wanted, route_to Wanted) ∷ []

abbrev value : Route → AdminRequest
value route = route.value

values : (path : List ℕ) → option_map value (row_of rows path) ≡ request_at path
values path =
    value_of value (bytes_eq path (target_of Health)) (route_to Health) _ _
    (value_of value (bytes_eq path (target_of Metrics)) (route_to Metrics) _ _
    (value_of value (bytes_eq path (target_of Open)) (route_to Open) _ _
    (value_of value (bytes_eq path (target_of Rooms)) (route_to Rooms) _ _
    (value_of value (bytes_eq path (target_of Stop)) (route_to Stop) _ _
    (value_of value (bytes_eq path (target_of Wanted)) (route_to Wanted) None None refl)))))

-- a path finds the request whose target it is
pub routed : (path : List ℕ)
    → option_map (λ (route : Route). route.value) (seek 0 rows path) ≡ request_at path
routed path = ap (option_map value) (seek-plain rows path (plains-from rows refl)) ∙ values path
