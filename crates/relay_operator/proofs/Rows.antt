-- The list of rooms while it is written.
use Rattle.std.proofs.Common.{◌≡◌, ◌≤◌, ◌+◌, ℕ, List, length, drop, slice_get, Some, ap, ◌∙◌, []}
use Rattle.std.proofs.Common.{◌∷◌, ◌++◌}
use Rattle.std.proofs.lemmas.List.{drop_all}
use Rattle.json.specs.Token.{Token, end_array}
use Rattle.relay_admin.specs.Rooms.{begun}
use Rattle.relay_hub.specs.Summary.{Summary}
use Rattle.relay_operator.specs.Numbers.{rooms_seen}
use Rattle.relay_operator.specs.Rows.{rooms_listed, with_row, with_rooms}
use Rattle.relay_operator.specs.declared.admin_view.AdminView.{AdminView}
use Rattle.relay_operator.proofs.Seen.{drop_seen}

-- the room at an index, and then those behind it
pub rows_next : (view : AdminView) (rooms : List Summary) (index : ℕ) (r : Summary)
    (tokens : List Token) → slice_get rooms index ≡ Some r
    → with_rooms view index (drop index rooms) tokens
    ≡ with_rooms view (index + 1) (drop (index + 1) rooms) (with_row view index r tokens)
rows_next view rooms index r tokens there =
    ap (λ l. with_rooms view index l tokens) (drop_seen rooms index r there)

-- once no room is left, what is written is all but the end of the list
pub listed : (view : AdminView) (index : ℕ) (tokens : List Token)
    → with_rooms view 0 (rooms_seen view.hub.now) begun
    ≡ with_rooms view index (drop index (rooms_seen view.hub.now)) tokens
    → length (rooms_seen view.hub.now) ≤ index → rooms_listed view ≡ tokens ++ end_array ∷ []
listed view index tokens rows past =
    ap (λ ts. ts ++ end_array ∷ [])
    (rows
    ∙ ap (λ l. with_rooms view index l tokens)
    (drop_all index (rooms_seen view.hub.now) past))
