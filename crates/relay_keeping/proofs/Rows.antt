-- The clients that kept texts make, worked.
use Rattle.std.proofs.Common.{◌≡◌, pos, List, ℕ, [], ◌∷◌, Some, None, codes, refl}
use Rattle.relay_proto.specs.Client.{holds, lost}
use Rattle.relay_proto.specs.MessageRead.{message_of_text}
use Rattle.relay_proto.specs.declared.message.Message.TheVariants.{Patch, Snapshot}
use Rattle.relay_store.specs.Kept.{Room, edited}
use Rattle.relay_tree.specs.Document.{list, items_of, whole}
use Rattle.relay_keeping.specs.Clients.{patch_of, record_of}
use Rattle.relay_keeping.specs.Mirrored.{client_of, kept_named, seen_whole}

-- a client sees `[[7]]` if the document is 7
seen : seen_whole (whole (pos 7)) ≡ list (items_of (list (items_of (whole (pos 7) ∷ [])) ∷ []))
seen = refl

-- a room's record shows 7 at revision 4, and a patch that changes nothing leads to revision 9
module _ (snapshot patch : List ℕ)
    (shows : message_of_text snapshot ≡ Some (Snapshot 4 (seen_whole (whole (pos 7)))))
    (leads : message_of_text patch ≡ Some (Patch 9 [])) where
  abbrev board : Room
  board = record_of (codes "board") 4 snapshot

  as_begun : client_of board ≡ holds 4 (seen_whole (whole (pos 7)))
  as_begun = rw shows refl

  led : client_of (edited (patch_of 9 patch) board) ≡ holds 9 (seen_whole (whole (pos 7)))
  led = rw (shows, leads) refl

  -- a client is told of no revision twice
  led_twice : client_of (edited (patch_of 9 patch) (edited (patch_of 9 patch) board)) ≡ lost
  led_twice = rw (shows, leads) refl

  found : kept_named (codes "board") (board ∷ []) ≡ Some board
  found = refl

  not_found : kept_named (codes "lobby") (board ∷ []) ≡ None
  not_found = refl
