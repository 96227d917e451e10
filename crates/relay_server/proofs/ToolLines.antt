-- The tokens of the lines of rooms, in the order in which they are written.
use Rattle.std.proofs.Common.{◌≡◌, ℕ, List, [], ◌∷◌, ◌++◌, ap, append_assoc, codes}
use Rattle.std.proofs.Common.{decimal, length, refl}
use Rattle.json.specs.Token.{Token, end_object, key, number}
use Rattle.relay_tree.specs.Text.{text_of, tokens_of}
use Rattle.relay_keeping.specs.declared.listing.ListedRoom.{ListedRoom}
use Rattle.relay_server.specs.StoreTools.{exported_line, line, listed_line, room_tokens}

pub listed_written : {a b c : List Token} (room : ListedRoom) (bytes : ℕ) → a ≡ room_tokens room
    → b ≡ a ++ key (codes "bytes") ∷ [] → c ≡ b ++ number (decimal bytes) ∷ []
    → bytes ≡ length (text_of room.document) → line (c ++ end_object ∷ []) ≡ listed_line room
listed_written room bytes a b c n = ap line (rw (c, b, a, n) refl)

pub exported_written : {a b c : List Token} (room : ListedRoom) → a ≡ room_tokens room
    → b ≡ a ++ key (codes "document") ∷ [] → c ≡ b ++ tokens_of room.document
    → line (c ++ end_object ∷ []) ≡ exported_line room
exported_written room a b c = ap line (rw (c, b, a) (simp append_assoc))
