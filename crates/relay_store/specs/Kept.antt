-- The rooms and wills that a store keeps, after each change. A name and a text are their bytes.
use Rattle.std.specs.Prelude.{ℕ, max, not, bytes_eq, nat_eq, if◌then◌else◌}
use Rattle.std.specs.Prelude.{List, [], ◌∷◌, ◌++◌, filter, map}
use Rattle.relay_store.specs.declared.change.Change.{Change}
use Rattle.relay_store.specs.declared.change.Change.TheVariants.{Begin, Edit, End, RaiseFloor}
use Rattle.relay_store.specs.declared.change.Change.TheVariants.{LeaveWill, DropWill}

-- a patch message: the revision that it leads to, and its text
pub record Patch : Type 0 where
  pub revision : ℕ
  pub text : List ℕ

-- a room's record: its name, the revision at which the record begins, the text of the snapshot
-- message at that revision, and the patch messages since, the first of them first
pub record Room : Type 0 where
  pub name : List ℕ
  pub begins : ℕ
  pub snapshot : List ℕ
  pub edits : List Patch

-- a will that is left: the number of its session, its room's name and its text
pub record Will : Type 0 where
  pub session : ℕ
  pub room : List ℕ
  pub text : List ℕ

-- the epoch of every run over this store, the least revision at which a new room begins, the rooms
-- in the order in which their records began, and the wills in the order in which they were left
pub record Kept : Type 0 where
  pub epoch : ℕ
  pub floor : ℕ
  pub rooms : List Room
  pub wills : List Will

-- the revision after these patches, from this one on
abbrev pub revision_after : ℕ → List Patch → ℕ
revision_after revision [] = revision
revision_after revision (patch ∷ patches) = revision_after patch.revision patches

-- a room's present revision: that of its last patch; if there is none, that of its record
abbrev pub revision : Room → ℕ
revision room = revision_after room.begins room.edits

-- a new store
abbrev pub begun : ℕ → Kept
begun epoch = record { epoch = epoch; floor = 0; rooms = []; wills = [] }

-- the other rooms
abbrev pub without_room : List ℕ → List Room → List Room
without_room name = filter (λ room. not (bytes_eq name room.name))

-- the other sessions' wills
abbrev pub without_will : ℕ → List Will → List Will
without_will session = filter (λ will. not (nat_eq session will.session))

-- the room with one more patch
abbrev pub edited : Patch → Room → Room
edited patch room = record room { edits = room.edits ++ patch ∷ [] }

-- the rooms after an edit of the room of that name; if there is none, the same rooms
abbrev pub with_edit : List ℕ → Patch → List Room → List Room
with_edit name patch = map (λ room. if bytes_eq name room.name then edited patch room else room)

-- what is kept after a change. A record that begins replaces all that was kept of its room, and a
-- will the one that its session left before. The floor never falls
abbrev pub changed : Kept → Change (List ℕ) → Kept
changed kept (Begin name begins snapshot) = record kept {
  rooms = without_room name kept.rooms
      ++ record { name = name; begins = begins; snapshot = snapshot; edits = [] } ∷ [];
}
changed kept (Edit name revision text) = record kept {
  rooms = with_edit name (record { revision = revision; text = text }) kept.rooms;
}
changed kept (End name) = record kept { rooms = without_room name kept.rooms }
changed kept (RaiseFloor floor) = record kept { floor = max kept.floor floor }
changed kept (LeaveWill session name text) = record kept {
  wills = without_will session kept.wills
      ++ record { session = session; room = name; text = text } ∷ [];
}
changed kept (DropWill session) = record kept { wills = without_will session kept.wills }

-- what is kept after these changes, the first of them first
abbrev pub committed : Kept → List (Change (List ℕ)) → Kept
committed kept [] = kept
committed kept (change ∷ changes) = committed (changed kept change) changes
