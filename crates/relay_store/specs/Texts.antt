-- Changes as contracts compare them: by the bytes of their texts.
use Rattle.std.specs.Borrow.{Bor}
use Rattle.std.specs.Prelude.{ℕ, List, String, string_bytes}
use Rattle.std.specs.declared.alloc.Global.{Global}
use Rattle.relay_store.specs.declared.change.Change.{Change}
use Rattle.relay_store.specs.declared.change.Change.TheVariants.{Begin, Edit, End, RaiseFloor}
use Rattle.relay_store.specs.declared.change.Change.TheVariants.{LeaveWill, DropWill}

-- the change with other texts
abbrev pub with_texts : {T U : Type 0} → (T → U) → Change T → Change U
with_texts text (Begin room revision snapshot) = Begin (text room) revision (text snapshot)
with_texts text (Edit room revision patch) = Edit (text room) revision (text patch)
with_texts text (End room) = End (text room)
with_texts text (RaiseFloor revision) = RaiseFloor revision
with_texts text (LeaveWill session room will) = LeaveWill session (text room) (text will)
with_texts text (DropWill session) = DropWill session

-- a change with the bytes of the texts that it borrows
abbrev pub lent : Change (Bor (List ℕ)) → Change (List ℕ)
lent = with_texts (λ text. text.now)

-- a change with the bytes of the texts that it owns
abbrev pub owned : Change (String Global) → Change (List ℕ)
owned = with_texts string_bytes
