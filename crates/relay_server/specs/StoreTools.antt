-- The output of the tools for a store.
use Rattle.std.specs.Prelude.{◌≡◌, ℕ, ⊤, List, [], ◌∷◌, ◌++◌, codes, decimal, flat_map, length}
use Rattle.std.specs.Prelude.{Err, None, Ok, Option, Result, Some, map, string_bytes}
use Rattle.std.specs.Io.KnownBytes.{Appends, IsAtEnd}
use Rattle.json.specs.Print.{print}
use Rattle.json.specs.Token.{Token, begin_object, end_object, key, number, string}
use Rattle.relay_tree.specs.Text.{text_of, tokens_of}
use Rattle.relay_keeping.specs.declared.listing.ListedRoom.{ListedRoom}
use Rattle.relay_keeping.specs.declared.listing.Listing.{Listing}
use Rattle.relay_keeping.specs.Listing.{IsNamed, Lists}
use Rattle.relay_options.specs.declared.store_job.StoreTool.{StoreTool}
use Rattle.relay_options.specs.declared.store_job.StoreTool.TheVariants as tool
use Rattle.relay_script.specs.Lines.{AppendsPart}
use Rattle.relay_server.specs.Printed.{line_of}
use Rattle.relay_server.specs.declared.status.Status.{Status}
use Rattle.relay_server.specs.declared.status.Status.TheVariants as is
use Rattle.relay_server.specs.declared.tool_fault.ToolFault.{ToolFault}
use Rattle.relay_server.specs.declared.tool_fault.ToolFault.TheVariants as fault
use Rattle.relay_server.specs.Exports.{IsReadFrom}
use Rattle.relay_server.specs.declared.export.Export.{Export}
use Rattle.relay_store.specs.Kept.{Kept, begun, committed}
use Rattle.relay_store.specs.Texts.{owned}
use Rattle.relay_store.specs.declared.fault.StoreFault.{StoreFault}
use Rattle.relay_store.specs.declared.fault.StoreFault.TheVariants.{NoMemory}

-- ---- the lines

-- the line of these tokens
abbrev pub line : List Token → List ℕ
line tokens = print tokens ++ codes "\n"

-- the first tokens of the line of a room: its name and its revision
abbrev pub room_tokens : ListedRoom → List Token
room_tokens room =
    begin_object ∷ key (codes "room") ∷ string (string_bytes room.name)
    ∷ key (codes "rev") ∷ number (decimal room.revision) ∷ []

-- the line of a list: the number of bytes of its document's text
abbrev pub listed_line : ListedRoom → List ℕ
listed_line room = line (room_tokens room ++ key (codes "bytes")
    ∷ number (decimal (length (text_of room.document))) ∷ end_object ∷ [])

-- the line of an export: its document
abbrev pub exported_line : ListedRoom → List ℕ
exported_line room = line (room_tokens room ++ key (codes "document")
    ∷ (tokens_of room.document ++ end_object ∷ []))

-- the first line of an export: the epoch and the floor of the store
abbrev pub first_line : ℕ → ℕ → List ℕ
first_line epoch floor = line (begin_object ∷ key (codes "epoch") ∷ number (decimal epoch)
    ∷ key (codes "floor") ∷ number (decimal floor) ∷ end_object ∷ [])

-- the line of a room's document
abbrev pub document_line : ListedRoom → List ℕ
document_line room = text_of room.document ++ codes "\n"

-- ---- the tools

-- the text is what the tool tells of a store that has this epoch and these rooms
abbrev pub Tells : StoreTool → ℕ → Listing → List ℕ → Type 0
Tells tool.List epoch listing text = text ≡ flat_map listed_line listing.rooms.items
Tells (tool.Show name) epoch listing text =
    (room : ListedRoom) × IsNamed (string_bytes name) listing room × (text ≡ document_line room)
Tells tool.Export epoch listing text =
    text ≡ first_line epoch listing.floor ++ flat_map exported_line listing.rooms.items
Tells tool.Import epoch listing text =
    text ≡ line_of (codes "rooms") (length listing.rooms.items)

-- the text is what the tool tells of a store that keeps this
pub record IsToldOf (kept : Kept) (tool : StoreTool) (text : List ℕ) : Type 0 where
  pub listing : Listing
  pub lists : Lists kept listing
  pub tells : Tells tool kept.epoch listing text

-- the text is what the tool tells of some store
abbrev pub IsTold : StoreTool → List ℕ → Type 0
IsTold tool text = (kept : Kept) × IsToldOf kept tool text

-- the input, if it is known, is an export of a store that keeps this
abbrev pub IsExportOf : Option (List ℕ) → Kept → Type 0
IsExportOf None kept = ⊤
IsExportOf (Some text) kept = (export : Export) × IsReadFrom text export
    × (kept ≡ committed (begun export.epoch) (map owned export.changes.items))

-- an import tells of what its input has
abbrev pub IsFrom : StoreTool → Option (List ℕ) → Kept → Type 0
IsFrom tool.Import input kept = IsExportOf input kept
IsFrom _ input kept = ⊤

-- the text is what the tool tells, with this input
abbrev pub IsToldBy : StoreTool → Option (List ℕ) → List ℕ → Type 0
IsToldBy tool input text = (kept : Kept) × IsFrom tool input kept × IsToldOf kept tool text

-- ---- the end of a tool

-- the fault that a fault of the store is told as
abbrev pub store_fault : StoreFault → ToolFault
store_fault NoMemory = fault.NoMemory
store_fault other = fault.Store other

abbrev pub fault_status : ToolFault → Status
fault_status fault.NoRoom = is.NoRoom
fault_status fault.NoMemory = is.NoMemory
fault_status _ = is.Failed

abbrev pub tool_status : Result (Unit {0}) ToolFault → Status
tool_status (Ok u) = is.Done
tool_status (Err fault) = fault_status fault

-- only `import` reads, and on success to the end
abbrev pub ToolReads : {A : Type 0} → StoreTool → Result A ToolFault → Option (List ℕ)
    → Option (List ℕ) → Type 0
ToolReads tool.Import (Ok x) input left = IsAtEnd left
ToolReads tool.Import (Err fault) input left = ⊤
ToolReads _ ended input left = left ≡ input

-- The end of a tool, by its input, and what was written before and after. On success that is what
-- the tool tells. If the writer failed, a prefix of it was written. At any other fault nothing was.
abbrev pub ToolEnds : StoreTool → Result (Unit {0}) ToolFault → Option (List ℕ) → Option (List ℕ)
    → Option (List ℕ) → Type 0
ToolEnds tool (Ok u) input old new =
    (text : List ℕ) × IsToldBy tool input text × Appends old new text
ToolEnds tool (Err fault.Output) input old new =
    (text : List ℕ) × IsToldBy tool input text × AppendsPart old new text
ToolEnds tool (Err _) input old new = new ≡ old

-- the same for a tool that ends with this status
abbrev pub ToolEndsAs : StoreTool → Status → Option (List ℕ) → Option (List ℕ) → Option (List ℕ)
    → Option (List ℕ) → Type 0
ToolEndsAs tool status input left old new =
    (ended : Result (Unit {0}) ToolFault) × (status ≡ tool_status ended)
    × ToolReads tool ended input left × ToolEnds tool ended input old new
