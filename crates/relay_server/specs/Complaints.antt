-- The text that the program writes to standard error when it ends early. Where that writer fails
-- too, nothing can say so: then a part of it was said.
use Rattle.std.specs.Prelude.{◌≡◌, ℕ, List, codes, Option, Result, Ok, Err}
use Rattle.std.specs.declared.io.ErrorKind.{ErrorKind}
use Rattle.std.specs.declared.io.ErrorKind.TheVariants as kind
use Rattle.relay_script.specs.Lines.{AppendsPart}
use Rattle.relay_script.specs.declared.fault.ScriptFault.{ScriptFault}
use Rattle.relay_script.specs.declared.fault.ScriptFault.TheVariants.{BadLimit, Input, Output}
use Rattle.relay_script.specs.declared.fault.ScriptFault.TheVariants.{LineTooLong, TooManyLines}
use Rattle.relay_script.specs.declared.fault.ScriptFault.TheVariants.{NoMemory}

abbrev pub complaint : ScriptFault → List ℕ
complaint BadLimit = codes "relay: a limit out of range\n"
complaint Input = codes "relay: input\n"
complaint Output = codes "relay: output\n"
complaint LineTooLong = codes "relay: line too long\n"
complaint TooManyLines = codes "relay: too many lines\n"
complaint NoMemory = codes "relay: no memory\n"

-- nothing is said of a run that ended well
abbrev pub Complains : Result (Unit {0}) ScriptFault → Option (List ℕ) → Option (List ℕ) → Type 0
Complains (Ok u) old new = new ≡ old
Complains (Err fault) old new = AppendsPart old new (complaint fault)

-- if the arguments could not be read
abbrev pub unread_complaint : ErrorKind → List ℕ
unread_complaint kind.InvalidData = codes "relay: an argument is not UTF-8\n"
unread_complaint kind.OutOfMemory = complaint NoMemory
unread_complaint _ = codes "relay: the arguments cannot be read\n"
