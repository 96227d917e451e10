-- The code's script as plain data.
use Rattle.std.specs.Prelude.{ℕ, List, map, string_bytes}
use Rattle.std.specs.declared.string.String.{String}
use Rattle.std.specs.HashMap.{HashMap}
use Rattle.relay_script.specs.Script.{Stage, stage}
use Rattle.relay_script.specs.declared.script.Script.{Script}
use Rattle.relay_script.specs.declared.script_client.ScriptClient.{ScriptClient}

abbrev pub named : {A : Type 0} → String A × ScriptClient → List ℕ × ScriptClient
named e = (string_bytes e.0, e.1)

abbrev pub clients_of : {A S : Type 0} → HashMap (String A) ScriptClient S
    → List (List ℕ × ScriptClient)
clients_of m = map named m.entries

abbrev pub stage_of : {T : Type 0} → Script T → Stage T
stage_of s = stage s.transport (clients_of s.clients)
