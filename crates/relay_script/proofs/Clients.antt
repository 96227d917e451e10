-- Lemmas about the names of a script.
use Rattle.std.proofs.Common.{◌≡◌, ℕ, List, [], ◌∷◌, Some, cond, map, bytes_eq, string_bytes, refl}
use Rattle.std.proofs.Common.{sym, ap, subst, ◌∙◌}
use Rattle.std.specs.declared.string.String.{String}
use Rattle.std.specs.String.{string_eq}
use Rattle.std.specs.Map.{lookup}
use Rattle.std.specs.HashMap.{HashMap, Updates, UpdatesBy, get_by_text}
use Rattle.std.proofs.lemmas.Map.Text.{hash_map_updates_text}
use Rattle.relay_script.specs.Representation.{named, clients_of}
use Rattle.relay_script.specs.Script.{client_of, OnlyName}
use Rattle.relay_script.specs.declared.script_client.ScriptClient.{ScriptClient}

lookup-named : {A : Type 0} (name : List ℕ) (es : List (String A × ScriptClient))
    → lookup (bytes_eq name) (map named es) ≡ lookup (λ k. bytes_eq name (string_bytes k)) es
lookup-named name [] = refl
lookup-named name (e ∷ es) =
    ap (cond (bytes_eq name (string_bytes e.0)) (Some e.1)) (lookup-named name es)

-- the client of a name is found by the name's bytes
pub client_of-clients_of : {A S : Type 0} (m : HashMap (String A) ScriptClient S) (name : List ℕ)
    → client_of (clients_of m) name ≡ get_by_text m name
client_of-clients_of m name = lookup-named name m.entries

-- an update of a name leaves the other names unchanged
pub OnlyName-updates : {A S : Type 0} (m n : HashMap (String A) ScriptClient S) (name : List ℕ)
    (q : ScriptClient)
    → UpdatesBy string_eq (λ k. bytes_eq name (string_bytes k)) m n (Some q)
    → OnlyName name q (clients_of m) (clients_of n)
OnlyName-updates m n name q updates other =
    client_of-clients_of n other ∙ hash_map_updates_text name m n (Some q) updates other
    ∙ ap (cond (bytes_eq name other) (Some q)) (sym (client_of-clients_of m other))

-- an insertion of a name leaves the other names unchanged
pub OnlyName-inserted : {A S : Type 0} (m n : HashMap (String A) ScriptClient S) (known : String A)
    (name : List ℕ) (p q : ScriptClient) → string_bytes known ≡ name → p ≡ q
    → Updates string_eq m n known (Some p) → OnlyName name q (clients_of m) (clients_of n)
OnlyName-inserted m n known name p q same e updates =
    subst (λ x. OnlyName x q (clients_of m) (clients_of n)) same
    (subst (λ x. OnlyName (string_bytes known) x (clients_of m) (clients_of n)) e
    (OnlyName-updates m n (string_bytes known) p updates))
