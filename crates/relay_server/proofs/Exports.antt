-- The input of an import is an export.
use Rattle.std.proofs.Common.{◌≡◌, ℕ, IfSome, List, None, Option, Some, map, refl, subst}
use Rattle.relay_store.specs.Kept.{begun, committed}
use Rattle.relay_store.specs.Texts.{owned}
use Rattle.relay_server.specs.Exports.{IsReadFrom}
use Rattle.relay_server.specs.StoreTools.{IsExportOf}
use Rattle.relay_server.specs.declared.export.Export.{Export}

pub exported : (input : Option (List ℕ)) (text : List ℕ) (export : Export)
    → IfSome input (λ bytes. text ≡ bytes) → IsReadFrom text export
    → IsExportOf input (committed (begun export.epoch) (map owned export.changes.items))
exported None text export same read = tt
exported (Some bytes) text export same read =
    (export, subst (λ t. IsReadFrom t export) same read, refl)
