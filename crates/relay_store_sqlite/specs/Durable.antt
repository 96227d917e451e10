-- A ready store leaves the last commit after a crash.
use Rattle.std.specs.Prelude.{◌≡◌, ℕ, Bool, true, false, IsTrue, refl}
use Rattle.std.proofs.Common.{◌∙◌, ap}
use Rattle.sqlite_trees.specs.Tree.{Trees}
use Rattle.sqlite_trees.specs.View.{View}
use Rattle.relay_store.specs.Kept.{Kept}
use Rattle.relay_store.specs.Store.{Only}
use Rattle.relay_store_sqlite.specs.Rows.{kept_in}
use Rattle.relay_store_sqlite.specs.Table.{IsReady}

-- what a crash may leave of what is kept, if it may leave these databases
abbrev pub left_of : (Trees → Type 0) → Kept → Type 0
left_of recovers left = (db : Trees) × recovers db × (left ≡ kept_in db)

is_open : (open_ broken : Bool) → (open_ ≡ false → IsTrue broken) → broken ≡ false → IsTrue open_
is_open true broken law sound = refl
is_open false broken law sound = absurd (let shut = rw sound at (law refl) in cc)

pub ready_is_durable : (v : View) (recovers : Trees → Type 0) (next : ℕ)
    → ((db : Trees) → IsTrue v.is_open → recovers db → db ≡ v.committed)
    → (IsTrue v.is_open → recovers v.committed) → (v.is_open ≡ false → IsTrue v.is_broken)
    → IsReady v next
    → Only (kept_in v.committed) (left_of recovers) × left_of recovers (kept_in v.committed)
ready_is_durable v recovers next settled stays shut ready =
    let it_is = is_open v.is_open v.is_broken shut ready.sound in (
      λ left may. may.2 ∙ ap kept_in (settled may.0 it_is may.1),
      (v.committed, stays it_is, refl),
    )
