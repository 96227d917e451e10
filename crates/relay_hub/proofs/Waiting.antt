-- The messages that wait in an outbox that changes: cases, and that they round-trip.
use Rattle.std.proofs.Common.{◌≡◌, ◌+◌, is_some, ℕ, Bool, true, false, List, [], ◌∷◌, ◌++◌, length}
use Rattle.std.proofs.Common.{Option, refl, nat_lt, if◌then◌else◌}
use Rattle.std.specs.List.{AllByRecursion}
use Rattle.relay_tree.proofs.Writing.{all_more}
use Rattle.relay_outbox.specs.Outbox.{Contents, contents, folded, cleared, with_patch, rest_of}
use Rattle.relay_patch.specs.Weight.{ops_weight}
use Rattle.relay_patch.specs.declared.op.Op.{Op}
use Rattle.relay_tree.specs.Budget.{paid}
use Rattle.relay_tree.specs.declared.budget.Budget.{Budget}
use Rattle.relay_view.specs.View.{View}
use Rattle.relay_proto.specs.Written.{IsCount, HasCounts}
use Rattle.relay_proto.specs.declared.reply.Reply.{Reply}
use Rattle.relay_room.specs.CatchUp.{Fits}
use Rattle.relay_room.specs.declared.catch_up.CatchUp.{CatchUp}
use Rattle.relay_room.specs.declared.catch_up.CatchUp.TheVariants as how
use Rattle.relay_hub.specs.Session.{Session, session_with, with_outbox, with_patch_within}
use Rattle.relay_hub.specs.Session.{patches_weight, replied, led_outbox, notified_outbox, drawn}
use Rattle.relay_hub.specs.Stands.{OutboxStands, PatchFits}

-- an outbox to which a patch is added is unchanged, has the patch last, or folds
pub by_waiting : (P : Contents Reply (ℕ × List Op)
    → Type 0) (rev : ℕ) (ops : List Op) (o : Contents Reply (ℕ × List Op)) → (o.due ≡ true → P o)
    → (o.due ≡ false
    → P (contents o.replies (o.patches ++ (rev, ops) ∷ []) o.due o.max_waiting_patches))
    → P (folded o) → P (with_patch (rev, ops) o)
by_waiting P rev ops o stays waits folds =
    go o.due (nat_lt (length o.patches) o.max_waiting_patches) refl
  where
    go : (due fits : Bool) → o.due ≡ due
        → P (if due then o else (if fits
        then contents o.replies (o.patches ++ (rev, ops) ∷ []) o.due o.max_waiting_patches
        else folded o))
    go true fits e = stays e
    go false true e = waits e
    go false false e = folds

-- an outbox with a budget takes the patch as any outbox does, or folds
pub by_weight : (P : Contents Reply (ℕ × List Op)
    → Type 0) (budget : Budget) (p : ℕ × List Op) (o : Contents Reply (ℕ × List Op))
    → P (with_patch p o) → P (folded o) → P (with_patch_within budget p o)
by_weight P budget p o waits folds =
    go (is_some (paid (patches_weight o.patches + ops_weight p.1) budget))
  where
    go : (light : Bool) → P (if light then with_patch p o else folded o)
    go true = waits
    go false = folds

-- an outbox in which a snapshot is due is unchanged; any other applies the update
pub by_due : (P : Contents Reply (ℕ × List Op)
    → Type 0) (budget : Budget) (rev : ℕ) (notified : CatchUp) (o : Contents Reply (ℕ × List Op))
    → (o.due ≡ true → P o) → (o.due ≡ false → P (led_outbox budget rev notified o))
    → P (notified_outbox budget rev notified o)
by_due P budget rev notified o stays led = go o.due refl
  where
    go : (due : Bool) → o.due ≡ due → P (if due then o else led_outbox budget rev notified o)
    go true e = stays e
    go false e = led e

pub outbox_replied : (most : ℕ) (x : Session) (r : Reply) → HasCounts r → OutboxStands most x
    → OutboxStands most (replied r x)
outbox_replied most x r counts h =
    record {
      max_waiting_patches = h.max_waiting_patches;
      replies = all_more HasCounts x.outbox.replies r h.replies counts;
      patches = h.patches;
    }

pub outbox_folded : (most : ℕ) (x : Session) (v : Option View) → OutboxStands most x
    → OutboxStands most (session_with v (folded x.outbox) x)
outbox_folded most x v h =
    record { max_waiting_patches = h.max_waiting_patches; replies = h.replies; patches = tt }

pub outbox_cleared : (most : ℕ) (x : Session) (v : Option View) → OutboxStands most x
    → OutboxStands most (session_with v (cleared x.outbox) x)
outbox_cleared most x v h =
    record { max_waiting_patches = h.max_waiting_patches; replies = h.replies; patches = tt }

outbox_viewed : (most : ℕ) (x : Session) (v : Option View) → OutboxStands most x
    → OutboxStands most (session_with v x.outbox x)
outbox_viewed most x v h =
    record { max_waiting_patches = h.max_waiting_patches; replies = h.replies; patches = h.patches }

pub outbox_patched : (most rev : ℕ) (ops : List Op) (x : Session) (v : Option View)
    → PatchFits (rev, ops) → OutboxStands most x
    → OutboxStands most (session_with v (with_patch_within x.budget (rev, ops) x.outbox) x)
outbox_patched most rev ops x v fits h =
    by_weight (λ o. OutboxStands most (session_with v o x)) x.budget (rev, ops) x.outbox
    (by_waiting (λ o. OutboxStands most (session_with v o x)) rev ops x.outbox
    (λ due. outbox_viewed most x v h)
    (λ due.
    record {
      max_waiting_patches = h.max_waiting_patches;
      replies = h.replies;
      patches = all_more PatchFits x.outbox.patches (rev, ops) h.patches fits;
    })
    (outbox_folded most x v h))
    (outbox_folded most x v h)

outbox_led : (most rev : ℕ) (notified : CatchUp) (x : Session) → IsCount rev → Fits notified
    → OutboxStands most x
    → OutboxStands most (with_outbox (led_outbox x.budget rev notified x.outbox) x)
outbox_led most rev how.Nothing x count fits h = outbox_viewed most x x.view h
outbox_led most rev (how.Patch ops) x count fits h =
    outbox_patched most rev ops x x.view (count, fits) h
outbox_led most rev how.Snapshot x count fits h = outbox_folded most x x.view h

pub outbox_notified : (most rev : ℕ) (notified : CatchUp) (x : Session) → IsCount rev
    → Fits notified → OutboxStands most x
    → OutboxStands most (with_outbox (notified_outbox x.budget rev notified x.outbox) x)
outbox_notified most rev notified x count fits h =
    by_due (λ o. OutboxStands most (with_outbox o x)) x.budget rev notified x.outbox (λ due.
    outbox_viewed most x x.view h) (λ due. outbox_led most rev notified x count fits h)

pub outbox_drawn : (most : ℕ) (x : Session) → OutboxStands most x → OutboxStands most (drawn x)
outbox_drawn most x h = go x.outbox.replies x.outbox.patches x.outbox.due h.replies h.patches
  where
    go : (replies : List Reply) (patches : List (ℕ × List Op)) (due : Bool)
        → AllByRecursion HasCounts replies → AllByRecursion PatchFits patches
        → OutboxStands most (with_outbox (rest_of replies patches due x.outbox.max_waiting_patches)
        x)
    go (r ∷ replies) patches due rs ps =
        record { max_waiting_patches = h.max_waiting_patches; replies = rs.1; patches = ps }
    go [] (p ∷ patches) due rs ps =
        record { max_waiting_patches = h.max_waiting_patches; replies = tt; patches = ps.1 }
    go [] [] due rs ps =
        record { max_waiting_patches = h.max_waiting_patches; replies = tt; patches = tt }
