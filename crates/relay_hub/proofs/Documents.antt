-- The documents of a room as they grow, and how a room that has them changes.
use Rattle.std.proofs.Common.{◌≡◌, ℕ, zero, suc, ◌+◌, ◌-◌, ◌<◌, ◌≤◌, List, [], ◌∷◌, ◌++◌, length}
use Rattle.std.proofs.Common.{take, Some, refl, sym, ◌∙◌, ap, subst, arith, length-append, ◌⊎◌, inl}
use Rattle.std.proofs.Common.{inr, slice_get, min}
use Rattle.std.proofs.lemmas.Bool.{cases_lt}
use Rattle.std.proofs.lemmas.Option.{slice_get-get_or}
use Rattle.relay_tree.specs.Document.{Document, null}
use Rattle.relay_tree.specs.declared.budget.Budget.{Budget}
use Rattle.relay_tree.specs.declared.budget.Budget.TheVariants.{Unbounded}
use Rattle.relay_history.specs.Trimmed as trim
use Rattle.relay_history.proofs.Trims.{trimmed_unbounded, trimmed_reaches, trimmed_changes_since}
use Rattle.relay_history.proofs.Trims.{trimmed_slice_get}
use Rattle.relay_history.specs.History.{Past, IsHistory, Reaches, with_revision, changes_since}
use Rattle.relay_history.proofs.Growing.{held-with_revision, changes_since-newest}
use Rattle.relay_history.proofs.Growing.{changes_since-with_revision}
use Rattle.relay_patch.specs.Change.{Leads, all_changes}
use Rattle.relay_patch.specs.declared.change.Change.{Change}
use Rattle.relay_patch.specs.declared.op.Op.{Op}
use Rattle.relay_patch.proofs.Made.{Leads-append}
use Rattle.relay_room.specs.Room.{State as Room, revision, trimmed}
use Rattle.relay_room.proofs.Rooms.{trimmed_is_room}
use Rattle.relay_hub.specs.Log.{present_of}
use Rattle.relay_hub.specs.declared.config.HubConfig.{HubConfig}
use Rattle.relay_hub.specs.Stands.{RoomStands}
use Rattle.relay_hub.specs.Step.{GoesOn}
use Rattle.relay_hub.proofs.Lists.{append_cases, slice_get-last}

slice_get-older : {X : Type 0} (xs : List X) (d : X) (r : ℕ) → r < length xs
    → slice_get (xs ++ d ∷ []) r ≡ slice_get xs r
slice_get-older [] d r h = absurd (omega arith)
slice_get-older (y ∷ ys) d zero h = refl
slice_get-older (y ∷ ys) d (suc r) h = slice_get-older ys d r (omega arith)

present_of-newer : (ds : List Document) (d : Document) → present_of (ds ++ d ∷ []) ≡ d
present_of-newer ds d =
    let e : length (ds ++ d ∷ []) - 1 ≡ length ds = omega (arith, length-append ds (d ∷ [])) in
    rw (e, slice_get-last ds d) refl

-- the document of the last revision is the present one
pub slice_get-present : (ds : List Document) (r : ℕ) → r + 1 ≡ length ds
    → slice_get ds r ≡ Some (present_of ds)
slice_get-present ds r h =
    let e : length ds - 1 ≡ r = omega (arith, h) in
    let within : r < length ds = omega (arith, h) in
    rw (e, slice_get-get_or ds r null within) refl

-- the changes since each revision that is still kept lead to the newest document
goes_on_led : {from : ℕ} (most : HubConfig) (ds : List Document) (room next : Room)
    (changes : List Change) (d : Document) → RoomStands most from ds room → next.document ≡ d
    → next.history ≡ with_revision changes room.history → Leads room.document changes d
    → (rev : ℕ) (before : Document) → slice_get (ds ++ d ∷ []) rev ≡ Some before
    → Reaches next.history rev → Leads before (changes_since rev next.history) next.document
goes_on_led most ds room next changes d h document history leads rev before at reaches =
    rw (history, document) (go (cases_lt room.history.newest rev))
  where
    past : Past
    past = room.history

    reaches_with : Reaches (with_revision changes past) rev
    reaches_with = subst (λ p. Reaches p rev) history reaches

    go : (past.newest < rev) ⊎ (rev ≤ past.newest)
        → Leads before (changes_since rev (with_revision changes past)) d
    go (inl above) =
        let last : rev ≡ past.newest + 1 = omega (arith, above, reaches_with.made) in
        let index : rev ≡ length ds = omega (arith, last, h.numbered) in
        let same : Some before ≡ Some d =
        sym at ∙ (ap (λ k. slice_get (ds ++ d ∷ []) k) index ∙ slice_get-last ds d) in
        let is : before ≡ d = cc in
        rw (last, changes_since-newest (with_revision changes past)) is
    go (inr below) =
        let back = reaches_with.back in
        let earlier : Reaches past rev =
        record {
          back = omega (arith, back, held-with_revision changes past, below);
          made = below;
        } in
        let older : rev < length ds = omega (arith, below, h.numbered) in
        rw (changes_since-with_revision rev changes past below reaches_with)
        (Leads-append (changes_since rev past) changes before room.document d
        (h.led rev before (sym (slice_get-older ds d rev older) ∙ at) earlier) leads)

slice_get-taken : {X : Type 0} (n : ℕ) (xs : List X) (i : ℕ) (x : X)
    → slice_get (take n xs) i ≡ Some x → slice_get xs i ≡ Some x
slice_get-taken (suc n) (y ∷ ys) zero x h = h
slice_get-taken (suc n) (y ∷ ys) (suc i) x h = slice_get-taken n ys i x h
slice_get-taken _ _ i x h = absurd (cc h)

-- the changes of each revision that is still kept lead from the document before it to its own
goes_on_steps : {from : ℕ} (most : HubConfig) (ds : List Document) (room next : Room)
    (changes : List Change) (d : Document) → RoomStands most from ds room
    → next.history ≡ with_revision changes room.history → Leads room.document changes d
    → (rev : ℕ) (before after : Document) (cs : List Change)
    → slice_get (ds ++ d ∷ []) rev ≡ Some before → slice_get (ds ++ d ∷ []) (rev + 1) ≡ Some after
    → slice_get next.history.changes (revision next - (rev + 1)) ≡ Some cs → Leads before cs after
goes_on_steps most ds room next changes d h history leads rev before after cs at behind held =
    go (append_cases ds (rev + 1) d after behind)
  where
    past : Past
    past = room.history

    held_with : (index : ℕ) → past.newest + 1 - (rev + 1) ≡ index
        → slice_get (changes ∷ past.changes) index ≡ Some cs
    held_with index same =
        let taken : slice_get (take past.limit (changes ∷ past.changes))
        (past.newest + 1 - (rev + 1)) ≡ Some cs =
        subst (λ (p : Past). slice_get p.changes (p.newest - (rev + 1)) ≡ Some cs) history held in
        slice_get-taken past.limit (changes ∷ past.changes) index cs (ap (λ k.
        slice_get (take past.limit (changes ∷ past.changes)) k) (sym same) ∙ taken)

    older : rev < length ds → slice_get ds rev ≡ Some before
    older within = sym (slice_get-older ds d rev within) ∙ at

    go : ((rev + 1 ≡ length ds) × (after ≡ d))
        ⊎ ((rev + 1 < length ds) × (slice_get ds (rev + 1) ≡ Some after)) → Leads before cs after
    go (inl last) =
        let newest : Some changes ≡ Some cs = held_with 0 (omega (arith, last.0, h.numbered)) in
        let same : changes ≡ cs = cc in
        let present : Some before ≡ Some (present_of ds) =
        sym (older (omega (arith, last.0))) ∙ slice_get-present ds rev last.0 in
        let is : before ≡ room.document = cc (present, h.document) in
        rw (is, ← same, last.1) leads
    go (inr earlier) =
        let within = earlier.0 in
        h.steps rev before after cs (older (omega (arith, within))) earlier.1
        (held_with (suc (past.newest - (rev + 1))) (omega (arith, within, h.numbered)))

-- a room after a revision has one document more
pub goes_on_stands : {from : ℕ} (most : HubConfig) (ds : List Document) (room next : Room)
    (patch : List Op) (d : Document) → RoomStands most from ds room → GoesOn room patch d next
    → RoomStands most from (ds ++ d ∷ []) next
goes_on_stands most ds room next patch d h goes =
    let changes = all_changes room.document patch in
    let newest : revision next ≡ revision room + 1 = ap (λ (p : Past). p.newest) goes.history in
    let limit : next.history.limit ≡ room.history.limit = ap (λ (p : Past). p.limit) goes.history in
    let count : length next.history.changes
    ≡ min room.history.limit (length room.history.changes + 1) =
    ap (λ (p : Past). length p.changes) goes.history
    ∙ held-with_revision changes room.history in
    record {
      document = goes.document ∙ sym (present_of-newer ds d);
      numbered = omega (arith, newest, h.numbered, length-append ds (d ∷ []));
      is = goes.is;
      limit = limit ∙ h.limit;
      began = omega (arith, newest, h.began);
      held = λ free. let was = h.held free in omega (arith, count, newest, h.limit, h.began, was);
      led = goes_on_led most ds room next changes d h goes.document goes.history goes.leads;
      steps = goes_on_steps most ds room next changes d h goes.history goes.leads;
    }

-- a history reaches back to the revision before the one that was just added
pub newest_reached : (old new : Past) (changes : List Change) → IsHistory new
    → new ≡ with_revision changes old → Reaches new (new.newest - 1)
newest_reached old new changes is same =
    let count = ap (λ (p : Past). length p.changes) same ∙ held-with_revision changes old in
    let limit = ap (λ (p : Past). p.limit) same in
    let least = is.limited.0 in
    record { back = omega (arith, count, limit, least); made = omega arith }

-- and the changes since that revision are those that were added
pub newest_changes : (old new : Past) (changes : List Change) → IsHistory new
    → new ≡ with_revision changes old → changes ≡ changes_since (new.newest - 1) new
newest_changes old new changes is same =
    let newest = ap (λ (p : Past). p.newest) same in
    let before : new.newest - 1 ≡ old.newest = omega (arith, newest) in
    let reaches : Reaches new old.newest = rw before at (newest_reached old new changes is same) in
    let since =
    changes_since-with_revision old.newest changes old (omega arith) (subst (λ p.
    Reaches p old.newest) same reaches) in
    rw before (sym (ap (λ p. changes_since old.newest p) same
    ∙ (since ∙ ap (λ cs. cs ++ changes) (changes_since-newest old))))

-- a room that drops what its history may not hold still has its documents
pub trimmed_stands : {from : ℕ} (b : HubConfig) (ds : List Document) (room : Room)
    (budget : Budget) → (b.history_weight ≡ Unbounded → budget ≡ Unbounded)
    → RoomStands b from ds room
    → RoomStands b from ds (trimmed budget room)
trimmed_stands b ds room budget all h =
    let past = room.history in
    record {
      document = h.document;
      numbered = h.numbered;
      began = h.began;
      is = trimmed_is_room budget room h.is;
      limit = h.limit;
      held = λ free. ap (λ (p : Past).
          length p.changes) (ap (λ w. trim.trimmed w past) (all free) ∙ trimmed_unbounded past)
          ∙ h.held free;
      led = λ rev d at reaches.
          rw (trimmed_changes_since budget past rev reaches)
          (h.led rev d at (trimmed_reaches budget past rev reaches));
      steps = λ rev before after changes at behind held.
          h.steps rev before after changes at behind
          (trimmed_slice_get budget past (revision room - (rev + 1)) changes held);
    }
