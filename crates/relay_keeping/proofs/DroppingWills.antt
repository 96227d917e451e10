-- A will is kept only of a session that has one, once the changes of all wills are committed.
use Rattle.std.proofs.Common.{◌≡◌, ◌∙◌, ◌-◌, ◌^◌, ℕ, Bool, true, false, not, List, [], ◌∷◌, ◌++◌}
use Rattle.std.proofs.Common.{Option, Some, None, is_some, nat_eq, arith, ap, subst, sym, refl}
use Rattle.std.proofs.Common.{if◌then◌else◌}
use Rattle.std.proofs.lemmas.Bool.Decides.{nat_tests}
use Rattle.std.proofs.lemmas.List.Folds.{find-append}
use Rattle.std.specs.Prelude.{⊤}
use Rattle.std.specs.List.{AllByRecursion, flat_map}
use Rattle.std.specs.Option.{option_map, option_or}
use Rattle.relay_hub.specs.Log.{Bequest}
use Rattle.relay_proto.specs.Message.{will_request}
use Rattle.relay_store.specs.declared.change.Change.{Change}
use Rattle.relay_store.specs.declared.change.Change.TheVariants.{Begin, Edit, End, RaiseFloor}
use Rattle.relay_store.specs.declared.change.Change.TheVariants.{LeaveWill, DropWill}
use Rattle.relay_store.proofs.Laws.{committed_append}
use Rattle.relay_store.specs.Kept.{Kept, Will, changed, committed, without_will}
use Rattle.relay_tree.specs.Text.{text_of}
use Rattle.relay_keeping.specs.LeftWills.{AreNotedAsEarlier}
use Rattle.relay_keeping.specs.Wills.{AreAllNoted, KeepsOnly, KeepsWills, NotedWills, NotesWills}
use Rattle.relay_keeping.specs.Wills.{drop_change}
use Rattle.relay_keeping.specs.Wills.{is_noted, kept_of, left_change, noted_number, number_in}

module _ (s : ℕ) where
  -- the change leaves no will of the session
  abbrev LeavesNone : Change (List ℕ) → Type 0
  LeavesNone (LeaveWill session room text) = nat_eq session s ≡ false
  LeavesNone _ = ⊤

  -- no will of the session is among these
  abbrev HaveNone : List Will → Type 0
  HaveNone wills = kept_of s wills ≡ None

  split : (b : Bool) (w : Will) (rest : Option Will) → (if b then Some w else rest) ≡ None
      → (b ≡ false) × (rest ≡ None)
  split true w rest none = absurd (cc none)
  split false w rest none = (refl, none)

  with_first : (keeps : Bool) (w : Will) (wills : List Will) → nat_eq w.session s ≡ false
      → HaveNone wills → HaveNone (if keeps then w ∷ wills else wills)
  with_first true w wills apart none = ap (λ b. if b then Some w else kept_of s wills) apart ∙ none
  with_first false w wills apart none = none

  still : (t : ℕ) (wills : List Will) → HaveNone wills → HaveNone (without_will t wills)
  still t [] none = refl
  still t (w ∷ wills) none =
      let parts = split (nat_eq w.session s) w (kept_of s wills) none in
      with_first (not (nat_eq t w.session)) w (without_will t wills) parts.0
      (still t wills parts.1)

  gone : (wills : List Will) → HaveNone (without_will s wills)
  gone [] = refl
  gone (w ∷ wills) = go (nat_eq s w.session) refl (gone wills)
    where
      go : (b : Bool) → nat_eq s w.session ≡ b → HaveNone (without_will s wills)
          → HaveNone (if not b then w ∷ without_will s wills else without_will s wills)
      go true is rest = rest
      go false is rest =
          let apart : nat_eq w.session s ≡ false = grind (arith, nat_tests, is) in
          with_first true w (without_will s wills) apart rest

  none_after : (kept : Kept) (change : Change (List ℕ)) → LeavesNone change → HaveNone kept.wills
      → HaveNone (changed kept change).wills
  none_after kept (Begin room revision text) leaves none = none
  none_after kept (Edit room revision text) leaves none = none
  none_after kept (End room) leaves none = none
  none_after kept (RaiseFloor revision) leaves none = none
  none_after kept (DropWill session) leaves none = still session kept.wills none
  none_after kept (LeaveWill session room text) leaves none =
      let will : Will = record { session = session; room = room; text = text } in
      find-append (λ will. nat_eq will.session s) (without_will session kept.wills) (will ∷ [])
      ∙ ap (λ o. option_or o (kept_of s (will ∷ []))) (still session kept.wills none)
      ∙ ap (λ b. if b then Some will else None) leaves

  -- a session of which no will is kept, and of which none is left
  none_stays : (kept : Kept) (changes : List (Change (List ℕ))) → AllByRecursion LeavesNone changes
      → HaveNone kept.wills → HaveNone (committed kept changes).wills
  none_stays kept [] all none = none
  none_stays kept (change ∷ changes) all none =
      none_stays (changed kept change) changes all.1 (none_after kept change all.0 none)

  module _ (wills : List Bequest) (none : number_in wills s ≡ None) where
    drop_leaves : (e : ℕ × ℕ) → AllByRecursion LeavesNone (drop_change wills e)
    drop_leaves e = go (is_some (number_in wills e.0))
      where
        go : (b : Bool) → AllByRecursion LeavesNone (if b then [] else DropWill e.0 ∷ [])
        go true = tt
        go false = (tt, tt)

    -- a will that is noted of the session is dropped
    dropped : (kept : Kept) (noted : NotedWills) (first : Option ℕ) → noted_number noted s ≡ first
        → (first ≡ None → HaveNone kept.wills)
        → HaveNone (committed kept (flat_map (drop_change wills) noted)).wills
    dropped kept [] first is unless = unless (sym is)
    dropped kept (e ∷ noted) first is unless =
        subst (λ after. HaveNone after.wills)
        (sym (committed_append kept (drop_change wills e) (flat_map (drop_change wills) noted)))
        (go (nat_eq s e.0) refl is (λ kept first is unless. dropped kept noted first is unless))
      where
        next : Kept
        next = committed kept (drop_change wills e)

        go : (b : Bool) → nat_eq s e.0 ≡ b
            → (if b then Some e.1 else noted_number noted s) ≡ first
            → ((kept : Kept) (first : Option ℕ) → noted_number noted s ≡ first
            → (first ≡ None → HaveNone kept.wills)
            → HaveNone (committed kept (flat_map (drop_change wills) noted)).wills)
            → HaveNone (committed next (flat_map (drop_change wills) noted)).wills
        go false differ is others =
            others next first is
            (λ lacks. none_stays kept (drop_change wills e) (drop_leaves e) (unless lacks))
        go true same is others =
            let number : s ≡ e.0 = grind (arith, nat_tests, same) in
            let drops : drop_change wills e ≡ DropWill s ∷ [] =
            ap (λ b. if b then [] else DropWill e.0 ∷ [])
            (ap is_some (ap (number_in wills) (sym number) ∙ none))
            ∙ ap (λ n. DropWill n ∷ []) (sym number) in
            let here : HaveNone next.wills =
            subst (λ changes. HaveNone (committed kept changes).wills) (sym drops)
            (gone kept.wills) in
            others next (noted_number noted s) refl (λ lacks. here)

lefts : (s : ℕ) (noted : NotedWills) (wills : List Bequest) → number_in wills s ≡ None
    → AllByRecursion (LeavesNone s) (flat_map (left_change noted) wills)
lefts s noted [] none = tt
lefts s noted (w ∷ wills) none =
    let parts = both (number_in wills s) (nat_eq w.session s) w.number none in
    one (is_noted noted w) (flat_map (left_change noted) wills) parts.1
    (lefts s noted wills parts.0)
  where
    both : (rest : Option ℕ) (b : Bool) (n : ℕ) → option_or rest (if b then Some n else None) ≡ None
        → (rest ≡ None) × (b ≡ false)
    both (Some m) b n none = absurd (cc none)
    both None true n none = absurd (cc none)
    both None false n none = (refl, refl)

    one : (b : Bool) (rest : List (Change (List ℕ))) → nat_eq w.session s ≡ false
        → AllByRecursion (LeavesNone s) rest
        → AllByRecursion (LeavesNone s) ((if b then []
        else LeaveWill w.session w.room (text_of (will_request w.patch)) ∷ []) ++ rest)
    one true rest apart all = all
    one false rest apart all = (apart, all)

-- if each will that is kept is noted, one is kept then only of a session that has one
pub only_theirs : (noted : NotedWills) (wills : List Bequest) (old new : Kept)
    → KeepsWills noted wills old new → AreAllNoted noted old → KeepsOnly wills new
only_theirs noted wills old new keeps all s none =
    let drops = flat_map (drop_change wills) noted in
    let left = flat_map (left_change noted) wills in
    ap (kept_of s) (keeps ∙ ap (λ kept. kept.wills) (committed_append old drops left))
    ∙ none_stays s (committed old drops) left (lefts s noted wills none)
    (dropped s wills none old noted (noted_number noted s) refl (all s))

-- each will that is kept is noted as a later run begins, and after each commit

pub noted_at_first : (kept : Kept) (noted : NotedWills) → AreNotedAsEarlier kept.wills noted
    → AreAllNoted noted kept
noted_at_first kept noted earlier s none = go (kept_of s kept.wills) (sym (earlier s) ∙ none)
  where
    go : (o : Option Will) → option_map (λ (will : Will). 2 ^ 64 - 1) o ≡ None → o ≡ None
    go None is = refl
    go (Some will) is = absurd (cc is)

pub noted_again : (kept : Kept) (noted : NotedWills) (wills : List Bequest)
    → NotesWills noted wills → KeepsOnly wills kept → AreAllNoted noted kept
noted_again kept noted wills notes only s none = only s (sym (notes s) ∙ none)
