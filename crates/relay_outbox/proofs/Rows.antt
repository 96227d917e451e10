-- The definitions computed for small outboxes.
use Rattle.std.specs.Prelude.{◌≡◌, true, false, [], ◌∷◌, refl}
use Rattle.relay_outbox.specs.Outbox.{contents, reply, patch, snapshot, nothing, empty, with_reply}
use Rattle.relay_outbox.specs.Outbox.{with_patch, folded, cleared, front_of, without_front}

module _ {R P : Type 0} (r s : R) (p q : P) where
  -- with a limit of two, two patches wait, the third folds them, and the fourth changes nothing
  waits : with_patch q (with_patch p (empty {R = R} 2)) ≡ contents [] (p ∷ q ∷ []) false 2
  waits = refl

  folds : with_patch p (with_patch q (with_patch p (empty {R = R} 2))) ≡ contents [] [] true 2
  folds = refl

  stays : with_patch q (contents {R = R} [] [] true 2) ≡ contents [] [] true 2
  stays = refl

  -- folding and clearing keep the replies
  keeps_replies : cleared (folded (with_reply s (with_reply r (empty {P = P} 2))))
      ≡ contents (r ∷ s ∷ []) [] false 2
  keeps_replies = refl

  -- replies come before patches, and these before the due snapshot
  reply_first : front_of (contents (r ∷ s ∷ []) (p ∷ []) false 2) ≡ reply r
  reply_first = refl

  patch_next : front_of (contents {R = R} [] (p ∷ q ∷ []) false 2) ≡ patch p
  patch_next = refl

  snapshot_last : front_of (contents {R = R} {P = P} [] [] true 2) ≡ snapshot
  snapshot_last = refl

  -- only the front is removed
  reply_goes : without_front (contents {P = P} (r ∷ s ∷ []) [] true 2) ≡ contents (s ∷ []) [] true 2
  reply_goes = refl

  patch_goes : without_front (contents {R = R} [] (p ∷ q ∷ []) false 2)
      ≡ contents [] (q ∷ []) false 2
  patch_goes = refl

  snapshot_goes : without_front (contents {R = R} {P = P} [] [] true 2) ≡ empty 2
  snapshot_goes = refl

  nothing_goes : front_of (empty {R = R} {P = P} 2) ≡ nothing
  nothing_goes = refl
