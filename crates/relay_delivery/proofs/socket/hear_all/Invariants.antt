-- After each pass one more text was heard.
use Rattle.std.proofs.Common.{◌≡◌, ◌++◌, ℕ, List, length}
use Rattle.relay_delivery.specs.Socket.{Listens, FitFrames}
use Rattle.relay_link.specs.Frames.{text_frames}
use Rattle.relay_delivery.specs.Texts.{HearsTexts}
use Rattle.relay_delivery.proofs.Ahead.{Ahead}
use Rattle.relay_delivery.proofs.socket.hear_all.Given as goal

abbrev pub invariant-loop : goal.invariant-loop
invariant-loop g l = record {
  ahead : (texts : List (List ℕ)) (rest : List ℕ) → length texts ≡ l.count → FitFrames texts
      → Listens g.S.Read.remaining l.initial.socket (text_frames texts ++ rest)
      → Ahead g.S.Read.remaining l.initial.follower l.follower texts rest l.counter l.socket;
  only : HearsTexts l.initial.follower l.follower;
}
