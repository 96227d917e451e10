-- After each pass the texts of the frames before `start` were heard.
use Rattle.std.proofs.Common.{◌≡◌, ◌≤◌, ℕ, List, length, drop}
use Rattle.relay_delivery.specs.Receiving.{listening}
use Rattle.relay_link.specs.Frames.{text_frames}
use Rattle.relay_delivery.specs.Texts.{HearsTexts}
use Rattle.relay_delivery.proofs.Progress.{HasHeard}
use Rattle.relay_delivery.proofs.receiving.receive_all.Given as goal

abbrev pub invariant-loop : goal.invariant-loop
invariant-loop l = record {
  inside : l.start ≤ length l.frames;
  same_length : length l.frames ≡ length l.initial.frames;
  advances : l.counter ≤ l.start;
  hears : (texts : List (List ℕ)) → l.initial.frames ≡ text_frames texts
      → (l.context ≡ listening)
      × HasHeard l.initial.follower l.follower texts (drop l.start l.frames);
  only : HearsTexts l.initial.follower l.follower;
}
