-- The audiences that were told of the newest edit so far, as one more is told.
use Rattle.std.proofs.Common.{◌≡◌, ◌∙◌, ◌+◌, ◌-◌, ◌≤◌, ℕ, false, List, [], ◌∷◌, ◌++◌, length}
use Rattle.std.proofs.Common.{arith, refl}
use Rattle.std.proofs.lemmas.List.{length-map}
use Rattle.relay_audience.specs.Audiences.{AreExact}
use Rattle.relay_audience.specs.declared.audience.Audience.{Audience}
use Rattle.relay_history.specs.History.{Reaches, changes_since}
use Rattle.relay_patch.specs.Change.{Leads}
use Rattle.relay_room.specs.Room.{State as Room, IsRoom, revision}
use Rattle.relay_tree.specs.Document.{Document}
use Rattle.relay_view.specs.View.{View}
use Rattle.relay_hub.specs.Session.{Session}
use Rattle.relay_hub.specs.State.{numbers}
use Rattle.relay_hub.specs.Step.{making}
use Rattle.relay_hub.specs.Telling.{is_one_of, OfNewest, ToldOne, ToldThose}
use Rattle.relay_hub.specs.Told.{IsTold}
use Rattle.relay_hub.specs.Watched.{AreAudiencesOf}
use Rattle.relay_hub.specs.declared.telling.Telling.{Telling}
use Rattle.relay_hub.proofs.Audiences.{told_more, told_none, told_views}
use Rattle.relay_hub.proofs.Giving.{among_within}
use Rattle.relay_hub.proofs.Visited.{audiences_stay}

-- The sessions that watch one of these views were told, and the others not yet.
pub record SoFar (room : Room) (audiences : List Audience) (first now : Telling)
    (views : List View) (xs ys : List Session) (n : ℕ) : Type 0 where
  pub notified : OfNewest room (λ d changes. ToldThose d room (making first.most changes room)
      first.left now.left views xs ys n)
  pub agree : AreAudiencesOf audiences ys
  pub most : now.most ≡ first.most
  pub told : IsTold first.told now.told xs ys

module _ (room : Room) (audiences : List Audience) (first : Telling) (xs : List Session) where
  pub none_yet : AreAudiencesOf audiences xs → SoFar room audiences first first [] xs xs 0
  none_yet agree = record {
    notified = λ d changes since leads.
        told_none d room (making first.most changes room) first.left xs;
    agree = agree;
    most = refl;
    told = λ t absent. (absent, refl);
  }

  module _ (is : IsRoom room) (reaches : Reaches room.history (revision room - 1))
      (exact : AreExact audiences) (now after : Telling) (views : List View) (v : View)
      (ys zs : List Session) (n m : ℕ) (before : SoFar room audiences first now views xs ys n)
      (fresh : is_one_of views v ≡ false)
      (one : OfNewest room (λ d changes.
      ToldOne d room (making now.most changes room) now.left after.left v ys zs m)) where
    next_told : OfNewest room (λ d changes. ToldThose d room (making first.most changes room)
        first.left after.left (views ++ v ∷ []) xs zs (n + m))
    next_told d changes since leads =
        told_more d room (making first.most changes room) first.left now.left after.left views v xs
        ys zs n m fresh (before.notified d changes since leads)
        (rw before.most at (one d changes since leads))

    -- some document led to the present one
    led : (d : Document) × Leads d (changes_since (revision room - 1) room.history) room.document
    led = is.led (revision room - 1) reaches

    pub next_within : n + m ≤ length xs
    next_within =
        let all = next_told led.0 (changes_since (revision room - 1) room.history) refl led.1 in
        let few = among_within all.short (numbers xs) in
        let long = length-map xs (λ (x : Session). x.number) in
        omega (arith, all.count, few, long)

    pub one_more : after.most ≡ now.most → IsTold now.told after.told ys zs
        → SoFar room audiences first after (views ++ v ∷ []) xs zs (n + m)
    one_more most told =
        let changes = changes_since (revision room - 1) room.history in
        let new = one led.0 changes refl led.1 in
        record {
          notified = next_told;
          agree =
              audiences_stay audiences ys before.agree exact zs new.same
              (told_views led.0 room (making now.most changes room) now.left after.left v ys zs m
              new);
          most = most ∙ before.most;
          told =
              λ t absent.
              let last = told t absent in
              let earlier = before.told t last.0 in
              (earlier.0, last.1 ∙ earlier.1);
        }
