-- The acts of other sessions leave a client where it is.
use Rattle.std.proofs.Common.{◌≡◌, ℕ, ◌==◌, Bool, true, false, ◌∷◌, Option, None, arith}
use Rattle.std.proofs.Common.{if◌then◌else◌}
use Rattle.std.proofs.lemmas.Bool.Decides.{nat_tests}
use Rattle.relay_hub.proofs.Stands.{step_stands}
use Rattle.relay_hub.specs.Log.{Log, Watching, entry, watching}
use Rattle.relay_hub.specs.State.{State}
use Rattle.relay_hub.specs.Step.{Step}
use Rattle.relay_hub.specs.declared.config.HubConfig.{HubConfig}
use Rattle.relay_hub.specs.declared.event.Answer.{Answer}
use Rattle.relay_hub.specs.declared.event.Answer.TheVariants.{Opened, Heard, Drawn, Closed}
use Rattle.relay_hub.specs.declared.event.Event.{Event}
use Rattle.relay_hub.specs.declared.event.Event.TheVariants.{Open, Receive, Draw, Close}
use Rattle.relay_hub.specs.declared.event.Heard.TheVariants.{Answered}
use Rattle.relay_proto.specs.Client.{Client}
use Rattle.relay_delivery.specs.Turn.{Tracks, KeepsUp, IsOthers}

tracks_unless : (c : Client) (ends : Bool) (o : Option Watching) → Tracks c o
    → Tracks c (if ends then None else o)
tracks_unless c true o before = tt
tracks_unless c false o before = before

tracks_on : (b : HubConfig) (E : Log) (s : ℕ) (c : Client) (event : Event) (answer : Answer)
    → IsOthers s event → Tracks c (watching b E s)
    → Tracks c (watching b (entry event answer ∷ E) s)
tracks_on b E s c (Open name access) (Opened o) others before =
    tracks_unless c (o.session == s) (watching b E s) before
tracks_on b E s c (Close t) Closed others before = tracks_unless c (t == s) (watching b E s) before
tracks_on b E s c (Receive t text) (Heard (Answered short)) others before =
    let apart : (t == s) ≡ false = grind (arith, nat_tests, others) in
    rw apart before
tracks_on b E s c (Draw t) (Drawn text) others before =
    let apart : (t == s) ≡ false = grind (arith, nat_tests, others) in
    rw apart before
tracks_on b E s c _ _ others before = before

-- after an event of another session, and after one that opens or closes any session, a client still
-- keeps up
pub others_stay : (b : HubConfig) (E : Log) (old new : State) (s : ℕ) (c : Client) (event : Event)
    (answer : Answer) → KeepsUp b E old s c → IsOthers s event → Step old event answer new
    → KeepsUp b (entry event answer ∷ E) new s c
others_stay b E old new s c event answer before others step = record {
  stands = step_stands b E old new event answer before.stands step;
  tracks = tracks_on b E s c event answer others before.tracks;
}
