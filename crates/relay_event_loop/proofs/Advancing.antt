-- Lemmas about `Advances`: one after another, and that the hub goes on standing for its log.
use Rattle.std.proofs.Common.{◌≡◌, ℕ, List, Option, refl, ◌∙◌}
use Rattle.relay_hub.specs.Log.{Log}
use Rattle.relay_hub.specs.Stands.{StandsFor, EachHoldsPresent, EachIsAtNamed}
use Rattle.relay_hub.specs.State.{State}
use Rattle.relay_hub.specs.declared.config.HubConfig.{HubConfig}
use Rattle.relay_hub.proofs.Shedding.{shed_stands}
use Rattle.relay_hub.proofs.Stands.{step_stands}
use Rattle.relay_hub.proofs.Watchers.{exactly_held, each_held}
use Rattle.relay_link.specs.Follows.{Point, Rooms, Follows, stays as none, makes, with_events}
use Rattle.relay_event_loop.specs.Advances.{Links, Advances, stays, turns, adds, removes, visits}
use Rattle.relay_event_loop.specs.Advances.{sheds, acts, with_turns}
use Rattle.relay_event_loop.specs.Rounds.{Rounds}
use Rattle.relay_event_loop.proofs.Owners.{connected_after}

module _ {S : Type 0} {remaining contents : S → Option (List ℕ)} where
  -- links are the same if each key's is
  pub advances_same : {hub next : State} {old held new : Links S}
      → Advances remaining contents hub old next held → ((key : ℕ) → new key ≡ held key)
      → Advances remaining contents hub old next new
  advances_same (stays was) same = stays (λ key. same key ∙ was key)
  advances_same (turns before key events had has others follows received passes sends) same =
      turns before key events had (same key ∙ has) (λ other apart.
      same other ∙ others other apart) follows received passes sends
  advances_same (adds before key had has others fresh) same =
      adds before key had (same key ∙ has) (λ other apart. same other ∙ others other apart) fresh
  advances_same (removes before key had has others bare) same =
      removes before key had (same key ∙ has) (λ other apart. same other ∙ others other apart) bare
  advances_same (visits before room access text visit made) same =
      visits (advances_same before same) room access text visit made
  advances_same (sheds before) same = sheds (advances_same before same)
  advances_same (acts before event answer of_house step) same =
      acts (advances_same before same) event answer of_house step

  -- one after the other
  pub advances_then : {hub mid next : State} {old held new : Links S}
      → Advances remaining contents hub old mid held → Advances remaining contents mid held next new
      → Advances remaining contents hub old next new
  advances_then before (stays same) = advances_same before same
  advances_then before (turns after key events had has others follows received passes sends) =
      turns (advances_then before after) key events had has others follows received passes sends
  advances_then before (adds after key had has others fresh) =
      adds (advances_then before after) key had has others fresh
  advances_then before (removes after key had has others bare) =
      removes (advances_then before after) key had has others bare
  advances_then before (visits after room access text visit made) =
      visits (advances_then before after) room access text visit made
  advances_then before (sheds after) = sheds (advances_then before after)
  advances_then before (acts after event answer of_house step) =
      acts (advances_then before after) event answer of_house step

-- after a link's events the hub stands for the log with their entries
follows_stand : (b : HubConfig) (E : Log) {rooms : Rooms} {p q : Point} → StandsFor b E p.hub
    → (follows : Follows rooms p q) → StandsFor b (with_events follows E) q.hub
follows_stand b E stands none = stands
follows_stand b E stands (makes {q = q} {hub = hub} event answer before own step) =
    step_stands b (with_events before E) q.hub hub event answer (follows_stand b E stands before)
    step

module _ {S : Type 0} {remaining contents : S → Option (List ℕ)} where
  -- the same after several links' events
  pub advances_stand : (b : HubConfig) (E : Log) {hub next : State} {old new : Links S}
      → StandsFor b E hub → (advances : Advances remaining contents hub old next new)
      → StandsFor b (with_turns advances E) next
  advances_stand b E stands (stays same) = stands
  advances_stand b E stands (turns before key events had has others follows received passes sends) =
      follows_stand b (with_turns before E) (advances_stand b E stands before) follows
  advances_stand b E stands (adds before key had has others fresh) =
      advances_stand b E stands before
  advances_stand b E stands (removes before key had has others bare) =
      advances_stand b E stands before
  advances_stand b E stands (visits before room access text visit made) =
      follows_stand b (with_turns before E) (advances_stand b E stands before) made.opens.follows
  advances_stand b E stands (sheds {mid = mid} before) =
      shed_stands b (with_turns before E) mid (advances_stand b E stands before)
  advances_stand b E stands (acts {mid = mid} {next = next} before event answer of_house step) =
      step_stands b (with_turns before E) mid next event answer (advances_stand b E stands before)
      step

-- and each client that watches holds what is so
module _ {S : Type 0} {remaining contents : S → Option (List ℕ)} {hub next : State}
    {old new : Links S}
    (advances : Advances remaining contents hub old next new) (b : HubConfig) (E : Log)
    (stands : StandsFor b E hub) where
  pub exact_after : EachHoldsPresent b (with_turns advances E) next
  exact_after s name g x w there is watches =
      exactly_held b (with_turns advances E) next s name g x w (advances_stand b E stands advances)
      there is watches

  pub each_after : EachIsAtNamed b (with_turns advances E) next
  each_after s name g x w before after m there is watches split =
      each_held b (with_turns advances E) next s name g x w (advances_stand b E stands advances)
      there is watches before after m split

-- what follows from turns of links
pub
    rounds_of : {S : Type 0} {remaining contents : S → Option (List ℕ)} {hub next : State}
    {old new : Links S} → Advances remaining contents hub old next new
    → Rounds remaining contents hub old next new
rounds_of advances = record {
  advances = advances;
  stands = λ b E stands. advances_stand b E stands advances;
  exact = λ b E stands. exact_after advances b E stands;
  each = λ b E stands. each_after advances b E stands;
  connected = connected_after advances;
}

pub no_rounds : {S : Type 0} {remaining contents : S → Option (List ℕ)} {hub : State}
    {links : Links S} → Rounds remaining contents hub links hub links
no_rounds {remaining = remaining} {contents = contents} {hub = hub} {links = links} =
    let none : Advances remaining contents hub links hub links = stays (λ key. refl) in
    record {
      advances = none;
      stands = λ b E stands. stands;
      exact = λ b E stands. exact_after none b E stands;
      each = λ b E stands. each_after none b E stands;
      connected = λ was. was;
    }
