-- The request of a session by a text.
use Rattle.std.specs.Prelude.{◌≡◌, ℕ, List, Some}
use Rattle.relay_proto.specs.Request.{request_of_text}
use Rattle.relay_tree.specs.declared.budget.Budget.{Budget}
use Rattle.relay_hub.specs.Admitted.{admitted}
use Rattle.relay_hub.specs.Call.{HasSpace}
use Rattle.relay_hub.specs.Caller.{IsCaller}
use Rattle.relay_hub.specs.Session.{Session}
use Rattle.relay_hub.specs.State.{session_in}
use Rattle.relay_hub.specs.declared.asked.Asked.{Asked}

-- session s asks this by a text, and a reply fits into its outbox
pub record IsAskedBy (budget : Budget) (sessions : List Session) (s : ℕ) (text : List ℕ)
    (asked : Asked) : Type 0 where
  pub number : asked.caller.number ≡ s
  pub there : IsCaller sessions asked.caller
  pub space : HasSpace sessions s
  -- the request, if the session may ask it
  pub request : (x : Session) → session_in sessions s ≡ Some x
      → admitted budget x.access (request_of_text text) ≡ asked.request
