-- The response that answers a request that asks nothing of a room.
use Rattle.std.specs.Prelude.{◌≡◌, ⊤, ℕ, Bool, true, false, List, map, codes, string_bytes}
use Rattle.json.specs.Print.{print}
use Rattle.relay_admin.specs.Metrics.{metrics_text}
use Rattle.relay_admin.specs.Responses.{response_text}
use Rattle.relay_admin.specs.Rooms.{names_listed}
use Rattle.relay_admin.specs.declared.answer.Ask.{Ask}
use Rattle.relay_admin.specs.declared.answer.Ask.TheVariants as ask
use Rattle.relay_admin.specs.declared.metrics.Metrics.{Metrics}
use Rattle.relay_admin.specs.declared.request.AdminRequest.{AdminRequest}
use Rattle.relay_admin.specs.declared.request.AdminRequest.TheVariants as request
use Rattle.relay_admin.specs.declared.response.Response.{Response}
use Rattle.relay_admin.specs.declared.response.Response.TheVariants as response
use Rattle.relay_operator.specs.Counters.{is_short_of_memory}
use Rattle.relay_operator.specs.Numbers.{AreNumbers}
use Rattle.relay_operator.specs.Rows.{rooms_listed}
use Rattle.relay_operator.specs.declared.admin_view.AdminView.{AdminView}
use Rattle.relay_operator.specs.declared.counters.Counters.{Counters}

-- the relay does not serve its clients if it is closed, or else if memory was refused of late
abbrev pub AnswersHealth : Bool → Bool → Response → Type 0
AnswersHealth true short (response.Unhealthy why) = why.now ≡ codes "closed\n"
AnswersHealth false true (response.Unhealthy why) =
    why.now ≡ codes "memory was refused within the last minute\n"
AnswersHealth false false response.Healthy = ⊤
AnswersHealth closed short reply = ⊥

-- the response to a request, by what is seen of a server and counted of its log
abbrev pub AnswersRequest : AdminView → Counters → AdminRequest → Response → Type 0
AnswersRequest view counters request.Health reply =
    AnswersHealth view.is_closed (is_short_of_memory counters) reply
AnswersRequest view counters request.Metrics (response.Metrics text) =
    (m : Metrics) × AreNumbers view counters m × (text.now ≡ metrics_text m)
AnswersRequest view counters request.Rooms (response.Rooms text) =
    text.now ≡ print (rooms_listed view)
AnswersRequest view counters request.Wanted (response.Wanted text) =
    text.now ≡ print (names_listed (map string_bytes view.wanted.now))
AnswersRequest view counters request.Open reply = reply ≡ response.Opened
AnswersRequest view counters request.Stop reply = reply ≡ response.Stopping
AnswersRequest view counters r reply = ⊥

-- the text of that response
abbrev pub IsResponse : AdminView → Counters → AdminRequest → List ℕ → Type 0
IsResponse view counters r text =
    (reply : Response) × AnswersRequest view counters r reply × (text ≡ response_text reply)

-- the response to any answer that asks nothing of a room that can be
abbrev pub AnswersAsk : AdminView → Counters → Ask → List ℕ → Type 0
AnswersAsk view counters (ask.Request r) text = IsResponse view counters r text
AnswersAsk view counters (ask.Refused fault) text = text ≡ response_text (response.Refused fault)
AnswersAsk view counters asked text = text ≡ response_text response.NoRoom
