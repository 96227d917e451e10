-- The responses to requests that ask nothing of a room.
use Rattle.std.proofs.Common.{◌≡◌, string_bytes, String, Global, Result, Ok, Err, IfOk, sym, subst}
use Rattle.relay_admin.specs.Responses.{response_text}
use Rattle.relay_admin.specs.declared.request.AdminRequest.{AdminRequest}
use Rattle.relay_admin.specs.declared.response.Response.{Response}
use Rattle.relay_operator.specs.Response.{AnswersRequest, IsResponse}
use Rattle.relay_operator.specs.declared.admin_view.AdminView.{AdminView}
use Rattle.relay_operator.specs.declared.counters.Counters.{Counters}

-- a text of a response that answers a request
pub is_response : {E : Type 0} (view : AdminView) (counters : Counters) (r asked : AdminRequest)
    (reply : Response) (made : Result (String Global) E) → r ≡ asked
    → AnswersRequest view counters asked reply
    → IfOk made (λ text. string_bytes text ≡ response_text reply)
    → IfOk made (λ text. IsResponse view counters r (string_bytes text))
is_response view counters r asked reply (Ok text) same answers is =
    (reply, subst (λ a. AnswersRequest view counters a reply) (sym same) answers, is)
is_response view counters r asked reply (Err fault) same answers is = tt
