-- A connection whose request has its response asked for that request.
use Rattle.std.proofs.Common.{◌≡◌, ◌⊎◌, inl, inr, ℕ, List, Option, None, Some}
use Rattle.std.proofs.Common.{IfSome, IsTrue, Bool, true, false, ◌||◌, Global, String}
use Rattle.std.proofs.Common.{slice_get, length, drop, get_or, arith, add-zero, refl}
use Rattle.std.proofs.Common.{sym, subst, ap, ◌∙◌}
use Rattle.std.proofs.lemmas.List.{length-drop, get_or-drop}
use Rattle.std.proofs.lemmas.Option.{slice_get_within, get_or_from_slice_get}
use Rattle.relay_admin.specs.Admitted.{IsAdmitted}
use Rattle.relay_admin.specs.Route.{request}
use Rattle.relay_admin.specs.declared.answer.Ask.{Ask}
use Rattle.relay_admin.specs.declared.answer.Ask.TheVariants as ask
use Rattle.relay_admin.specs.declared.request.AdminRequest.{AdminRequest}
use Rattle.relay_admin.specs.declared.request.AdminRequest.TheVariants.{Open, Stop, Health, Metrics}
use Rattle.relay_admin.specs.declared.request.AdminRequest.TheVariants.{Rooms, Wanted}
use Rattle.relay_operator.specs.Connection.{Hears, Turns, TurnsBy}
use Rattle.relay_operator.specs.Port.{AsksAt, SomeAsks, is_stop, is_open}
use Rattle.relay_operator.specs.Request.{Answers, BeginsWith, asked_by}
use Rattle.relay_operator.specs.declared.admin_connection.AdminConnection.{AdminConnection}
use Rattle.relay_operator.specs.declared.admin_connection.Heard.TheVariants as heard
use Rattle.relay_operator.specs.declared.room_request.RoomRequest.{RoomRequest}
use Rattle.relay_operator.proofs.Heads.{has_head}
use Rattle.relay_operator.proofs.Noting.{given_back}

-- bytes whose answer is a request begin with a head that asks for it
begins_with : (bytes : List ℕ) (r : AdminRequest) → Answers bytes (ask.Request r)
    → BeginsWith (λ head. IsAdmitted head (request r)) bytes
begins_with bytes r is = record {
  has_head = has_head bytes (ask.Request r) (request r) is refl;
  says = λ head rest reads. (is.admits head rest (request r) reads).0 refl;
}

module _ {S : Type 0} (remaining : S → Option (List ℕ)) where
  heard_by : (contents : S → Option (List ℕ)) (reply : Option (String Global))
      (whole asked : Option RoomRequest) (answer : Ask) (old new : AdminConnection S)
      → TurnsBy reply whole asked remaining contents (heard.Answer answer) old new
      → Hears remaining (Some answer) old new
  heard_by contents (Some reply) whole asked answer old new turns = absurd turns
  heard_by contents None (Some whole) asked answer old new turns = absurd turns
  heard_by contents None None (Some asked) answer old new turns = absurd turns
  heard_by contents None None None answer old new turns = turns

  -- a connection whose turn gives an answer was heard
  pub heard_in : (contents : S → Option (List ℕ)) (answer : Ask) (old new : AdminConnection S)
      → Turns remaining contents (heard.Answer answer) old new
      → Hears remaining (Some answer) old new
  heard_in contents answer old new turns =
      heard_by contents old.reply (asked_by old.request) old.request.asked answer old new turns

  pub asks_served : (connections : List (AdminConnection S)) (index : ℕ)
      (c now : AdminConnection S) (given : Ask) (served : Option AdminRequest)
      → slice_get connections index ≡ Some c → Hears remaining (Some given) c now
      → IfSome served (λ r. given ≡ ask.Request r) → AsksAt remaining index served connections
  asks_served connections index c now given None at hears is = tt
  asks_served connections index c now given (Some r) at hears is =
      let all : Answers hears.read.request.bytes (ask.Request r) =
      subst (Answers hears.read.request.bytes) is
      (given_back given hears.read.request now.request hears.notes).0 in (
        c,
        at,
        record {
          taken = hears.receives.taken;
          rest = remaining hears.read.stream;
          first = hears.receives.first;
          head =
              subst (BeginsWith (λ head. IsAdmitted head (request r))) hears.receives.received
              (begins_with hears.read.request.bytes r all);
        },
      )

  -- The connection at an index is one of those before the turn, which is the next to have its turn.
  asks_among : (old now : List (AdminConnection S)) (index turn : ℕ) (r : AdminRequest)
      → drop index now ≡ drop turn old → AsksAt remaining index (Some r) now
      → SomeAsks remaining r old
  asks_among old now index turn r same (c, at, asks) =
      let within = slice_get_within now index c at in (
        turn,
        c,
        omega (arith, within, ap length same, length-drop index now, length-drop turn old),
        ap (λ n. get_or old n c) (sym (add-zero turn)) ∙ sym (get_or-drop turn old 0 c)
            ∙ ap (λ l. get_or l 0 c) (sym same) ∙ get_or-drop index now 0 c
            ∙ ap (λ n. get_or now n c) (add-zero index) ∙ get_or_from_slice_get now index c c at,
        asks,
      )

either : (b t : Bool) → IsTrue (b || t) → IsTrue b ⊎ IsTrue t
either true t holds = inl holds
either false t holds = inr holds

pub stop_only : (served : Option AdminRequest) → IsTrue (is_stop served) → served ≡ Some Stop
stop_only (Some Stop) is = refl
stop_only None is = cc is
stop_only (Some Open) is = cc is
stop_only (Some Health) is = cc is
stop_only (Some Metrics) is = cc is
stop_only (Some Rooms) is = cc is
stop_only (Some Wanted) is = cc is

pub open_only : (served : Option AdminRequest) → IsTrue (is_open served) → served ≡ Some Open
open_only (Some Open) is = refl
open_only None is = cc is
open_only (Some Stop) is = cc is
open_only (Some Health) is = cc is
open_only (Some Metrics) is = cc is
open_only (Some Rooms) is = cc is
open_only (Some Wanted) is = cc is

-- whoever made the request had a turn before, or has it now
pub asks_next : {S : Type 0} (remaining : S → Option (List ℕ)) (r : AdminRequest)
    (is_it : Option AdminRequest → Bool)
    → ((served : Option AdminRequest) → IsTrue (is_it served) → served ≡ Some r)
    → (old now : List (AdminConnection S)) (index turn : ℕ) (served : Option AdminRequest)
    (was : Bool) → drop index now ≡ drop turn old → AsksAt remaining index served now
    → (IsTrue was → SomeAsks remaining r old) → IsTrue (was || is_it served)
    → SomeAsks remaining r old
asks_next remaining r is_it only old now index turn served was same asks before holds =
    elim (either was (is_it served) holds) [
      | inl earlier ↦ before earlier
      | inr is ↦
          asks_among remaining old now index turn r same
          (subst (λ s. AsksAt remaining index s now) (only served is) asks)
    ]
