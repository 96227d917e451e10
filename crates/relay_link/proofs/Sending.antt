-- The bytes that a turn of a link gives to its stream, by the answers of one list of steps.
use Rattle.std.proofs.Common.{◌≡◌, ℕ, List, [], Option, ◌⊎◌, inl, inr}
use Rattle.relay_hub.specs.State.{State as Hub}
use Rattle.relay_hub.specs.declared.event.Event.{Event}
use Rattle.relay_link.specs.Asks.{asked_by}
use Rattle.relay_link.specs.EntryRules.{Denials, none_denied}
use Rattle.relay_link.specs.Follows.{Follows, at, drawn}
use Rattle.relay_link.specs.Replies.{Replies}
use Rattle.relay_link.specs.Stage.{stage_of, session_of}
use Rattle.relay_link.specs.Tells.{Told, Answered, WhileOpen}
use Rattle.relay_link.specs.declared.stage.Stage.TheVariants as stage
use Rattle.relay_link.specs.declared.state.State.{State as Link}
use Rattle.relay_link.specs.declared.state.State.TheVariants.{Head, Replying, Open, Closing, Gone}
use Rattle.relay_link.specs.Sends.{writes, reads, FramesIn, Sends}

module _ {S : Type 0} (remaining contents : S → Option (List ℕ)) (hub next : Hub)
    (events : List Event) where
  -- the events of a turn, one step after another, by whose answers it sends what it sends
  pub record SendingBy (was is : Link S) : Type 0 where
    pub follows : Follows (asked_by remaining was) (at hub (session_of was) [])
        (at next (session_of is) events)
    pub sends : Sends remaining contents hub was events is (drawn follows)

  -- what a turn that writes says of its frames, or one that reads
  abbrev pub Framed : Link S → Link S → Type 0
  Framed was is =
      WhileOpen (Told contents) hub [] was next events is
      ⊎ WhileOpen (Answered remaining contents) hub [] was next events is

  -- a turn that does not both find and leave its link open gives its stream a reply alone
  module _ {was is : Link S} (denied : Denials)
      (replies : Replies remaining contents denied was is) where
    unframed : (texts : List (List ℕ)) → FramesIn remaining contents hub was events is texts
        → Sends remaining contents hub was events is texts
    unframed texts frames = record { denied = denied; replies = replies; frames = frames }

  -- for an open link the answers are those by which its texts were framed
  pub sending_by : (was is : Link S) (denied : Denials)
      → Follows (asked_by remaining was) (at hub (session_of was) [])
      (at next (session_of is) events)
      → Framed was is → Replies remaining contents denied was is → SendingBy was is
  sending_by (Open old s) (Open new t) denied follows (inl told) replies = record {
    follows = told.follows;
    sends = record {
      denied = denied;
      replies = replies;
      frames = writes told.framed;
    };
  }
  sending_by (Open old s) (Open new t) denied follows (inr answered) replies = record {
    follows = answered.told.follows;
    sends = record {
      denied = denied;
      replies = replies;
      frames = reads answered.heard answered.reads answered.told.framed;
    };
  }
  sending_by (Open old s) (Head stream bytes) denied follows framed replies =
      record { follows = follows; sends = unframed denied replies (drawn follows) tt }
  sending_by (Open old s) (Replying stream reply) denied follows framed replies =
      record { follows = follows; sends = unframed denied replies (drawn follows) tt }
  sending_by (Open old s) (Closing socket left) denied follows framed replies =
      record { follows = follows; sends = unframed denied replies (drawn follows) tt }
  sending_by (Open old s) Gone denied follows framed replies =
      record { follows = follows; sends = unframed denied replies (drawn follows) tt }
  sending_by (Head stream bytes) is denied follows framed replies =
      record { follows = follows; sends = unframed denied replies (drawn follows) tt }
  sending_by (Replying stream reply) is denied follows framed replies =
      record { follows = follows; sends = unframed denied replies (drawn follows) tt }
  sending_by (Closing socket left) is denied follows framed replies =
      record { follows = follows; sends = unframed denied replies (drawn follows) tt }
  sending_by Gone is denied follows framed replies =
      record { follows = follows; sends = unframed denied replies (drawn follows) tt }

  -- a link that is gone has no stream to speak of
  pub gone_framed : (was is : Link S) → stage_of is ≡ stage.Gone → Framed was is
  gone_framed (Open old s) Gone gone = inl tt
  gone_framed (Open old s) (Head stream bytes) gone = absurd (cc gone)
  gone_framed (Open old s) (Replying stream reply) gone = absurd (cc gone)
  gone_framed (Open old s) (Open new t) gone = absurd (cc gone)
  gone_framed (Open old s) (Closing socket left) gone = absurd (cc gone)
  gone_framed (Head stream bytes) is gone = inl tt
  gone_framed (Replying stream reply) is gone = inl tt
  gone_framed (Closing socket left) is gone = inl tt
  gone_framed Gone is gone = inl tt

  replies_gone : (was : Link S) → Replies remaining contents none_denied was Gone
  replies_gone (Head stream bytes) = tt
  replies_gone (Replying stream reply) = tt
  replies_gone (Open socket s) = tt
  replies_gone (Closing socket left) = tt
  replies_gone Gone = tt

  pub gone_replies : (was is : Link S) → stage_of is ≡ stage.Gone
      → Replies remaining contents none_denied was is
  gone_replies was (Head stream bytes) gone = absurd (cc gone)
  gone_replies was (Replying stream reply) gone = absurd (cc gone)
  gone_replies was (Open socket s) gone = absurd (cc gone)
  gone_replies was (Closing socket left) gone = absurd (cc gone)
  gone_replies was Gone gone = replies_gone was
