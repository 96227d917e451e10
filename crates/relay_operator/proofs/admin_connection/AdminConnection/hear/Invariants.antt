-- All that was received so far was answered, and is only a part of a request.
use Rattle.relay_operator.specs.Connection.{IsUnfinished, Receives}
use Rattle.relay_operator.proofs.admin_connection.AdminConnection.hear.Given as goal

abbrev pub invariant-loop-read : goal.invariant-loop-read
invariant-loop-read g l = record {
  receives : Receives g.S.Read.remaining l.initial.self l.self;
  unfinished : IsUnfinished l.initial.self.request l.self.request;
}
