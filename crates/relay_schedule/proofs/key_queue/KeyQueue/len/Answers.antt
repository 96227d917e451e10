-- No key stands in a queue twice, since it stands there as often as its flag says.
use Rattle.std.proofs.Common.{◌≡◌, ◌∙◌, ap, length, subst}
use Rattle.relay_schedule.specs.Queue.{IsQueue, served}
use Rattle.relay_schedule.specs.Representation.{keys_of}
use Rattle.relay_schedule.proofs.Flags.{kept_is_queue}
use Rattle.relay_schedule.proofs.Serving.{once_before_twice}
use Rattle.relay_schedule.proofs.key_queue.KeyQueue.len.Goals as goal

pub returns-clause-kept : goal.returns-clause-kept
returns-clause-kept c =
    subst IsQueue c.self.view_is (kept_is_queue c.self.inside c.self.invariant)

pub returns-clause-once_before_twice : goal.returns-clause-once_before_twice
returns-clause-once_before_twice c =
    let queue = keys_of c.self.inside in
    let count : c.len.result ≡ length queue.keys = c.len.ensures ∙ c.self.inside.keys.ok.0 in
    subst (λ queue. served c.len.result queue ≡ queue.keys) c.self.view_is
    (ap (λ n. served n queue) count
    ∙ once_before_twice queue (kept_is_queue c.self.inside c.self.invariant))
