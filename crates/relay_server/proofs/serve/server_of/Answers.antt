-- The number that the options give for output is the limit of the server that is made.
use Rattle.std.proofs.Common.{◌∙◌, ap}
use Rattle.relay_event_loop.specs.Limits.{output_limit_of}
use Rattle.relay_server.proofs.serve.server_of.Goals as goal
use Rattle.relay_server.proofs.serve.server_of.Goals.{then-options, else-options}

pub returns-else-options-2-clause-output : goal.returns-else-options-2-clause-output
returns-else-options-2-clause-output g c =
    let made = c.bounded-server.ensures.output ∙ c.bytes_of-most_output.ensures in
    elim c.if-options.branch [
      | then-options w ↦ ap output_limit_of w.server-is ∙ w.forget_rooms.ensures.output ∙ made
      | else-options w ↦ ap output_limit_of w.server-is ∙ made
    ]

pub returns-then-options-2-clause-output : goal.returns-then-options-2-clause-output
returns-then-options-2-clause-output g c =
    let made = c.bounded-server.ensures.output ∙ c.bytes_of-most_output.ensures in
    c.set_entrance.ensures.output
    ∙ elim c.if-options.branch [
      | then-options w ↦ ap output_limit_of w.server-is ∙ w.forget_rooms.ensures.output ∙ made
      | else-options w ↦ ap output_limit_of w.server-is ∙ made
    ]
