-- The name alone was added.
use Rattle.std.proofs.Common.{◌≡◌, ◌∙◌, ap, sym, true, string_bytes}
use Rattle.std.specs.List.{list_any}
use Rattle.std.specs.Str.{bytes_eq}
use Rattle.relay_link.specs.Entrance.{lets_in}
use Rattle.relay_link.proofs.Entering.{others_stay}
use Rattle.relay_link.proofs.entrance.Entrance.admit.Goals as goal
use Rattle.relay_link.proofs.entrance.Entrance.admit.Goals.{in-Ok, in-Err}

pub returns-clause-others : goal.returns-clause-others
returns-clause-others c =
    let same : string_bytes c.in_ok-name.name ≡ c.args.room.now = c.in_ok-name.ensures.ok in
    elim c.match-insert.branch [
      | in-Ok w ↦ λ name apart.
          others_stay (string_bytes c.in_ok-name.name) c.in-Only.names c.insert.new.self true
          w.in-Ok.ensures.updates name (λ e. apart (e ∙ same))
          ∙ sym (ap (λ e. lets_in e name) c.in-Only.is)
      | in-Err w ↦ λ name apart.
          ap (λ keys. list_any (λ k. bytes_eq name (string_bytes k)) keys) w.in-Err.ensures.err
          ∙ sym (ap (λ e. lets_in e name) c.in-Only.is)
    ]
