-- A run of `Following` is a run of its follower.
use Rattle.relay_script.specs.declared.follow.Following.{Following}
use Rattle.relay_script.specs.Follow.{Answers}
use Rattle.relay_script.proofs.RunLemmas.{done_seen, stopped_seen}
use Rattle.relay_script.proofs.complete_run.run_follow.Goals as goal

pub returns-clause-done : goal.returns-clause-done
returns-clause-done g c =
    done_seen _ Answers (λ (s : Following). s.follower) (λ _ _ _ _ _ h.
    h) c.run_lines.result c.new.result c.new.ensures _ _ _ c.run_lines.ensures.done

pub returns-clause-stopped : goal.returns-clause-stopped
returns-clause-stopped g c =
    stopped_seen _ Answers (λ (s : Following). s.follower) (λ _ _ _ _ _ h.
    h) c.run_lines.result c.new.result c.new.ensures _ _ _ c.run_lines.ensures.stopped
