-- The end of each job.
use Rattle.std.proofs.Common.{None, refl, subst}
use Rattle.relay_hub.specs.declared.config.HubConfig.{HubConfig}
use Rattle.relay_script.specs.Follow as follow
use Rattle.relay_script.specs.Script.{HubAnswers, new_stage}
use Rattle.relay_server.specs.Jobs.{Ends}
use Rattle.relay_server.proofs.JobLemmas.{JobEnds-at, Ends-limited, Ends-free, no_limits, untouched}
use Rattle.relay_server.proofs.jobs.carry_out.Goals as goal

pub returns-in-Script : goal.returns-in-Script
returns-in-Script g c =
    let input = g.R.Read.remaining c.args.reader.now in
    let old = g.W.Write.contents c.args.writer.now in
    let left = g.R.Read.remaining c.run_script.new.reader in
    let new = g.W.Write.contents c.run_script.new.writer in
    let run = c.run_script in
    let same =
    untouched run.result g.R.Read.remaining g.W.Write.contents _ _ _ _
    run.ensures.untouched in
    JobEnds-at _ _ _ input left old new c.in-Script.is (
      run.result,
      c.report.ensures.status,
      rw c.config_of.ensures at run.ensures.bad_limit,
      subst (λ (config : HubConfig).
          Ends HubAnswers (new_stage config) run.result input left old new) c.config_of.ensures
          (Ends-limited HubAnswers (new_stage c.config_of.result) input left old new run.result
          run.ensures.done run.ensures.read run.ensures.stopped same),
    )

pub returns-in-Follow : goal.returns-in-Follow
returns-in-Follow g c =
    let input = g.R.Read.remaining c.args.reader.now in
    let old = g.W.Write.contents c.args.writer.now in
    let left = g.R.Read.remaining c.run_follow.new.reader in
    let new = g.W.Write.contents c.run_follow.new.writer in
    let run = c.run_follow in
    JobEnds-at _ _ _ input left old new c.in-Follow.is (
      run.result,
      c.report-in-Follow.ensures.status,
      no_limits run.result run.ensures.limits,
      Ends-free follow.Answers None input left old new run.result run.ensures.done run.ensures.read
          run.ensures.stopped run.ensures.limits,
    )

pub returns-in-Loop : goal.returns-in-Loop
returns-in-Loop g c =
    let input = g.R.Read.remaining c.args.reader.now in
    let old = g.W.Write.contents c.args.writer.now in
    let ran = c.run_loop-ended in
    let left = g.R.Read.remaining ran.new.reader in
    let new = g.W.Write.contents ran.new.writer in
    JobEnds-at _ _ _ input left old new c.in-Loop.is (
      ran.result,
      c.report_sockets.ensures,
      ran.ensures.bad_limit,
      ran.ensures.ends,
    )

pub returns-in-Serve : goal.returns-in-Serve
returns-in-Serve g c =
    let input = g.R.Read.remaining c.args.reader.now in
    let old = g.W.Write.contents c.args.writer.now in
    let ran = c.serve-ended in
    let new = g.W.Write.contents ran.new.writer in
    JobEnds-at _ _ _ input input old new c.in-Serve.is (
      refl,
      (ran.result, c.report_sockets-in-Serve.ensures, ran.ensures.bad_limit, ran.ensures.ends),
    )

pub returns-in-Store : goal.returns-in-Store
returns-in-Store g c =
    let input = g.R.Read.remaining c.args.reader.now in
    let old = g.W.Write.contents c.args.writer.now in
    let used = c.use_tool-ended in
    let left = g.R.Read.remaining used.new.reader in
    let new = g.W.Write.contents used.new.writer in
    JobEnds-at _ _ _ input left old new c.in-Store.is (
      used.result,
      c.report_tool.ensures,
      used.ensures.reads,
      used.ensures.ends,
    )
