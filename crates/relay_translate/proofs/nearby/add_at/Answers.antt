use Rattle.std.proofs.Common.{◌∙◌, sym, ap}
use Rattle.std.specs.Option.{option_copied}
use Rattle.std.proofs.lemmas.Result.{on_ok_weaker}
use Rattle.relay_pointer.specs.Path.{path_of}
use Rattle.relay_translate.proofs.Runs.{gains_at, gains_nowhere}
use Rattle.relay_translate.proofs.nearby.add_at.Goals as goal

pub returns-in-Some : goal.returns-in-Some
returns-in-Some c =
    on_ok_weaker c.add_told.result
    (gains_at c.args.change.now
    (path_of c.args.path.now) c.in-Some.watchers.now c.args.index.now c.args.sessions.now.items
    c.add_told.new.sessions.items (sym c.watchers_at.ensures ∙ ap option_copied c.in-Some.is))
    c.add_told.ensures

pub returns-in-None : goal.returns-in-None
returns-in-None c =
    gains_nowhere c.args.change.now
    (path_of c.args.path.now) c.args.index.now c.args.sessions.now.items
    (sym c.watchers_at.ensures ∙ ap option_copied c.in-None.is)
