use Rattle.std.proofs.Common.{◌∙◌, ◌-◌, take, length, sym, ap}
use Rattle.relay_pointer.specs.Path.{path_of}
use Rattle.relay_pointer.proofs.Tokens.{tokens_last}
use Rattle.relay_translate.specs.SlotIndex.{container}
use Rattle.relay_translate.proofs.Tokens.{container_end}
use Rattle.relay_translate.proofs.nearby.container.Goals as goal

pub returns-in-len1-up : goal.returns-in-len1-up
returns-in-len1-up c =
    let tokens = c.args.path.now in
    let split = tokens_last tokens c.in-len1-up.len_at_least in
    sym (container_end (path_of (take (length tokens - 1) tokens)) split.0)
    ∙ ap container (sym split.1)
