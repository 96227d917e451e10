use Rattle.std.proofs.Common.{◌≡◌, ◌∷◌, take}
use Rattle.relay_pointer.specs.Index.{index_text}
use Rattle.relay_pointer.specs.Path.{path_of}
use Rattle.relay_translate.specs.Translate.{first}
use Rattle.relay_translate.proofs.site.Site.path.Given as goal

abbrev pub invariant-loop-token : goal.invariant-loop-token
invariant-loop-token l =
    path_of l.tokens.items ≡ index_text l.fn.self.number ∷ first
    ∷ path_of (take l.token-index l.token-items)
