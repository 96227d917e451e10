use Rattle.std.proofs.Common.{◌≡◌, ◌∙◌, [], ◌∷◌, ◌++◌, codes, rules}
use Rattle.json.specs.Token.{key}
use Rattle.relay_tree.proofs.Texts.{if_ok}
use Rattle.relay_server.proofs.ToolLines.{exported_written}
use Rattle.relay_server.proofs.tool_lines.exported_line.Goals as goal

pub returns : goal.returns
returns c =
    let keyed : c.key.new.self.tokens ≡ c.in_ok-out.out.tokens ++ key (codes "document") ∷ [] =
    search rules in
    if_ok c.end_line.result c.end_line.ensures (λ s h.
    h
    ∙ exported_written c.args.room.now c.in_ok-out.ensures.tokens keyed
    c.in_ok-write.ensures.tokens)
