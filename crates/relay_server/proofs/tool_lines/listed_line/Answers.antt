use Rattle.std.proofs.Common.{◌≡◌, ◌∙◌, [], ◌∷◌, ◌++◌, codes, decimal, length, rules}
use Rattle.json.specs.Token.{key, number}
use Rattle.relay_tree.specs.Text.{text_of}
use Rattle.relay_tree.proofs.Texts.{if_ok}
use Rattle.relay_server.proofs.ToolLines.{listed_written}
use Rattle.relay_server.proofs.tool_lines.listed_line.Goals as goal

pub returns : goal.returns
returns c =
    let keyed : c.key.new.self.tokens ≡ c.in_ok-out.out.tokens ++ key (codes "bytes") ∷ [] =
    search rules in
    let numbered : c.u64.new.self.tokens ≡ c.key.new.self.tokens ++ number (decimal c.len.result)
    ∷ [] = search rules in
    let bytes : c.len.result ≡ length (text_of c.args.room.now.document) = search rules in
    if_ok c.end_line.result c.end_line.ensures (λ s h.
    h ∙ listed_written c.args.room.now c.len.result c.in_ok-out.ensures.tokens keyed numbered bytes)
