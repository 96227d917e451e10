use Rattle.std.proofs.Common.{◌≡◌, [], ◌∷◌, ◌++◌, codes, ◌∙◌, append_assoc, rules}
use Rattle.std.proofs.lemmas.Result.{on_ok_weaker}
use Rattle.json.specs.Token.{begin_object, key}
use Rattle.relay_patch.proofs.form.tokens.write_valued.Goals as goal

pub returns-clause-tokens : goal.returns-clause-tokens
returns-clause-tokens c =
    let begun : c.begin_object.new.self.tokens ≡ c.args.out.now.tokens ++ begin_object ∷ [] =
    search rules in
    let named = c.in_ok-write_named.ensures.tokens in
    let keyed : c.key.new.self.tokens ≡ c.write_named.new.out.tokens ++ key (codes "value") ∷ [] =
    search rules in
    let valued = c.in_ok-write.ensures.tokens in
    on_ok_weaker c.end_object.result
    (λ e. e ∙ rw (valued, keyed, named, begun) (simp append_assoc)) c.end_object.ensures.ok
