-- Each token can be written, and goes from what is left to what is written.
use Rattle.std.proofs.Common.{◌∙◌, subst}
use Rattle.json.specs.Print.{ArePrintable}
use Rattle.relay_admin.proofs.Documents.{moved}
use Rattle.relay_admin.proofs.asking.write_rest.Goals as goal

pub token-requires : goal.token-requires
unfolding ArePrintable
token-requires c = (subst ArePrintable c.in-Some.ensures.value c.loop-token.invariant.printable).0

pub loop-token-preserved : goal.loop-token-preserved
unfolding ArePrintable
loop-token-preserved c = record {
  tokens =
      moved c.loop-token.out.tokens c.token.new.self.tokens c.loop-token.reader c.next.new.self _ _
      c.in_ok-token.ensures.ok c.in-Some.ensures.value c.loop-token.invariant.tokens;
  before = c.in_ok-token.ensures.room.0 ∙ c.loop-token.invariant.before;
  printable = (subst ArePrintable c.in-Some.ensures.value c.loop-token.invariant.printable).1;
}
