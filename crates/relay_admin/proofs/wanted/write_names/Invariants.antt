-- The names so far are written, in their order.
use Rattle.std.proofs.Common.{◌≡◌, ◌++◌, take, map, string_bytes}
use Rattle.json.specs.Token.{string}
use Rattle.relay_admin.proofs.wanted.write_names.Given as goal

abbrev pub invariant-loop-name : goal.invariant-loop-name
invariant-loop-name l = record {
  tokens :
      l.out.tokens ≡ l.initial.out.tokens
      ++ map string (map string_bytes (take l.name-index l.fn.names));
  before : l.out.before ≡ l.initial.out.before;
}
