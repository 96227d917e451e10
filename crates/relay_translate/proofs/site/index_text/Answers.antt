use Rattle.std.proofs.Common.{◌<◌, ◌^◌, arith}
use Rattle.relay_pointer.proofs.Indexes.{index_text-decimal}
use Rattle.relay_translate.proofs.site.index_text.Goals as goal

pub returns : goal.returns
returns c =
    let small : c.args.number < 2 ^ 64 = omega arith in
    rw (index_text-decimal c.args.number small) c.to_string.ensures.ok
