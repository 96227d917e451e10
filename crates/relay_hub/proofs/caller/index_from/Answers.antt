use Rattle.std.proofs.Common.{rules, of_calls}
use Rattle.std.proofs.lemmas.List.Sorted.{IsPartitionPoint-from_clause}
use Rattle.relay_hub.proofs.Rising.{is_below, below_parted, below_from}
use Rattle.relay_hub.proofs.caller.index_from.Goals as goal

pub returns : goal.returns
returns c =
    let xs = c.args.sessions.now in
    let n = c.args.number in
    let i = c.partition_point.result in
    below_from xs n i (IsPartitionPoint-from_clause (is_below n) xs i
    c.partition_point.ensures.partitioned (below_parted n xs c.requires) (λ a r q k.
    search (rules, of_calls)))
