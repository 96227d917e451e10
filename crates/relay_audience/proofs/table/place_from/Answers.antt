use Rattle.std.proofs.Common.{rules, of_calls, nat_lt}
use Rattle.std.proofs.lemmas.List.Sorted.{IsPartitionPoint-from_clause, IsPartitionedBy-ltb}
use Rattle.relay_audience.specs.declared.audience.Audience.{Audience}
use Rattle.relay_audience.proofs.Places.{not_falling}
use Rattle.relay_audience.proofs.table.place_from.Goals as goal

pub returns : goal.returns
returns c =
    let xs = c.args.list.now in
    IsPartitionPoint-from_clause (λ (a : Audience). nat_lt a.number c.args.number) xs
    c.partition_point.result c.partition_point.ensures.partitioned
    (IsPartitionedBy-ltb (λ (a : Audience). a.number) xs c.args.number
    (not_falling xs c.requires)) (λ a r q k. search (rules, of_calls))
