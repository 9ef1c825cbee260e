use Rattle.std.proofs.Common.{◌+◌, ap, rules, nat_lt}
use Rattle.std.proofs.lemmas.List.Sorted.{IsPartitionPoint-from_clause}
use Rattle.gimple_exec.specs.Order.{rank, comes_before}
use Rattle.gimple_exec.proofs.OrderLemmas.{rank_parts, split_from}
use Rattle.gimple_exec.proofs.SeekLemmas.{placed_ranks}
use Rattle.gimple_exec.proofs.rows.first_of.Goals as goal

pub returns : goal.returns
returns g c =
    let object = g.T.Placed.object_of in
    let offset = g.T.Placed.offset_of in
    let point = IsPartitionPoint-from_clause (λ x. nat_lt (rank (object x)) (c.from.result + 1)) _ _ c.partition_point.ensures.partitioned (rank_parts object (comes_before object offset) (placed_ranks object offset) _ _ c.requires) (λ a r f k. search rules) in
    split_from object c.args.serial _ _ _ (ap (λ n. n + 1) c.from.ensures) c.partition_point.ensures.bound point
