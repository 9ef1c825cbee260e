use Rattle.std.proofs.Common.{rules, ◌+◌, ◌-◌, nat_le, ap, refl, arith}
use Rattle.std.proofs.lemmas.List.Sorted.{IsPartitionPoint-from_clause, IsPartitionedBy-leb}
use Rattle.struct_tables.proofs.StartLemmas.{IsParted, all_later, last_begins, last_from}
use Rattle.struct_tables.proofs.slots.part_from.Goals as goal

pub returns-then-behind-eq0 : goal.returns-then-behind-eq0
returns-then-behind-eq0 c =
    let parts : IsParted c.args.starts.now c.args.place c.partition_point-behind.result =
    IsPartitionPoint-from_clause (λ s. nat_le s c.args.place) _ _ c.partition_point-behind.ensures.partitioned (IsPartitionedBy-leb (λ x. x) c.args.starts.now c.args.place c.requires.ascending) (λ a r f k. search rules) in
    all_later c.args.starts.now c.args.place c.partition_point-behind.result parts c.if-behind-eq0.true

pub overflow_sub-result-3 : goal.overflow_sub-result-3
overflow_sub-result-3 c =
    let parts : IsParted c.args.starts.now c.args.place c.partition_point-behind.result =
    IsPartitionPoint-from_clause (λ s. nat_le s c.args.place) _ _ c.partition_point-behind.ensures.partitioned (IsPartitionedBy-leb (λ x. x) c.args.starts.now c.args.place c.requires.ascending) (λ a r f k. search rules) in
    last_begins c.args.starts.now c.args.place c.partition_point-behind.result parts (omega (arith, c.if-behind-eq0.false)) 0

pub returns : goal.returns
returns c =
    let behind = c.partition_point-behind.result in
    let parts : IsParted c.args.starts.now c.args.place c.partition_point-behind.result =
    IsPartitionPoint-from_clause (λ s. nat_le s c.args.place) _ _ c.partition_point-behind.ensures.partitioned (IsPartitionedBy-leb (λ x. x) c.args.starts.now c.args.place c.requires.ascending) (λ a r f k. search rules) in (
      refl,
      (
        behind - 1,
        last_from c.args.fields.now c.args.starts.now c.args.others.now c.args.ahead c.args.place behind (c.args.ahead + c.from.result) c.index-fields-behind.result parts c.partition_point-behind.ensures.bound
            (omega (arith, c.if-behind-eq0.false)) c.requires.each c.requires.both c.index-fields-behind.is (ap (λ x. c.args.ahead + x) c.from.ensures),
      ),
    )
