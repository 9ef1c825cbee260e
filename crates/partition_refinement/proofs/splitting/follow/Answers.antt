use Rattle.std.proofs.Common.{map, subst, arith, Contains}
use Rattle.partition_refinement.proofs.Regarding.{regarded_groups}
use Rattle.partition_refinement.proofs.splitting.follow.Goals as goal

pub groups_of-requires-clause-within : goal.groups_of-requires-clause-within
groups_of-requires-clause-within c = λ x d.
    let regarded = c.in_ok-items.ensures (map (λ row. row.items) c.args.rows.now) c.requires.items c.requires.callers in
    let low = regarded.within x (subst (λ l. Contains l x) c.as_slice.ensures.keys d) in
    let count = c.requires.count in
    omega (arith, low, count)

pub move_all-requires : goal.move_all-requires
move_all-requires c = λ at x d.
    let regarded = c.in_ok-items.ensures (map (λ row. row.items) c.args.rows.now) c.requires.items c.requires.callers in
    let groups = regarded_groups (map (λ row. row.items) c.args.rows.now) c.args.partition.now c.classes.result.now c.in_ok-items.items.keys c.as_slice.result.now c.in_ok-groups.groups regarded c.classes.ensures c.as_slice.ensures.keys c.in_ok-groups.ensures in
    (groups at).within x d

pub returns : goal.returns
returns c =
    let regarded = c.in_ok-items.ensures (map (λ row. row.items) c.args.rows.now) c.requires.items c.requires.callers in
    let groups = regarded_groups (map (λ row. row.items) c.args.rows.now) c.args.partition.now c.classes.result.now c.in_ok-items.items.keys c.as_slice.result.now c.in_ok-groups.groups regarded c.classes.ensures c.as_slice.ensures.keys c.in_ok-groups.ensures in
    c.in_ok-moves.ensures (map (λ row. row.items) c.args.rows.now) groups
