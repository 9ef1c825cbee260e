use Rattle.std.proofs.Common.{map}
use Rattle.partition_refinement.proofs.Regarding.{kept_through}
use Rattle.partition_refinement.proofs.splitting.split.Goals as goal

pub returns : goal.returns
returns c = c.in_ok-names.ensures (map (λ row. row.items) c.args.rows.now) (kept_through c.args.classes.now (map (λ row. row.items) c.args.rows.now) c.in_ok-partition.partition c.settle.new.partition c.classes.result.now c.in_ok-partition.ensures c.classes.ensures c.in_ok-settle.ensures)
