use Rattle.std.proofs.Common.{map}
use Rattle.partition_refinement.proofs.Noting.{numbers_low, numbers_tell}
use Rattle.partition_refinement.proofs.interner.Interner.into_classes.Goals as goal

pub returns-clause-low : goal.returns-clause-low
returns-clause-low c = numbers_low (map (λ row. row.items) c.self.inside.distinct.keys) c.args.self c.self.inside.numbers.items c.self.invariant c.self.view_is

pub returns-clause-same : goal.returns-clause-same
returns-clause-same c = numbers_tell (map (λ row. row.items) c.self.inside.distinct.keys) c.args.self c.self.inside.numbers.items c.self.invariant c.self.view_is
