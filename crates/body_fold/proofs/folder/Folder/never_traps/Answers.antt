use Rattle.body_fold.proofs.Goods.{allowed_at}
use Rattle.body_fold.proofs.folder.Folder.never_traps.Goals as goal

pub may_trap-requires-clause-allowed : goal.may_trap-requires-clause-allowed
may_trap-requires-clause-allowed c = allowed_at c.args.self.now c.requires.folder c.args.scalar c.args.statement.now c.in-Arith.to c.in-Arith.left c.in-Arith.op c.in-Arith.right c.in-Arith.is c.requires.passes c.requires.scalar
