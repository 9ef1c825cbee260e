use Rattle.body_fold.proofs.Goods.{alike}
use Rattle.body_fold.proofs.folder.Folder.may_trap.Goals as goal

pub may_trap-requires-clause-alike : goal.may_trap-requires-clause-alike
may_trap-requires-clause-alike c = alike c.args.self.now.scene c.args.scalar c.right_of-other.result _ _ c.known.ensures c.in_ok-first.ensures.good c.in_ok-second.ensures.good
