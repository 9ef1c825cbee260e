use Rattle.std.proofs.Common.{rules, ◌<◌, length}
use Rattle.fix_engine.proofs.MarkTrees.{root_first, root_none}
use Rattle.fix_engine.proofs.mark_tree.MarkTree.first.Goals as goal

pub returns-then-first-clause-none : goal.returns-then-first-clause-none
returns-then-first-clause-none c =
    let some : 0 < length c.self.inside.marked.items = search rules in
    rw (← c.self.view_is) (root_none c.self.inside.marked.items c.self.inside.least.items c.self.invariant c.index-first.result.now c.index-first.ensures some c.if-first.true)

pub returns-clause-some : goal.returns-clause-some
returns-clause-some c =
    let some : 0 < length c.self.inside.marked.items = search rules in
    rw (← c.self.view_is) (root_first c.self.inside.marked.items c.self.inside.least.items c.self.invariant c.index-first.result.now c.index-first.ensures some c.if-first.false)
