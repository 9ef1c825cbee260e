use Rattle.std.proofs.Common.{rules, ◌∙◌, sym}
use Rattle.call_graph.proofs.Queueing.{last_in}
use Rattle.call_graph.proofs.queue.trim.Goals as goal

pub bounds-standing-target : goal.bounds-standing-target
bounds-standing-target c =
    let (rest, split) = c.in-Some.ensures.some in
    c.requires c.in-Some.target (c.loop-target.invariant.fewer c.in-Some.target (last_in c.loop-target.targets.items rest c.in-Some.target (sym c.as_slice.ensures.value ∙ split)))

pub returns-then-not-standing-target-clause-some : goal.returns-then-not-standing-target-clause-some
returns-then-not-standing-target-clause-some c =
    let (rest, split) = c.in-Some.ensures.some in
    (last_in c.loop-target.targets.items rest c.in-Some.target (sym c.as_slice.ensures.value ∙ split), search rules)
