use Rattle.std.proofs.Common.{slice_index_or, arith}
use Rattle.std.proofs.lemmas.List.Elements.{Contains-get_or}
use Rattle.graph_walk.proofs.walk.meet.Goals as goal

pub meet_one-requires : goal.meet_one-requires
meet_one-requires c =
    let fits = c.requires (slice_index_or c.args.row.now c.loop-node.node-index 0) (Contains-get_or c.args.row.now c.loop-node.node-index 0 c.loop-node-test.true) in
    omega (arith, fits, c.loop-node.invariant.same)
