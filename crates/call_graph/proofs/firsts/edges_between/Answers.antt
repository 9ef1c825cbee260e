use Rattle.std.proofs.Common.{slice_index_or, ◌∙◌}
use Rattle.std.proofs.lemmas.List.Elements.{Contains-get_or}
use Rattle.gimple_ir.specs.declared.point.Edge.{Edge}
use Rattle.call_graph.proofs.Edging.{between_step}
use Rattle.call_graph.proofs.firsts.edges_between.Goals as goal

no_edge : Edge
no_edge = record { caller = 0; point = record { function = 0; block = 0; index = 0 }; callee = 0 }

pub push_between-requires-clause-caller : goal.push_between-requires-clause-caller
unfolding no_edge
push_between-requires-clause-caller c = c.requires.callers (slice_index_or c.args.edges.now c.loop-edge.edge-index no_edge) (Contains-get_or c.args.edges.now c.loop-edge.edge-index no_edge c.loop-edge-test.true)

pub push_between-requires-clause-callee : goal.push_between-requires-clause-callee
unfolding no_edge
push_between-requires-clause-callee c = c.requires.callees (slice_index_or c.args.edges.now c.loop-edge.edge-index no_edge) (Contains-get_or c.args.edges.now c.loop-edge.edge-index no_edge c.loop-edge-test.true)

pub loop-edge-preserved : goal.loop-edge-preserved
unfolding no_edge
loop-edge-preserved c =
    between_step c.args.firsts.now c.loop-edge.between.items c.push_between.new.between.items c.args.edges.now c.loop-edge.edge-index no_edge c.loop-edge-test.true c.in_ok-push_between.ensures ∙ c.loop-edge.invariant
