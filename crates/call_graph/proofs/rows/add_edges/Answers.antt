use Rattle.std.proofs.Common.{length, slice_index_or, ◌∙◌, ap, arith}
use Rattle.std.proofs.lemmas.List.Elements.{Contains-get_or}
use Rattle.std.proofs.lemmas.List.{length-set}
use Rattle.gimple_ir.specs.declared.point.Edge.{Edge}
use Rattle.call_graph.proofs.Filling.{rows_step, listed_length}
use Rattle.call_graph.specs.Walk.{listed}
use Rattle.call_graph.proofs.rows.add_edges.Goals as goal

no_edge : Edge
no_edge = record { caller = 0; point = record { function = 0; block = 0; index = 0 }; callee = 0 }

pub add_to-requires : goal.add_to-requires
unfolding no_edge
add_to-requires c =
    let e = slice_index_or c.args.edges.now c.loop-edge.edge-index no_edge in
    let fits = c.requires e (Contains-get_or c.args.edges.now c.loop-edge.edge-index no_edge c.loop-edge-test.true) in
    omega (arith, fits, c.loop-edge.invariant.len)

pub loop-edge-preserved : goal.loop-edge-preserved
unfolding no_edge
loop-edge-preserved c =
    let e = slice_index_or c.args.edges.now c.loop-edge.edge-index no_edge in
    let fits = c.requires e (Contains-get_or c.args.edges.now c.loop-edge.edge-index no_edge c.loop-edge-test.true) in
    let more = c.in_ok-add_to.ensures in
    let len = ap length more ∙ length-set (listed c.loop-edge.rows.items) e.caller _ in
    record {
      len = omega (arith, len, listed_length c.add_to.new.rows.items, listed_length c.loop-edge.rows.items, c.loop-edge.invariant.len);
      rows = λ a. rows_step c.loop-edge.rows.items c.add_to.new.rows.items c.args.edges.now c.loop-edge.edge-index no_edge c.loop-edge-test.true (omega (arith, fits, c.loop-edge.invariant.len)) more a ∙ c.loop-edge.invariant.rows a;
    }
