use Rattle.std.proofs.Common.{◌∙◌, List, length, ap, subst, arith}
use Rattle.std.specs.List.{Contains}
use Rattle.gimple_ir.specs.declared.point.Edge.{Edge}
use Rattle.call_graph.proofs.Bridge.{edge_begins}
use Rattle.call_graph.proofs.Filling.{listed_length}
use Rattle.call_graph.proofs.Mentioning.{address_rows_length}
use Rattle.call_graph.proofs.mentions.mentions.Goals as goal

pub add_edges-requires : goal.add_edges-requires
add_edges-requires c = λ e h.
    let p = c.args.program.now.program in
    let low = edge_begins p e (subst (λ (es : List Edge). Contains es e) (c.as_slice.ensures ∙ c.in_ok-edges.ensures) h) in
    let rows = ap length c.in_ok-rows.ensures in
    omega (arith, low, rows, listed_length c.in_ok-rows.rows.items, address_rows_length p)

pub returns-clause-one_each : goal.returns-clause-one_each
returns-clause-one_each c =
    let rows = ap length c.in_ok-rows.ensures in
    omega (arith, rows, listed_length c.in_ok-rows.rows.items, address_rows_length c.args.program.now.program, c.in_ok-add_edges.ensures.one_each)
