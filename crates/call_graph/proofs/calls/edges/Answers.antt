use Rattle.std.proofs.Common.{◌++◌, List, ◌∙◌, ap, map}
use Rattle.gimple_ir.specs.declared.point.Edge.{Edge}
use Rattle.gimple_ir.specs.declared.program.Program.{Program}
use Rattle.call_graph.specs.Calls.{function_edges}
use Rattle.call_graph.proofs.Bridge.{edges_are}
use Rattle.call_graph.proofs.calls.edges.Goals as goal

pub returns : goal.returns
returns c =
    let fs = c.as_slice-functions.ensures ∙ ap (λ (p : Program). p.functions) c.program.ensures.same in
    edges_are c.args.program.now.program c.as_slice-functions.result.now c.in_ok-callees.callees c.push_functions.new.edges fs c.in_ok-callees.ensures (c.in_ok-push_functions.ensures ∙ ap (λ (es : List Edge). es ++ function_edges (map (λ f. f.name) c.in_ok-callees.callees) 0 c.as_slice-functions.result.now) c.new-edges.ensures)
