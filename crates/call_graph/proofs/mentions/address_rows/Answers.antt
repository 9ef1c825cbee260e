use Rattle.std.proofs.Common.{◌∙◌, List, length, map, ap, arith}
use Rattle.std.proofs.lemmas.List.{length-map}
use Rattle.gimple_ir.specs.declared.program.Function.{Function}
use Rattle.gimple_ir.specs.declared.program.Program.{Program}
use Rattle.gimple_core.specs.Run.{main_name}
use Rattle.call_graph.specs.Addresses.{function_addresses}
use Rattle.call_graph.specs.Calls.{number_in}
use Rattle.call_graph.proofs.Callees.{accepted_calls}
use Rattle.call_graph.proofs.Filling.{listed_length}
use Rattle.call_graph.proofs.mentions.address_rows.Goals as goal

pub add_items-requires-clause-node : goal.add_items-requires-clause-node
add_items-requires-clause-node c =
    let p = c.args.program.now.program in
    let fs = c.as_slice-functions.result.now in
    let same = c.as_slice-functions.ensures ∙ ap (λ (q : Program). q.functions) c.program.ensures.same in
    let root = c.main_number.ensures ∙ ap (λ (gs : List Function). number_in (map (λ f. f.name) gs) main_name) same in
    let low = (accepted_calls p c.program.ensures.accepted).main in
    let rows = ap length c.in_ok-rows.ensures in
    omega (arith, low, root, ap length same, rows, listed_length c.in_ok-rows.rows.items, length-map fs (function_addresses c.in_ok-named.named))
