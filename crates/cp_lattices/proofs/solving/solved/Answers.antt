use Rattle.std.proofs.Common.{◌≡◌, List, ◌∙◌, ap, subst}
use Rattle.gimple_ir.specs.declared.program.Program.{Program}
use Rattle.gimple_core.specs.Sealed.{Sealed}
use Rattle.cp_lattices.specs.declared.gift.Gift.{Gift}
use Rattle.cp_lattices.specs.FormalEquations.{AreLeast}
use Rattle.cp_lattices.specs.FormalRows.{rows_from}
use Rattle.cp_lattices.specs.Lattices.{making_of, rows_of}
use Rattle.cp_lattices.specs.Numbered.{IsNumbering}
use Rattle.cp_lattices.proofs.LeastFormals.{rows_are_least}
use Rattle.cp_lattices.proofs.solving.solved.Goals as goal

pub returns : goal.returns
returns g c =
    let numbers = subst (λ (p : Sealed). IsNumbering p c.in_ok-numbering.numbering) c.checked.ensures c.in_ok-numbering.ensures.numbers in
    let least = subst (λ (gifts : List Gift). AreLeast (making_of c.args.tables.now.program c.args.tables.now.size) c.args.passes.now c.in_ok-numbering.numbering gifts c.in_ok-values.values.items) c.as_slice.ensures c.in_ok-values.ensures in
    let functions : c.as_slice-functions.result.now ≡ c.args.tables.now.program.program.functions = c.as_slice-functions.ensures ∙ ap (λ (p : Program). p.functions) c.program.ensures.same in
    let made : rows_of c.in_ok-rows.rows ≡ rows_from c.in_ok-numbering.numbering c.as_slice-2.result.now 0 c.as_slice-functions.result.now = c.in_ok-rows.ensures in
    let rows : rows_of c.in_ok-rows.rows ≡ rows_from c.in_ok-numbering.numbering c.in_ok-values.values.items 0 c.args.tables.now.program.program.functions =
    made ∙ (λ i. rows_from c.in_ok-numbering.numbering (c.as_slice-2.ensures.value i) 0 (functions i)) in
    rows_are_least c.args.tables.now.program c.args.passes.now c.args.tables.now.size c.in_ok-numbering.numbering c.args.gifts.now c.in_ok-values.values.items (rows_of c.in_ok-rows.rows) numbers c.requires.good c.in_ok-numbering.ensures.few c.requires.gifts least rows
