use Rattle.std.proofs.Common.{◌≡◌, Some, slice_get}
use Rattle.body_symbols.proofs.Parts.{numbered, is_numbered, of_function}
use Rattle.body_symbols.proofs.finding.symbols_in.Goals as goal

pub function_symbols-requires-clause-numbered : goal.function_symbols-requires-clause-numbered
function_symbols-requires-clause-numbered g c =
    let there : slice_get c.args.program.now.program.functions c.args.function ≡ Some c.index-as_slice-function.result =
    numbered c.program-source.result.now c.args.program.now.program c.as_slice.result.now c.args.function c.index-as_slice-function.result c.program-source.ensures.same c.as_slice.ensures c.requires.function c.index-as_slice-function.is in
    is_numbered c.args.program.now.program c.args.function c.index-as_slice-function.result there c.requires.countable

pub returns : goal.returns
returns g c =
    let there : slice_get c.args.program.now.program.functions c.args.function ≡ Some c.index-as_slice-function.result =
    numbered c.program-source.result.now c.args.program.now.program c.as_slice.result.now c.args.function c.index-as_slice-function.result c.program-source.ensures.same c.as_slice.ensures c.requires.function c.index-as_slice-function.is in
    of_function c.args.program.now c.args.function c.index-as_slice-function.result c.in_ok-symbols.symbols there c.in_ok-symbols.ensures
