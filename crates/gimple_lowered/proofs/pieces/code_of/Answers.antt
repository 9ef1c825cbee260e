use Rattle.std.proofs.Common.{◌≡◌, ◌∙◌, ap, subst, List}
use Rattle.std.specs.Prelude.{IfOk}
use Rattle.gimple_core.specs.State.{registers_of}
use Rattle.gimple_lowered.specs.declared.types.Piece.{Piece}
use Rattle.gimple_lowered.specs.Names.{labels_of}
use Rattle.gimple_lowered.specs.Lowered.{pieces_of, code_of}
use Rattle.gimple_lowered.proofs.pieces.code_of.Goals as goal

pub returns : goal.returns
unfolding code_of
returns c =
    let ls : c.in_ok-labels.labels ≡ labels_of c.args.function.now.blocks = c.in_ok-labels.ensures ∙ ap labels_of c.as_slice.ensures in
    let rs : c.in_ok-registers.registers ≡ registers_of c.args.function.now = c.in_ok-registers.ensures in
    let ds : c.in_ok-locals.locals ≡ c.args.function.now.locals = c.in_ok-locals.ensures ∙ c.as_slice-2.ensures in
    let all : pieces_of (record { functions = c.args.functions.now; globals = c.args.globals.now; locals = c.in_ok-locals.locals; registers = c.in_ok-registers.registers; labels = c.in_ok-labels.labels }) c.as_slice-3.result.now ≡ code_of c.args.functions.now c.args.globals.now c.args.function.now =
    λ i. pieces_of (record { functions = c.args.functions.now; globals = c.args.globals.now; locals = ds i; registers = rs i; labels = ls i }) (c.as_slice-3.ensures i) in
    subst (λ (q : List Piece). IfOk c.pieces.result (λ code. code ≡ q)) all c.pieces.ensures
