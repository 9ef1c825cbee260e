use Rattle.std.proofs.Common.{◌≡◌, ◌∙◌, ap, sym, subst, ◌<◌, length, get_or, List}
use Rattle.gimple_core.specs.Sealed.{Sealed}
use Rattle.gimple_lowered.specs.declared.types.Piece.{Piece}
use Rattle.gimple_lowered.specs.Lowered.{piece_of}
use Rattle.gimple_exec.specs.Machines.{function_of, block_of}
use Rattle.gimple_exec.specs.Tables.{names_at}
use Rattle.gimple_exec.proofs.TableLemmas.{piece_at, code_length}
use Rattle.gimple_exec.proofs.indexed.Indexed.piece.Goals as goal

pub piece_in-requires : goal.piece_in-requires
piece_in-requires c =
    let within = subst (λ (p : Sealed). c.args.function < length p.program.functions) (sym c.self.view_is) c.requires.function in
    let inside = subst (λ (p : Sealed). c.args.block < length (function_of p c.args.function).blocks) (sym c.self.view_is) c.requires.block in
    let long = ap (λ (r : List Piece). length r) c.as_slice.ensures ∙ code_length (record { program = c.self.inside.program.now; mode = c.self.inside.mode }) c.self.inside.codes.items c.args.function c.index.result.now c.self.invariant.codes within c.index.ensures in
    subst (λ n. c.args.block < n) (sym long) inside

pub returns : goal.returns
returns c =
    let within = subst (λ (p : Sealed). c.args.function < length p.program.functions) (sym c.self.view_is) c.requires.function in
    let inside = subst (λ (p : Sealed). c.args.block < length (function_of p c.args.function).blocks) (sym c.self.view_is) c.requires.block in
    subst (λ (p : Sealed). c.piece_in.result.now ≡ piece_of (names_at p c.args.function) (block_of (function_of p c.args.function) c.args.block)) c.self.view_is
    (c.piece_in.ensures ∙ ap (λ (r : List Piece). get_or r c.args.block c.piece_in.result.now) c.as_slice.ensures
    ∙ piece_at (record { program = c.self.inside.program.now; mode = c.self.inside.mode }) c.self.inside.codes.items c.args.function c.args.block c.index.result.now c.index.result.now c.piece_in.result.now c.self.invariant.codes within inside c.index.ensures)
