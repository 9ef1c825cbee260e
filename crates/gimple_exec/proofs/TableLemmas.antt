-- What the tables of a program say of it.
use Rattle.std.proofs.Common.{◌≡◌, ◌∙◌, ap, refl, ℕ, suc, ◌<◌, List, [], ◌∷◌, length, get_or, map}
use Rattle.std.proofs.lemmas.List.{get_or-map}
use Rattle.gimple_ir.specs.declared.block.Block.{Block}
use Rattle.gimple_ir.specs.declared.program.Function.{Function}
use Rattle.gimple_core.specs.Sealed.{Sealed}
use Rattle.gimple_lowered.specs.declared.types.Piece.{Piece}
use Rattle.gimple_lowered.specs.Lowered.{code_of, piece_of, pieces_of}
use Rattle.gimple_exec.specs.Machines.{function_of, block_of, no_function, no_block}
use Rattle.gimple_exec.specs.Tables.{codes_of, names_at}

code_at : (p : Sealed) (rows : List (List Piece)) (k : ℕ) (row : List Piece) → rows ≡ codes_of p.program.functions p.program.globals p.program.functions → k < length p.program.functions → get_or rows k row ≡ pieces_of (names_at p k) (function_of p k).blocks
unfolding code_of
code_at p rows k row e within =
    ap (λ (rs : List (List Piece)). get_or rs k row) e ∙ get_or-map (λ (f : Function). code_of p.program.functions p.program.globals f) p.program.functions k no_function row within

length_map : {X Y : Type 0} (f : X → Y) (xs : List X) → length (map f xs) ≡ length xs
length_map f [] = refl
length_map f (x ∷ xs) = ap suc (length_map f xs)

pub code_length : (p : Sealed) (rows : List (List Piece)) (k : ℕ) (row : List Piece) → rows ≡ codes_of p.program.functions p.program.globals p.program.functions → k < length p.program.functions → row ≡ get_or rows k row → length row ≡ length (function_of p k).blocks
code_length p rows k row e within read =
    ap (λ (r : List Piece). length r) (read ∙ code_at p rows k row e within) ∙ length_map (piece_of (names_at p k)) (function_of p k).blocks

-- the lowered form of a block
pub piece_at : (p : Sealed) (rows : List (List Piece)) (k at : ℕ) (code : List Piece) (row : List Piece) (piece : Piece) → rows ≡ codes_of p.program.functions p.program.globals p.program.functions → k < length p.program.functions → at < length (function_of p k).blocks → row ≡ get_or rows k code → get_or row at piece ≡ piece_of (names_at p k) (block_of (function_of p k) at)
piece_at p rows k at code row piece e within inside read =
    ap (λ (r : List Piece). get_or r at piece) (read ∙ code_at p rows k code e within) ∙ get_or-map (λ (b : Block). piece_of (names_at p k) b) (function_of p k).blocks at no_block piece inside
