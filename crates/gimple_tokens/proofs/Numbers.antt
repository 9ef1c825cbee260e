-- More digits write no smaller number.
use Rattle.std.proofs.Common.{ℕ, ◌+◌, ◌-◌, ◌*◌, ◌≤◌, [], ◌∷◌, arith}
use Rattle.gimple_ir.specs.Names.{Bytes}
use Rattle.gimple_tokens.specs.Lexing.{number_after}

pub grows : (n : ℕ) (bs : Bytes) → n ≤ number_after n bs
grows n [] = omega arith
grows n (b ∷ bs) = omega (arith, grows (10 * n + (b - 48)) bs)
