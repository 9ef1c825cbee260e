-- Registers by their names.
use Rattle.std.proofs.Common.{◌≡◌, ℕ, List, ◌∙◌, ap, Option}
use Rattle.std.specs.List.{find}
use Rattle.std.proofs.lemmas.List.Folds.{find_at}
use Rattle.std.specs.Str.{bytes_eq}
use Rattle.gimple_ir.specs.declared.declarations.Register.{Register}
use Rattle.gimple_core.specs.State.{scalar_or_pointer}
use Rattle.body_symbols.specs.Bodies.{register_scalar}

-- the scalar of a register that was found by its name
pub scalar_found : (rs : List Register) (name : List ℕ) (r : Option Register) → r ≡ find (λ r. bytes_eq r.name name) rs → scalar_or_pointer r ≡ register_scalar rs name
scalar_found rs name r e = ap scalar_or_pointer (e ∙ find_at (λ (r : Register). bytes_eq r.name name) rs)
