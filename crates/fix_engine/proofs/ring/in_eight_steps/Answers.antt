use Rattle.std.proofs.Common.{ℕ, zero, suc, ◌<◌, [], ◌∷◌, Contains, arith, refl}
use Rattle.fix_engine.proofs.ring.in_eight_steps.Goals as goal

each : (n : ℕ) → n < 4 → Contains (0 ∷ 1 ∷ 2 ∷ 3 ∷ []) n
each zero h = (0, omega arith, refl)
each (suc zero) h = (1, omega arith, refl)
each (suc (suc zero)) h = (2, omega arith, refl)
each (suc (suc (suc zero))) h = (3, omega arith, refl)
each (suc (suc (suc (suc n)))) h = absurd (omega (arith, h))

pub solve_in_order-requires-clause-each : goal.solve_in_order-requires-clause-each
solve_in_order-requires-clause-each g c = λ n h. each n h
