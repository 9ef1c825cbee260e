-- A run that has ended or trapped comes to the same with more transfers.
use Rattle.std.proofs.Common.{◌≡◌, ℕ, zero, suc, ◌+◌, refl, sym, ◌∙◌, ap, subst, arith, Option, Some, None}
use Rattle.gimple_ir.specs.declared.value.Outcome.{Outcome}
use Rattle.gimple_core.specs.Sealed.{Sealed}
use Rattle.gimple_core.specs.State.{State}
use Rattle.gimple_core.specs.Run.{Reached, Moves, Stops, Traps, paused, then_run, walk, runs, runs_from, start, Run}
use Rattle.gimple_claims.specs.Laws.{IsSettled, SettledRunsStay}

paused_settled : (r : Reached) (on : State → Outcome) → IsSettled (paused r) → then_run r on ≡ paused r
paused_settled (Moves k t) on h = absurd h
paused_settled (Stops output status) on h = absurd h
paused_settled (Traps output kind) on h = refl

then_settled : (r : Reached) (on more : State → Outcome) → ((t : State) → IsSettled (on t) → more t ≡ on t) → IsSettled (then_run r on) → then_run r more ≡ then_run r on
then_settled (Moves k t) on more f h = f t h
then_settled (Stops output status) on more f h = refl
then_settled (Traps output kind) on more f h = refl

runs_settled : (p : Sealed) (n : ℕ) (s : State) → IsSettled (runs p n s) → runs p (suc n) s ≡ runs p n s
unfolding runs
runs_settled p zero s h = paused_settled (walk p s.top.rest s) (runs p zero) h
runs_settled p (suc n) s h = then_settled (walk p s.top.rest s) (runs p n) (runs p (suc n)) (runs_settled p n) h

from_settled : (p : Sealed) (n : ℕ) (o : Option State) → IsSettled (runs_from p n o) → runs_from p (suc n) o ≡ runs_from p n o
from_settled p n None h = refl
from_settled p n (Some s) h = runs_settled p n s h

pub settled_runs_stay : SettledRunsStay
unfolding Run
settled_runs_stay p input n m h = by n m h
  where
    by : (n m : ℕ) → IsSettled (runs_from p n (start p input)) → runs_from p (n + m) (start p input) ≡ runs_from p n (start p input)
    by n zero h = let e : n + 0 ≡ n = omega arith in ap (λ k. runs_from p k (start p input)) e
    by n (suc m) h =
        let one : runs_from p (suc n) (start p input) ≡ runs_from p n (start p input) = from_settled p n (start p input) h in
        let e : n + suc m ≡ suc n + m = omega arith in
        ap (λ k. runs_from p k (start p input)) e ∙ (by (suc n) m (subst IsSettled (sym one) h) ∙ one)
