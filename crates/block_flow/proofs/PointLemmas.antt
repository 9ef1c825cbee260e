-- The value at a point, by what the code reads.
use Rattle.std.proofs.Common.{◌≡◌, ◌+◌, ◌<◌, ◌≤◌, ◌^◌, ℕ, zero, suc, Bool, List, [], ◌∷◌, length, take, get_or, refl, sym, ◌∙◌, ap, subst, arith, Some, None, Result, IfOk, slice_get}
use Rattle.std.proofs.lemmas.Option.{slice_get-get_or, slice_get_past}
use Rattle.gimple_ir.specs.declared.block.Block.{Block}
use Rattle.gimple_ir.specs.declared.statement.Stmt.{Stmt}
use Rattle.fix_engine.specs.declared.lifted.Lifted.{Lifted}
use Rattle.fix_engine.specs.declared.lifted.Lifted.TheVariants.{NotReached}
use Rattle.fix_engine.specs.Lifted.{FitsLifted}
use Rattle.block_flow.specs.Steps.{BodySteps, after_statements}
use Rattle.block_flow.specs.System.{Solves, body_at, value_or, point_value}
use Rattle.block_flow.proofs.Solved.{value_fits}

gone : {A : Type 0} (step : ℕ → ℕ → Stmt → A → Lifted A) (k i : ℕ) (ss : List Stmt) → after_statements step k i ss NotReached ≡ NotReached
gone step k i [] = refl
gone step k i (s ∷ ss) = gone step k (i + 1) ss

-- of no block nothing is reached
pub no_point : {A : Type 0} (T : BodySteps A) (blocks : List Block) (xs : List (Lifted A)) (k i : ℕ) → length xs ≡ length blocks → length blocks ≤ k → NotReached ≡ point_value T blocks xs k i
unfolding point_value
no_point T blocks xs k i e l =
    let none : slice_get xs k ≡ None = slice_get_past xs k (omega (arith, e, l)) in
    sym (ap (λ o. after_statements T.statement k 0 (take i (body_at (slice_get blocks k))) (value_or o)) none ∙ gone T.statement k 0 (take i (body_at (slice_get blocks k))))

-- what stands at a number
pub stands_there : {X : Type 0} (xs : List X) (k : ℕ) (x : X) → k < length xs → x ≡ get_or xs k x → slice_get xs k ≡ Some x
stands_there xs k x l e = slice_get-get_or xs k x l ∙ ap Some (sym e)

pub there_fits : {A : Type 0} (fits : List ℕ → A → Type 0) (below : A → A → Bool) (kind : List ℕ) (T : BodySteps A) (blocks : List Block) (xs : List (Lifted A)) → Solves fits below kind T blocks xs → (k : ℕ) (x : Lifted A) → k < length blocks → slice_get xs k ≡ Some x → FitsLifted fits kind x
there_fits fits below kind T blocks xs solves k x l e = subst (λ o. FitsLifted fits kind (value_or o)) e (value_fits fits below kind T blocks xs solves k l)

pub at_point : {A : Type 0} {E : Type 0} (T : BodySteps A) (blocks : List Block) (xs : List (Lifted A)) (k i : ℕ) (b : Block) (x : Lifted A) (ss body : List Stmt) (r : Result (Lifted A) E) → slice_get blocks k ≡ Some b → slice_get xs k ≡ Some x → ss ≡ b.body → body ≡ take i ss →
    IfOk r (λ z. z ≡ after_statements T.statement k 0 body x) → IfOk r (λ z. z ≡ point_value T blocks xs k i)
unfolding point_value
at_point T blocks xs k i b x ss body r e g same first h =
    let there : after_statements T.statement k 0 body x ≡ after_statements T.statement k 0 (take i (body_at (slice_get blocks k))) (value_or (slice_get xs k)) =
    ap (λ ys. after_statements T.statement k 0 ys x) (first ∙ ap (take i) same) ∙
    (ap (λ o. after_statements T.statement k 0 (take i (body_at o)) x) (sym e) ∙ ap (λ o. after_statements T.statement k 0 (take i (body_at (slice_get blocks k))) (value_or o)) (sym g)) in
    subst (λ w. IfOk r (λ z. z ≡ w)) there h

take_within : {X : Type 0} (i : ℕ) (xs : List X) → length (take i xs) ≤ length xs
take_within zero xs = omega arith
take_within (suc i) [] = omega arith
take_within (suc i) (x ∷ xs) = let rest = take_within i xs in omega (arith, rest)

pub few_first : (i : ℕ) (ss body whole : List Stmt) → body ≡ take i ss → ss ≡ whole → length whole < 2 ^ 32 → length body < 2 ^ 32
few_first i ss body whole first same h =
    let n : length body ≡ length (take i ss) = ap length first in
    let m : length ss ≡ length whole = ap length same in
    let t : length (take i ss) ≤ length ss = take_within i ss in
    omega (arith, n, m, t, h)
