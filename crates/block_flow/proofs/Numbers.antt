-- Branches by their numbers, and the begins among the nodes.
use Rattle.std.proofs.Common.{◌≡◌, ◌+◌, ◌-◌, ◌<◌, nat_lt, ℕ, zero, suc, Bool, false, cond, if◌then◌else◌, List, [], ◌∷◌, length, take, arith, refl, sym, ◌∙◌, ap, subst, Some, slice_get}
use Rattle.std.specs.Prelude.{slice_index_or}
use Rattle.gimple_ir.specs.declared.block.Block.{Block}
use Rattle.fix_engine.specs.declared.lifted.Lifted.{Lifted}
use Rattle.fix_engine.specs.Lattice.{LatticeLaws}
use Rattle.fix_engine.specs.Lifted.{FitsLifted, lifted_below}
use Rattle.fix_engine.specs.Least.{IsLeast}
use Rattle.block_flow.specs.declared.branch.Branch.{Branch}
use Rattle.block_flow.specs.Branches.{branches_of}
use Rattle.block_flow.specs.Steps.{BodySteps, StepsLaws}
use Rattle.block_flow.specs.System.{AreFew, AreBegins, source_of, to_of}
use Rattle.block_flow.specs.Laws.{is_branch, source_by}
use Rattle.block_flow.specs.Halves.{halves_of}
use Rattle.block_flow.proofs.Whole.{begins_least}

index_is : {X : Type 0} (xs : List X) (i : ℕ) (d : X) → i < length xs → slice_get xs i ≡ Some (slice_index_or xs i d)
index_is [] i d l = absurd (omega (arith, l))
index_is (x ∷ xs) zero d l = refl
index_is (x ∷ xs) (suc i) d l = index_is xs i d (omega (arith, l))

-- the branch of a number leads from a block that is there
pub branch_there : (blocks : List Block) (branches : List Branch) (e : ℕ) (d : Branch) → branches ≡ branches_of blocks → e < length branches → slice_get (branches_of blocks) e ≡ Some (slice_index_or branches e d)
branch_there blocks branches e d same l = subst (λ bs. slice_get bs e ≡ Some (slice_index_or branches e d)) same (index_is branches e d l)

pub source_there : (blocks : List Block) (branches : List Branch) (e : ℕ) (d : Branch) → branches ≡ branches_of blocks → e < length branches → (slice_index_or branches e d).source < length blocks
source_there blocks branches e d same l =
    let within : e < length (branches_of blocks) = subst (λ (bs : List Branch). e < length bs) same l in
    subst (λ o. source_of o < length blocks) (branch_there blocks branches e d same l) (source_by blocks (slice_get (branches_of blocks) e) (is_branch blocks e within))

-- the ends of an edge behind those through blocks
pub later_source : (blocks : List Block) (e : ℕ) (b : Branch) → nat_lt e (length blocks) ≡ false → slice_get (branches_of blocks) (e - length blocks) ≡ Some b →
    length blocks + b.source ≡ (if nat_lt e (length blocks) then e else length blocks + source_of (slice_get (branches_of blocks) (e - length blocks)))
later_source blocks e b t is = sym (ap (λ c. cond c e (length blocks + source_of (slice_get (branches_of blocks) (e - length blocks)))) t ∙ ap (λ o. length blocks + source_of o) is)

pub later_target : (blocks : List Block) (e : ℕ) (b : Branch) → nat_lt e (length blocks) ≡ false → slice_get (branches_of blocks) (e - length blocks) ≡ Some b →
    b.target ≡ (if nat_lt e (length blocks) then length blocks + e else to_of (slice_get (branches_of blocks) (e - length blocks)))
later_target blocks e b t is = sym (ap (λ c. cond c (length blocks + e) (to_of (slice_get (branches_of blocks) (e - length blocks)))) t ∙ ap to_of is)

pub few_as : (blocks : List Block) (bs : List Branch) → bs ≡ branches_of blocks → AreFew blocks (length (branches_of blocks)) → AreFew blocks (length bs)
few_as blocks bs e h = subst (λ ys. AreFew blocks (length ys)) (sym e) h

pub begins_first : {A : Type 0} {fits : List ℕ → A → Type 0} {height : List ℕ → ℕ} {rank : List ℕ → A → ℕ} {below : A → A → Bool} {joined : A → A → A} → LatticeLaws fits height rank below joined → (kind : List ℕ) (T : BodySteps A) → StepsLaws fits below kind T → (blocks : List Block) (zs xs : List (Lifted A)) →
    IsLeast (FitsLifted fits kind) (lifted_below below) (halves_of T blocks) zs → xs ≡ take (length blocks) zs → AreBegins fits below kind T blocks xs
begins_first {A} {fits} {height} {rank} {below} lat kind T h blocks zs xs least e = subst (AreBegins fits below kind T blocks) (sym e) (begins_least lat kind T h blocks zs least)
