-- The equations with two nodes a block keep the laws of a flow.
use Rattle.std.specs.Prelude.{◌≡◌, ℕ, ◌+◌, ◌-◌, ◌<◌, ◌≤◌, ◌==◌, nat_lt, Bool, true, false, cond, List, length, Option, Some, None, slice_get, refl}
use Rattle.std.proofs.Common.{arith}
use Rattle.std.proofs.lemmas.Bool.{ltb-true, ltb-false}
use Rattle.gimple_ir.specs.declared.block.Block.{Block}
use Rattle.fix_engine.specs.declared.lifted.Lifted.{Lifted}
use Rattle.fix_engine.specs.Lifted.{FitsLifted, lifted_below}
use Rattle.fix_engine.specs.Least.{FlowLaws}
use Rattle.block_flow.specs.declared.branch.Branch.{Branch}
use Rattle.block_flow.specs.Branches.{branches_of}
use Rattle.block_flow.specs.Steps.{BodySteps, StepsLaws}
use Rattle.block_flow.specs.System.{source_of, to_of}
use Rattle.block_flow.specs.Laws.{Rise, is_branch, source_by, target_by, statements_rise, branch_goes, start_by, lifted_self}
use Rattle.block_flow.specs.Halves.{through_block, taken_from, taken, halves_of}

module _ {A : Type 0} (fits : List ℕ → A → Type 0) (below : A → A → Bool) (kind : List ℕ) (T : BodySteps A) (h : StepsLaws fits below kind T) where
  abbrev R : Lifted A → Lifted A → Type 0
  R x y = Rise fits below kind x y

  pub through_rises : (k : ℕ) (o : Option Block) (x y : Lifted A) → R x y → R (through_block T k o x) (through_block T k o y)
  through_rises k None x y r = record { lower = tt; upper = tt; rises = refl }
  through_rises k (Some b) x y r = statements_rise fits below kind T h k 0 b.body x y r

  pub taken_rises : (blocks : List Block) (o : Option Branch) (x y : Lifted A) → R x y → R (taken T blocks o x) (taken T blocks o y)
  taken_rises blocks None x y r = record { lower = tt; upper = tt; rises = refl }
  taken_rises blocks (Some branch) x y r = by (slice_get blocks branch.source)
    where
      by : (o : Option Block) → R (taken_from T branch o x) (taken_from T branch o y)
      by None = record { lower = tt; upper = tt; rises = refl }
      by (Some b) = branch_goes fits below kind T h branch.source branch.slot b x y r

  flow_rises : (blocks : List Block) (e : ℕ) (b : Bool) (x y : Lifted A) → R x y →
      R (cond b (through_block T e (slice_get blocks e) x) (taken T blocks (slice_get (branches_of blocks) (e - length blocks)) x)) (cond b (through_block T e (slice_get blocks e) y) (taken T blocks (slice_get (branches_of blocks) (e - length blocks)) y))
  flow_rises blocks e true x y r = through_rises e (slice_get blocks e) x y r
  flow_rises blocks e false x y r = taken_rises blocks (slice_get (branches_of blocks) (e - length blocks)) x y r

pub branch_number : (n m e : ℕ) → nat_lt e n ≡ false → e < n + m → e - n < m
branch_number n m e t l = let k : n ≤ e = ltb-false e n t in omega (arith, k, l)

source_in : (blocks : List Block) (e : ℕ) (b : Bool) → nat_lt e (length blocks) ≡ b → e < length blocks + length (branches_of blocks) →
    cond b e (length blocks + source_of (slice_get (branches_of blocks) (e - length blocks))) < length blocks + length blocks
source_in blocks e true t l = let k : e < length blocks = ltb-true e (length blocks) t in omega (arith, k)
source_in blocks e false t l =
    let w : e - length blocks < length (branches_of blocks) = branch_number (length blocks) (length (branches_of blocks)) e t l in
    let s : source_of (slice_get (branches_of blocks) (e - length blocks)) < length blocks = source_by blocks (slice_get (branches_of blocks) (e - length blocks)) (is_branch blocks (e - length blocks) w) in
    omega (arith, s)

target_in : (blocks : List Block) (e : ℕ) (b : Bool) → nat_lt e (length blocks) ≡ b → e < length blocks + length (branches_of blocks) →
    cond b (length blocks + e) (to_of (slice_get (branches_of blocks) (e - length blocks))) < length blocks + length blocks
target_in blocks e true t l = let k : e < length blocks = ltb-true e (length blocks) t in omega (arith, k)
target_in blocks e false t l =
    let w : e - length blocks < length (branches_of blocks) = branch_number (length blocks) (length (branches_of blocks)) e t l in
    let s : to_of (slice_get (branches_of blocks) (e - length blocks)) < length blocks = target_by blocks (slice_get (branches_of blocks) (e - length blocks)) (is_branch blocks (e - length blocks) w) in
    omega (arith, s)

pub halves_laws : {A : Type 0} (fits : List ℕ → A → Type 0) (below : A → A → Bool) (kind : List ℕ) → ((a : A) → fits kind a → below a a ≡ true) → (T : BodySteps A) → StepsLaws fits below kind T → (blocks : List Block) →
    FlowLaws (FitsLifted fits kind) (lifted_below below) (halves_of T blocks)
halves_laws fits below kind self T h blocks = record {
  sources = λ e l. source_in blocks e (nat_lt e (length blocks)) refl l;
  targets = λ e l. target_in blocks e (nat_lt e (length blocks)) refl l;
  starts_fit = λ n l. start_by fits below kind T h (n == 0);
  flows_fit = λ e x l f. (flow_rises fits below kind T h blocks e (nat_lt e (length blocks)) x x (lifted_self fits below kind self x f)).lower;
  monotone = λ e x y l f g b. (flow_rises fits below kind T h blocks e (nat_lt e (length blocks)) x y (record { lower = f; upper = g; rises = b })).rises;
}
