-- The system of equations of an analysis keeps the laws of a flow.
use Rattle.std.specs.Prelude.{◌≡◌, ℕ, zero, suc, ◌+◌, ◌<◌, ◌==◌, nat_lt, Bool, true, false, cond, List, [], ◌∷◌, ◌++◌, length, Option, Some, None, IsSomeAnd, slice_get, refl}
use Rattle.std.specs.List.{position_or_len}
use Rattle.std.proofs.Common.{arith}
use Rattle.std.proofs.lemmas.Bool.{ltb-true}
use Rattle.gimple_ir.specs.declared.statement.Stmt.{Stmt}
use Rattle.gimple_ir.specs.declared.block.Block.{Block}
use Rattle.fix_engine.specs.declared.lifted.Lifted.{Lifted}
use Rattle.fix_engine.specs.declared.lifted.Lifted.TheVariants.{NotReached, Reached}
use Rattle.fix_engine.specs.Lifted.{FitsLifted, lifted_below}
use Rattle.fix_engine.specs.Rows.{Each}
use Rattle.fix_engine.specs.Least.{FlowLaws}
use Rattle.block_flow.specs.declared.branch.Branch.{Branch}
use Rattle.block_flow.specs.Branches.{block_place, place_or, labels_of, branches_to, branches_from, branches_of}
use Rattle.block_flow.specs.Steps.{BodySteps, StepsLaws, where_reached, after_statements}
use Rattle.block_flow.specs.System.{along_block, along, source_of, to_of, equations_of}

-- ---- branches

branches_append : (P : Branch → Type 0) (xs ys : List Branch) → Each P xs → Each P ys → Each P (xs ++ ys)
branches_append P [] ys f g = g
branches_append P (x ∷ xs) ys f g = (f.0, branches_append P xs ys f.1 g)

place_by : (b : Bool) (n m : ℕ) → nat_lt n m ≡ b → 0 < m → place_or (cond b (Some n) None) < m
place_by true n m e h = ltb-true n m e
place_by false n m e h = h

pub place_within : (label : ℕ) (all : List Block) → 0 < length all → place_or (block_place label all) < length all
place_within label all h = place_by _ (position_or_len (λ (b : Block). b.label == label) all) (length all) refl h

pub record IsBranch (all : List Block) (k : ℕ) (x : Branch) : Type 0 where
  pub source : x.source < k
  pub target : x.target < length all

row_branches : (all : List Block) (k n slot : ℕ) (ls : List ℕ) → k < n → 0 < length all → Each (IsBranch all n) (branches_to all k slot ls)
row_branches all k n slot [] l h = tt
row_branches all k n slot (x ∷ ls) l h = (record { source = l; target = place_within x all h }, row_branches all k n (slot + 1) ls l h)

all_branches : (all : List Block) (k n : ℕ) (bs : List Block) → k + length bs ≡ n → 0 < length all → Each (IsBranch all n) (branches_from all k bs)
all_branches all k n [] e h = tt
all_branches all k n (b ∷ bs) e h =
    branches_append (IsBranch all n) (branches_to all k 0 (labels_of b.end)) (branches_from all (k + 1) bs) (row_branches all k n 0 (labels_of b.end) (omega (arith, e)) h) (all_branches all (k + 1) n bs (omega (arith, e)) h)

branch_at : (P : Branch → Type 0) (xs : List Branch) (e : ℕ) → e < length xs → Each P xs → IsSomeAnd (slice_get xs e) P
branch_at P [] e l h = absurd (omega (arith, l))
branch_at P (x ∷ xs) zero l h = h.0
branch_at P (x ∷ xs) (suc e) l h = branch_at P xs e (omega (arith, l)) h.1

no_blocks : (e : ℕ) (bs : List Block) → e < length (branches_from bs 0 bs) → 0 < length bs
no_blocks e [] l = absurd (omega (arith, l))
no_blocks e (b ∷ bs) l = omega arith

pub is_branch : (bs : List Block) (e : ℕ) → e < length (branches_of bs) → IsSomeAnd (slice_get (branches_of bs) e) (IsBranch bs (length bs))
unfolding branches_of
is_branch bs e l = branch_at (IsBranch bs (length bs)) (branches_from bs 0 bs) e l (all_branches bs 0 (length bs) bs (omega arith) (no_blocks e bs l))

pub source_by : (bs : List Block) (o : Option Branch) → IsSomeAnd o (IsBranch bs (length bs)) → source_of o < length bs
source_by bs None h = absurd h
source_by bs (Some x) h = h.source

pub target_by : (bs : List Block) (o : Option Branch) → IsSomeAnd o (IsBranch bs (length bs)) → to_of o < length bs
target_by bs None h = absurd h
target_by bs (Some x) h = h.target

-- ---- the system

-- both fit, and the first is below the second
pub record Rise {A : Type 0} (fits : List ℕ → A → Type 0) (below : A → A → Bool) (kind : List ℕ) (x y : Lifted A) : Type 0 where
  pub lower : FitsLifted fits kind x
  pub upper : FitsLifted fits kind y
  pub rises : lifted_below below x y ≡ true

module _ {A : Type 0} (fits : List ℕ → A → Type 0) (below : A → A → Bool) (kind : List ℕ) (T : BodySteps A) (h : StepsLaws fits below kind T) where
  not_reached : Rise fits below kind NotReached NotReached
  not_reached = record { lower = tt; upper = tt; rises = refl }

  where_rises : (f : A → Lifted A) → ((a : A) → fits kind a → FitsLifted fits kind (f a)) → ((a b : A) → fits kind a → fits kind b → below a b ≡ true → lifted_below below (f a) (f b) ≡ true) →
      (x y : Lifted A) → Rise fits below kind x y → Rise fits below kind (where_reached x f) (where_reached y f)
  where_rises f fit rise NotReached NotReached r = not_reached
  where_rises f fit rise NotReached (Reached b) r = record { lower = tt; upper = fit b r.upper; rises = refl }
  where_rises f fit rise (Reached a) NotReached r = absurd (let k = r.rises in cc)
  where_rises f fit rise (Reached a) (Reached b) r = record { lower = fit a r.lower; upper = fit b r.upper; rises = rise a b r.lower r.upper r.rises }

  pub statements_rise : (k i : ℕ) (ss : List Stmt) (x y : Lifted A) → Rise fits below kind x y → Rise fits below kind (after_statements T.statement k i ss x) (after_statements T.statement k i ss y)
  statements_rise k i [] x y r = r
  statements_rise k i (s ∷ ss) x y r = statements_rise k (i + 1) ss _ _ (where_rises (T.statement k i s) (λ a f. h.statement_fits k i s a f) (λ a b f g e. h.statement_rises k i s a b f g e) x y r)

  pub branch_goes : (k slot : ℕ) (b : Block) (x y : Lifted A) → Rise fits below kind x y → Rise fits below kind (where_reached x (T.branch k b.end slot)) (where_reached y (T.branch k b.end slot))
  branch_goes k slot b x y r = where_rises (T.branch k b.end slot) (λ a f. h.branch_fits k b.end slot a f) (λ a c f g e. h.branch_rises k b.end slot a c f g e) x y r

  along_rises : (blocks : List Block) (o : Option Branch) (x y : Lifted A) → Rise fits below kind x y → Rise fits below kind (along T blocks o x) (along T blocks o y)
  unfolding along
  along_rises blocks None x y r = not_reached
  along_rises blocks (Some branch) x y r = by (slice_get blocks branch.source)
    where
      by : (o : Option Block) → Rise fits below kind (along_block T branch o x) (along_block T branch o y)
      by None = not_reached
      by (Some b) = branch_goes branch.source branch.slot b _ _ (statements_rise branch.source 0 b.body x y r)

  pub start_by : (b : Bool) → FitsLifted fits kind (cond b T.begin NotReached)
  start_by true = h.begin_fits
  start_by false = tt

-- what fits is below itself
pub lifted_self : {A : Type 0} (fits : List ℕ → A → Type 0) (below : A → A → Bool) (kind : List ℕ) → ((a : A) → fits kind a → below a a ≡ true) → (x : Lifted A) → FitsLifted fits kind x → Rise fits below kind x x
lifted_self fits below kind self NotReached f = record { lower = tt; upper = tt; rises = refl }
lifted_self fits below kind self (Reached a) f = record { lower = f; upper = f; rises = self a f }

pub flow_laws : {A : Type 0} (fits : List ℕ → A → Type 0) (below : A → A → Bool) (kind : List ℕ) → ((a : A) → fits kind a → below a a ≡ true) → (T : BodySteps A) → StepsLaws fits below kind T → (blocks : List Block) →
    FlowLaws (FitsLifted fits kind) (lifted_below below) (equations_of T blocks)
flow_laws fits below kind self T h blocks = record {
  sources = λ e l. source_by blocks (slice_get (branches_of blocks) e) (is_branch blocks e l);
  targets = λ e l. target_by blocks (slice_get (branches_of blocks) e) (is_branch blocks e l);
  starts_fit = λ n l. start_by fits below kind T h (n == 0);
  flows_fit = λ e x l f. (along_rises fits below kind T h blocks (slice_get (branches_of blocks) e) x x (lifted_self fits below kind self x f)).lower;
  monotone = λ e x y l f g b. (along_rises fits below kind T h blocks (slice_get (branches_of blocks) e) x y (record { lower = f; upper = g; rises = b })).rises;
}
