-- The least solution with two nodes a block has the least solution with one at the begins.
use Rattle.std.proofs.Common.{◌≡◌, ℕ, zero, suc, ◌+◌, ◌-◌, ◌<◌, ◌≤◌, ◌==◌, nat_lt, Bool, true, false, cond, List, [], ◌∷◌, ◌++◌, length, length-append, take, refl, sym, ◌∙◌, ap, subst, arith, Option, Some, None, slice_get}
use Rattle.std.specs.Prelude.{slice_index_or}
use Rattle.std.proofs.lemmas.Bool.{ltb-true, ltb-false, lt-ltb, eqb-true}
use Rattle.gimple_ir.specs.declared.block.Block.{Block}
use Rattle.fix_engine.specs.declared.lifted.Lifted.{Lifted}
use Rattle.fix_engine.specs.declared.lifted.Lifted.TheVariants.{NotReached}
use Rattle.fix_engine.specs.Lattice.{LatticeLaws}
use Rattle.fix_engine.specs.Lifted.{FitsLifted, lifted_below, lifted_laws}
use Rattle.fix_engine.specs.Least.{IsSolution, IsLeast, value_at}
use Rattle.block_flow.specs.declared.branch.Branch.{Branch}
use Rattle.block_flow.specs.Branches.{branches_of}
use Rattle.block_flow.specs.Steps.{BodySteps, StepsLaws}
use Rattle.block_flow.specs.System.{source_of, to_of, start_value, along, along_block, equations_of}
use Rattle.block_flow.specs.Laws.{Rise, is_branch, source_by, target_by, lifted_self}
use Rattle.block_flow.specs.Halves.{through_block, taken_from, taken, halves_of}
use Rattle.block_flow.specs.HalvesLaws.{through_rises, taken_rises, branch_number}

-- ---- lists

length_take : {X : Type 0} (n m : ℕ) (zs : List X) → length zs ≡ n + m → length (take n zs) ≡ n
length_take zero m zs e = refl
length_take (suc n) m [] e = absurd (omega (arith, e))
length_take (suc n) m (z ∷ zs) e = ap suc (length_take n m zs (omega (arith, e)))

index_take : {X : Type 0} (n k : ℕ) (zs : List X) (d : X) → k < n → slice_index_or (take n zs) k d ≡ slice_index_or zs k d
index_take zero k zs d l = absurd (omega (arith, l))
index_take (suc n) k [] d l = refl
index_take (suc n) zero (z ∷ zs) d l = refl
index_take (suc n) (suc k) (z ∷ zs) d l = index_take n k zs d (omega (arith, l))

index_first : {X : Type 0} (ys ws : List X) (k : ℕ) (d : X) → k < length ys → slice_index_or (ys ++ ws) k d ≡ slice_index_or ys k d
index_first [] ws k d l = absurd (omega (arith, l))
index_first (y ∷ ys) ws zero d l = refl
index_first (y ∷ ys) ws (suc k) d l = index_first ys ws k d (omega (arith, l))

index_later : {X : Type 0} (n : ℕ) (ys ws : List X) (k : ℕ) (d : X) → length ys ≡ n → slice_index_or (ys ++ ws) (n + k) d ≡ slice_index_or ws k d
index_later zero [] ws k d e = let z : 0 + k ≡ k = omega arith in ap (λ j. slice_index_or ws j d) z
index_later (suc n) [] ws k d e = absurd (omega (arith, e))
index_later zero (y ∷ ys) ws k d e = absurd (omega (arith, e))
index_later (suc n) (y ∷ ys) ws k d e = let z : suc n + k ≡ suc (n + k) = omega arith in ap (λ j. slice_index_or ((y ∷ ys) ++ ws) j d) z ∙ index_later n ys ws k d (omega (arith, e))

-- the values of a function at the numbers below n
abbrev made : {X : Type 0} → ℕ → (ℕ → X) → List X
made zero f = []
made (suc n) f = f 0 ∷ made n (λ k. f (suc k))

length_made : {X : Type 0} (n : ℕ) (f : ℕ → X) → length (made n f) ≡ n
length_made zero f = refl
length_made (suc n) f = ap suc (length_made n (λ k. f (suc k)))

index_made : {X : Type 0} (n k : ℕ) (f : ℕ → X) (d : X) → k < n → slice_index_or (made n f) k d ≡ f k
index_made zero k f d l = absurd (omega (arith, l))
index_made (suc n) zero f d l = refl
index_made (suc n) (suc k) f d l = index_made n k (λ j. f (suc j)) d (omega (arith, l))

not_less_by : (n e : ℕ) (b : Bool) → nat_lt (n + e) n ≡ b → b ≡ false
not_less_by n e true t = let k : n + e < n = ltb-true (n + e) n t in absurd (omega (arith, k))
not_less_by n e false t = refl

not_less : (n e : ℕ) → nat_lt (n + e) n ≡ false
not_less n e = not_less_by n e (nat_lt (n + e) n) refl

-- ---- the two systems

along_halves : {A : Type 0} (T : BodySteps A) (blocks : List Block) (o : Option Branch) (x : Lifted A) → along T blocks o x ≡ taken T blocks o (through_block T (source_of o) (slice_get blocks (source_of o)) x)
unfolding along
along_halves T blocks None x = refl
along_halves T blocks (Some branch) x = by (slice_get blocks branch.source)
  where
    by : (o : Option Block) → along_block T branch o x ≡ taken_from T branch o (through_block T branch.source o x)
    by None = refl
    by (Some b) = refl

start_past : {A : Type 0} (k : ℕ) (x : Lifted A) (b : Bool) → (k == 0) ≡ b → 0 < k → cond b x NotReached ≡ NotReached
start_past k x true e l = let z : k ≡ 0 = eqb-true k 0 e in absurd (omega (arith, z, l))
start_past k x false e l = refl

start_later : {A : Type 0} (n i : ℕ) (x : Lifted A) → i < n → start_value x (n + i) ≡ NotReached
start_later n i x l = start_past (n + i) x ((n + i) == 0) refl (omega (arith, l))

module _ {A : Type 0} {fits : List ℕ → A → Type 0} {height : List ℕ → ℕ} {rank : List ℕ → A → ℕ} {below : A → A → Bool} {joined : A → A → A} (lat : LatticeLaws fits height rank below joined) (kind : List ℕ) (T : BodySteps A) (h : StepsLaws fits below kind T) (blocks : List Block) where
  abbrev n : ℕ
  n = length blocks

  abbrev m : ℕ
  m = length (branches_of blocks)

  abbrev F : Lifted A → Type 0
  F x = FitsLifted fits kind x

  abbrev L : Lifted A → Lifted A → Bool
  L x y = lifted_below below x y

  abbrev edge : ℕ → Option Branch
  edge e = slice_get (branches_of blocks) e

  abbrev V : List (Lifted A) → ℕ → Lifted A
  V zs k = value_at (halves_of T blocks) zs k

  over : (x y z : Lifted A) → F x → F y → F z → L x y ≡ true → L y z ≡ true → L x z ≡ true
  over x y z f g i p q = (lifted_laws lat).transitive kind x y z f g i p q

  same : (x : Lifted A) → F x → L x x ≡ true
  same x f = (lifted_laws lat).reflexive kind x f

  self : (x : Lifted A) → F x → Rise fits below kind x x
  self x f = lifted_self fits below kind (λ a g. lat.reflexive kind a g) x f

  through_fits : (k : ℕ) (x : Lifted A) → F x → F (through_block T k (slice_get blocks k) x)
  through_fits k x f = (through_rises fits below kind T h k (slice_get blocks k) x x (self x f)).lower

  taken_fits : (o : Option Branch) (x : Lifted A) → F x → F (taken T blocks o x)
  taken_fits o x f = (taken_rises fits below kind T h blocks o x x (self x f)).lower

  from_in : (e : ℕ) → e < m → source_of (edge e) < n
  from_in e l = source_by blocks (edge e) (is_branch blocks e l)

  to_in : (e : ℕ) → e < m → to_of (edge e) < n
  to_in e l = target_by blocks (edge e) (is_branch blocks e l)

  -- ---- from two nodes to one

  module _ (zs : List (Lifted A)) (solves : IsSolution (FitsLifted fits kind) (lifted_below below) (halves_of T blocks) zs) where
    begin_at : (k : ℕ) → k < n → value_at (equations_of T blocks) (take n zs) k ≡ V zs k
    begin_at k l = index_take n k zs (start_value T.begin k) l

    -- through a block
    end_above : (k : ℕ) → k < n → L (through_block T k (slice_get blocks k) (V zs k)) (V zs (n + k)) ≡ true
    end_above k l =
        let test : nat_lt k n ≡ true = lt-ltb k n l in
        let more : k < n + m = omega (arith, l) in
        subst (λ (b : Bool). L (cond b (through_block T k (slice_get blocks k) (V zs (cond b k (n + source_of (edge (k - n)))))) (taken T blocks (edge (k - n)) (V zs (cond b k (n + source_of (edge (k - n))))))) (V zs (cond b (n + k) (to_of (edge (k - n))))) ≡ true) test (solves.above_flows k more)

    -- along a branch
    begin_above : (e : ℕ) → e < m → L (taken T blocks (edge e) (V zs (n + source_of (edge e)))) (V zs (to_of (edge e))) ≡ true
    begin_above e l =
        let test : nat_lt (n + e) n ≡ false = not_less n e in
        let number : (n + e) - n ≡ e = omega arith in
        let more : n + e < n + m = omega (arith, l) in
        subst (λ (j : ℕ). L (taken T blocks (edge j) (V zs (n + source_of (edge j)))) (V zs (to_of (edge j))) ≡ true) number
        (subst (λ (b : Bool). L (cond b (through_block T (n + e) (slice_get blocks (n + e)) (V zs (cond b (n + e) (n + source_of (edge ((n + e) - n)))))) (taken T blocks (edge ((n + e) - n)) (V zs (cond b (n + e) (n + source_of (edge ((n + e) - n))))))) (V zs (cond b (n + (n + e)) (to_of (edge ((n + e) - n))))) ≡ true) test (solves.above_flows (n + e) more))

    fit_at : (k : ℕ) → k < n + n → F (V zs k)
    fit_at k l = solves.fit k l

    along_above : (e : ℕ) → e < m → L (along T blocks (edge e) (V zs (source_of (edge e)))) (V zs (to_of (edge e))) ≡ true
    along_above e l =
        let s : source_of (edge e) < n = from_in e l in
        let t : to_of (edge e) < n = to_in e l in
        let f : F (V zs (source_of (edge e))) = fit_at (source_of (edge e)) (omega (arith, s)) in
        let g : F (V zs (n + source_of (edge e))) = fit_at (n + source_of (edge e)) (omega (arith, s)) in
        let i : F (V zs (to_of (edge e))) = fit_at (to_of (edge e)) (omega (arith, t)) in
        let thr : Lifted A = through_block T (source_of (edge e)) (slice_get blocks (source_of (edge e))) (V zs (source_of (edge e))) in
        let tf : F (through_block T (source_of (edge e)) (slice_get blocks (source_of (edge e))) (V zs (source_of (edge e)))) = through_fits (source_of (edge e)) (V zs (source_of (edge e))) f in
        let one = (taken_rises fits below kind T h blocks (edge e) thr (V zs (n + source_of (edge e))) (record { lower = tf; upper = g; rises = end_above (source_of (edge e)) s })).rises in
        subst (λ x. L x (V zs (to_of (edge e))) ≡ true) (sym (along_halves T blocks (edge e) (V zs (source_of (edge e)))))
        (over _ _ _ (taken_fits (edge e) thr tf) (taken_fits (edge e) (V zs (n + source_of (edge e))) g) i one (begin_above e l))

    begins_solve : IsSolution (FitsLifted fits kind) (lifted_below below) (equations_of T blocks) (take n zs)
    begins_solve = record {
      one_each = length_take n n zs solves.one_each;
      fit = λ k l. subst F (sym (begin_at k l)) (fit_at k (omega (arith, l)));
      above_start = λ k l. subst (λ x. L (start_value T.begin k) x ≡ true) (sym (begin_at k l)) (solves.above_start k (omega (arith, l)));
      above_flows = λ e l.
          subst (λ x. L (along T blocks (edge e) x) (value_at (equations_of T blocks) (take n zs) (to_of (edge e))) ≡ true) (sym (begin_at (source_of (edge e)) (from_in e l)))
          (subst (λ x. L (along T blocks (edge e) (V zs (source_of (edge e)))) x ≡ true) (sym (begin_at (to_of (edge e)) (to_in e l))) (along_above e l));
    }

  -- ---- from one node to two

  module _ (ys : List (Lifted A)) (solves : IsSolution (FitsLifted fits kind) (lifted_below below) (equations_of T blocks) ys) where
    abbrev W : ℕ → Lifted A
    W k = value_at (equations_of T blocks) ys k

    abbrev end_of : ℕ → Lifted A
    end_of k = through_block T k (slice_get blocks k) (W k)

    abbrev both : List (Lifted A)
    both = ys ++ made n end_of

    first_is : (k : ℕ) → k < n → V both k ≡ W k
    first_is k l = let e = solves.one_each in index_first ys (made n end_of) k (start_value T.begin k) (omega (arith, e, l))

    later_is : (k : ℕ) → k < n → V both (n + k) ≡ end_of k
    later_is k l = index_later n ys (made n end_of) k (start_value T.begin (n + k)) solves.one_each ∙ index_made n k end_of (start_value T.begin (n + k)) l

    -- of all nodes, by the two kinds of them
    of_nodes : (P : ℕ → Type 0) → ((k : ℕ) → k < n → P k) → ((k : ℕ) → k < n → P (n + k)) → (j : ℕ) → j < n + n → P j
    of_nodes P first later j l = by (nat_lt j n) refl
      where
        by : (b : Bool) → nat_lt j n ≡ b → P j
        by true t = first j (ltb-true j n t)
        by false t = let k : n ≤ j = ltb-false j n t in let e : n + (j - n) ≡ j = omega (arith, k) in subst P e (later (j - n) (omega (arith, k, l)))

    flows : (e : ℕ) → e < n + m → (b : Bool) → nat_lt e n ≡ b →
        L (cond b (through_block T e (slice_get blocks e) (V both (cond b e (n + source_of (edge (e - n)))))) (taken T blocks (edge (e - n)) (V both (cond b e (n + source_of (edge (e - n))))))) (V both (cond b (n + e) (to_of (edge (e - n))))) ≡ true
    flows e l true t =
        let k : e < n = ltb-true e n t in
        subst (λ x. L (through_block T e (slice_get blocks e) x) (V both (n + e)) ≡ true) (sym (first_is e k))
        (subst (λ x. L (end_of e) x ≡ true) (sym (later_is e k)) (same (end_of e) (through_fits e (W e) (solves.fit e k))))
    flows e l false t =
        let j : e - n < m = branch_number n m e t l in
        subst (λ x. L (taken T blocks (edge (e - n)) x) (V both (to_of (edge (e - n)))) ≡ true) (sym (later_is (source_of (edge (e - n))) (from_in (e - n) j)))
        (subst (λ x. L (taken T blocks (edge (e - n)) (end_of (source_of (edge (e - n))))) x ≡ true) (sym (first_is (to_of (edge (e - n))) (to_in (e - n) j)))
        (subst (λ x. L x (W (to_of (edge (e - n)))) ≡ true) (along_halves T blocks (edge (e - n)) (W (source_of (edge (e - n))))) (solves.above_flows (e - n) j)))

    both_solve : IsSolution (FitsLifted fits kind) (lifted_below below) (halves_of T blocks) both
    both_solve = record {
      one_each = length-append ys (made n end_of) ∙ (ap (λ j. j + length (made n end_of)) solves.one_each ∙ ap (λ j. n + j) (length_made n end_of));
      fit = of_nodes (λ j. F (V both j)) (λ k l. subst F (sym (first_is k l)) (solves.fit k l)) (λ k l. subst F (sym (later_is k l)) (through_fits k (W k) (solves.fit k l)));
      above_start = of_nodes (λ j. L (start_value T.begin j) (V both j) ≡ true) (λ k l. subst (λ x. L (start_value T.begin k) x ≡ true) (sym (first_is k l)) (solves.above_start k l))
          (λ k l. subst (λ x. L x (V both (n + k)) ≡ true) (sym (start_later n k T.begin l)) refl);
      above_flows = λ e l. flows e l (nat_lt e n) refl;
    }

  -- ---- the least ones

  pub begins_least : (zs : List (Lifted A)) → IsLeast (FitsLifted fits kind) (lifted_below below) (halves_of T blocks) zs → IsLeast (FitsLifted fits kind) (lifted_below below) (equations_of T blocks) (take n zs)
  begins_least zs least = record {
    solves = begins_solve zs least.solves;
    least = λ ys solves k l.
        subst (λ x. L x (W ys solves k) ≡ true) (sym (begin_at zs least.solves k l))
        (subst (λ x. L (V zs k) x ≡ true) (first_is ys solves k l) (least.least (both ys solves) (both_solve ys solves) k (omega (arith, l))));
  }
