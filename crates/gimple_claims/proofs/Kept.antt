-- The blocks that are kept.
use Rattle.std.proofs.Common.{◌≡◌, ℕ, ◌+◌, ◌==◌, Bool, true, false, if◌then◌else◌, List, [], ◌∷◌, refl, ap, subst, Option, Some, None}
use Rattle.gimple_ir.specs.declared.block.Block.{Block}
use Rattle.gimple_ir.specs.declared.statement.Stmt.{Stmt}
use Rattle.gimple_ir.specs.declared.block.End.{End}
use Rattle.gimple_core.specs.Run.{block_from, labelled}
use Rattle.gimple_claims.specs.Kept.{new_body, new_blocks}
use Rattle.gimple_claims.proofs.Blocks.{first_or, block_in, number_in}

-- the kept block of this number is found
pub record NewAt (put : ℕ → ℕ → Stmt → Stmt) (end : ℕ → End → End) (n : ℕ) (b : Block) (o : Option (ℕ × Block)) : Type 0 where
  pub number : ℕ
  pub block : Block
  pub found : o ≡ Some (number, block)
  pub body : block.body ≡ new_body put n 0 b.body
  pub ends : block.end ≡ end n b.end

module _ (put : ℕ → ℕ → Stmt → Stmt) (end : ℕ → End → End) (keep : ℕ → Bool) (label : ℕ) where
  abbrev made : ℕ → Block → Block
  made k b = record { label = b.label; body = new_body put k 0 b.body; end = end k b.end }

  -- the new blocks, this one kept or not
  abbrev with_kept : Bool → ℕ → Block → List Block → List Block
  with_kept kk k x rest = if kk then made k x ∷ rest else rest

  new_here : (k n m : ℕ) (x b : Block) (rest : List Block) → (x.label == label) ≡ true → k ≡ n → x ≡ b → NewAt put end n b (block_from label m (made k x ∷ rest))
  unfolding block_from
  new_here k n m x b rest t at same =
      subst (λ j. NewAt put end j b (block_from label m (made k x ∷ rest))) at
      (subst (λ y. NewAt put end k y (block_from label m (made k x ∷ rest))) same (record { number = m; block = made k x; found = rw t refl; body = refl; ends = refl }))

  not_both : (n : ℕ) → keep n ≡ false → keep n ≡ true → ⊥
  not_both n e f = cc

  new_of : (k n m : ℕ) (x b : Block) (o : Option (ℕ × Block)) (rest : List Block) → ((j : ℕ) → o ≡ Some (n, b) → NewAt put end n b (block_from label j rest)) → keep n ≡ true → (t : Bool) → (x.label == label) ≡ t → (kk : Bool) → keep k ≡ kk → first_or t k x o ≡ Some (n, b) →
      NewAt put end n b (block_from label m (with_kept kk k x rest))
  unfolding block_from
  new_of k n m x b o rest more kept true t true g e = let pair : (k, x) ≡ (n, b) = cc in new_here k n m x b rest t (ap number_in pair) (ap block_in pair)
  new_of k n m x b o rest more kept true t false g e = let pair : (k, x) ≡ (n, b) = cc in absurd (not_both n (subst (λ j. keep j ≡ false) (ap number_in pair) g) kept)
  new_of k n m x b o rest more kept false t true g e = rw t (more (m + 1) e)
  new_of k n m x b o rest more kept false t false g e = more m e

  found_new : (k n m : ℕ) (bs : List Block) (b : Block) → block_from label k bs ≡ Some (n, b) → keep n ≡ true → NewAt put end n b (block_from label m (new_blocks put end keep k bs))
  unfolding block_from
  found_new k n m [] b e kept = cc
  found_new k n m (x ∷ xs) b e kept =
      new_of k n m x b (block_from label (k + 1) xs) (new_blocks put end keep (k + 1) xs) (λ j f. found_new (k + 1) n j xs b f kept) kept (x.label == label) refl (keep k) refl e

  none_of : (k m : ℕ) (x : Block) (o : Option (ℕ × Block)) (rest : List Block) → ((j : ℕ) → o ≡ None → block_from label j rest ≡ None) → (t : Bool) → (x.label == label) ≡ t → (kk : Bool) → first_or t k x o ≡ None → block_from label m (with_kept kk k x rest) ≡ None
  unfolding block_from
  none_of k m x o rest more true t kk e = cc
  none_of k m x o rest more false t true e = rw t (more (m + 1) e)
  none_of k m x o rest more false t false e = more m e

  none_from : (k m : ℕ) (bs : List Block) → block_from label k bs ≡ None → block_from label m (new_blocks put end keep k bs) ≡ None
  unfolding block_from
  none_from k m [] e = refl
  none_from k m (x ∷ xs) e = none_of k m x (block_from label (k + 1) xs) (new_blocks put end keep (k + 1) xs) (λ j f. none_from (k + 1) j xs f) (x.label == label) refl (keep k) e

  pub none_new : (bs : List Block) → labelled label bs ≡ None → labelled label (new_blocks put end keep 0 bs) ≡ None
  none_new bs e = none_from 0 0 bs e

  pub kept_new : (bs : List Block) (n : ℕ) (b : Block) → labelled label bs ≡ Some (n, b) → keep n ≡ true → NewAt put end n b (labelled label (new_blocks put end keep 0 bs))
  kept_new bs n b e kept = found_new 0 n 0 bs b e kept
