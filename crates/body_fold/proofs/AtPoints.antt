-- What the code has of a point, and blocks one after the other.
use Rattle.std.proofs.Common.{◌≡◌, ℕ, zero, suc, ◌+◌, ◌<◌, true, List, [], ◌∷◌, ◌++◌, length, append_assoc, drop, get_or, refl, sym, ◌∙◌, ap, subst, arith, Some, Ok, slice_get}
use Rattle.std.proofs.lemmas.List.{drop_more}
use Rattle.std.proofs.lemmas.Option.{slice_get_read}
use Rattle.gimple_ir.specs.declared.statement.Stmt.{Stmt}
use Rattle.gimple_ir.specs.declared.block.End.{End}
use Rattle.gimple_ir.specs.declared.block.Block.{Block}
use Rattle.gimple_ir.specs.declared.program.Function.{Function}
use Rattle.gimple_core.specs.Env.{Env, Names}
use Rattle.gimple_core.specs.Statements as s
use Rattle.gimple_claims.specs.Checks.{StmtsPass, BlockPasses, BlocksPass}
use Rattle.gimple_claims.specs.Kept.{new_body, new_blocks}
use Rattle.fix_engine.specs.declared.lifted.Lifted.{Lifted}
use Rattle.value_domain.specs.declared.abs_val.AbsVal.{AbsVal}
use Rattle.body_values.specs.Found.{Found, found_row}
use Rattle.block_flow.specs.System.{body_at}
use Rattle.body_fold.specs.declared.folder.Folder.{Folder}
use Rattle.body_fold.specs.Fold.{stmt_at, end_at}
use Rattle.body_fold.specs.Folders.{folding_in}
use Rattle.body_fold.specs.Blocks.{stmt_in, end_in}

-- ---- points

module _ (s : Folder) (t : Found) where
  pub stmt_is : (k i : ℕ) (x y : Stmt) (row : Lifted (List AbsVal)) → row ≡ found_row t.rows k i → y ≡ stmt_at (folding_in s) k i x row → y ≡ stmt_in s t k i x
  unfolding stmt_in
  stmt_is k i x y row e h = h ∙ ap (stmt_at (folding_in s) k i x) e

  pub end_is : (k : ℕ) (b : Block) (x y : End) (row : Lifted (List AbsVal)) → slice_get s.function.now.blocks k ≡ Some b → row ≡ found_row t.rows k (length b.body) → y ≡ end_at (folding_in s) x row → y ≡ end_in s t k x
  unfolding end_in
  end_is k b x y row there e h = h ∙ ap (end_at (folding_in s) x) (e ∙ ap (λ o. found_row t.rows k (length (body_at o))) (sym there))

-- ---- checks

pub stmt_passes_at : (env : Env) (names : Names Function) (xs : List Stmt) (i : ℕ) (x : Stmt) → i < length xs → x ≡ get_or xs i x → StmtsPass env names xs → s.statement env names x ≡ Ok tt
stmt_passes_at env names [] i x l e h = absurd (omega (arith, l))
stmt_passes_at env names (y ∷ xs) zero x l e h = subst (λ z. s.statement env names z ≡ Ok tt) (sym e) h.0
stmt_passes_at env names (y ∷ xs) (suc i) x l e h = stmt_passes_at env names xs i x (omega (arith, l)) e h.1

pub block_passes_at : (env : Env) (names : Names Function) (bs : List Block) (k : ℕ) (b : Block) → k < length bs → b ≡ get_or bs k b → BlocksPass env names bs → BlockPasses env names b
block_passes_at env names [] k b l e h = absurd (omega (arith, l))
block_passes_at env names (y ∷ bs) zero b l e h = subst (BlockPasses env names) (sym e) h.0
block_passes_at env names (y ∷ bs) (suc k) b l e h = block_passes_at env names bs k b (omega (arith, l)) e h.1

pub block_there : (bs : List Block) (k : ℕ) (b : Block) → k < length bs → b ≡ get_or bs k b → slice_get bs k ≡ Some b
block_there bs k b l e = slice_get_read bs (length bs) k b refl l e

-- ---- one more

pub body_more : (put : ℕ → ℕ → Stmt → Stmt) (k i : ℕ) (xs : List Stmt) (x y : Stmt) (made new all : List Stmt) → i < length xs → x ≡ get_or xs i x → y ≡ put k i x → new ≡ made ++ y ∷ [] →
    made ++ new_body put k i (drop i xs) ≡ all → new ++ new_body put k (i + 1) (drop (i + 1) xs) ≡ all
body_more put k i xs x y made new all l is same pushed h =
    let rest : List Stmt = new_body put k (i + 1) (drop (i + 1) xs) in
    ap (λ (ys : List Stmt). ys ++ rest) pushed
    ∙ (append_assoc made (y ∷ []) rest
    ∙ (ap (λ (z : Stmt). made ++ (z ∷ rest)) (same ∙ ap (put k i) is)
    ∙ (ap (λ (ys : List Stmt). made ++ new_body put k i ys) (sym (drop_more xs i x l)) ∙ h)))

pub blocks_more : (put : ℕ → ℕ → Stmt → Stmt) (end : ℕ → End → End) (k : ℕ) (bs : List Block) (b c : Block) (made new all : List Block) → k < length bs → b ≡ get_or bs k b →
    c ≡ record { label = b.label; body = new_body put k 0 b.body; end = end k b.end } → new ≡ made ++ c ∷ [] →
    made ++ new_blocks put end (λ k. true) k (drop k bs) ≡ all → new ++ new_blocks put end (λ k. true) (k + 1) (drop (k + 1) bs) ≡ all
blocks_more put end k bs b c made new all l is same pushed h =
    let rest : List Block = new_blocks put end (λ k. true) (k + 1) (drop (k + 1) bs) in
    ap (λ (ys : List Block). ys ++ rest) pushed
    ∙ (append_assoc made (c ∷ []) rest
    ∙ (ap (λ (z : Block). made ++ (z ∷ rest)) (same ∙ ap (λ (z : Block). record { label = z.label; body = new_body put k 0 z.body; end = end k z.end }) is)
    ∙ (ap (λ (ys : List Block). made ++ new_blocks put end (λ k. true) k ys) (sym (drop_more bs k b l)) ∙ h)))
