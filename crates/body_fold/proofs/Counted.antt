-- A program with its functions folded has no more parts than it had.
use Rattle.std.proofs.Common.{◌≡◌, ℕ, suc, ◌+◌, ◌<◌, ◌≤◌, Bool, true, false, if◌then◌else◌, List, [], ◌∷◌, length, refl, sym, ◌∙◌, ap, subst, arith, Option, Some, None, slice_get}
use Rattle.std.specs.Prelude.{sum_by}
use Rattle.std.specs.List.{All}
use Rattle.std.proofs.lemmas.List.Elements.{All-nil, All-head, All-tail, All-cons}
use Rattle.std.proofs.lemmas.List.Sums.{sum_by-cons}
use Rattle.gimple_ir.specs.declared.operand.Operand.{Operand}
use Rattle.gimple_ir.specs.declared.value.Constant.{Constant}
use Rattle.gimple_ir.specs.declared.statement.Stmt.{Stmt}
use Rattle.gimple_ir.specs.declared.block.Block.{Block}
use Rattle.gimple_ir.specs.declared.block.Case.{Case}
use Rattle.gimple_ir.specs.declared.block.End.{End}
use Rattle.gimple_ir.specs.declared.block.End.TheVariants.{Goto, If, Switch, Return}
use Rattle.gimple_ir.specs.declared.program.Function.{Function}
use Rattle.gimple_ir.specs.Size.{size_of_block, size_of_function, size_of_program, branches_of_end, branches_of_function}
use Rattle.gimple_ir.specs.Counts.{CountsWithin}
use Rattle.gimple_core.specs.Sealed.{Sealed, with_functions}
use Rattle.gimple_claims.specs.Kept.{new_body, new_blocks}
use Rattle.fix_engine.specs.declared.lifted.Lifted.{Lifted}
use Rattle.fix_engine.specs.declared.lifted.Lifted.TheVariants.{NotReached, Reached}
use Rattle.value_domain.specs.declared.abs_val.AbsVal.{AbsVal}
use Rattle.body_values.specs.declared.facts.Facts.{Facts}
use Rattle.body_values.specs.Found.{Found, found_row}
use Rattle.body_fold.specs.Fold.{Folding, known_operand, known_comparison, folded_left, folded_right, goto_or, case_or, folded_end, end_at, new_stmt, new_end, IsFolded}
use Rattle.body_fold.specs.Claims.{IsNoLarger, FoldIsNoLarger, FoldsTo, FoldsAll}
use Rattle.body_fold.specs.Folders.{folding_by, IsFoldOf}

-- ---- two lists of as many items

all_through : {X : Type 0} (P : X → Type 0) (xs ys : List X) → length ys ≡ length xs → All P xs → ((n : ℕ) (x y : X) → slice_get xs n ≡ Some x → slice_get ys n ≡ Some y → P x → P y) → All P ys
all_through P [] [] e h g = All-nil P
all_through P [] (y ∷ ys) e h g = absurd (omega (arith, e))
all_through P (x ∷ xs) [] e h g = All-nil P
all_through P (x ∷ xs) (y ∷ ys) e h g = All-cons P y ys (g 0 x y refl refl (All-head P x xs h)) (all_through P xs ys (omega (arith, e)) (All-tail P x xs h) (λ n a b k l. g (suc n) a b k l))

sum_through : {X : Type 0} (size : X → ℕ) (xs ys : List X) → length ys ≡ length xs → ((n : ℕ) (x y : X) → slice_get xs n ≡ Some x → slice_get ys n ≡ Some y → size y ≤ size x) → sum_by size ys ≤ sum_by size xs
sum_through size [] [] e g = omega arith
sum_through size [] (y ∷ ys) e g = absurd (omega (arith, e))
sum_through size (x ∷ xs) [] e g = absurd (omega (arith, e))
sum_through size (x ∷ xs) (y ∷ ys) e g =
    let here : size y ≤ size x = g 0 x y refl refl in
    let rest = sum_through size xs ys (omega (arith, e)) (λ n a b k l. g (suc n) a b k l) in
    omega (arith, here, rest, sum_by-cons size x xs, sum_by-cons size y ys)

-- ---- blocks

abbrev branches : Block → ℕ
branches b = branches_of_end b.end

module _ (put : ℕ → ℕ → Stmt → Stmt) (end : ℕ → End → End) (keep : ℕ → Bool) where
  abbrev made : ℕ → Block → Block
  made k b = record { label = b.label; body = new_body put k 0 b.body; end = end k b.end }

  body_length : (k i : ℕ) (xs : List Stmt) → length (new_body put k i xs) ≡ length xs
  body_length k i [] = refl
  body_length k i (x ∷ xs) = ap suc (body_length k (i + 1) xs)

  sum_new : (size : Block → ℕ) → ((k : ℕ) (b : Block) → size (made k b) ≤ size b) → (k : ℕ) (bs : List Block) → sum_by size (new_blocks put end keep k bs) ≤ sum_by size bs
  sum_new size less k [] = omega arith
  sum_new size less k (b ∷ bs) = by (keep k) (sum_new size less (k + 1) bs)
    where
      rest : List Block
      rest = new_blocks put end keep (k + 1) bs

      by : (t : Bool) → sum_by size rest ≤ sum_by size bs → sum_by size (if t then made k b ∷ rest else rest) ≤ sum_by size (b ∷ bs)
      by true h = let here = less k b in omega (arith, h, here, sum_by-cons size (made k b) rest, sum_by-cons size b bs)
      by false h = omega (arith, h, sum_by-cons size b bs)

  count_new : (k : ℕ) (bs : List Block) → length (new_blocks put end keep k bs) ≤ length bs
  count_new k [] = omega arith
  count_new k (b ∷ bs) = by (keep k) (count_new (k + 1) bs)
    where
      by : (t : Bool) → length (new_blocks put end keep (k + 1) bs) ≤ length bs → length (if t then made k b ∷ new_blocks put end keep (k + 1) bs else new_blocks put end keep (k + 1) bs) ≤ suc (length bs)
      by true h = omega (arith, h)
      by false h = omega (arith, h)

  pub size_new : (k : ℕ) (bs : List Block) → sum_by size_of_block (new_blocks put end keep k bs) ≤ sum_by size_of_block bs
  size_new k bs = sum_new size_of_block (λ j b. let same = body_length j 0 b.body in omega (arith, same)) k bs

  pub branches_new : ((k : ℕ) (e : End) → branches_of_end (end k e) ≤ branches_of_end e) → (k : ℕ) (bs : List Block) → sum_by branches (new_blocks put end keep k bs) ≤ sum_by branches bs
  branches_new less k bs = sum_new branches (λ j b. less j b.end) k bs

-- ---- ends

goto_branches : (o : Option Constant) (hit miss : ℕ) (e : End) → 1 ≤ branches_of_end e → branches_of_end (goto_or o hit miss e) ≤ branches_of_end e
goto_branches None hit miss e l = omega arith
goto_branches (Some c) hit miss e l = l

case_branches : (o : Option Constant) (on : Operand) (cases : List Case) (other : ℕ) → branches_of_end (case_or o cases other (Switch on cases other)) ≤ length cases + 1
case_branches None on cases other = omega arith
case_branches (Some c) on cases other = omega arith

module _ (S : Folding) where
  end_branches : (row : List AbsVal) (e : End) → branches_of_end (folded_end S row e) ≤ branches_of_end e
  unfolding folded_end
  end_branches row (Goto to) = omega arith
  end_branches row (If left cmp right hit miss) = goto_branches (known_comparison S.body row left cmp right) hit miss (If (folded_left S row left cmp right) cmp (folded_right S row left cmp right) hit miss) (omega arith)
  end_branches row (Switch on cases other) = case_branches (known_operand S.body row on) on cases other
  end_branches row (Return None) = omega arith
  end_branches row (Return (Some x)) = omega arith

  pub end_at_branches : (e : End) (v : Lifted (List AbsVal)) → branches_of_end (end_at S e v) ≤ branches_of_end e
  end_at_branches e NotReached = omega arith
  end_at_branches e (Reached row) = end_branches row e

-- ---- a function

no_larger : (S : Folding) (values : ℕ → ℕ → Lifted (List AbsVal)) (f g : Function) → IsFolded S values f g → IsNoLarger f g
no_larger S values f g h =
    let put : ℕ → ℕ → Stmt → Stmt = new_stmt S values in
    let end : ℕ → End → End = new_end S f.blocks values in
    let blocks : g.blocks ≡ new_blocks put end h.keep 0 f.blocks = ap (λ (z : Function). z.blocks) h.is in
    record {
      size = subst (λ bs. sum_by size_of_block bs ≤ size_of_function f) (sym blocks) (size_new put end h.keep 0 f.blocks);
      blocks = subst (λ (bs : List Block). length bs ≤ length f.blocks) (sym blocks) (count_new put end h.keep 0 f.blocks);
      branches = subst (λ bs. sum_by branches bs ≤ branches_of_function f) (sym blocks) (branches_new put end h.keep (λ k e. end_at_branches S e _) 0 f.blocks);
      head = h.is ∙ (λ i. record f { blocks = sym blocks i });
    }

same_function : {f g : Function} → Some f ≡ Some g → f ≡ g
same_function e = cc

-- what a function is folded to
pub fold_no_larger : (p : Sealed) (n : ℕ) (t : Found) (g : Function) → IsFoldOf p n t g → FoldIsNoLarger p n g
fold_no_larger p n t g h f own =
    let same : h.function ≡ f = same_function (sym h.own ∙ own) in
    subst (λ (z : Function). IsNoLarger z g) same (no_larger (folding_by p h.function t.limits) (λ k i. found_row t.rows k i) h.function g h.folded)

stays_no_larger : (f : Function) → IsNoLarger f f
stays_no_larger f = record { size = omega arith; blocks = omega arith; branches = omega arith; head = refl }

to_no_larger : (p : Sealed) (n : ℕ) (f g : Function) → slice_get p.program.functions n ≡ Some f → (o : Option Facts) → FoldsTo p n f g o → IsNoLarger f g
to_no_larger p n f g own None same = subst (IsNoLarger f) (sym same) (stays_no_larger f)
to_no_larger p n f g own (Some facts) folds = fold_no_larger p n folds.0 g folds.1.folded f own

-- ---- the program

-- all functions together are no larger
pub fold_size : (p : Sealed) (facts : ℕ → Option Facts) (gs : List Function) → FoldsAll p facts gs → size_of_program (with_functions p gs).program ≤ size_of_program p.program
fold_size p facts gs folds =
    sum_through size_of_function p.program.functions gs folds.count (λ n f g own made. (to_no_larger p n f g own (facts n) (folds.each n f g own made)).size)

pub fold_counts : (p : Sealed) (facts : ℕ → Option Facts) (gs : List Function) → FoldsAll p facts gs → (m : ℕ) → CountsWithin m p.program → CountsWithin m (with_functions p gs).program
fold_counts p facts gs folds m h =
    let fs : List Function = p.program.functions in
    let each : (n : ℕ) (f g : Function) → slice_get fs n ≡ Some f → slice_get gs n ≡ Some g → IsNoLarger f g = λ n f g own made. to_no_larger p n f g own (facts n) (folds.each n f g own made) in
    let whole = fold_size p facts gs folds in
    let size : size_of_program p.program < m = h.size in
    let functions = h.functions in
    let many : length gs ≡ length fs = folds.count in
    record {
      structs = h.structs;
      fields = h.fields;
      globals = h.globals;
      functions = omega (arith, many, functions);
      size = omega (arith, whole, size);
      formals = all_through (λ (z : Function). length z.params < m) fs gs folds.count h.formals (λ n f g own made few. subst (λ (z : Function). length z.params < m) (sym (each n f g own made).head) few);
      locals = all_through (λ (z : Function). length z.locals < m) fs gs folds.count h.locals (λ n f g own made few. subst (λ (z : Function). length z.locals < m) (sym (each n f g own made).head) few);
      branches = all_through (λ (z : Function). branches_of_function z < m) fs gs folds.count h.branches
          (λ n f g own made few. let less : branches_of_function g ≤ branches_of_function f = (each n f g own made).branches in let most : branches_of_function f < m = few in omega (arith, less, most));
    }
