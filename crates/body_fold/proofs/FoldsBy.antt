-- What is folded by the values that were found is folded by a solution.
use Rattle.std.proofs.Common.{◌≡◌, ℕ, suc, ◌+◌, ◌<◌, ℤ, Bool, true, if◌then◌else◌, List, [], ◌∷◌, length, refl, sym, ◌∙◌, ap, subst, arith, Option, Some, None, slice_get}
use Rattle.std.proofs.lemmas.Bool.{le-leb}
use Rattle.gimple_ir.specs.declared.statement.Stmt.{Stmt}
use Rattle.gimple_ir.specs.declared.statement.Stmt.TheVariants.{Copy, Arith, Compare, Convert, Load, Store, Call, Indirect, Get, Put, Abort}
use Rattle.gimple_ir.specs.declared.block.Block.{Block}
use Rattle.gimple_ir.specs.declared.block.End.{End}
use Rattle.gimple_ir.specs.declared.block.End.TheVariants.{Goto, If, Switch, Return}
use Rattle.gimple_ir.specs.declared.program.Function.{Function}
use Rattle.gimple_core.specs.Sealed.{Sealed}
use Rattle.gimple_core.specs.Env.{functions_by_name}
use Rattle.gimple_claims.specs.Checks.{env_of}
use Rattle.gimple_claims.specs.Kept.{new_body, new_blocks}
use Rattle.fix_engine.specs.declared.lifted.Lifted.{Lifted}
use Rattle.fix_engine.specs.declared.lifted.Lifted.TheVariants.{NotReached, Reached}
use Rattle.value_domain.specs.declared.abs_val.AbsVal.{AbsVal}
use Rattle.body_values.specs.declared.facts.Facts.{Facts}
use Rattle.body_values.specs.Bodies.{operand_value, arith_value, compare_value, convert_value, result_value}
use Rattle.body_values.specs.Claims.{Analysed}
use Rattle.block_flow.specs.Branches.{labels_of}
use Rattle.block_flow.specs.System.{body_at}
use Rattle.body_values.specs.Flow.{given_load, body_of, values_at}
use Rattle.body_values.specs.Found.{Found, AreFound, found_row, is_index}
use Rattle.body_fold.specs.Claims.{Folds}
use Rattle.body_fold.specs.Fold.{Folding, known_register, known_operand, compared_constant, evaluated, never_traps, known_result, constant_for, folded_right, folded_left, folded_place, with_operands, folded_stmt, known_comparison, folded_end, stmt_at, end_at, new_stmt, new_end, IsLinked, first, linked, IsFolded}
use Rattle.body_fold.specs.Folders.{folding_by}

abbrev pub folding_of : Sealed → ℕ → Function → Facts → ℕ → List ℤ → Folding
folding_of p n f facts most ts = record { env = env_of p.program f; names = functions_by_name p.program.functions; body = body_of p n f facts most ts }

-- The function of this number of a program without a type fault, folded by a solution of its system.
pub record FoldsBy (p : Sealed) (n : ℕ) (f : Function) (facts : Facts) (most : ℕ) (ts : List ℤ) (xs : List (Lifted (List AbsVal))) (g : Function) : Type 0 where
  pub own : slice_get p.program.functions n ≡ Some f
  pub values : Analysed p n f facts most ts xs
  pub folded : IsFolded (folding_of p n f facts most ts) (values_at (body_of p n f facts most ts) f.blocks xs) f g

-- ---- what is given of loads does not matter

module _ (S : Folding) (loads : ℕ → ℕ → Option AbsVal) where
  abbrev T : Folding
  T = record S { body = record S.body { loads = loads } }

  stmt_alike : (k i : ℕ) (row : List AbsVal) (x : Stmt) → folded_stmt T k i row x ≡ folded_stmt S k i row x
  unfolding folded_stmt with_operands known_result evaluated never_traps known_operand known_register compared_constant constant_for folded_left folded_right folded_place operand_value arith_value compare_value convert_value result_value
  stmt_alike k i row (Copy to from) = refl
  stmt_alike k i row (Arith to left op right) = refl
  stmt_alike k i row (Compare to left cmp right) = refl
  stmt_alike k i row (Convert to target from) = refl
  stmt_alike k i row (Load to from place) = refl
  stmt_alike k i row (Store at place from) = refl
  stmt_alike k i row (Call None callee xs) = refl
  stmt_alike k i row (Call (Some to) callee xs) = refl
  stmt_alike k i row (Indirect None signature callee xs) = refl
  stmt_alike k i row (Indirect (Some to) signature callee xs) = refl
  stmt_alike k i row (Get to) = refl
  stmt_alike k i row (Put from) = refl
  stmt_alike k i row Abort = refl

  end_alike : (row : List AbsVal) (e : End) → folded_end T row e ≡ folded_end S row e
  unfolding folded_end known_comparison known_operand known_register compared_constant constant_for folded_left folded_right operand_value compare_value
  end_alike row (Goto to) = refl
  end_alike row (If left cmp right hit miss) = refl
  end_alike row (Switch on cases other) = refl
  end_alike row (Return None) = refl
  end_alike row (Return (Some x)) = refl

  stmt_at_alike : (k i : ℕ) (x : Stmt) (v : Lifted (List AbsVal)) → stmt_at T k i x v ≡ stmt_at S k i x v
  stmt_at_alike k i x NotReached = refl
  stmt_at_alike k i x (Reached row) = stmt_alike k i row x

  end_at_alike : (e : End) (v : Lifted (List AbsVal)) → end_at T e v ≡ end_at S e v
  end_at_alike e NotReached = refl
  end_at_alike e (Reached row) = end_alike row e

-- ---- the same at each point of the blocks

body_alike : (put more : ℕ → ℕ → Stmt → Stmt) (k n i : ℕ) (xs : List Stmt) → i + length xs ≡ n → ((j : ℕ) (x : Stmt) → j < n → put k j x ≡ more k j x) → new_body put k i xs ≡ new_body more k i xs
body_alike put more k n i [] e h = refl
body_alike put more k n i (x ∷ xs) e h =
    let here : put k i x ≡ more k i x = h i x (omega (arith, e)) in
    let rest : new_body put k (i + 1) xs ≡ new_body more k (i + 1) xs = body_alike put more k n (i + 1) xs (omega (arith, e)) h in
    λ j. here j ∷ rest j

record BlockAlike (put more : ℕ → ℕ → Stmt → Stmt) (end last : ℕ → End → End) (k : ℕ) (b : Block) : Type 0 where
  body : new_body put k 0 b.body ≡ new_body more k 0 b.body
  ends : end k b.end ≡ last k b.end

blocks_alike : (put more : ℕ → ℕ → Stmt → Stmt) (end last : ℕ → End → End) (keep : ℕ → Bool) (k : ℕ) (bs : List Block) → ((j m : ℕ) (b : Block) → k + j ≡ m → slice_get bs j ≡ Some b → BlockAlike put more end last m b) →
    new_blocks put end keep k bs ≡ new_blocks more last keep k bs
blocks_alike put more end last keep k [] h = refl
blocks_alike put more end last keep k (b ∷ bs) h =
    let here : BlockAlike put more end last k b = h 0 k b (omega arith) refl in
    let rest : new_blocks put end keep (k + 1) bs ≡ new_blocks more last keep (k + 1) bs = blocks_alike put more end last keep (k + 1) bs (λ j m c e g. h (suc j) m c (omega (arith, e)) g) in
    λ i. if keep k then record { label = b.label; body = here.body i; end = here.ends i } ∷ rest i else rest i

linked_alike : (bs : List Block) (end last : ℕ → End → End) → ((k : ℕ) (b : Block) → slice_get bs k ≡ Some b → end k b.end ≡ last k b.end) → (k : ℕ) → IsLinked bs end k → IsLinked bs last k
linked_alike bs end last h _ first = first
linked_alike bs end last h _ (linked k b slot label r e l) = linked k b slot label (linked_alike bs end last h k r) e (subst (λ (x : End). slice_get (labels_of x) slot ≡ Some label) (h k b e) l)

-- ---- by the values that were found

module _ (p : Sealed) (n : ℕ) (f : Function) (facts : Facts) (t : Found) (found : AreFound p n f facts t.limits t) where
  abbrev S : Folding
  S = folding_by p f t.limits

  abbrev points : ℕ → ℕ → Lifted (List AbsVal)
  points k i = found_row t.rows k i

  abbrev solved : ℕ → ℕ → Lifted (List AbsVal)
  solved = values_at (body_of p n f facts t.limits.size t.limits.ends) f.blocks found.begins

  abbrev put : ℕ → ℕ → Stmt → Stmt
  put k i x = new_stmt S points k i x

  abbrev more : ℕ → ℕ → Stmt → Stmt
  more k i x = new_stmt (folding_of p n f facts t.limits.size t.limits.ends) solved k i x

  abbrev end : ℕ → End → End
  end k e = new_end S f.blocks points k e

  abbrev last : ℕ → End → End
  last k e = new_end (folding_of p n f facts t.limits.size t.limits.ends) f.blocks solved k e

  point_same : (k i : ℕ) (b : Block) → slice_get f.blocks k ≡ Some b → i < suc (length b.body) → points k i ≡ solved k i
  point_same k i b e l =
      let test : is_index (slice_get f.blocks k) i ≡ true = ap (λ o. is_index o i) e ∙ le-leb i (length b.body) (omega (arith, l)) in
      found.points k i ∙ ap (λ c. if c then solved k i else NotReached) test

  put_same : (k i : ℕ) (x : Stmt) (b : Block) → slice_get f.blocks k ≡ Some b → i < length b.body → put k i x ≡ more k i x
  put_same k i x b e l = ap (stmt_at S k i x) (point_same k i b e (omega (arith, l))) ∙ sym (stmt_at_alike S (given_load facts.loads n) k i x (solved k i))

  end_same : (k : ℕ) (b : Block) → slice_get f.blocks k ≡ Some b → end k b.end ≡ last k b.end
  end_same k b e =
      let size : length (body_at (slice_get f.blocks k)) ≡ length b.body = ap (λ o. length (body_at o)) e in
      let same : points k (length (body_at (slice_get f.blocks k))) ≡ solved k (length (body_at (slice_get f.blocks k))) = point_same k (length (body_at (slice_get f.blocks k))) b e (omega (arith, size)) in
      ap (end_at S b.end) same ∙ sym (end_at_alike S (given_load facts.loads n) b.end (solved k (length (body_at (slice_get f.blocks k)))))

  block_same : (k : ℕ) (b : Block) → slice_get f.blocks k ≡ Some b → BlockAlike put more end last k b
  block_same k b e = record { body = body_alike put more k (length b.body) 0 b.body (omega arith) (λ j x l. put_same k j x b e l); ends = end_same k b e }

  solved_so : (g : Function) → IsFolded S points f g → IsFolded (folding_of p n f facts t.limits.size t.limits.ends) solved f g
  solved_so g h =
      let same : new_blocks put end h.keep 0 f.blocks ≡ new_blocks more last h.keep 0 f.blocks =
      blocks_alike put more end last h.keep 0 f.blocks (λ j m b e s. block_same m b (subst (λ k. slice_get f.blocks k ≡ Some b) (omega (arith, e)) s)) in
      record {
        keep = h.keep;
        kept = λ k. (λ on. linked_alike f.blocks end last (λ j b e. end_same j b e) k ((h.kept k).0 on), λ l. (h.kept k).1 (linked_alike f.blocks last end (λ j b e. sym (end_same j b e)) k l));
        is = h.is ∙ (λ i. record f { blocks = same i });
      }

same_function : {f g : Function} → Some f ≡ Some g → f ≡ g
same_function e = cc

pub folds_by : (p : Sealed) (n : ℕ) (f : Function) (facts : Facts) (t : Found) (g : Function) (folds : Folds p n f facts t g) → FoldsBy p n f facts t.limits.size t.limits.ends folds.values.begins g
folds_by p n f facts t g folds =
    let same : folds.folded.function ≡ f = same_function (sym folds.folded.own ∙ folds.own) in
    let by : IsFolded (folding_by p f t.limits) (λ k i. found_row t.rows k i) f g = subst (λ (h : Function). IsFolded (folding_by p h t.limits) (λ k i. found_row t.rows k i) h g) same folds.folded.folded in
    record {
      own = folds.own;
      values = record { accepted = folds.accepted; lawful = folds.lawful; fit = folds.fit; solves = folds.values.values.solves };
      folded = solved_so p n f facts t folds.values g by;
    }
