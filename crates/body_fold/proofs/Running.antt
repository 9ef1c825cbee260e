-- A program with its functions folded runs as the program does.
use Rattle.std.proofs.Common.{◌≡◌, ℕ, ℤ, Bool, true, List, [], ◌∷◌, refl, sym, ◌∙◌, ap, subst, Option, Some, None, slice_get}
use Rattle.std.specs.List.{list_all}
use Rattle.gimple_ir.specs.declared.scalar.Scalar.TheVariants.{I64}
use Rattle.gimple_ir.specs.declared.block.Block.{Block}
use Rattle.gimple_ir.specs.declared.block.End.{End}
use Rattle.gimple_ir.specs.declared.statement.Stmt.{Stmt}
use Rattle.gimple_ir.specs.declared.program.Function.{Function}
use Rattle.gimple_core.specs.Sealed.{Sealed, with_functions}
use Rattle.gimple_core.specs.Operators.{in_scalar}
use Rattle.gimple_core.specs.Run.{labelled, Run}
use Rattle.gimple_core.specs.Trace.{InEachRun}
use Rattle.gimple_claims.specs.Bodies.{FactsClaim}
use Rattle.gimple_claims.specs.Kept.{new_blocks}
use Rattle.gimple_claims.proofs.Kept.{NewAt, none_new, kept_new}
use Rattle.fix_engine.specs.declared.lifted.Lifted.{Lifted}
use Rattle.value_domain.specs.declared.abs_val.AbsVal.{AbsVal}
use Rattle.body_values.specs.declared.facts.Facts.{Facts}
use Rattle.body_values.specs.Claims.{given_of}
use Rattle.body_fold.specs.Fold.{new_stmt, new_end, first}
use Rattle.body_fold.specs.Claims.{FoldsTo, FoldsAll, FactsHold}
use Rattle.body_fold.specs.Folders.{NamesMean}
use Rattle.body_fold.proofs.FoldsBy.{FoldsBy, folds_by}
use Rattle.body_fold.proofs.Acting.{exit_is}
use Rattle.body_fold.proofs.Names.{names_mean}
use Rattle.body_fold.proofs.Pieces.{FirstMade, LabelMade, Piece, stays, pieces_run}
use Rattle.body_fold.proofs.Points.{S, values, stmt_here, call_here, end_here, jump_kept}

module _ (p : Sealed) (n : ℕ) (f : Function) (facts : Facts) (most : ℕ) (ts : List ℤ) (xs : List (Lifted (List AbsVal))) (g : Function) (folds : FoldsBy p n f facts most ts xs g) (all : InEachRun p (FactsClaim f (given_of n f facts)))
    (mean : NamesMean p.program.globals f.locals) (input : List ℤ) (numbers : list_all (in_scalar I64) input ≡ true) where
  abbrev put : ℕ → ℕ → Stmt → Stmt
  put k i x = new_stmt (S p n f facts most ts xs g folds all mean input numbers) (values p n f facts most ts xs g folds all mean input numbers) k i x

  abbrev end : ℕ → End → End
  end k e = new_end (S p n f facts most ts xs g folds all mean input numbers) f.blocks (values p n f facts most ts xs g folds all mean input numbers) k e

  abbrev keep : ℕ → Bool
  keep = folds.folded.keep

  abbrev new : List Block
  new = new_blocks put end keep 0 f.blocks

  blocks_are : g.blocks ≡ new
  blocks_are = ap (λ (h : Function). h.blocks) folds.folded.is

  begin_new : (bs : List Block) (kk : Bool) → kk ≡ keep 0 → kk ≡ true → FirstMade put end bs (new_blocks put end keep 0 bs)
  begin_new [] kk e k = tt
  begin_new (b ∷ bs) kk e k = rw (sym e ∙ k) (record { body = refl; ends = refl })

  jump_some : (k : ℕ) (b : Block) (o : Option (ℕ × Block)) → NewAt put end k b o → LabelMade put end (Some (k, b)) o
  jump_some k b o h = subst (LabelMade put end (Some (k, b))) (sym h.found) (record { body = h.body; ends = h.ends })

  jump_new : (label : ℕ) (o : Option (ℕ × Block)) → ((k : ℕ) (b : Block) → o ≡ Some (k, b) → keep k ≡ true) → labelled label f.blocks ≡ o → LabelMade put end o (labelled label new)
  jump_new label None kept e = subst (LabelMade put end None) (sym (none_new put end keep label f.blocks e)) tt
  jump_new label (Some (k, b)) kept e = jump_some k b _ (kept_new put end keep label f.blocks k b e (kept k b refl))

  -- the folded function stands for its source
  pub folded_piece : Piece p input f g
  folded_piece = record {
    put = put;
    end = end;
    is = folds.folded.is ∙ (λ i. record f { blocks = sym blocks_are i });
    begins = subst (FirstMade put end f.blocks) (sym blocks_are) (begin_new f.blocks (keep 0) refl ((folds.folded.kept 0).1 first));
    acts = λ past s x rest comes own e u. stmt_here p n f facts most ts xs g folds all mean input numbers past s x rest comes own e u;
    calls = λ past s x rest c comes own e u.
        let a = call_here p n f facts most ts xs g folds all mean input numbers past s x rest c comes own e u in
        (record { to = c.to; callee = c.callee; arguments = a.arguments }, a.is, refl, a.values_same, refl);
    ends = λ past s comes own e. exit_is p.program.globals (end s.top.block s.top.end) s ∙ end_here p n f facts most ts xs g folds all mean input numbers past s comes own e;
    jumps = λ past s label comes own e x.
        subst (λ bs. LabelMade put end (labelled label f.blocks) (labelled label bs)) (sym blocks_are)
        (jump_new label (labelled label f.blocks) (λ k b there. (folds.folded.kept k).1 (jump_kept p n f facts most ts xs g folds all mean input numbers past s label k b comes own e x there)) refl);
  }

-- ---- the program

piece_by : (p : Sealed) (facts : ℕ → Option Facts) (gs : List Function) → FoldsAll p facts gs → FactsHold p facts → (input : List ℤ) → list_all (in_scalar I64) input ≡ true →
    (n : ℕ) (f g : Function) → slice_get p.program.functions n ≡ Some f → (o : Option Facts) → facts n ≡ o → FoldsTo p n f g o → Piece p input f g
piece_by p facts gs h hold input numbers n f g own None e same = subst (Piece p input f) (sym same) (stays p input f)
piece_by p facts gs h hold input numbers n f g own (Some x) e folds =
    folded_piece p n f x folds.0.limits.size folds.0.limits.ends folds.1.values.begins g (folds_by p n f x folds.0 g folds.1) (hold n f x own e) (names_mean p.program n f h.accepted own) input numbers

pub folds_keep_run : (p : Sealed) (facts : ℕ → Option Facts) (gs : List Function) → FoldsAll p facts gs → FactsHold p facts → (input : List ℤ) → list_all (in_scalar I64) input ≡ true → (turns : ℕ) → Run p input turns ≡ Run (with_functions p gs) input turns
folds_keep_run p facts gs h hold input numbers turns =
    pieces_run p input gs h.count (λ n f g own made. piece_by p facts gs h hold input numbers n f g own (facts n) refl (h.each n f g own made)) turns
