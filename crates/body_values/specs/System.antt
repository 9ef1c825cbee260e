-- The analysis of a body keeps the laws of one.
use Rattle.std.specs.Prelude.{◌≡◌, ℕ, suc, ℤ, Bool, true, false, cond, List, [], ◌∷◌, ◌++◌, map, length, Option, Some, IfSome, refl}
use Rattle.std.specs.List.{list_any}
use Rattle.std.proofs.Common.{arith, sym, ap, subst}
use Rattle.gimple_ir.specs.declared.declarations.Register.{Register}
use Rattle.gimple_ir.specs.declared.program.Function.{Function}
use Rattle.gimple_core.specs.Sealed.{Sealed}
use Rattle.fix_engine.specs.declared.lifted.Lifted.{Lifted}
use Rattle.fix_engine.specs.declared.lifted.Lifted.TheVariants.{NotReached, Reached}
use Rattle.fix_engine.specs.Lifted.{FitsLifted}
use Rattle.fix_engine.specs.Rows.{Each, FitsRows, rows_below}
use Rattle.block_flow.specs.Steps.{StepsLaws}
use Rattle.value_domain.specs.declared.abs_val.AbsVal.{AbsVal}
use Rattle.value_domain.specs.Values.{FitsWith, FitsAbsVal, abs_val_below, is_none_val, kind_of, limit_in, thresholds_in}
use Rattle.value_domain.specs.Thresholds.{IsLawful}
use Rattle.value_domain.proofs.AloneLaws.{alone_fits}
use Rattle.value_domain.proofs.KindLaws.{kind_thresholds}
use Rattle.body_values.specs.declared.facts.Facts.{Facts}
use Rattle.body_values.specs.declared.facts.LoadFact.{LoadFact}
use Rattle.body_values.specs.Bodies.{Body, after_stmt, after_end}
use Rattle.body_values.specs.Flow.{is_point, fact_value, given_load, body_of, zero_constant, zero_value, entry_row, steps_of}
use Rattle.body_values.specs.Rows.{RowFits, LiftedFits, each_append}
use Rattle.body_values.specs.Rising.{LoadsFit, self, stmt_rises, end_rises}

-- one value a formal, and values that fit
pub record FactsFit (f : Function) (facts : Facts) (most : ℕ) (ts : List ℤ) : Type 0 where
  pub count : length facts.formals ≡ length f.params
  pub formals : Each (FitsWith most ts) facts.formals
  pub loads : Each (λ x. FitsWith most ts x.value) facts.loads

-- ---- kinds

pub kind_is : (most : ℕ) (ts : List ℤ) → IsLawful ts → thresholds_in (kind_of most ts) ≡ ts
kind_is most ts law = kind_thresholds most ts law

-- the values that fit the kind, as the lattice and as this crate says it
pub from_kind : (k : List ℕ) (n : ℕ) (x : Lifted (List AbsVal)) → FitsLifted (FitsRows FitsAbsVal) (n ∷ k) x → LiftedFits (limit_in k) (thresholds_in k) n x
from_kind k n NotReached h = tt
from_kind k n (Reached row) h = record { count = h.0; each = h.1 }

pub to_kind : (k : List ℕ) (n : ℕ) (x : Lifted (List AbsVal)) → LiftedFits (limit_in k) (thresholds_in k) n x → FitsLifted (FitsRows FitsAbsVal) (n ∷ k) x
to_kind k n NotReached h = tt
to_kind k n (Reached row) h = (h.count, h.each)

-- the same of the kind of a body
pub row_from : (most : ℕ) (ts : List ℤ) (n : ℕ) (row : List AbsVal) → IsLawful ts → FitsRows FitsAbsVal (n ∷ kind_of most ts) row → RowFits most ts n row
row_from most ts n row law h = subst (λ us. RowFits most us n row) (kind_is most ts law) (record { count = h.0; each = h.1 })

pub file_from : (most : ℕ) (ts : List ℤ) (n : ℕ) (x : Lifted (List AbsVal)) → IsLawful ts → FitsLifted (FitsRows FitsAbsVal) (n ∷ kind_of most ts) x → LiftedFits most ts n x
file_from most ts n x law h = subst (λ us. LiftedFits most us n x) (kind_is most ts law) (from_kind (kind_of most ts) n x h)

pub file_to : (most : ℕ) (ts : List ℤ) (n : ℕ) (x : Lifted (List AbsVal)) → IsLawful ts → LiftedFits most ts n x → FitsLifted (FitsRows FitsAbsVal) (n ∷ kind_of most ts) x
file_to most ts n x law h = to_kind (kind_of most ts) n x (subst (λ us. LiftedFits most us n x) (sym (kind_is most ts law)) h)

-- the laws of the analysis of a body with its kind
pub steps_laws : (B : Body) → IsLawful B.ends → LoadsFit B → (entry : Lifted (List AbsVal)) → LiftedFits B.most B.ends (length B.registers) entry →
    StepsLaws (FitsRows FitsAbsVal) (rows_below abs_val_below) (length B.registers ∷ kind_of B.most B.ends) (steps_of B entry)
steps_laws B law loads entry h = record {
  begin_fits = file_to B.most B.ends (length B.registers) entry law h;
  statement_fits = λ k i x a f. file_to B.most B.ends (length B.registers) (after_stmt B k i x a) law (stmt_rises B law loads k i x a a (self B law loads a (row_from B.most B.ends (length B.registers) a law f))).upper;
  statement_rises = λ k i x a b f g e. (stmt_rises B law loads k i x a b (record { lower = row_from B.most B.ends (length B.registers) a law f; upper = row_from B.most B.ends (length B.registers) b law g; below = e })).below;
  branch_fits = λ k e slot a f. file_to B.most B.ends (length B.registers) (after_end B e slot a) law (end_rises B law loads e slot a a (self B law loads a (row_from B.most B.ends (length B.registers) a law f))).upper;
  branch_rises = λ k e slot a b f g r. (end_rises B law loads e slot a b (record { lower = row_from B.most B.ends (length B.registers) a law f; upper = row_from B.most B.ends (length B.registers) b law g; below = r })).below;
}

-- ---- of a function with facts

fact_by : (P : AbsVal → Type 0) (b : Bool) (x : LoadFact) (o : Option LoadFact) → P x.value → IfSome (fact_value o) P → IfSome (fact_value (cond b (Some x) o)) P
fact_by P true x o h g = h
fact_by P false x o h g = g

pub given_fits : (P : AbsVal → Type 0) (loads : List LoadFact) (n k i : ℕ) → Each (λ x. P x.value) loads → IfSome (given_load loads n k i) P
given_fits P [] n k i h = tt
given_fits P (x ∷ loads) n k i h = fact_by P (is_point x.point n k i) x _ h.0 (given_fits P loads n k i h.1)

zeros_fit : (most : ℕ) (ts : List ℤ) → IsLawful ts → (rs : List Register) → Each (FitsWith most ts) (map (zero_value most ts) rs)
zeros_fit most ts law [] = tt
zeros_fit most ts law (r ∷ rs) = ((alone_fits most ts law r.scalar (zero_constant r.scalar)).0, zeros_fit most ts law rs)

lengths : (xs : List AbsVal) (ps rs : List Register) (f : Register → AbsVal) → length xs ≡ length ps → length (xs ++ map f rs) ≡ length (ps ++ rs)
lengths [] [] rs f e = same rs
  where
    same : (rs : List Register) → length (map f rs) ≡ length rs
    same [] = refl
    same (r ∷ rs) = ap suc (same rs)
lengths [] (p ∷ ps) rs f e = absurd (omega (arith, e))
lengths (x ∷ xs) [] rs f e = absurd (omega (arith, e))
lengths (x ∷ xs) (p ∷ ps) rs f e = ap suc (lengths xs ps rs f (omega (arith, e)))

entry_by : (f : Function) (facts : Facts) (most : ℕ) (ts : List ℤ) → IsLawful ts → FactsFit f facts most ts → (b : Bool) → LiftedFits most ts (length (f.params ++ f.registers)) (cond b NotReached (Reached (facts.formals ++ map (zero_value most ts) f.registers)))
entry_by f facts most ts law h true = tt
entry_by f facts most ts law h false = record {
  count = lengths facts.formals f.params f.registers (zero_value most ts) h.count;
  each = each_append (FitsWith most ts) facts.formals (map (zero_value most ts) f.registers) h.formals (zeros_fit most ts law f.registers);
}

pub entry_fits : (f : Function) (facts : Facts) (most : ℕ) (ts : List ℤ) → IsLawful ts → FactsFit f facts most ts → LiftedFits most ts (length (f.params ++ f.registers)) (entry_row f facts.formals most ts)
entry_fits f facts most ts law h = entry_by f facts most ts law h (list_any is_none_val facts.formals)

pub loads_fit : (p : Sealed) (n : ℕ) (f : Function) (facts : Facts) (most : ℕ) (ts : List ℤ) → FactsFit f facts most ts → LoadsFit (body_of p n f facts most ts)
loads_fit p n f facts most ts h = λ k i. given_fits (FitsWith most ts) facts.loads n k i h.loads
