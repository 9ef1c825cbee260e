-- What a taken end says of registers is in the values behind it.
use Rattle.std.proofs.Common.{◌≡◌, ℕ, zero, suc, ◌==◌, ℤ, Bool, true, false, cond, not, ◌&&◌, if◌then◌else◌, inl, inr, List, [], ◌∷◌, ◌++◌, map, length, refl, sym, ◌∙◌, ap, subst, arith, int_le, int_lt, Option, Some, None, Ok, slice_get}
use Rattle.std.specs.List.{find, position_or_len}
use Rattle.std.proofs.lemmas.Int.{ints}
use Rattle.std.proofs.lemmas.List.Folds.{find_at}
use Rattle.gimple_ir.specs.declared.scalar.Scalar.{Scalar}
use Rattle.gimple_ir.specs.declared.scalar.Cmp.{Cmp}
use Rattle.gimple_ir.specs.declared.scalar.Cmp.TheVariants.{Eq, Ne, Lt, Le, Gt, Ge}
use Rattle.gimple_ir.specs.declared.value.Value.{Value}
use Rattle.gimple_ir.specs.declared.value.Value.TheVariants.{Int as Number, Null as NullPointer, At, Code}
use Rattle.gimple_ir.specs.declared.value.Object.{Object}
use Rattle.gimple_ir.specs.declared.value.Object.TheVariants.{Global, Local}
use Rattle.gimple_ir.specs.declared.value.Constant.TheVariants.{Int}
use Rattle.gimple_ir.specs.declared.operand.Operand.{Operand}
use Rattle.gimple_ir.specs.declared.operand.Operand.TheVariants.{Reg, Number as NumberOperand, Null, Address}
use Rattle.gimple_ir.specs.declared.declarations.Register.{Register}
use Rattle.gimple_ir.specs.declared.block.Case.{Case}
use Rattle.gimple_ir.specs.declared.block.End.{End}
use Rattle.gimple_ir.specs.declared.block.End.TheVariants.{If, Switch}
use Rattle.gimple_ir.specs.declared.program.Function.{Function}
use Rattle.gimple_core.specs.Sealed.{Sealed}
use Rattle.std.specs.Str.{bytes_eq}
use Rattle.gimple_core.specs.Operators.{in_scalar, cmp_of}
use Rattle.gimple_core.specs.Memory.{same_object}
use Rattle.gimple_core.specs.State.{Scope, registers_of, value_in, is_of}
use Rattle.gimple_core.specs.Run.{value_of, compares, pointers_compare, same_pointer, any_number, case_for, case_target}
use Rattle.gimple_core.specs.Verdict.{demand}
use Rattle.gimple_core.specs.Env.{scalar_of}
use Rattle.gimple_core.specs.Statements as s
use Rattle.gimple_core.proofs.NameLemmas.{same_name_true}
use Rattle.gimple_core.proofs.EnvLemmas.{same_test as name_turned}
use Rattle.gimple_claims.proofs.Checked.{ok_same}
use Rattle.gimple_core.proofs.Passed.{err_no, first_passed, demanded}
use Rattle.gimple_claims.specs.Checks.{env_of}
use Rattle.gimple_claims.specs.Typed.{registers_typed}
use Rattle.fix_engine.specs.declared.lifted.Lifted.{Lifted}
use Rattle.fix_engine.specs.declared.lifted.Lifted.TheVariants.{NotReached, Reached}
use Rattle.value_domain.specs.declared.abs_val.AbsVal.{AbsVal}
use Rattle.gimple_core.specs.Statements.{is_pointer}
use Rattle.value_domain.specs.RangeOperators.{opposite}
use Rattle.value_domain.specs.AbsOperators.{abs_met, refined_of}
use Rattle.value_domain.specs.Values.{FitsWith}
use Rattle.value_domain.specs.Thresholds.{IsLawful}
use Rattle.value_domain.specs.Holding.{Holds, is_equality, MayCompare}
use Rattle.value_domain.specs.AbsOperators.{exactly_of}
use Rattle.value_domain.proofs.WholeLemmas.{IsGood, number_value}
use Rattle.value_domain.proofs.OperatorLaws.{any_is}
use Rattle.value_domain.proofs.AloneLaws.{alone_holds, alone_fits}
use Rattle.value_domain.proofs.MeetLaws.{meet_holds_all, meet_fits_all}
use Rattle.value_domain.proofs.RefineLaws.{refine_holds, refine_fits}
use Rattle.block_flow.specs.Branches.{labels_of}
use Rattle.block_flow.specs.Steps.{where_reached}
use Rattle.body_values.specs.declared.facts.Facts.{Facts}
use Rattle.body_values.specs.Bodies.{Body, register_scalar, put_value, operand_value, sides_scalar, may_compare, turned, register_of, left_sides, after_compare, without_cases, case_left, after_switch, after_end}
use Rattle.body_values.specs.Flow.{body_of}
use Rattle.body_values.specs.Rows.{RowFits}
use Rattle.body_values.specs.Rising.{LoadsFit, may_compare_is, turned_may}
use Rattle.gimple_claims.proofs.TypedValues.{int_is}
use Rattle.body_values.proofs.Held.{RowHolds, FileHolds, refined_holds, put_holds}
use Rattle.body_values.proofs.Stmts.{register, good, SidesHold, sides_hold}

-- ---- comparisons with their sides exchanged, and opposite ones

swap : (a b : Bool) → (a && b) ≡ (b && a)
swap true true = refl
swap true false = refl
swap false true = refl
swap false false = refl

cmp_turned : (cmp : Cmp) (a b : ℤ) → cmp_of cmp a b ≡ cmp_of (turned cmp) b a
cmp_turned Eq a b = swap (int_le a b) (int_le b a)
cmp_turned Ne a b = ap not (swap (int_le a b) (int_le b a))
cmp_turned Lt a b = refl
cmp_turned Le a b = refl
cmp_turned Gt a b = refl
cmp_turned Ge a b = refl

eq_turned : (m n : ℕ) → (m == n) ≡ (n == m)
eq_turned m n = grind arith

object_turned : (a b : Object) → same_object a b ≡ same_object b a
object_turned (Global k) (Global j) = eq_turned k j
object_turned (Global k) (Local r j) = refl
object_turned (Local r k) (Global j) = refl
object_turned (Local r k) (Local t j) = λ i. eq_turned r t i && eq_turned k j i

pointer_turned : (v w : Value) → same_pointer v w ≡ same_pointer w v
pointer_turned NullPointer NullPointer = refl
pointer_turned NullPointer (At b j) = refl
pointer_turned NullPointer (Number z) = refl
pointer_turned NullPointer (Code g) = refl
pointer_turned (At a i) NullPointer = refl
pointer_turned (At a i) (Number z) = refl
pointer_turned (At a i) (Code g) = refl
pointer_turned (At a i) (At b j) = λ k. object_turned a b k && cmp_turned Eq i j k
pointer_turned (Number z) NullPointer = refl
pointer_turned (Number z) (At b j) = refl
pointer_turned (Number z) (Number y) = refl
pointer_turned (Number z) (Code g) = refl
pointer_turned (Code f) NullPointer = refl
pointer_turned (Code f) (At b j) = refl
pointer_turned (Code f) (Number y) = refl
pointer_turned (Code f) (Code g) = name_turned f g

pointers_turned : (cmp : Cmp) (b : Bool) → pointers_compare cmp b ≡ pointers_compare (turned cmp) b
pointers_turned Eq b = refl
pointers_turned Ne b = refl
pointers_turned Lt b = refl
pointers_turned Le b = refl
pointers_turned Gt b = refl
pointers_turned Ge b = refl

both_turned : (cmp : Cmp) (v w : Value) → pointers_compare cmp (same_pointer v w) ≡ pointers_compare (turned cmp) (same_pointer w v)
both_turned cmp v w = pointers_turned cmp (same_pointer v w) ∙ ap (pointers_compare (turned cmp)) (pointer_turned v w)

compares_turned : (v : Value) (cmp : Cmp) (w : Value) → compares v cmp w ≡ compares w (turned cmp) v
unfolding compares
compares_turned (Number a) cmp (Number b) = cmp_turned cmp a b
compares_turned (Number a) cmp NullPointer = both_turned cmp (Number a) NullPointer
compares_turned (Number a) cmp (At y j) = both_turned cmp (Number a) (At y j)
compares_turned (Number a) cmp (Code g) = both_turned cmp (Number a) (Code g)
compares_turned NullPointer cmp (Number b) = both_turned cmp NullPointer (Number b)
compares_turned NullPointer cmp NullPointer = both_turned cmp NullPointer NullPointer
compares_turned NullPointer cmp (At y j) = both_turned cmp NullPointer (At y j)
compares_turned NullPointer cmp (Code g) = both_turned cmp NullPointer (Code g)
compares_turned (At x i) cmp (Number b) = both_turned cmp (At x i) (Number b)
compares_turned (At x i) cmp NullPointer = both_turned cmp (At x i) NullPointer
compares_turned (At x i) cmp (At y j) = both_turned cmp (At x i) (At y j)
compares_turned (At x i) cmp (Code g) = both_turned cmp (At x i) (Code g)
compares_turned (Code f) cmp (Number b) = both_turned cmp (Code f) (Number b)
compares_turned (Code f) cmp NullPointer = both_turned cmp (Code f) NullPointer
compares_turned (Code f) cmp (At y j) = both_turned cmp (Code f) (At y j)
compares_turned (Code f) cmp (Code g) = both_turned cmp (Code f) (Code g)

negated : (b : Bool) → b ≡ false → not b ≡ true
negated true h = cc
negated false h = refl

doubly : (b : Bool) → not b ≡ false → b ≡ true
doubly true h = refl
doubly false h = cc

less_not : (a b : ℤ) → int_lt a b ≡ false → int_le b a ≡ true
less_not a b h = grind (arith, ints)

most_not : (a b : ℤ) → int_le a b ≡ false → int_lt b a ≡ true
most_not a b h = grind (arith, ints)

cmp_opposite : (cmp : Cmp) (a b : ℤ) → cmp_of cmp a b ≡ false → cmp_of (opposite cmp) a b ≡ true
cmp_opposite Eq a b h = negated _ h
cmp_opposite Ne a b h = doubly _ h
cmp_opposite Lt a b h = less_not a b h
cmp_opposite Le a b h = most_not a b h
cmp_opposite Gt a b h = less_not b a h
cmp_opposite Ge a b h = most_not b a h

pointers_opposite : (cmp : Cmp) (b : Bool) → is_equality (opposite cmp) ≡ true → pointers_compare cmp b ≡ false → pointers_compare (opposite cmp) b ≡ true
pointers_opposite Eq b e h = negated b h
pointers_opposite Ne b e h = doubly b h
pointers_opposite Lt b e h = cc
pointers_opposite Le b e h = cc
pointers_opposite Gt b e h = cc
pointers_opposite Ge b e h = cc

-- where a comparison does not hold, the opposite one does
compares_opposite : (scalar : Scalar) (cmp : Cmp) (v w : Value) → MayCompare (opposite cmp) scalar → is_of scalar v ≡ true → is_of scalar w ≡ true → compares v cmp w ≡ false → compares v (opposite cmp) w ≡ true
unfolding compares
compares_opposite scalar cmp v w (inl np) a b h = numbers v w (number_value scalar v np a) (number_value scalar w np b) h
  where
    numbers : (v w : Value) → (z : ℤ) × (v ≡ Number z) × (in_scalar scalar z ≡ true) → (y : ℤ) × (w ≡ Number y) × (in_scalar scalar y ≡ true) → compares v cmp w ≡ false → compares v (opposite cmp) w ≡ true
    numbers (Number a) (Number b) x y h = cmp_opposite cmp a b h
    numbers NullPointer w x y h = absurd (let e = x.1 in cc)
    numbers (At c d) w x y h = absurd (let e = x.1 in cc)
    numbers (Number a) NullPointer x y h = absurd (let e = y.1 in cc)
    numbers (Number a) (At c d) x y h = absurd (let e = y.1 in cc)
    numbers (Code g) w x y h = absurd (let e = x.1 in cc)
    numbers (Number a) (Code g) x y h = absurd (let e = y.1 in cc)
compares_opposite scalar cmp v w (inr eq) a b h = by v w h
  where
    by : (v w : Value) → compares v cmp w ≡ false → compares v (opposite cmp) w ≡ true
    by (Number a) (Number b) g = cmp_opposite cmp a b g
    by (Number a) NullPointer g = pointers_opposite cmp _ eq g
    by (Number a) (At y j) g = pointers_opposite cmp _ eq g
    by (Number a) (Code n) g = pointers_opposite cmp _ eq g
    by NullPointer (Number b) g = pointers_opposite cmp _ eq g
    by NullPointer NullPointer g = pointers_opposite cmp _ eq g
    by NullPointer (At y j) g = pointers_opposite cmp _ eq g
    by NullPointer (Code n) g = pointers_opposite cmp _ eq g
    by (At x i) (Number b) g = pointers_opposite cmp _ eq g
    by (At x i) NullPointer g = pointers_opposite cmp _ eq g
    by (At x i) (At y j) g = pointers_opposite cmp _ eq g
    by (At x i) (Code n) g = pointers_opposite cmp _ eq g
    by (Code m) w g = pointers_opposite cmp _ eq g

-- ---- cases

label_at : (cs : List Case) (other : ℕ) (n : ℕ) (c : Case) → slice_get cs n ≡ Some c → slice_get (map (λ c. c.target) cs ++ other ∷ []) n ≡ Some c.target
label_at [] other n c e = cc
label_at (x ∷ cs) other zero c e = let same : x ≡ c = cc in ap (λ (y : Case). Some y.target) same
label_at (x ∷ cs) other (suc n) c e = label_at cs other n c e

label_last : (cs : List Case) (other : ℕ) → slice_get (map (λ c. c.target) cs ++ other ∷ []) (length cs) ≡ Some other
label_last [] other = refl
label_last (x ∷ cs) other = label_last cs other

past_last : (cs : List Case) → slice_get cs (length cs) ≡ None
past_last [] = refl
past_last (x ∷ cs) = past_last cs

abbrev AllApart : ℤ → List Case → Type 0
AllApart z [] = Unit {0}
AllApart z (c ∷ cs) = (cmp_of Eq z c.value ≡ false) × AllApart z cs

all_apart : (z : ℤ) (cs : List Case) → find (λ c. cmp_of Eq z c.value) cs ≡ None → AllApart z cs
all_apart z [] e = tt
all_apart z (c ∷ cs) e = by (cmp_of Eq z c.value) e (all_apart z cs)
  where
    by : (b : Bool) → (if b then Some c else find (λ c. cmp_of Eq z c.value) cs) ≡ None → (find (λ c. cmp_of Eq z c.value) cs ≡ None → AllApart z cs) → (b ≡ false) × AllApart z cs
    by true g more = cc
    by false g more = (refl, more g)

found_equal : (z : ℤ) (cs : List Case) (c : Case) → find (λ c. cmp_of Eq z c.value) cs ≡ Some c → cmp_of Eq z c.value ≡ true
found_equal z [] c e = cc
found_equal z (x ∷ cs) c e = by (cmp_of Eq z x.value) refl e (found_equal z cs c)
  where
    by : (b : Bool) → cmp_of Eq z x.value ≡ b → (if b then Some x else find (λ c. cmp_of Eq z c.value) cs) ≡ Some c → (find (λ c. cmp_of Eq z c.value) cs ≡ Some c → cmp_of Eq z c.value ≡ true) → cmp_of Eq z c.value ≡ true
    by true t g more = let same : x ≡ c = cc in subst (λ (y : Case). cmp_of Eq z y.value ≡ true) same t
    by false t g more = more g

abbrev CasesOf : Scalar → List Case → Type 0
CasesOf scalar [] = Unit {0}
CasesOf scalar (c ∷ cs) = (in_scalar scalar c.value ≡ true) × CasesOf scalar cs

cases_of : (scalar : Scalar) (earlier : List ℤ) (cs : List Case) → s.case_values scalar earlier cs ≡ Ok tt → CasesOf scalar cs
unfolding s.case_values s.new_case
cases_of scalar earlier [] e = tt
cases_of scalar earlier (c ∷ cs) e =
    let a = first_passed (s.new_case scalar earlier c.value) _ tt e in
    let b = first_passed (demand (in_scalar scalar c.value) 13) _ a.0 a.1 in
    (demanded _ 13 b.1, cases_of scalar a.0 cs a.2)

found_of : (scalar : Scalar) (cs : List Case) (n : ℕ) (c : Case) → CasesOf scalar cs → slice_get cs n ≡ Some c → in_scalar scalar c.value ≡ true
found_of scalar [] n c h e = cc
found_of scalar (x ∷ cs) zero c h e = let same : x ≡ c = cc in subst (λ (y : Case). in_scalar scalar y.value ≡ true) same h.0
found_of scalar (x ∷ cs) (suc n) c h e = found_of scalar cs n c h.1 e

not_pointer : (b : Bool) → not b ≡ true → b ≡ false
not_pointer true h = cc
not_pointer false h = refl

-- ---- taken ends

module _ (p : Sealed) (n : ℕ) (f : Function) (facts : Facts) (most : ℕ) (ts : List ℤ) (law : IsLawful ts) (serial : ℕ) (values : List Value)
    (t : registers_typed (registers_of f) values ≡ true) (loads : LoadsFit (body_of p n f facts most ts)) where
  abbrev B : Body
  B = body_of p n f facts most ts

  abbrev scope : Scope
  scope = record { declared = registers_of f; locals = f.locals; serial = serial }

  abbrev rs : List Register
  rs = f.params ++ f.registers

  abbrev value : Operand → Value
  value x = value_of p.program.globals scope values x

  register_value : (x : Operand) (name : List ℕ) → register_of x ≡ Some name → value x ≡ value_in scope values name
  register_value (Reg m) name e = let same : m ≡ name = cc in ap (value_in scope values) same
  register_value (NumberOperand z) name e = cc
  register_value Null name e = cc
  register_value (Address v o) name e = cc

  -- what is left of a register's value holds it
  put_refined : (row : List AbsVal) (name : List ℕ) (b : AbsVal) → RowHolds row values → FitsWith most ts b → Holds (value_in scope values name) b → FileHolds (put_value rs row name b) values
  put_refined row name b h f g = put_holds most ts rs row values name (value_in scope values name) b f g (refined_holds scope row values name b t h g)

  where_holds : (x : Lifted (List AbsVal)) (g : List AbsVal → Lifted (List AbsVal)) → FileHolds x values → ((row : List AbsVal) → RowHolds row values → FileHolds (g row) values) → FileHolds (where_reached x g) values
  where_holds NotReached g h each = absurd h
  where_holds (Reached row) g h each = each row h

  -- both sides of a comparison that is taken
  record Taken (scalar : Scalar) (cmp : Cmp) (left right : Operand) (a b : AbsVal) : Type 0 where
    may : MayCompare cmp scalar
    good_left : IsGood most ts scalar a
    good_right : IsGood most ts scalar b
    typed_left : is_of scalar (value left) ≡ true
    typed_right : is_of scalar (value right) ≡ true
    left_holds : Holds (value left) a
    right_holds : Holds (value right) b
    is : compares (value left) cmp (value right) ≡ true

  module _ (scalar : Scalar) (cmp : Cmp) (left right : Operand) (a b : AbsVal) (h : Taken scalar cmp left right a b) where
    left_good : IsGood most ts scalar (refined_of cmp ts a b)
    left_good = refine_fits most ts law cmp scalar h.may a b h.good_left.0 h.good_left.1 h.good_right.0 h.good_right.1

    right_good : IsGood most ts scalar (refined_of (turned cmp) ts b a)
    right_good = refine_fits most ts law (turned cmp) scalar (turned_may cmp scalar h.may) b a h.good_right.0 h.good_right.1 h.good_left.0 h.good_left.1

    left_left : Holds (value left) (refined_of cmp ts a b)
    left_left = refine_holds most ts law cmp scalar h.may a b h.good_left.0 h.good_left.1 h.good_right.0 h.good_right.1 (value left) (value right) h.typed_left h.typed_right h.left_holds h.right_holds h.is

    right_left : Holds (value right) (refined_of (turned cmp) ts b a)
    right_left =
        refine_holds most ts law (turned cmp) scalar (turned_may cmp scalar h.may) b a h.good_right.0 h.good_right.1 h.good_left.0 h.good_left.1 (value right) (value left) h.typed_right h.typed_left h.right_holds h.left_holds
        (sym (compares_turned (value left) cmp (value right)) ∙ h.is)

    two_sides : (row : List AbsVal) → RowHolds row values → (o q : List ℕ) → value left ≡ value_in scope values o → value right ≡ value_in scope values q → (e : Bool) → bytes_eq o q ≡ e → FileHolds
        (cond e (put_value rs row o (abs_met (refined_of cmp ts a b) (refined_of (turned cmp) ts b a))) (where_reached (put_value rs row o (refined_of cmp ts a b)) (λ z. put_value rs z q (refined_of (turned cmp) ts b a)))) values
    two_sides row g o q x y true e =
        let names : o ≡ q = same_name_true o q e in
        let other : value right ≡ value_in scope values o = y ∙ ap (value_in scope values) (sym names) in
        put_refined row o _ g (meet_fits_all most ts scalar _ _ left_good.0 left_good.1 right_good.0 right_good.1).0
        (meet_holds_all most ts _ _ left_good.0 right_good.0 (value_in scope values o) (subst (λ v. Holds v (refined_of cmp ts a b)) x left_left) (subst (λ v. Holds v (refined_of (turned cmp) ts b a)) other right_left))
    two_sides row g o q x y false e =
        where_holds (put_value rs row o (refined_of cmp ts a b)) (λ z. put_value rs z q (refined_of (turned cmp) ts b a))
        (put_refined row o _ g left_good.0 (subst (λ v. Holds v (refined_of cmp ts a b)) x left_left))
        (λ z w. put_refined z q _ w right_good.0 (subst (λ v. Holds v (refined_of (turned cmp) ts b a)) y right_left))

    sides_left : (row : List AbsVal) → RowHolds row values → (o q : Option (List ℕ)) → register_of left ≡ o → register_of right ≡ q → FileHolds (left_sides B cmp row o q a b) values
    sides_left row g (Some o) (Some q) x y = two_sides row g o q (register_value left o x) (register_value right q y) (bytes_eq o q) refl
    sides_left row g (Some o) None x y = put_refined row o _ g left_good.0 (subst (λ v. Holds v (refined_of cmp ts a b)) (register_value left o x) left_left)
    sides_left row g None (Some q) x y = put_refined row q _ g right_good.0 (subst (λ v. Holds v (refined_of (turned cmp) ts b a)) (register_value right q y) right_left)
    sides_left row g None None x y = g

  module _ (row : List AbsVal) (fits : RowFits most ts (length (f.params ++ f.registers)) row) (h : RowHolds row values) where
    compared_left : (left : Operand) (cmp : Cmp) (right : Operand) (taken : Cmp) → s.compared (env_of p.program f) left cmp right ≡ Ok tt → (may_compare taken (sides_scalar B left right) ≡ true → compares (value left) taken (value right) ≡ true) →
        FileHolds (after_compare B (sides_scalar B left right) taken left right row) values
    unfolding after_compare
    compared_left left cmp right taken e g = by (may_compare taken (sides_scalar B left right)) refl
      where
        by : (m : Bool) → may_compare taken (sides_scalar B left right) ≡ m →
            FileHolds (cond m (left_sides B taken row (register_of left) (register_of right) (operand_value B row (sides_scalar B left right) left) (operand_value B row (sides_scalar B left right) right)) (Reached row)) values
        by true m =
            let x : SidesHold p n f facts most ts law serial values row t fits h loads left cmp right = sides_hold p n f facts most ts law serial values row t fits h loads left cmp right e in
            sides_left (sides_scalar B left right) taken left right _ _ (record {
              may = may_compare_is taken (sides_scalar B left right) m;
              good_left = good p n f facts most ts law serial values row t fits h loads (sides_scalar B left right) left;
              good_right = good p n f facts most ts law serial values row t fits h loads (sides_scalar B left right) right;
              typed_left = x.left_holds.typed;
              typed_right = x.right_side.typed;
              left_holds = x.left_holds.holds;
              right_holds = x.right_side.holds;
              is = g m;
            }) row h (register_of left) (register_of right) refl refl
        by false m = h

    if_left : (left : Operand) (cmp : Cmp) (right : Operand) → s.compared (env_of p.program f) left cmp right ≡ Ok tt → (r : Bool) → compares (value left) cmp (value right) ≡ r →
        FileHolds (after_compare B (sides_scalar B left right) (if r then cmp else opposite cmp) left right row) values
    if_left left cmp right e true c = compared_left left cmp right cmp e (λ m. c)
    if_left left cmp right e false c =
        let x : SidesHold p n f facts most ts law serial values row t fits h loads left cmp right = sides_hold p n f facts most ts law serial values row t fits h loads left cmp right e in
        compared_left left cmp right (opposite cmp) e (λ m. compares_opposite (sides_scalar B left right) cmp (value left) (value right) (may_compare_is (opposite cmp) (sides_scalar B left right) m) x.left_holds.typed x.right_side.typed c)

    -- ---- switches

    without_good : (scalar : Scalar) (cs : List Case) (a : AbsVal) → IsGood most ts scalar a → IsGood most ts scalar (without_cases B scalar cs a)
    without_good scalar [] a g = g
    without_good scalar (c ∷ cs) a g =
        let w = alone_fits most ts law scalar (Int c.value) in
        without_good scalar cs _ (refine_fits most ts law Ne scalar (inr refl) a (exactly_of scalar most ts (Int c.value)) g.0 g.1 w.0 w.1)

    number_typed : (scalar : Scalar) (z : ℤ) → is_pointer scalar ≡ false → in_scalar scalar z ≡ true → is_of scalar (Number z) ≡ true
    number_typed scalar z e i = int_is scalar z (rw e refl) i

    apart_ints : (z y : ℤ) → cmp_of Eq z y ≡ false → compares (Number z) Ne (Number y) ≡ true
    unfolding compares
    apart_ints z y e = negated _ e

    equal_ints : (z y : ℤ) → cmp_of Eq z y ≡ true → compares (Number z) Eq (Number y) ≡ true
    unfolding compares
    equal_ints z y e = e

    without_holds : (scalar : Scalar) (z : ℤ) (cs : List Case) (a : AbsVal) → is_pointer scalar ≡ false → in_scalar scalar z ≡ true → CasesOf scalar cs → AllApart z cs → IsGood most ts scalar a → Holds (Number z) a → Holds (Number z) (without_cases B scalar cs a)
    without_holds scalar z [] a np i all apart g h = h
    without_holds scalar z (c ∷ cs) a np i all apart g h =
        let w = alone_fits most ts law scalar (Int c.value) in
        let typed : is_of scalar (Number c.value) ≡ true = number_typed scalar c.value np all.0 in
        let held : Holds (Number c.value) (exactly_of scalar most ts (Int c.value)) = alone_holds most ts law scalar (Number c.value) (Int c.value) typed refl in
        without_holds scalar z cs _ np i all.1 apart.1 (refine_fits most ts law Ne scalar (inr refl) a _ g.0 g.1 w.0 w.1)
        (refine_holds most ts law Ne scalar (inr refl) a _ g.0 g.1 w.0 w.1 (Number z) (Number c.value) (number_typed scalar z np i) typed h held (apart_ints z c.value apart.0))

    case_holds : (scalar : Scalar) (z : ℤ) (c : Case) (a : AbsVal) → is_pointer scalar ≡ false → in_scalar scalar z ≡ true → in_scalar scalar c.value ≡ true → cmp_of Eq z c.value ≡ true → IsGood most ts scalar a → Holds (Number z) a →
        Holds (Number z) (refined_of Eq ts a (exactly_of scalar most ts (Int c.value)))
    case_holds scalar z c a np i j e g h =
        let w = alone_fits most ts law scalar (Int c.value) in
        let typed : is_of scalar (Number c.value) ≡ true = number_typed scalar c.value np j in
        refine_holds most ts law Eq scalar (inr refl) a _ g.0 g.1 w.0 w.1 (Number z) (Number c.value) (number_typed scalar z np i) typed h (alone_holds most ts law scalar (Number c.value) (Int c.value) typed refl) (equal_ints z c.value e)

    -- the branch that is taken, and the values behind it
    pub record Branches (e : End) (label : ℕ) : Type 0 where
      pub slot : ℕ
      pub label_is : slice_get (labels_of e) slot ≡ Some label
      pub holds : FileHolds (after_end B e slot row) values

    switch_by : (name : List ℕ) (cs : List Case) (other : ℕ) (scalar : Scalar) (z : ℤ) → register_scalar rs name ≡ scalar → value_in scope values name ≡ Number z → is_pointer scalar ≡ false → in_scalar scalar z ≡ true → CasesOf scalar cs →
        Holds (Number z) (operand_value B row scalar (Reg name)) → (o : Option Case) → find (λ c. cmp_of Eq z c.value) cs ≡ o → Branches (Switch (Reg name) cs other) (case_target o other)
    unfolding after_end after_switch
    switch_by name cs other scalar z same v np i all held None e = record {
      slot = length cs;
      label_is = label_last cs other;
      holds =
          subst (λ o. FileHolds (put_value rs row name (case_left B (register_scalar rs name) cs (operand_value B row (register_scalar rs name) (Reg name)) o)) values) (sym (past_last cs))
          (subst (λ c. FileHolds (put_value rs row name (without_cases B c cs (operand_value B row c (Reg name)))) values) (sym same)
          (let g = good p n f facts most ts law serial values row t fits h loads scalar (Reg name) in
          put_refined row name _ h (without_good scalar cs _ g).0 (subst (λ u. Holds u (without_cases B scalar cs (operand_value B row scalar (Reg name)))) (sym v) (without_holds scalar z cs _ np i all (all_apart z cs e) g held))));
    }
    switch_by name cs other scalar z same v np i all held (Some c) e =
        let place : ℕ = position_or_len (λ (c : Case). cmp_of Eq z c.value) cs in
        let there : slice_get cs place ≡ Some c = sym (find_at (λ (c : Case). cmp_of Eq z c.value) cs) ∙ e in
        record {
          slot = position_or_len (λ (c : Case). cmp_of Eq z c.value) cs;
          label_is = label_at cs other place c there;
          holds =
              subst (λ o. FileHolds (put_value rs row name (case_left B (register_scalar rs name) cs (operand_value B row (register_scalar rs name) (Reg name)) o)) values) (sym there)
              (subst (λ d. FileHolds (put_value rs row name (refined_of Eq ts (operand_value B row d (Reg name)) (exactly_of d most ts (Int c.value)))) values) (sym same)
              (let g = good p n f facts most ts law serial values row t fits h loads scalar (Reg name) in
              let w = alone_fits most ts law scalar (Int c.value) in
              put_refined row name _ h (refine_fits most ts law Eq scalar (inr refl) _ _ g.0 g.1 w.0 w.1).0
              (subst (λ u. Holds u (refined_of Eq ts (operand_value B row scalar (Reg name)) (exactly_of scalar most ts (Int c.value)))) (sym v)
              (case_holds scalar z c _ np i (found_of scalar cs place c all there) (found_equal z cs c e) g held))));
        }

    slot_cmp : (r : Bool) (cmp : Cmp) → (cond (cond r 0 1 == 0) cmp (opposite cmp)) ≡ (cond r cmp (opposite cmp))
    slot_cmp true cmp = refl
    slot_cmp false cmp = refl

    slot_label : (r : Bool) (hit miss : ℕ) → slice_get (hit ∷ miss ∷ []) (cond r 0 1) ≡ Some (cond r hit miss)
    slot_label true hit miss = refl
    slot_label false hit miss = refl

    pub if_branches : (left : Operand) (cmp : Cmp) (right : Operand) (hit miss : ℕ) → s.compared (env_of p.program f) left cmp right ≡ Ok tt → Branches (If left cmp right hit miss) (if compares (value left) cmp (value right) then hit else miss)
    unfolding after_end
    if_branches left cmp right hit miss e =
        let r : Bool = compares (value left) cmp (value right) in
        record {
          slot = cond (compares (value left) cmp (value right)) 0 1;
          label_is = slot_label r hit miss;
          holds = subst (λ c. FileHolds (after_compare B (sides_scalar B left right) c left right row) values) (sym (slot_cmp r cmp)) (if_left left cmp right e r refl);
        }

    pub switch_branches : (on : Operand) (cs : List Case) (other : ℕ) → s.ending (env_of p.program f) (Switch on cs other) ≡ Ok tt → Branches (Switch on cs other) (case_for (any_number (value on)) cs other)
    unfolding s.ending s.integer
    switch_branches (NumberOperand z) cs other e = absurd (err_no e)
    switch_branches Null cs other e = absurd (err_no e)
    switch_branches (Address v o) cs other e = absurd (err_no e)
    switch_branches (Reg name) cs other e =
        let a = first_passed (s.integer (env_of p.program f) (Reg name)) _ tt e in
        let own = first_passed (scalar_of (env_of p.program f) name) _ a.0 a.1 in
        let int = first_passed (demand (not (s.is_pointer own.0)) 4) _ a.0 own.2 in
        let same : own.0 ≡ a.0 = ok_same int.2 in
        let np : is_pointer own.0 ≡ false = not_pointer _ (demanded _ 4 int.1) in
        let b = first_passed (s.case_values a.0 [] cs) _ tt a.2 in
        let r = register p n f facts most ts law serial values row t fits h loads name own.0 own.1 in
        let v = number_value own.0 (value_in scope values name) np r.typed in
        let all : CasesOf own.0 cs = subst (λ c. CasesOf c cs) (sym same) (cases_of a.0 [] cs b.1) in
        subst (λ z. Branches (Switch (Reg name) cs other) (case_for z cs other)) (sym (ap any_number v.1 ∙ any_is own.0 v.0 v.2))
        (switch_by name cs other own.0 v.0 r.scalar_same v.1 np v.2 all (subst (λ u. Holds u (operand_value B row own.0 (Reg name))) v.1 r.holds) (find (λ c. cmp_of Eq v.0 c.value) cs) refl)
