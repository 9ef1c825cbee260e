-- The values after statements and ends fit, and rise with the values before them.
use Rattle.std.specs.Prelude.{◌≡◌, ℕ, ◌==◌, ◌&&◌, ◌||◌, ◌⊎◌, not, ℤ, Bool, true, false, cond, List, [], ◌∷◌, length, Option, Some, None, IfSome, slice_get, slice_set, find, refl}
use Rattle.std.proofs.Common.{inl, inr, sym, ◌∙◌}
use Rattle.gimple_ir.specs.declared.scalar.Scalar.{Scalar}
use Rattle.gimple_ir.specs.declared.scalar.Scalar.TheVariants.{I64}
use Rattle.gimple_ir.specs.declared.scalar.Op.{Op}
use Rattle.gimple_ir.specs.declared.scalar.Op.TheVariants.{Add, Sub, Mul, Div, Rem, And, Or, Xor, Shl, Shr}
use Rattle.gimple_ir.specs.declared.scalar.Cmp.{Cmp}
use Rattle.gimple_ir.specs.declared.scalar.Cmp.TheVariants.{Eq, Ne, Lt, Le, Gt, Ge}
use Rattle.gimple_ir.specs.declared.operand.Operand.{Operand}
use Rattle.gimple_ir.specs.declared.operand.Operand.TheVariants.{Reg, Number, Null, Address}
use Rattle.gimple_ir.specs.declared.operand.Base.{Base}
use Rattle.gimple_ir.specs.declared.operand.Base.TheVariants.{Reg as RegBase, Variable}
use Rattle.gimple_ir.specs.declared.operand.Place.{Place}
use Rattle.gimple_ir.specs.declared.declarations.Global.{Global}
use Rattle.gimple_ir.specs.declared.value.Constant.{Constant}
use Rattle.gimple_ir.specs.declared.value.Constant.TheVariants.{Int, Null as NullConstant, Global as GlobalConstant}
use Rattle.gimple_ir.specs.declared.statement.Stmt.{Stmt}
use Rattle.gimple_ir.specs.declared.statement.Stmt.TheVariants.{Copy, Arith, Compare, Convert, Load, Store, Call, Indirect, Get, Put, Abort}
use Rattle.gimple_ir.specs.declared.block.Case.{Case}
use Rattle.gimple_ir.specs.declared.block.End.{End}
use Rattle.gimple_ir.specs.declared.block.End.TheVariants.{Goto, If, Switch, Return}
use Rattle.std.specs.Str.{bytes_eq}
use Rattle.gimple_core.specs.Layout.{layout_of}
use Rattle.gimple_core.specs.Statements.{is_pointer, is_shift, is_add}
use Rattle.gimple_core.specs.State.{offset_in}
use Rattle.fix_engine.specs.Bools.{both}
use Rattle.fix_engine.specs.Rows.{Each}
use Rattle.fix_engine.specs.declared.lifted.Lifted.{Lifted}
use Rattle.fix_engine.specs.declared.lifted.Lifted.TheVariants.{NotReached, Reached}
use Rattle.value_domain.specs.declared.abs_val.AbsVal.{AbsVal}
use Rattle.value_domain.specs.RangeOperators.{opposite}
use Rattle.value_domain.specs.AbsOperators.{top_of, abs_met, refined_of}
use Rattle.value_domain.specs.Holding.{IsRight, IsAllowed, MayCompare, is_equality}
use Rattle.value_domain.specs.Values.{FitsWith, abs_val_below, is_none_val}
use Rattle.value_domain.specs.Thresholds.{IsLawful}
use Rattle.value_domain.specs.AbsOperators.{exactly_of}
use Rattle.value_domain.proofs.WholeLemmas.{IsGood}
use Rattle.value_domain.proofs.TopLaws.{top_fits}
use Rattle.value_domain.proofs.AloneLaws.{alone_fits}
use Rattle.value_domain.proofs.BringLaws.{brought_fits, brought_rises}
use Rattle.value_domain.proofs.AbsLaws.{op_fits, op_rises, cmp_fits, cmp_rises_all, convert_fits, convert_rises_all}
use Rattle.value_domain.proofs.MeetLaws.{meet_fits_all}
use Rattle.value_domain.proofs.RefineLaws.{refine_fits}
use Rattle.value_domain.proofs.RiseLaws.{meet_rises, refine_rises}
use Rattle.block_flow.specs.Steps.{where_reached}
use Rattle.body_values.specs.Bodies.{Body, place_of, register_scalar, put_value, brought_or, is_local, global_place, global_value, operand_value, count_scalar, right_scalar, is_lawful, arith_value, sides_scalar, may_compare, compare_value, source_scalar, convert_value, item_constant, constant_value, slot_place, slot_value, constant_slot, item_value, first_value, load_value, target_of, result_value, is_abort, after_target, after_stmt, turned, register_of, left_sides, after_compare, without_cases, case_left, switch_left, after_switch, after_end}
use Rattle.body_values.specs.Rows.{RowFits, LiftedFits, row_below, reached_below, get_fits, set_fits, set_count, OptionBelow, get_below, set_below, below_self, none_above}

-- ---- which operators there are

add_is : (op : Op) → is_add op ≡ true → op ≡ Add
add_is Add h = refl
add_is Sub h = cc
add_is Mul h = cc
add_is Div h = cc
add_is Rem h = cc
add_is And h = cc
add_is Or h = cc
add_is Xor h = cc
add_is Shl h = cc
add_is Shr h = cc

not_true : (b : Bool) → not b ≡ true → b ≡ false
not_true true h = cc
not_true false h = refl

right_is : (op : Op) (scalar c : Scalar) → not (is_pointer (cond (is_shift op) c scalar)) ≡ true → IsRight op scalar (cond (is_shift op) c scalar)
right_is Add scalar c h = refl
right_is Sub scalar c h = refl
right_is Mul scalar c h = refl
right_is Div scalar c h = refl
right_is Rem scalar c h = refl
right_is And scalar c h = refl
right_is Or scalar c h = refl
right_is Xor scalar c h = refl
right_is Shl scalar c h = not_true _ h
right_is Shr scalar c h = not_true _ h

allowed_by : (b : Bool) (scalar : Scalar) (op : Op) (c : Scalar) → is_pointer scalar ≡ b → cond b (is_add op) (not (is_pointer (cond b I64 (cond (is_shift op) c scalar)))) ≡ true → IsAllowed op scalar (cond b I64 (cond (is_shift op) c scalar))
allowed_by true scalar op c e h = inl (e, add_is op h, refl)
allowed_by false scalar op c e h = inr (e, right_is op scalar c h)

pub allowed_is : (B : Body) (scalar : Scalar) (op : Op) (right : Operand) → is_lawful op scalar (right_scalar B scalar op right) ≡ true → IsAllowed op scalar (right_scalar B scalar op right)
allowed_is B scalar op right h = allowed_by (is_pointer scalar) scalar op (count_scalar B scalar right) refl h

compares_by : (a b : Bool) → (not a || b) ≡ true → (a ≡ false) ⊎ (b ≡ true)
compares_by true b h = inr h
compares_by false b h = inl refl

pub may_compare_is : (cmp : Cmp) (scalar : Scalar) → may_compare cmp scalar ≡ true → MayCompare cmp scalar
may_compare_is cmp scalar h = compares_by (is_pointer scalar) (is_equality cmp) h

turned_equality : (cmp : Cmp) → is_equality (turned cmp) ≡ is_equality cmp
turned_equality Eq = refl
turned_equality Ne = refl
turned_equality Lt = refl
turned_equality Le = refl
turned_equality Gt = refl
turned_equality Ge = refl

pub turned_may : (cmp : Cmp) (scalar : Scalar) → MayCompare cmp scalar → MayCompare (turned cmp) scalar
turned_may cmp scalar (inl e) = inl e
turned_may cmp scalar (inr e) = inr (turned_equality cmp ∙ e)

pub two : (a b : Bool) → (a && b) ≡ true → (a ≡ true) × (b ≡ true)
two true true h = (refl, refl)
two true false h = cc
two false b h = cc

-- ---- values that rise

-- the first is below the second, and both fit and are of the scalar
pub record Rise (most : ℕ) (ts : List ℤ) (scalar : Scalar) (a b : AbsVal) : Type 0 where
  pub lower : IsGood most ts scalar a
  pub upper : IsGood most ts scalar b
  pub below : abs_val_below a b ≡ true

module _ (most : ℕ) (ts : List ℤ) where
  stays : (scalar : Scalar) (a : AbsVal) → IsGood most ts scalar a → Rise most ts scalar a a
  stays scalar a h = record { lower = h; upper = h; below = below_self most ts a h.0 }

  by_test : (scalar : Scalar) (b : Bool) (x y z : AbsVal) → (b ≡ true → Rise most ts scalar x y) → IsGood most ts scalar z → Rise most ts scalar (cond b x z) (cond b y z)
  by_test scalar true x y z h g = h refl
  by_test scalar false x y z h g = stays scalar z g

-- two files of registers, of which the first is below the second
pub record RowsRise (B : Body) (x y : List AbsVal) : Type 0 where
  pub lower : RowFits B.most B.ends (length B.registers) x
  pub upper : RowFits B.most B.ends (length B.registers) y
  pub below : row_below x y ≡ true

pub record FilesRise (B : Body) (x y : Lifted (List AbsVal)) : Type 0 where
  pub lower : LiftedFits B.most B.ends (length B.registers) x
  pub upper : LiftedFits B.most B.ends (length B.registers) y
  pub below : reached_below x y ≡ true

-- what is given of loads fits
abbrev pub LoadsFit : Body → Type 0
LoadsFit B = (k i : ℕ) → IfSome (B.loads k i) (FitsWith B.most B.ends)

module _ (B : Body) (law : IsLawful B.ends) where
  abbrev Rises : Scalar → AbsVal → AbsVal → Type 0
  Rises scalar a b = Rise B.most B.ends scalar a b

  top_stays : (scalar : Scalar) → Rises scalar (top_of scalar) (top_of scalar)
  top_stays scalar = stays B.most B.ends scalar (top_of scalar) (top_fits B.most B.ends law scalar)

  constant_stays : (scalar : Scalar) (c : Constant) → Rises scalar (exactly_of scalar B.most B.ends c) (exactly_of scalar B.most B.ends c)
  constant_stays scalar c = stays B.most B.ends scalar (exactly_of scalar B.most B.ends c) (alone_fits B.most B.ends law scalar c)

  -- ---- operands

  brought_by : (scalar : Scalar) (a b : Option AbsVal) → IfSome a (FitsWith B.most B.ends) → IfSome b (FitsWith B.most B.ends) → OptionBelow a b → Rises scalar (brought_or scalar a) (brought_or scalar b)
  brought_by scalar None None f g h = top_stays scalar
  brought_by scalar None (Some b) f g h = absurd h
  brought_by scalar (Some a) None f g h = absurd h
  brought_by scalar (Some a) (Some b) f g h = record {
    lower = brought_fits B.most B.ends law scalar a f;
    upper = brought_fits B.most B.ends law scalar b g;
    below = brought_rises B.most B.ends law scalar a b f g h;
  }

  global_stays : (scalar : Scalar) (o : Option ℕ) (offset : ℤ) → Rises scalar (global_value B scalar o offset) (global_value B scalar o offset)
  global_stays scalar None offset = top_stays scalar
  global_stays scalar (Some k) offset = constant_stays scalar (GlobalConstant k (offset_in offset))

  address_stays : (scalar : Scalar) (b : Bool) (o : Option ℕ) (offset : ℤ) → Rises scalar (cond b (top_of scalar) (global_value B scalar o offset)) (cond b (top_of scalar) (global_value B scalar o offset))
  address_stays scalar true o offset = top_stays scalar
  address_stays scalar false o offset = global_stays scalar o offset

  pub operand_rises : (x y : List AbsVal) → RowsRise B x y → (scalar : Scalar) (o : Operand) → Rises scalar (operand_value B x scalar o) (operand_value B y scalar o)
  unfolding operand_value
  operand_rises x y r scalar (Reg name) =
      brought_by scalar _ _ (get_fits (FitsWith B.most B.ends) x (place_of B.registers name) r.lower.each) (get_fits (FitsWith B.most B.ends) y (place_of B.registers name) r.upper.each)
      (get_below x y (place_of B.registers name) (r.lower.count ∙ sym r.upper.count) r.below)
  operand_rises x y r scalar (Number z) = constant_stays scalar (Int z)
  operand_rises x y r scalar Null = constant_stays scalar NullConstant
  operand_rises x y r scalar (Address name offset) = address_stays scalar (is_local B.locals name) (global_place B.globals name) offset

  -- ---- operators

  arith_rises : (x y : List AbsVal) → RowsRise B x y → (scalar : Scalar) (left : Operand) (op : Op) (right : Operand) → Rises scalar (arith_value B x scalar (right_scalar B scalar op right) left op right) (arith_value B y scalar (right_scalar B scalar op right) left op right)
  unfolding arith_value
  arith_rises x y r scalar left op right =
      let other : Scalar = right_scalar B scalar op right in
      let a = operand_rises x y r scalar left in
      let b = operand_rises x y r other right in
      by_test B.most B.ends scalar (is_lawful op scalar other) _ _ (top_of scalar)
      (λ h. let allowed = allowed_is B scalar op right h in record {
        lower = op_fits B.most B.ends law B.mode op scalar other allowed _ _ a.lower.0 a.lower.1 b.lower.0 b.lower.1;
        upper = op_fits B.most B.ends law B.mode op scalar other allowed _ _ a.upper.0 a.upper.1 b.upper.0 b.upper.1;
        below = op_rises B.most B.ends law B.mode op scalar other allowed _ _ _ _ a.lower.0 a.lower.1 b.lower.0 b.lower.1 a.upper.0 a.upper.1 b.upper.0 b.upper.1 a.below b.below;
      })
      (top_fits B.most B.ends law scalar)

  compare_rises : (x y : List AbsVal) → RowsRise B x y → (target scalar : Scalar) (left : Operand) (cmp : Cmp) (right : Operand) → Rises target (compare_value B x target scalar left cmp right) (compare_value B y target scalar left cmp right)
  unfolding compare_value
  compare_rises x y r target scalar left cmp right =
      let a = operand_rises x y r scalar left in
      let b = operand_rises x y r scalar right in
      by_test B.most B.ends target (not (is_pointer target) && may_compare cmp scalar) _ _ (top_of target)
      (λ h. let p = two _ _ h in let n = not_true (is_pointer target) p.0 in record {
        lower = cmp_fits B.most B.ends law target cmp scalar n _ _;
        upper = cmp_fits B.most B.ends law target cmp scalar n _ _;
        below = cmp_rises_all B.most B.ends law target cmp scalar n _ _ _ _ a.lower.0 a.lower.1 b.lower.0 b.lower.1 a.upper.0 a.upper.1 b.upper.0 b.upper.1 a.below b.below;
      })
      (top_fits B.most B.ends law target)

  convert_rises : (x y : List AbsVal) → RowsRise B x y → (target source : Scalar) (from : Operand) → Rises target (convert_value B x target source from) (convert_value B y target source from)
  unfolding convert_value
  convert_rises x y r target source from =
      let a = operand_rises x y r source from in
      by_test B.most B.ends target (not (is_pointer target) && not (is_pointer source)) _ _ (top_of target)
      (λ h. let p = two _ _ h in let n = not_true (is_pointer target) p.0 in let m = not_true (is_pointer source) p.1 in record {
        lower = convert_fits B.most B.ends law target source n m _ a.lower.0 a.lower.1;
        upper = convert_fits B.most B.ends law target source n m _ a.upper.0 a.upper.1;
        below = convert_rises_all B.most B.ends law target source n m _ _ a.lower.0 a.lower.1 a.upper.0 a.upper.1 a.below;
      })
      (top_fits B.most B.ends law target)

  -- ---- loads

  constant_fits : (scalar : Scalar) (o : Option Constant) → IfSome (constant_value B scalar o) (IsGood B.most B.ends scalar)
  constant_fits scalar None = tt
  constant_fits scalar (Some c) = alone_fits B.most B.ends law scalar c

  slot_fits : (scalar : Scalar) (g : Global) (o : Option ℕ) → IfSome (slot_value B scalar g o) (IsGood B.most B.ends scalar)
  slot_fits scalar g None = tt
  slot_fits scalar g (Some n) = constant_fits scalar (item_constant B.globals scalar (slice_get g.items n))

  if_fits : (scalar : Scalar) (b : Bool) (o : Option AbsVal) → IfSome o (IsGood B.most B.ends scalar) → IfSome (cond b o None) (IsGood B.most B.ends scalar)
  if_fits scalar true o h = h
  if_fits scalar false o h = tt

  unless_fits : (scalar : Scalar) (b : Bool) (o : Option AbsVal) → IfSome o (IsGood B.most B.ends scalar) → IfSome (cond b None o) (IsGood B.most B.ends scalar)
  unless_fits scalar true o h = tt
  unless_fits scalar false o h = h

  constant_slot_fits : (scalar : Scalar) (offset : ℤ) (g : Option Global) → IfSome (constant_slot B scalar offset g) (IsGood B.most B.ends scalar)
  constant_slot_fits scalar offset None = tt
  constant_slot_fits scalar offset (Some g) = if_fits scalar g.constant _ (slot_fits scalar g (slot_place (layout_of B.structs g.decl).slots offset scalar))

  pub item_fits : (scalar : Scalar) (place : Place) → IfSome (item_value B scalar place) (IsGood B.most B.ends scalar)
  unfolding item_value
  item_fits scalar place = by place.base
    where
      by : (b : Base) → IfSome (item_value B scalar (record place { base = b })) (IsGood B.most B.ends scalar)
      by (RegBase name) = tt
      by (Variable name) = unless_fits scalar (is_local B.locals name) _ (constant_slot_fits scalar place.offset (find (λ g. bytes_eq g.decl.name name) B.globals))

  first_good : (scalar : Scalar) (o : Option AbsVal) (b : AbsVal) → IfSome o (IsGood B.most B.ends scalar) → IsGood B.most B.ends scalar b → IsGood B.most B.ends scalar (first_value o b)
  first_good scalar None b h g = g
  first_good scalar (Some a) b h g = h

  given_good : (scalar : Scalar) (o : Option AbsVal) → IfSome o (FitsWith B.most B.ends) → IsGood B.most B.ends scalar (brought_or scalar o)
  given_good scalar None h = top_fits B.most B.ends law scalar
  given_good scalar (Some a) h = brought_fits B.most B.ends law scalar a h

  module _ (loads : LoadsFit B) where
    pub load_good : (k i : ℕ) (scalar : Scalar) (place : Place) → IsGood B.most B.ends scalar (load_value B k i scalar place)
    load_good k i scalar place = first_good scalar (item_value B scalar place) _ (item_fits scalar place) (given_good scalar (B.loads k i) (loads k i))

    -- ---- statements

    abbrev pub Fits : AbsVal → Type 0
    Fits a = FitsWith B.most B.ends a

    -- the first is below the second, and both fit
    pub record ValuesRise (a b : AbsVal) : Type 0 where
      pub lower : Fits a
      pub upper : Fits b
      pub below : abs_val_below a b ≡ true

    plain : (scalar : Scalar) (a b : AbsVal) → Rises scalar a b → ValuesRise a b
    plain scalar a b r = record { lower = r.lower.0; upper = r.upper.0; below = r.below }

    pub result_rises : (k i : ℕ) (x y : List AbsVal) → RowsRise B x y → (scalar : Scalar) (s : Stmt) → ValuesRise (result_value B k i x scalar s) (result_value B k i y scalar s)
    unfolding result_value
    result_rises k i x y r scalar (Copy to from) = plain scalar _ _ (operand_rises x y r scalar from)
    result_rises k i x y r scalar (Arith to left op right) = plain scalar _ _ (arith_rises x y r scalar left op right)
    result_rises k i x y r scalar (Compare to left cmp right) = plain scalar _ _ (compare_rises x y r scalar (sides_scalar B left right) left cmp right)
    result_rises k i x y r scalar (Convert to target from) = plain target _ _ (convert_rises x y r target (source_scalar B from) from)
    result_rises k i x y r scalar (Load to from place) = plain from _ _ (stays B.most B.ends from (load_value B k i from place) (load_good k i from place))
    result_rises k i x y r scalar (Store from place v) = plain scalar _ _ (top_stays scalar)
    result_rises k i x y r scalar (Call to callee arguments) = plain scalar _ _ (top_stays scalar)
    result_rises k i x y r scalar (Indirect to signature callee arguments) = plain scalar _ _ (top_stays scalar)
    result_rises k i x y r scalar (Get to) = plain scalar _ _ (top_stays scalar)
    result_rises k i x y r scalar (Put from) = plain scalar _ _ (top_stays scalar)
    result_rises k i x y r scalar Abort = plain scalar _ _ (top_stays scalar)

    reached : (x y : List AbsVal) → RowsRise B x y → FilesRise B (Reached x) (Reached y)
    reached x y r = record { lower = r.lower; upper = r.upper; below = r.below }

    put_rises : (x y : List AbsVal) (name : List ℕ) (a b : AbsVal) → RowsRise B x y → ValuesRise a b → FilesRise B (put_value B.registers x name a) (put_value B.registers y name b)
    put_rises x y name a b r v = by (is_none_val a) (is_none_val b) refl refl
      where
        n : ℕ
        n = place_of B.registers name

        fits : (z : List AbsVal) (c : AbsVal) → RowFits B.most B.ends (length B.registers) z → Fits c → RowFits B.most B.ends (length B.registers) (slice_set z (place_of B.registers name) c)
        fits z c f h = record { count = set_count z (place_of B.registers name) c ∙ f.count; each = set_fits Fits z (place_of B.registers name) c f.each h }

        by : (p q : Bool) → is_none_val a ≡ p → is_none_val b ≡ q → FilesRise B (cond p NotReached (Reached (slice_set x (place_of B.registers name) a))) (cond q NotReached (Reached (slice_set y (place_of B.registers name) b)))
        by true true e f = record { lower = tt; upper = tt; below = refl }
        by true false e f = record { lower = tt; upper = fits y b r.upper v.upper; below = refl }
        by false true e f = absurd (let k : is_none_val a ≡ true = none_above a b v.below f in cc)
        by false false e f = record { lower = fits x a r.lower v.lower; upper = fits y b r.upper v.upper; below = set_below x y (place_of B.registers name) a b r.below v.below }

    target_rises : (k i : ℕ) (s : Stmt) (x y : List AbsVal) → RowsRise B x y → (to : Option (List ℕ)) → FilesRise B (after_target B k i s x to) (after_target B k i s y to)
    target_rises k i s x y r None = reached x y r
    target_rises k i s x y r (Some to) = put_rises x y to _ _ r (result_rises k i x y r (register_scalar B.registers to) s)

    not_reached : FilesRise B NotReached NotReached
    not_reached = record { lower = tt; upper = tt; below = refl }

    pub stmt_rises : (k i : ℕ) (s : Stmt) (x y : List AbsVal) → RowsRise B x y → FilesRise B (after_stmt B k i s x) (after_stmt B k i s y)
    unfolding after_stmt
    stmt_rises k i s x y r = by (is_abort s)
      where
        by : (b : Bool) → FilesRise B (cond b NotReached (after_target B k i s x (target_of s))) (cond b NotReached (after_target B k i s y (target_of s)))
        by true = not_reached
        by false = target_rises k i s x y r (target_of s)

    where_rises : (x y : Lifted (List AbsVal)) (f g : List AbsVal → Lifted (List AbsVal)) → FilesRise B x y → ((r s : List AbsVal) → RowsRise B r s → FilesRise B (f r) (g s)) → ((s : List AbsVal) → RowFits B.most B.ends (length B.registers) s → LiftedFits B.most B.ends (length B.registers) (g s)) → FilesRise B (where_reached x f) (where_reached y g)
    where_rises NotReached NotReached f g h each upper = not_reached
    where_rises NotReached (Reached s) f g h each upper = record { lower = tt; upper = upper s h.upper; below = refl }
    where_rises (Reached r) NotReached f g h each upper = absurd (let k = h.below in cc)
    where_rises (Reached r) (Reached s) f g h each upper = each r s (record { lower = h.lower; upper = h.upper; below = h.below })

    -- a file is below itself
    pub self : (row : List AbsVal) → RowFits B.most B.ends (length B.registers) row → RowsRise B row row
    self row f = record { lower = f; upper = f; below = each_self row f.each }
      where
        each_self : (xs : List AbsVal) → Each Fits xs → row_below xs xs ≡ true
        each_self [] g = refl
        each_self (x ∷ xs) g = both (abs_val_below x x) (row_below xs xs) (below_self B.most B.ends x g.0) (each_self xs g.1)

    -- ---- ends

    sides_rise : (cmp : Cmp) (scalar : Scalar) → MayCompare cmp scalar → (x y : List AbsVal) → RowsRise B x y → (m n : Option (List ℕ)) (a b c d : AbsVal) → Rises scalar a c → Rises scalar b d → FilesRise B (left_sides B cmp x m n a b) (left_sides B cmp y m n c d)
    sides_rise cmp scalar may x y r m n a b c d u v = by m n
      where
        left : Rises scalar (refined_of cmp B.ends a b) (refined_of cmp B.ends c d)
        left = record {
          lower = refine_fits B.most B.ends law cmp scalar may a b u.lower.0 u.lower.1 v.lower.0 v.lower.1;
          upper = refine_fits B.most B.ends law cmp scalar may c d u.upper.0 u.upper.1 v.upper.0 v.upper.1;
          below = refine_rises B.most B.ends law cmp scalar may a b c d u.lower.0 u.lower.1 v.lower.0 v.lower.1 u.upper.0 u.upper.1 v.upper.0 v.upper.1 u.below v.below;
        }

        back : MayCompare (turned cmp) scalar
        back = turned_may cmp scalar may

        right : Rises scalar (refined_of (turned cmp) B.ends b a) (refined_of (turned cmp) B.ends d c)
        right = record {
          lower = refine_fits B.most B.ends law (turned cmp) scalar back b a v.lower.0 v.lower.1 u.lower.0 u.lower.1;
          upper = refine_fits B.most B.ends law (turned cmp) scalar back d c v.upper.0 v.upper.1 u.upper.0 u.upper.1;
          below = refine_rises B.most B.ends law (turned cmp) scalar back b a d c v.lower.0 v.lower.1 u.lower.0 u.lower.1 v.upper.0 v.upper.1 u.upper.0 u.upper.1 v.below u.below;
        }

        met : ValuesRise (abs_met (refined_of cmp B.ends a b) (refined_of (turned cmp) B.ends b a)) (abs_met (refined_of cmp B.ends c d) (refined_of (turned cmp) B.ends d c))
        met = record {
          lower = (meet_fits_all B.most B.ends scalar _ _ left.lower.0 left.lower.1 right.lower.0 right.lower.1).0;
          upper = (meet_fits_all B.most B.ends scalar _ _ left.upper.0 left.upper.1 right.upper.0 right.upper.1).0;
          below = meet_rises B.most B.ends _ _ _ _ left.lower.0 right.lower.0 left.upper.0 right.upper.0 left.below right.below;
        }

        two_sides : (o p : List ℕ) (t : Bool) → FilesRise B
            (cond t (put_value B.registers x o (abs_met (refined_of cmp B.ends a b) (refined_of (turned cmp) B.ends b a))) (where_reached (put_value B.registers x o (refined_of cmp B.ends a b)) (λ z. put_value B.registers z p (refined_of (turned cmp) B.ends b a))))
            (cond t (put_value B.registers y o (abs_met (refined_of cmp B.ends c d) (refined_of (turned cmp) B.ends d c))) (where_reached (put_value B.registers y o (refined_of cmp B.ends c d)) (λ z. put_value B.registers z p (refined_of (turned cmp) B.ends d c))))
        two_sides o p true = put_rises x y o _ _ r met
        two_sides o p false =
            where_rises _ _ (λ z. put_value B.registers z p (refined_of (turned cmp) B.ends b a)) (λ z. put_value B.registers z p (refined_of (turned cmp) B.ends d c)) (put_rises x y o _ _ r (plain scalar _ _ left))
            (λ e f w. put_rises e f p _ _ w (plain scalar _ _ right))
            (λ f w. (put_rises f f p _ _ (self f w) (plain scalar _ _ (stays B.most B.ends scalar _ right.upper))).upper)

        by : (m n : Option (List ℕ)) → FilesRise B (left_sides B cmp x m n a b) (left_sides B cmp y m n c d)
        by (Some o) (Some p) = two_sides o p (bytes_eq o p)
        by (Some o) None = put_rises x y o _ _ r (plain scalar _ _ left)
        by None (Some p) = put_rises x y p _ _ r (plain scalar _ _ right)
        by None None = reached x y r

    compared_rises : (scalar : Scalar) (cmp : Cmp) (left right : Operand) (x y : List AbsVal) → RowsRise B x y → FilesRise B (after_compare B scalar cmp left right x) (after_compare B scalar cmp left right y)
    unfolding after_compare
    compared_rises scalar cmp left right x y r = by (may_compare cmp scalar) refl
      where
        by : (t : Bool) → may_compare cmp scalar ≡ t → FilesRise B
            (cond t (left_sides B cmp x (register_of left) (register_of right) (operand_value B x scalar left) (operand_value B x scalar right)) (Reached x))
            (cond t (left_sides B cmp y (register_of left) (register_of right) (operand_value B y scalar left) (operand_value B y scalar right)) (Reached y))
        by true e = sides_rise cmp scalar (may_compare_is cmp scalar e) x y r (register_of left) (register_of right) _ _ _ _ (operand_rises x y r scalar left) (operand_rises x y r scalar right)
        by false e = reached x y r

    refined_rises : (cmp : Cmp) (scalar : Scalar) → MayCompare cmp scalar → (a c b : AbsVal) → Rises scalar a c → IsGood B.most B.ends scalar b → Rises scalar (refined_of cmp B.ends a b) (refined_of cmp B.ends c b)
    refined_rises cmp scalar may a c b u g = record {
      lower = refine_fits B.most B.ends law cmp scalar may a b u.lower.0 u.lower.1 g.0 g.1;
      upper = refine_fits B.most B.ends law cmp scalar may c b u.upper.0 u.upper.1 g.0 g.1;
      below = refine_rises B.most B.ends law cmp scalar may a b c b u.lower.0 u.lower.1 g.0 g.1 u.upper.0 u.upper.1 g.0 g.1 u.below (below_self B.most B.ends b g.0);
    }

    cases_rise : (scalar : Scalar) (cs : List Case) (a c : AbsVal) → Rises scalar a c → Rises scalar (without_cases B scalar cs a) (without_cases B scalar cs c)
    cases_rise scalar [] a c u = u
    cases_rise scalar (k ∷ cs) a c u = cases_rise scalar cs _ _ (refined_rises Ne scalar (inr refl) a c (exactly_of scalar B.most B.ends (Int k.value)) u (alone_fits B.most B.ends law scalar (Int k.value)))

    case_rises : (scalar : Scalar) (cs : List Case) (taken : Option Case) (a c : AbsVal) → Rises scalar a c → Rises scalar (case_left B scalar cs a taken) (case_left B scalar cs c taken)
    case_rises scalar cs None a c u = cases_rise scalar cs a c u
    case_rises scalar cs (Some k) a c u = refined_rises Eq scalar (inr refl) a c (exactly_of scalar B.most B.ends (Int k.value)) u (alone_fits B.most B.ends law scalar (Int k.value))

    switch_rises : (on : Option (List ℕ)) (cs : List Case) (taken : Option Case) (x y : List AbsVal) → RowsRise B x y → FilesRise B (switch_left B cs taken x on) (switch_left B cs taken y on)
    switch_rises None cs taken x y r = reached x y r
    switch_rises (Some name) cs taken x y r =
        let scalar : Scalar = register_scalar B.registers name in
        put_rises x y name _ _ r (plain scalar _ _ (case_rises scalar cs taken _ _ (operand_rises x y r scalar (Reg name))))

    pub end_rises : (e : End) (slot : ℕ) (x y : List AbsVal) → RowsRise B x y → FilesRise B (after_end B e slot x) (after_end B e slot y)
    unfolding after_end after_switch
    end_rises (Goto label) slot x y r = reached x y r
    end_rises (If left cmp right hit miss) slot x y r = compared_rises (sides_scalar B left right) (cond (slot == 0) cmp (opposite cmp)) left right x y r
    end_rises (Switch on cs other) slot x y r = switch_rises (register_of on) cs (slice_get cs slot) x y r
    end_rises (Return v) slot x y r = reached x y r
