-- A text can spell a program with its functions folded where one can spell the program.
use Rattle.std.proofs.Common.{◌≡◌, ℕ, zero, suc, ◌+◌, ◌^◌, ◌<◌, ◌≤◌, ℤ, pos, negsuc, ◌+ℤ◌, Bool, true, false, not, ◌||◌, if◌then◌else◌, List, [], ◌∷◌, length, refl, sym, subst, arith, Option, Some, None, Ok, Err, slice_get}
use Rattle.std.specs.List.{find}
use Rattle.gimple_ir.specs.declared.scalar.Scalar.{Scalar}
use Rattle.gimple_ir.specs.declared.scalar.Scalar.TheVariants.{I8, I16, I32, I64, U8, U16, U32, U64, Ptr}
use Rattle.gimple_ir.specs.declared.scalar.Op.{Op}
use Rattle.gimple_ir.specs.declared.scalar.Cmp.{Cmp}
use Rattle.gimple_ir.specs.declared.scalar.Cmp.TheVariants.{Eq}
use Rattle.gimple_ir.specs.declared.value.Constant.{Constant}
use Rattle.gimple_ir.specs.declared.value.Constant.TheVariants.{Int, Null as NullConstant, Global as GlobalConstant}
use Rattle.gimple_ir.specs.declared.operand.Operand.{Operand}
use Rattle.gimple_ir.specs.declared.operand.Operand.TheVariants.{Reg, Number, Null, Address}
use Rattle.gimple_ir.specs.declared.operand.Base.{Base}
use Rattle.gimple_ir.specs.declared.operand.Base.TheVariants.{Reg as RegBase, Variable}
use Rattle.gimple_ir.specs.declared.operand.Place.{Place}
use Rattle.gimple_ir.specs.declared.declarations.Global.{Global}
use Rattle.gimple_ir.specs.declared.statement.Stmt.{Stmt}
use Rattle.gimple_ir.specs.declared.statement.Stmt.TheVariants.{Copy, Arith, Compare, Convert, Load, Store, Call, Indirect, Get, Put, Abort}
use Rattle.gimple_ir.specs.declared.block.Case.{Case}
use Rattle.gimple_ir.specs.declared.block.Block.{Block}
use Rattle.gimple_ir.specs.declared.block.End.{End}
use Rattle.gimple_ir.specs.declared.block.End.TheVariants.{Goto, If, Switch, Return}
use Rattle.gimple_ir.specs.declared.program.Function.{Function}
use Rattle.gimple_core.specs.Sealed.{Sealed}
use Rattle.gimple_core.specs.Operators.{in_scalar, wrapped, cmp_of}
use Rattle.gimple_core.specs.Run.{case_target, any_number}
use Rattle.gimple_core.specs.State.{offset_in}
use Rattle.gimple_core.specs.Verdict.{Verdict, demand}
use Rattle.gimple_core.specs.Env.{Env, named, is_target, is_variable}
use Rattle.gimple_core.specs.Statements as s
use Rattle.gimple_core.proofs.Passed.{first_passed, demanded}
use Rattle.gimple_core.proofs.RangeLemmas.{limit_of, in_pos, in_neg, wrapped_in}
use Rattle.gimple_claims.specs.Kept.{new_body, new_blocks}
use Rattle.gimple_ir.specs.Names.{IsNameText}
use Rattle.gimple_ir.specs.Spellable.{AllOf, IsSpellableNumber, IsSpellableOperand, IsSpellablePlace, IsSpellableStmt, IsSpellableCase, IsSpellableEnd, IsSpellableBlock, IsSpellableGlobal, IsSpellableFunction}
use Rattle.fix_engine.specs.declared.lifted.Lifted.{Lifted}
use Rattle.fix_engine.specs.declared.lifted.Lifted.TheVariants.{NotReached, Reached}
use Rattle.value_domain.specs.declared.abs_val.AbsVal.{AbsVal}
use Rattle.body_values.specs.declared.facts.Facts.{Facts}
use Rattle.body_values.specs.Bodies.{target_of}
use Rattle.body_values.specs.Flow.{body_of, values_at}
use Rattle.body_fold.specs.Fold.{Folding, value_of_constant, address_in, constant_operand, known_register, known_operand, known_comparison, constant_for, passes, is_put, folded_operand, folded_left, folded_right, right_check, formals_of, folded_arguments, place_in, place_from, place_on, folded_place, stored_place, with_operands, copy_or, with_result, folded_stmt, is_zero, goto_or, case_or, folded_end, stmt_at, end_at, new_stmt, new_end}
use Rattle.body_fold.specs.Claims.{FoldsTo, FoldsAreSpellable}
use Rattle.body_fold.proofs.FoldsBy.{folding_of, FoldsBy, folds_by}
use Rattle.body_fold.proofs.ConstantValues.{put_has}

-- ---- numbers of scalars

limit_below : (scalar : Scalar) → limit_of scalar ≤ 2 ^ 64
limit_below I8 = omega arith
limit_below I16 = omega arith
limit_below I32 = omega arith
limit_below I64 = omega arith
limit_below U8 = omega arith
limit_below U16 = omega arith
limit_below U32 = omega arith
limit_below U64 = omega arith
limit_below Ptr = omega arith

signed_below : (scalar : Scalar) (n : ℕ) → in_scalar scalar (negsuc n) ≡ true → suc n < 2 ^ 64
signed_below I8 n h = let l = (in_neg I8 n h).1 in omega (arith, l)
signed_below I16 n h = let l = (in_neg I16 n h).1 in omega (arith, l)
signed_below I32 n h = let l = (in_neg I32 n h).1 in omega (arith, l)
signed_below I64 n h = let l = (in_neg I64 n h).1 in omega (arith, l)
signed_below U8 n h = let l = (in_neg U8 n h).1 in omega (arith, l)
signed_below U16 n h = let l = (in_neg U16 n h).1 in omega (arith, l)
signed_below U32 n h = let l = (in_neg U32 n h).1 in omega (arith, l)
signed_below U64 n h = let e = (in_neg U64 n h).0 in cc
signed_below Ptr n h = let e = (in_neg Ptr n h).0 in cc

number_spelled : (scalar : Scalar) (z : ℤ) → in_scalar scalar z ≡ true → IsSpellableNumber z
number_spelled scalar (pos n) h = let a : n < limit_of scalar = in_pos scalar n h in let b : limit_of scalar ≤ 2 ^ 64 = limit_below scalar in omega (arith, a, b)
number_spelled scalar (negsuc n) h = signed_below scalar n h

-- ---- an operand that passes a check has numbers that can be written

abbrev Fits : Operand → Type 0
Fits (Reg name) = Unit {0}
Fits (Number z) = IsSpellableNumber z
Fits Null = Unit {0}
Fits (Address name offset) = IsSpellableNumber offset

operand_fits : (env : Env) (wrong : ℕ) (scalar : Scalar) (y : Operand) → s.operand env wrong scalar y ≡ Ok tt → Fits y
unfolding s.operand
operand_fits env wrong scalar (Reg name) e = tt
operand_fits env wrong scalar (Number z) e = let a = first_passed (demand (not (s.is_pointer scalar)) wrong) _ tt e in number_spelled scalar z (demanded _ 13 a.2)
operand_fits env wrong scalar Null e = tt
operand_fits env wrong scalar (Address name offset) e =
    let a = first_passed (demand (s.is_pointer scalar) wrong) _ tt e in
    let b = first_passed (demand (is_variable env name || is_target env.targets name) 1) _ tt a.2 in
    let c = first_passed (demand (in_scalar I64 offset) 13) _ tt b.2 in
    number_spelled I64 offset (demanded _ 13 c.1)

count_fits : (env : Env) (scalar : Scalar) (y : Operand) → s.count env scalar y ≡ Ok tt → Fits y
unfolding s.count
count_fits env scalar (Reg name) e = tt
count_fits env scalar (Number z) e = operand_fits env 4 scalar (Number z) e
count_fits env scalar Null e = tt
count_fits env scalar (Address name offset) e = operand_fits env 4 scalar (Address name offset) e

right_by : (env : Env) (scalar : Scalar) (y : Operand) (a b : Bool) → (if a then s.operand env 4 I64 y else (if b then s.count env scalar y else s.operand env 4 scalar y)) ≡ Ok tt → Fits y
right_by env scalar y true b e = operand_fits env 4 I64 y e
right_by env scalar y false true e = count_fits env scalar y e
right_by env scalar y false false e = operand_fits env 4 scalar y e

right_fits : (env : Env) (scalar : Scalar) (op : Op) (y : Operand) → right_check env scalar op y ≡ Ok tt → Fits y
unfolding s.right_side
right_fits env scalar op y e = right_by env scalar y (s.is_pointer scalar) (s.is_shift op) e

compared_fits : (env : Env) (left : Operand) (cmp : Cmp) (right : Operand) → s.compared env left cmp right ≡ Ok tt → Fits left × Fits right
unfolding s.compared
compared_fits env left cmp right e =
    let a = first_passed (s.common_scalar env left right) _ tt e in
    let b = first_passed (s.operand env 4 a.0 left) _ tt a.2 in
    let c = first_passed (s.operand env 4 a.0 right) _ tt b.2 in
    (operand_fits env 4 a.0 left b.1, operand_fits env 4 a.0 right c.1)

printed_by : (z : ℤ) (a b : Bool) → in_scalar I64 z ≡ a → in_scalar U64 z ≡ b → (a || b) ≡ true → IsSpellableNumber z
printed_by z true b e f h = number_spelled I64 z e
printed_by z false true e f h = number_spelled U64 z f
printed_by z false false e f h = cc

printed_fits : (env : Env) (y : Operand) → s.printed env y ≡ Ok tt → Fits y
unfolding s.printed
printed_fits env (Reg name) e = tt
printed_fits env (Number z) e = printed_by z (in_scalar I64 z) (in_scalar U64 z) refl refl (demanded _ 13 e)
printed_fits env Null e = tt
printed_fits env (Address name offset) e = cc

returned_fits : (env : Env) (y : Operand) (result : Option Scalar) → s.returned env (Some y) result ≡ Ok tt → Fits y
unfolding s.returned
returned_fits env y None e = cc
returned_fits env y (Some scalar) e = operand_fits env 16 scalar y e

all_at : {X : Type 0} (P : X → Type 0) (xs : List X) (k : ℕ) (x : X) → AllOf P xs → slice_get xs k ≡ Some x → P x
all_at P [] k x h e = cc
all_at P (y ∷ ys) zero x h e = let same : y ≡ x = cc in subst P same h.0
all_at P (y ∷ ys) (suc k) x h e = all_at P ys k x h.1 e

-- what each item of the second list has where the one of the first list has it
all_through : {X : Type 0} (P : X → Type 0) (xs ys : List X) → length ys ≡ length xs → AllOf P xs → ((n : ℕ) (x y : X) → slice_get xs n ≡ Some x → slice_get ys n ≡ Some y → P x → P y) → AllOf P ys
all_through P [] [] e h g = tt
all_through P [] (y ∷ ys) e h g = absurd (omega (arith, e))
all_through P (x ∷ xs) [] e h g = tt
all_through P (x ∷ xs) (y ∷ ys) e h g = (g 0 x y refl refl h.0, all_through P xs ys (omega (arith, e)) h.1 (λ n a b k l. g (suc n) a b k l))

-- ---- what is put

module _ (S : Folding) (row : List AbsVal) (globals : AllOf IsSpellableGlobal S.body.globals) (profile : ℕ) where
  address_spelled : (k : ℕ) (offset : ℤ) (y : Operand) → Fits y → (o : Option Global) → slice_get S.body.globals k ≡ o → address_in o offset ≡ Some y → IsSpellableOperand y
  address_spelled k offset y h None e f = cc
  address_spelled k offset y h (Some g) e f =
      let same : Address g.decl.name offset ≡ y = cc in
      let fits : IsSpellableNumber offset = subst Fits (sym same) h in
      subst IsSpellableOperand same ((all_at IsSpellableGlobal S.body.globals k g globals e).0.0, fits)

  constant_spelled : (o : Option Constant) (y : Operand) → Fits y → constant_operand S.body.globals o ≡ Some y → IsSpellableOperand y
  unfolding constant_operand
  constant_spelled None y h e = cc
  constant_spelled (Some (Int z)) y h e = let same : Number z ≡ y = cc in subst IsSpellableOperand same (subst Fits (sym same) h)
  constant_spelled (Some NullConstant) y h e = let same : Null ≡ y = cc in subst IsSpellableOperand same tt
  constant_spelled (Some (GlobalConstant k offset)) y h e = address_spelled k offset y h (slice_get S.body.globals k) refl e

  for_spelled : (x y : Operand) → Fits y → constant_for S.body row x ≡ Some y → IsSpellableOperand y
  unfolding constant_for
  for_spelled (Reg name) y h e = constant_spelled (known_register S.body row name) y h e
  for_spelled (Number z) y h e = cc
  for_spelled Null y h e = cc
  for_spelled (Address name offset) y h e = cc

  operand_spelled : (check : Operand → Verdict (Unit {0})) → ((y : Operand) → check y ≡ Ok tt → Fits y) → (x : Operand) → IsSpellableOperand x → IsSpellableOperand (folded_operand S row check x)
  operand_spelled check fits x h = put_has IsSpellableOperand check x (constant_for S.body row x) h (λ y e c. for_spelled x y (fits y c) e)

  right_spelled : (left : Operand) (cmp : Cmp) (right : Operand) → IsSpellableOperand right → IsSpellableOperand (folded_right S row left cmp right)
  unfolding folded_right
  right_spelled left cmp right h = operand_spelled (λ y. s.compared S.env left cmp y) (λ y c. (compared_fits S.env left cmp y c).1) right h

  left_spelled : (left : Operand) (cmp : Cmp) (right : Operand) → IsSpellableOperand left → IsSpellableOperand (folded_left S row left cmp right)
  unfolding folded_left
  left_spelled left cmp right h = by (is_put (λ y. s.compared S.env left cmp y) (constant_for S.body row right))
    where
      by : (b : Bool) → IsSpellableOperand (if b then left else folded_operand S row (λ y. s.compared S.env y cmp right) left)
      by true = h
      by false = operand_spelled (λ y. s.compared S.env y cmp right) (λ y c. (compared_fits S.env y cmp right c).0) left h

  arguments_spelled : (formals : List Scalar) (xs : List Operand) → AllOf IsSpellableOperand xs → AllOf IsSpellableOperand (folded_arguments S row formals xs)
  arguments_spelled formals [] h = tt
  arguments_spelled [] (x ∷ xs) h = h
  arguments_spelled (r ∷ rs) (x ∷ xs) h = (operand_spelled (s.operand S.env 6 r) (operand_fits S.env 6 r) x h.0, arguments_spelled rs xs h.1)

  place_by : (k : ℕ) (z : ℤ) (q : Place) → (o : Option Global) → slice_get S.body.globals k ≡ o → place_in o (wrapped I64 z) ≡ Some q → IsSpellablePlace q
  place_by k z q None e f = cc
  place_by k z q (Some g) e f =
      let same : record { base = Variable g.decl.name; offset = wrapped I64 z } ≡ q = cc in
      subst IsSpellablePlace same ((all_at IsSpellableGlobal S.body.globals k g globals e).0.0, number_spelled I64 (wrapped I64 z) (wrapped_in I64 z))

  from_spelled : (o : Option Constant) (offset : ℤ) (q : Place) → place_from S.body.globals o offset ≡ Some q → IsSpellablePlace q
  from_spelled None offset q e = cc
  from_spelled (Some (Int z)) offset q e = cc
  from_spelled (Some NullConstant) offset q e = cc
  from_spelled (Some (GlobalConstant k start)) offset q e = place_by k (start +ℤ offset_in offset) q (slice_get S.body.globals k) refl e

  on_spelled : (base : Base) (offset : ℤ) (q : Place) → place_on S.body row base offset ≡ Some q → IsSpellablePlace q
  on_spelled (RegBase name) offset q e = from_spelled (known_register S.body row name) offset q e
  on_spelled (Variable name) offset q e = cc

  place_spelled : (check : Place → Verdict (Unit {0})) (place : Place) → IsSpellablePlace place → IsSpellablePlace (folded_place S row check place)
  unfolding folded_place
  place_spelled check place h = put_has IsSpellablePlace check place (place_on S.body row place.base place.offset) h (λ q e c. on_spelled place.base place.offset q e)

  -- ---- statements

  with_spelled : (scalar : Scalar) (x : Stmt) → IsSpellableStmt profile x → IsSpellableStmt profile (with_operands S row scalar x)
  unfolding with_operands
  with_spelled scalar (Copy to from) h = (h.0, operand_spelled (s.operand S.env 4 scalar) (operand_fits S.env 4 scalar) from h.1)
  with_spelled scalar (Arith to left op right) h = (h.0, operand_spelled (s.operand S.env 4 scalar) (operand_fits S.env 4 scalar) left h.1, operand_spelled (right_check S.env scalar op) (right_fits S.env scalar op) right h.2)
  with_spelled scalar (Compare to left cmp right) h = (h.0, left_spelled left cmp right h.1, right_spelled left cmp right h.2)
  with_spelled scalar (Convert to target from) h = h
  with_spelled scalar (Load to from place) h = (h.0, place_spelled (s.place S.env from) place h.1)
  with_spelled scalar (Store at place from) h = (place_spelled (stored_place S.env at) place h.0, operand_spelled (s.operand S.env 4 at) (operand_fits S.env 4 at) from h.1)
  with_spelled scalar (Call to callee xs) h = (h.0, h.1, arguments_spelled (formals_of (named callee S.names)) xs h.2)
  with_spelled scalar (Indirect to signature callee xs) h = (h.0, h.1, arguments_spelled signature.params xs h.2, h.3)
  with_spelled scalar (Get to) h = h
  with_spelled scalar (Put from) h = operand_spelled (s.printed S.env) (printed_fits S.env) from h
  with_spelled scalar Abort h = h

  passed : (v : Verdict (Unit {0})) → passes v ≡ true → v ≡ Ok tt
  passed (Ok x) h = refl
  passed (Err code) h = cc

  copy_spelled : (scalar : Scalar) (to : List ℕ) (y : Stmt) (o : Option Constant) (q : Option Operand) → constant_operand S.body.globals o ≡ q → IsNameText to → IsSpellableStmt profile y → IsSpellableStmt profile (copy_or (s.operand S.env 4 scalar) to y q)
  copy_spelled scalar to y o None e n h = h
  copy_spelled scalar to y o (Some c) e n h = by (passes (s.operand S.env 4 scalar c)) refl
    where
      by : (b : Bool) → passes (s.operand S.env 4 scalar c) ≡ b → IsSpellableStmt profile (if b then Copy to c else y)
      by true g = (n, constant_spelled o c (operand_fits S.env 4 scalar c (passed (s.operand S.env 4 scalar c) g)) e)
      by false g = h

  target_spelled : (x : Stmt) (to : List ℕ) → target_of x ≡ Some to → IsSpellableStmt profile x → IsNameText to
  target_spelled (Copy r from) to e h = let same : r ≡ to = cc in subst IsNameText same h.0
  target_spelled (Arith r left op right) to e h = let same : r ≡ to = cc in subst IsNameText same h.0
  target_spelled (Compare r left cmp right) to e h = let same : r ≡ to = cc in subst IsNameText same h.0
  target_spelled (Convert r target from) to e h = let same : r ≡ to = cc in subst IsNameText same h.0
  target_spelled (Load r from place) to e h = let same : r ≡ to = cc in subst IsNameText same h.0
  target_spelled (Store at place from) to e h = cc
  target_spelled (Call None callee xs) to e h = cc
  target_spelled (Call (Some r) callee xs) to e h = let same : r ≡ to = cc in subst IsNameText same h.0
  target_spelled (Indirect None signature callee xs) to e h = cc
  target_spelled (Indirect (Some r) signature callee xs) to e h = let same : r ≡ to = cc in subst IsNameText same h.0
  target_spelled (Get r) to e h = let same : r ≡ to = cc in subst IsNameText same h
  target_spelled (Put from) to e h = cc
  target_spelled Abort to e h = cc

  result_spelled : (j i : ℕ) (x : Stmt) (scalar : Scalar) (o : Option (List ℕ)) → target_of x ≡ o → IsSpellableStmt profile x → IsSpellableStmt profile (with_result S j i row x o scalar)
  result_spelled j i x scalar None t h = with_spelled scalar x h
  result_spelled j i x scalar (Some to) t h = copy_spelled scalar to (with_operands S row scalar x) _ _ refl (target_spelled x to t h) (with_spelled scalar x h)

  stmt_spelled : (j i : ℕ) (x : Stmt) → IsSpellableStmt profile x → IsSpellableStmt profile (folded_stmt S j i row x)
  unfolding folded_stmt
  stmt_spelled j i x h = result_spelled j i x _ (target_of x) refl h

  -- ---- ends

  goto_spelled : (o : Option Constant) (hit miss : ℕ) (x : End) → hit < 2 ^ 64 → miss < 2 ^ 64 → IsSpellableEnd x → IsSpellableEnd (goto_or o hit miss x)
  goto_spelled None hit miss x a b h = h
  goto_spelled (Some c) hit miss x a b h = by (is_zero c)
    where
      by : (t : Bool) → (if t then miss else hit) < 2 ^ 64
      by true = b
      by false = a

  case_by : (c : Case) (o : Option Case) (other : ℕ) (b : Bool) → c.target < 2 ^ 64 → case_target o other < 2 ^ 64 → case_target (if b then Some c else o) other < 2 ^ 64
  case_by c o other true h more = h
  case_by c o other false h more = more

  case_spelled : (test : Case → Bool) (cases : List Case) (other : ℕ) → AllOf IsSpellableCase cases → other < 2 ^ 64 → case_target (find test cases) other < 2 ^ 64
  case_spelled test [] other h k = k
  case_spelled test (c ∷ cs) other h k = case_by c (find test cs) other (test c) h.0.1 (case_spelled test cs other h.1 k)

  switch_spelled : (on : Operand) (cases : List Case) (other : ℕ) (o : Option Constant) → IsSpellableEnd (Switch on cases other) → IsSpellableEnd (case_or o cases other (Switch on cases other))
  switch_spelled on cases other None h = h
  switch_spelled on cases other (Some c) h = case_spelled (λ (x : Case). cmp_of Eq (any_number (value_of_constant c)) x.value) cases other h.1 h.2

  end_spelled : (e : End) → IsSpellableEnd e → IsSpellableEnd (folded_end S row e)
  unfolding folded_end
  end_spelled (Goto to) h = h
  end_spelled (If left cmp right hit miss) h =
      goto_spelled (known_comparison S.body row left cmp right) hit miss (If (folded_left S row left cmp right) cmp (folded_right S row left cmp right) hit miss) h.2 h.3 (left_spelled left cmp right h.0, right_spelled left cmp right h.1, h.2, h.3)
  end_spelled (Switch on cases other) h = switch_spelled on cases other (known_operand S.body row on) h
  end_spelled (Return None) h = h
  end_spelled (Return (Some x)) h = operand_spelled (λ y. s.returned S.env (Some y) S.env.result) (λ y c. returned_fits S.env y S.env.result c) x h

-- ---- bodies

module _ (S : Folding) (values : ℕ → ℕ → Lifted (List AbsVal)) (all : List Block) (keep : ℕ → Bool) (globals : AllOf IsSpellableGlobal S.body.globals) (profile : ℕ) where
  stmt_at_spelled : (k i : ℕ) (x : Stmt) (v : Lifted (List AbsVal)) → IsSpellableStmt profile x → IsSpellableStmt profile (stmt_at S k i x v)
  stmt_at_spelled k i x NotReached h = h
  stmt_at_spelled k i x (Reached row) h = stmt_spelled S row globals profile k i x h

  end_at_spelled : (e : End) (v : Lifted (List AbsVal)) → IsSpellableEnd e → IsSpellableEnd (end_at S e v)
  end_at_spelled e NotReached h = h
  end_at_spelled e (Reached row) h = end_spelled S row globals profile e h

  body_spelled : (k i : ℕ) (xs : List Stmt) → AllOf (IsSpellableStmt profile) xs → AllOf (IsSpellableStmt profile) (new_body (new_stmt S values) k i xs)
  body_spelled k i [] h = tt
  body_spelled k i (x ∷ xs) h = (stmt_at_spelled k i x (values k i) h.0, body_spelled k (i + 1) xs h.1)

  blocks_spelled : (k : ℕ) (bs : List Block) → AllOf (IsSpellableBlock profile) bs → AllOf (IsSpellableBlock profile) (new_blocks (new_stmt S values) (new_end S all values) keep k bs)
  blocks_spelled k [] h = tt
  blocks_spelled k (b ∷ bs) h = by (keep k) (blocks_spelled (k + 1) bs h.1)
    where
      by : (t : Bool) → AllOf (IsSpellableBlock profile) (new_blocks (new_stmt S values) (new_end S all values) keep (k + 1) bs) →
          AllOf (IsSpellableBlock profile) (if t then record { label = b.label; body = new_body (new_stmt S values) k 0 b.body; end = new_end S all values k b.end } ∷ new_blocks (new_stmt S values) (new_end S all values) keep (k + 1) bs else new_blocks (new_stmt S values) (new_end S all values) keep (k + 1) bs)
      by true more = ((h.0.0, body_spelled k 0 b.body h.0.1, end_at_spelled b.end _ h.0.2), more)
      by false more = more

-- ---- the program

folded_spelled : (p : Sealed) (n : ℕ) (f : Function) (facts : Facts) (most : ℕ) (ts : List ℤ) (xs : List (Lifted (List AbsVal))) (g : Function) → FoldsBy p n f facts most ts xs g → AllOf IsSpellableGlobal p.program.globals →
    IsSpellableFunction p.program.profile f → IsSpellableFunction p.program.profile g
folded_spelled p n f facts most ts xs g folds globals old =
    let profile : ℕ = p.program.profile in
    subst (IsSpellableFunction profile) (sym folds.folded.is) (record {
      name = old.name;
      params = old.params;
      locals = old.locals;
      registers = old.registers;
      blocks = blocks_spelled (folding_of p n f facts most ts) (values_at (body_of p n f facts most ts) f.blocks xs) f.blocks folds.folded.keep globals profile 0 f.blocks old.blocks;
    })

to_spelled : (p : Sealed) (n : ℕ) (f g : Function) (o : Option Facts) → FoldsTo p n f g o → AllOf IsSpellableGlobal p.program.globals → IsSpellableFunction p.program.profile f → IsSpellableFunction p.program.profile g
to_spelled p n f g None same globals old = subst (IsSpellableFunction p.program.profile) (sym same) old
to_spelled p n f g (Some facts) folds globals old = folded_spelled p n f facts folds.0.limits.size folds.0.limits.ends folds.1.values.begins g (folds_by p n f facts folds.0 g folds.1) globals old

pub folds_are_spellable : FoldsAreSpellable
folds_are_spellable p facts gs folds h = record {
  profile = h.profile;
  structs = h.structs;
  globals = h.globals;
  functions = all_through (IsSpellableFunction p.program.profile) p.program.functions gs folds.count h.functions (λ n f g own made old. to_spelled p n f g (facts n) (folds.each n f g own made) h.globals old);
}
