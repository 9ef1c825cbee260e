-- What the checks of operands ask for.
use Rattle.std.proofs.Common.{◌≡◌, ℕ, ℤ, pos, Bool, true, false, not, cond, ◌||◌, ◌&&◌, if◌then◌else◌, List, [], ◌∷◌, ◌++◌, map, refl, sym, ◌∙◌, ap, Option, Some, None, Ok, Err, Bor}
use Rattle.std.specs.Prelude.{is_some}
use Rattle.std.specs.List.{find, list_any}
use Rattle.std.specs.Option.{option_copied}
use Rattle.std.specs.Ordering.{int_eq}
use Rattle.std.specs.Str.{bytes_eq}
use Rattle.std.proofs.lemmas.Bool.{eq-eqb}
use Rattle.std.proofs.lemmas.Bool.Decides.{Decides-int_eq}
use Rattle.std.proofs.lemmas.List.{map-append}
use Rattle.gimple_ir.specs.declared.scalar.Scalar.{Scalar}
use Rattle.gimple_ir.specs.declared.scalar.Scalar.TheVariants.{I8, I16, I32, I64, U8, U16, U32, U64, Ptr}
use Rattle.gimple_ir.specs.declared.scalar.Op.{Op}
use Rattle.gimple_ir.specs.declared.scalar.Cmp.{Cmp}
use Rattle.gimple_ir.specs.declared.operand.Operand.{Operand}
use Rattle.gimple_ir.specs.declared.operand.Operand.TheVariants.{Reg, Number, Null, Address}
use Rattle.gimple_ir.specs.declared.declarations.Register.{Register}
use Rattle.gimple_ir.specs.declared.declarations.Decl.{Decl}
use Rattle.gimple_ir.specs.declared.declarations.Global.{Global}
use Rattle.gimple_ir.specs.declared.program.Function.{Function}
use Rattle.gimple_ir.specs.declared.program.Program.{Program}
use Rattle.gimple_core.specs.Memory.{same_scalar}
use Rattle.gimple_core.specs.Operators.{in_scalar}
use Rattle.gimple_core.specs.Verdict.{Verdict, ◌>>=◌, ◌>>◌, demand}
use Rattle.gimple_core.specs.Env.{Env, named, has, targets_of, functions_by_name, is_target, is_variable, scalar_of}
use Rattle.gimple_core.specs.Statements as s
use Rattle.gimple_core.proofs.EnvLemmas.{same_test as same_key, named_find}
use Rattle.gimple_claims.specs.Checks.{env_of}
use Rattle.body_values.specs.Bodies.{Body, register_scalar, is_local, right_scalar, sides_scalar}
use Rattle.body_fold.specs.Fold.{passes, put_or, right_check}
use Rattle.body_fold.specs.Putting.{address_passes}
use Rattle.body_fold.proofs.Passing.{own_scalar}

pub passes_demand : (b : Bool) (code : ℕ) → passes (demand b code) ≡ b
passes_demand true code = refl
passes_demand false code = refl

pub passes_then : (v w : Verdict (Unit {0})) → passes (v >> w) ≡ (passes v && passes w)
passes_then (Ok x) w = refl
passes_then (Err code) w = refl

and_true : (a b : Bool) → b ≡ true → (a && b) ≡ a
and_true true b e = e
and_true false b e = refl

and_false : (a b : Bool) → (a && (false && b)) ≡ false
and_false true b = refl
and_false false b = refl

same_self : (scalar : Scalar) → same_scalar scalar scalar ≡ true
same_self I8 = refl
same_self I16 = refl
same_self I32 = refl
same_self I64 = refl
same_self U8 = refl
same_self U16 = refl
same_self U32 = refl
same_self U64 = refl
same_self Ptr = refl

-- ---- names

pub has_any : {T : Type 0} (key : T → List ℕ) (name : List ℕ) (xs : List T) → has name (map (λ x. (key x, x)) xs) ≡ list_any (λ x. bytes_eq (key x) name) xs
has_any key name [] = refl
has_any key name (x ∷ xs) = by (bytes_eq name (key x)) (bytes_eq (key x) name) (same_key name (key x)) (has_any key name xs)
  where
    by : (a b : Bool) → a ≡ b → has name (map (λ x. (key x, x)) xs) ≡ list_any (λ x. bytes_eq (key x) name) xs → is_some (cond a (Some x) (named name (map (λ x. (key x, x)) xs))) ≡ (b || list_any (λ x. bytes_eq (key x) name) xs)
    by true true e h = refl
    by true false e h = cc
    by false true e h = cc
    by false false e h = h

pub variable_is : (p : Program) (f : Function) (name : List ℕ) → is_variable (env_of p f) name ≡ (is_local f.locals name || list_any (λ (g : Global). bytes_eq g.decl.name name) p.globals)
variable_is p f name = λ i. has_any (λ (d : Decl). d.name) name f.locals i || has_any (λ (g : Global). g.decl.name) name p.globals i

register_is : (p : Program) (f : Function) (rs : List Register) (name : List ℕ) → rs ≡ f.params ++ f.registers → named name (env_of p f).registers ≡ find (λ (r : Register). bytes_eq r.name name) rs
register_is p f rs name e =
    sym (ap (named name) (map-append (λ (x : Register). (x.name, x)) f.params f.registers))
    ∙ (named_find (λ (x : Register). x.name) name (f.params ++ f.registers) ∙ ap (find (λ (r : Register). bytes_eq r.name name)) (sym e))

-- ---- functions that may be addressed

pub copied_is : {T : Type 0} (o : Option (Bor T)) → is_some (option_copied o) ≡ is_some o
copied_is None = refl
copied_is (Some x) = refl

pub target_there : (p : Program) (name : List ℕ) → p.profile ≡ 2 → is_some (find (λ (f : Function). bytes_eq f.name name) p.functions) ≡ is_target (targets_of p) name
target_there p name e =
    sym (ap (λ b. is_target (if b then Some (functions_by_name p.functions) else None) name) (eq-eqb p.profile 2 e) ∙ ap is_some (named_find (λ (f : Function). f.name) name p.functions))

-- ---- an operand

module _ (env : Env) where
  pub number_is : (code : ℕ) (scalar : Scalar) (z : ℤ) → passes (s.operand env code scalar (Number z)) ≡ (not (s.is_pointer scalar) && in_scalar scalar z)
  unfolding s.operand
  number_is code scalar z =
      passes_then (demand (not (s.is_pointer scalar)) code) (demand (in_scalar scalar z) 13)
      ∙ (λ i. passes_demand (not (s.is_pointer scalar)) code i && passes_demand (in_scalar scalar z) 13 i)

  pub null_is : (code : ℕ) (scalar : Scalar) → passes (s.operand env code scalar Null) ≡ s.is_pointer scalar
  unfolding s.operand
  null_is code scalar = passes_demand (s.is_pointer scalar) code

  -- a variable, or a function at no offset
  address_by : (variable target : Bool) (offset : ℤ) (zero : Bool) → int_eq offset (pos 0) ≡ zero →
      ((variable || target) && (in_scalar I64 offset && (variable || zero))) ≡ (if variable then in_scalar I64 offset else (zero && target))
  address_by true target offset zero e = and_true (in_scalar I64 offset) true refl
  address_by false true offset true e = and_true (in_scalar I64 offset) true refl ∙ ap (in_scalar I64) ((Decides-int_eq offset (pos 0)).0 e)
  address_by false true offset false e = and_false (in_scalar I64 offset) true
  address_by false false offset true e = refl
  address_by false false offset false e = refl

  abbrev address_checks : List ℕ → ℤ → Verdict (Unit {0})
  address_checks name offset = demand (is_variable env name || is_target env.targets name) 1 >> (demand (in_scalar I64 offset) 13 >> demand (is_variable env name || int_eq offset (pos 0)) 11)

  checks_are : (name : List ℕ) (offset : ℤ) → passes (address_checks name offset) ≡ address_passes env name offset
  checks_are name offset =
      passes_then (demand (is_variable env name || is_target env.targets name) 1) (demand (in_scalar I64 offset) 13 >> demand (is_variable env name || int_eq offset (pos 0)) 11)
      ∙ ((λ i. passes_demand (is_variable env name || is_target env.targets name) 1 i
      && (passes_then (demand (in_scalar I64 offset) 13) (demand (is_variable env name || int_eq offset (pos 0)) 11)
      ∙ (λ j. passes_demand (in_scalar I64 offset) 13 j && passes_demand (is_variable env name || int_eq offset (pos 0)) 11 j)) i)
      ∙ address_by (is_variable env name) (is_target env.targets name) offset (int_eq offset (pos 0)) refl)

  pub address_is : (code : ℕ) (scalar : Scalar) (name : List ℕ) (offset : ℤ) → passes (s.operand env code scalar (Address name offset)) ≡ (s.is_pointer scalar && address_passes env name offset)
  unfolding s.operand
  address_is code scalar name offset = passes_then (demand (s.is_pointer scalar) code) (address_checks name offset) ∙ (λ i. null_is code scalar i && checks_are name offset i)

  own_by : (code : ℕ) (scalar own : Scalar) (v : Verdict Scalar) → v ≡ Ok own → passes (v >>= (λ x. demand (same_scalar x scalar) code)) ≡ same_scalar own scalar
  own_by code scalar own v e = rw e (passes_demand (same_scalar own scalar) code)

  own_is : (code : ℕ) (scalar own : Scalar) (name : List ℕ) → scalar_of env name ≡ Ok own → passes (s.operand env code scalar (Reg name)) ≡ same_scalar own scalar
  unfolding s.operand
  own_is code scalar own name e = own_by code scalar own (scalar_of env name) e

  lost_by : (code wrong : ℕ) (scalar : Scalar) (v : Verdict Scalar) → v ≡ Err wrong → passes (v >>= (λ x. demand (same_scalar x scalar) code)) ≡ false
  lost_by code wrong scalar v e = rw e refl

  lost : (code wrong : ℕ) (scalar : Scalar) (name : List ℕ) → scalar_of env name ≡ Err wrong → passes (s.operand env code scalar (Reg name)) ≡ false
  unfolding s.operand
  lost code wrong scalar name e = lost_by code wrong scalar (scalar_of env name) e

  code_by : (code : ℕ) (scalar : Scalar) (name : List ℕ) (v : Verdict Scalar) → scalar_of env name ≡ v → passes (s.operand env code scalar (Reg name)) ≡ passes (s.operand env 4 scalar (Reg name))
  code_by code scalar name (Ok own) e = own_is code scalar own name e ∙ sym (own_is 4 scalar own name e)
  code_by code scalar name (Err wrong) e = lost code wrong scalar name e ∙ sym (lost 4 wrong scalar name e)

  -- the code of a check is no matter of whether it passes
  code_same : (code : ℕ) (scalar : Scalar) (x : Operand) → passes (s.operand env code scalar x) ≡ passes (s.operand env 4 scalar x)
  code_same code scalar (Reg name) = code_by code scalar name (scalar_of env name) refl
  code_same code scalar (Number z) = number_is code scalar z ∙ sym (number_is 4 scalar z)
  code_same code scalar Null = null_is code scalar ∙ sym (null_is 4 scalar)
  code_same code scalar (Address name offset) = address_is code scalar name offset ∙ sym (address_is 4 scalar name offset)

  pub put_same : (code : ℕ) (scalar : Scalar) (x : Operand) (o : Option Operand) → put_or (s.operand env 4 scalar) x o ≡ put_or (s.operand env code scalar) x o
  put_same code scalar x None = refl
  put_same code scalar x (Some y) = ap (λ b. if b then y else x) (sym (code_same code scalar y))

-- ---- in a function

module _ (p : Program) (f : Function) where
  abbrev env : Env
  env = env_of p f

  scalar_found : (rs : List Register) (name : List ℕ) (r : Register) → rs ≡ f.params ++ f.registers → find (λ (r : Register). bytes_eq r.name name) rs ≡ Some r → scalar_of env name ≡ Ok r.scalar
  unfolding scalar_of
  scalar_found rs name r e h = rw (register_is p f rs name e ∙ h) refl

  scalar_lost : (rs : List Register) (name : List ℕ) → rs ≡ f.params ++ f.registers → find (λ (r : Register). bytes_eq r.name name) rs ≡ None → scalar_of env name ≡ Err 1
  unfolding scalar_of
  scalar_lost rs name e h = rw (register_is p f rs name e ∙ h) refl

  pub found_passes : (rs : List Register) (scalar : Scalar) (name : List ℕ) (r : Register) → rs ≡ f.params ++ f.registers → find (λ (r : Register). bytes_eq r.name name) rs ≡ Some r → passes (s.operand env 4 scalar (Reg name)) ≡ same_scalar r.scalar scalar
  found_passes rs scalar name r e h = own_is env 4 scalar r.scalar name (scalar_found rs name r e h)

  pub lost_fails : (rs : List Register) (scalar : Scalar) (name : List ℕ) → rs ≡ f.params ++ f.registers → find (λ (r : Register). bytes_eq r.name name) rs ≡ None → passes (s.operand env 4 scalar (Reg name)) ≡ false
  lost_fails rs scalar name e h = lost env 4 1 scalar name (scalar_lost rs name e h)

  module _ (B : Body) (registers : B.registers ≡ f.params ++ f.registers) where
    abbrev scalar_in : List ℕ → Scalar
    scalar_in name = register_scalar B.registers name

    scalar_is : (name : List ℕ) (own : Scalar) → scalar_of env name ≡ Ok own → own ≡ scalar_in name
    scalar_is name own e = sym (ap (λ rs. register_scalar rs name) registers ∙ own_scalar p f name own e)

    -- ---- a register that holds an integer

    abbrev integer_passes : Scalar → Operand → Bool
    integer_passes scalar x = passes (s.operand env 4 scalar x) && not (s.is_pointer scalar)

    integer_by : (name : List ℕ) (v : Verdict Scalar) → scalar_of env name ≡ v → passes (v >>= (λ own. demand (not (s.is_pointer own)) 4)) ≡ integer_passes (scalar_in name) (Reg name)
    integer_by name (Ok own) e =
        passes_demand (not (s.is_pointer own)) 4
        ∙ ((λ i. sym (own_is env 4 own own name e ∙ same_self own) i && not (s.is_pointer own)) ∙ ap (λ z. integer_passes z (Reg name)) (scalar_is name own e))
    integer_by name (Err wrong) e = λ i. sym (lost env 4 wrong (scalar_in name) name e) i && not (s.is_pointer (scalar_in name))

    integer_is : (name : List ℕ) → passes (scalar_of env name >>= (λ own. demand (not (s.is_pointer own)) 4)) ≡ integer_passes (scalar_in name) (Reg name)
    integer_is name = integer_by name (scalar_of env name) refl

    -- ---- the right side of an operator

    plain : (scalar : Scalar) (x : Operand) → s.is_pointer scalar ≡ false → passes (s.operand env 4 scalar x) ≡ integer_passes scalar x
    plain scalar x e = sym (and_true (passes (s.operand env 4 scalar x)) (not (s.is_pointer scalar)) (ap not e))

    abbrev count_in : Scalar → Operand → Scalar
    count_in scalar (Reg name) = scalar_in name
    count_in scalar x = scalar

    count_is : (scalar : Scalar) (x : Operand) → s.is_pointer scalar ≡ false → passes (s.count env scalar x) ≡ integer_passes (count_in scalar x) x
    unfolding s.count
    count_is scalar (Reg name) e = integer_is name
    count_is scalar (Number z) e = plain scalar (Number z) e
    count_is scalar Null e = plain scalar Null e
    count_is scalar (Address name offset) e = plain scalar (Address name offset) e

    pub right_is : (scalar : Scalar) (op : Op) (x : Operand) → passes (right_check env scalar op x) ≡ integer_passes (right_scalar B scalar op x) x
    unfolding s.right_side
    right_is scalar op x = by (s.is_pointer scalar) refl (s.is_shift op)
      where
        by : (b : Bool) → s.is_pointer scalar ≡ b → (shift : Bool) →
            passes (if b then s.operand env 4 I64 x else (if shift then s.count env scalar x else s.operand env 4 scalar x)) ≡ integer_passes (if b then I64 else (if shift then count_in scalar x else scalar)) x
        by true e shift = plain I64 x refl
        by false e true = count_is scalar x e
        by false e false = plain scalar x e

    -- ---- comparisons

    abbrev sides_pass : Scalar → Operand → Cmp → Operand → Bool
    sides_pass scalar left cmp right = passes (s.operand env 4 scalar left) && (passes (s.operand env 4 scalar right) && (not (s.is_pointer scalar) || not (s.is_order cmp)))

    ordered : (a b : Bool) → passes (demand (not (a && b)) 4) ≡ (not a || not b)
    ordered true b = passes_demand (not b) 4
    ordered false b = refl

    abbrev checks : Operand → Cmp → Operand → Scalar → Verdict (Unit {0})
    checks left cmp right scalar = s.operand env 4 scalar left >> (s.operand env 4 scalar right >> demand (not (s.is_pointer scalar && s.is_order cmp)) 4)

    both_sides : (scalar : Scalar) (left : Operand) (cmp : Cmp) (right : Operand) → passes (checks left cmp right scalar) ≡ sides_pass scalar left cmp right
    both_sides scalar left cmp right =
        passes_then (s.operand env 4 scalar left) (s.operand env 4 scalar right >> demand (not (s.is_pointer scalar && s.is_order cmp)) 4)
        ∙ (λ i. passes (s.operand env 4 scalar left)
        && (passes_then (s.operand env 4 scalar right) (demand (not (s.is_pointer scalar && s.is_order cmp)) 4)
        ∙ (λ j. passes (s.operand env 4 scalar right) && ordered (s.is_pointer scalar) (s.is_order cmp) j)) i)

    first_by : (name : List ℕ) (cmp : Cmp) (right : Operand) (v : Verdict Scalar) → scalar_of env name ≡ v → passes (v >>= checks (Reg name) cmp right) ≡ sides_pass (scalar_in name) (Reg name) cmp right
    first_by name cmp right (Ok own) e = both_sides own (Reg name) cmp right ∙ ap (λ z. sides_pass z (Reg name) cmp right) (scalar_is name own e)
    first_by name cmp right (Err wrong) e = λ i. sym (lost env 4 wrong (scalar_in name) name e) i && (passes (s.operand env 4 (scalar_in name) right) && (not (s.is_pointer (scalar_in name)) || not (s.is_order cmp)))

    second_by : (left : Operand) (cmp : Cmp) (name : List ℕ) (v : Verdict Scalar) → scalar_of env name ≡ v → passes (v >>= checks left cmp (Reg name)) ≡ sides_pass (scalar_in name) left cmp (Reg name)
    second_by left cmp name (Ok own) e = both_sides own left cmp (Reg name) ∙ ap (λ z. sides_pass z left cmp (Reg name)) (scalar_is name own e)
    second_by left cmp name (Err wrong) e =
        sym (and_false (passes (s.operand env 4 (scalar_in name) left)) (not (s.is_pointer (scalar_in name)) || not (s.is_order cmp)))
        ∙ (λ i. passes (s.operand env 4 (scalar_in name) left) && (sym (lost env 4 wrong (scalar_in name) name e) i && (not (s.is_pointer (scalar_in name)) || not (s.is_order cmp))))

    -- neither side is a register
    number_first : (z : ℤ) (cmp : Cmp) (right : Operand) → false ≡ sides_pass Ptr (Number z) cmp right
    number_first z cmp right = λ i. sym (number_is env 4 Ptr z) i && (passes (s.operand env 4 Ptr right) && (not (s.is_pointer Ptr) || not (s.is_order cmp)))

    number_second : (left : Operand) (cmp : Cmp) (z : ℤ) → false ≡ sides_pass Ptr left cmp (Number z)
    number_second left cmp z =
        sym (and_false (passes (s.operand env 4 Ptr left)) (not (s.is_pointer Ptr) || not (s.is_order cmp)))
        ∙ (λ i. passes (s.operand env 4 Ptr left) && (sym (number_is env 4 Ptr z) i && (not (s.is_pointer Ptr) || not (s.is_order cmp))))

    pub compared_is : (left : Operand) (cmp : Cmp) (right : Operand) → passes (s.compared env left cmp right) ≡ sides_pass (sides_scalar B left right) left cmp right
    unfolding s.compared s.common_scalar
    compared_is (Reg name) cmp right = first_by name cmp right (scalar_of env name) refl
    compared_is (Number z) cmp (Reg name) = second_by (Number z) cmp name (scalar_of env name) refl
    compared_is Null cmp (Reg name) = second_by Null cmp name (scalar_of env name) refl
    compared_is (Address variable offset) cmp (Reg name) = second_by (Address variable offset) cmp name (scalar_of env name) refl
    compared_is (Number z) cmp (Number y) = number_first z cmp (Number y)
    compared_is (Number z) cmp Null = number_first z cmp Null
    compared_is (Number z) cmp (Address name offset) = number_first z cmp (Address name offset)
    compared_is Null cmp (Number z) = number_second Null cmp z
    compared_is Null cmp Null = both_sides Ptr Null cmp Null
    compared_is Null cmp (Address name offset) = both_sides Ptr Null cmp (Address name offset)
    compared_is (Address variable start) cmp (Number z) = number_second (Address variable start) cmp z
    compared_is (Address variable start) cmp Null = both_sides Ptr (Address variable start) cmp Null
    compared_is (Address variable start) cmp (Address name offset) = both_sides Ptr (Address variable start) cmp (Address name offset)

    -- ---- what is printed

    pub printed_register : (name : List ℕ) → passes (s.printed env (Reg name)) ≡ integer_passes (scalar_in name) (Reg name)
    unfolding s.printed
    printed_register name = integer_is name

  pub printed_number : (z : ℤ) → passes (s.printed env (Number z)) ≡ (in_scalar I64 z || in_scalar U64 z)
  unfolding s.printed
  printed_number z = passes_demand (in_scalar I64 z || in_scalar U64 z) 13

  pub printed_null : passes (s.printed env Null) ≡ false
  unfolding s.printed
  printed_null = refl

  pub printed_address : (name : List ℕ) (offset : ℤ) → passes (s.printed env (Address name offset)) ≡ false
  unfolding s.printed
  printed_address name offset = refl
