-- What passed checks say of statements and ends.
use Rattle.std.proofs.Common.{◌≡◌, ℕ, ◌+◌, ◌==◌, Bool, true, false, not, ◌||◌, is_some, if◌then◌else◌, List, [], ◌∷◌, length, Option, Some, None, Ok, sym, ap, ◌∙◌, subst, arith, refl, ℤ, pos}
use Rattle.std.specs.Ordering.{int_eq}
use Rattle.std.proofs.lemmas.Bool.{eqb-true}
use Rattle.std.proofs.lemmas.List.{length-map}
use Rattle.gimple_ir.specs.declared.scalar.Scalar.{Scalar}
use Rattle.gimple_ir.specs.declared.scalar.Scalar.TheVariants.{I64, Ptr}
use Rattle.gimple_ir.specs.declared.scalar.Op.{Op}
use Rattle.gimple_ir.specs.declared.scalar.Cmp.{Cmp}
use Rattle.gimple_ir.specs.declared.operand.Operand.{Operand}
use Rattle.gimple_ir.specs.declared.operand.Operand.TheVariants.{Reg, Number, Null, Address}
use Rattle.gimple_ir.specs.declared.operand.Base.{Base}
use Rattle.gimple_ir.specs.declared.operand.Base.TheVariants.{Reg as RegBase, Variable}
use Rattle.gimple_ir.specs.declared.statement.Stmt.{Stmt}
use Rattle.gimple_ir.specs.declared.statement.Stmt.TheVariants.{Copy, Arith, Compare, Convert, Load, Store, Call, Indirect, Get, Put, Abort}
use Rattle.gimple_ir.specs.declared.block.Case.{Case}
use Rattle.gimple_ir.specs.declared.block.End.{End}
use Rattle.gimple_ir.specs.declared.block.End.TheVariants.{Goto, If, Switch, Return}
use Rattle.gimple_ir.specs.declared.block.Block.{Block}
use Rattle.gimple_ir.specs.declared.declarations.Register.{Register}
use Rattle.gimple_ir.specs.declared.statement.Signature.{Signature}
use Rattle.gimple_ir.specs.declared.program.Function.{Function}
use Rattle.gimple_core.specs.Memory.{same_scalar}
use Rattle.gimple_core.specs.Operators.{in_scalar}
use Rattle.gimple_core.specs.Verdict.{and_then, demand, found, at}
use Rattle.gimple_core.specs.Env.{Env, Names, named, scalar_of, is_target, is_variable, variable}
use Rattle.gimple_core.specs.Statements as s
use Rattle.gimple_core.specs.Typed.{IsRegister, HasScalar, IsIntegerRegister, IsCount, ArithTyped, ComparedTyped, PlaceTyped, Fit, TakesResult, Printable, StatementTyped, HasLabel, CasesTyped, ReturnTyped, EndTyped, BodyTyped, BlocksTyped}
use Rattle.gimple_core.proofs.ScalarLemmas.{same_scalar_true, pointer_is}
use Rattle.gimple_core.proofs.Passed.{err_no, first_passed, demanded, found_so, at_passed, not_true}

-- ---- operands

pub register_so : (env : Env) (name : List ℕ) (scalar : Scalar) → scalar_of env name ≡ Ok scalar → IsRegister env scalar name
unfolding scalar_of
register_so env name scalar h =
    let p = first_passed (found (named name env.registers) 1) _ scalar h in
    (p.0, found_so (named name env.registers) 1 p.0 p.1, cc)

-- a register of another scalar that is the same
register_as : (env : Env) (name : List ℕ) (a b : Scalar) → a ≡ b → IsRegister env a name → IsRegister env b name
register_as env name a b e r = (r.0, r.1, r.2 ∙ e)

pub operand_so : (env : Env) (wrong : ℕ) (scalar : Scalar) (x : Operand) → s.operand env wrong scalar x ≡ Ok tt → HasScalar env scalar x
unfolding s.operand
operand_so env wrong scalar (Reg name) h =
    let p = first_passed (scalar_of env name) _ tt h in
    register_as env name p.0 scalar (same_scalar_true p.0 scalar (demanded _ wrong p.2)) (register_so env name p.0 p.1)
operand_so env wrong scalar (Number z) h =
    let p = first_passed (demand (not (s.is_pointer scalar)) wrong) _ tt h in
    (not_true _ (demanded _ wrong p.1), demanded _ 13 p.2)
operand_so env wrong scalar Null h = demanded _ wrong h
operand_so env wrong scalar (Address name offset) h =
    let p = first_passed (demand (s.is_pointer scalar) wrong) _ tt h in
    let q = first_passed (demand (is_variable env name || is_target env.targets name) 1) _ tt p.2 in
    let r = first_passed (demand (in_scalar I64 offset) 13) _ tt q.2 in
    (demanded _ wrong p.1, demanded _ 1 q.1, demanded _ 13 r.1, demanded _ 11 r.2)

integer_so : (env : Env) (x : Operand) (scalar : Scalar) → s.integer env x ≡ Ok scalar → IsIntegerRegister env scalar x
unfolding s.integer
integer_so env (Reg name) scalar h =
    let p = first_passed (scalar_of env name) _ scalar h in
    let q = first_passed (demand (not (s.is_pointer p.0)) 4) _ scalar p.2 in
    let e : p.0 ≡ scalar = cc in
    (register_as env name p.0 scalar e (register_so env name p.0 p.1), ap s.is_pointer (sym e) ∙ not_true _ (demanded _ 4 q.1))
integer_so env (Number z) scalar h = absurd (err_no h)
integer_so env Null scalar h = absurd (err_no h)
integer_so env (Address name offset) scalar h = absurd (err_no h)

count_so : (env : Env) (scalar : Scalar) (x : Operand) → s.count env scalar x ≡ Ok tt → IsCount env scalar x
unfolding s.count
count_so env scalar (Reg name) h =
    let p = first_passed (scalar_of env name) _ tt h in
    (p.0, register_so env name p.0 p.1, not_true _ (demanded _ 4 p.2))
count_so env scalar (Number z) h = operand_so env 4 scalar (Number z) h
count_so env scalar Null h = operand_so env 4 scalar Null h
count_so env scalar (Address name offset) h = operand_so env 4 scalar (Address name offset) h

arith_so : (env : Env) (scalar : Scalar) (left : Operand) (op : Op) (right : Operand) → s.arith env scalar left op right ≡ Ok tt → ArithTyped env scalar left op right
unfolding s.arith s.right_side
arith_so env scalar left op right h = by (s.is_pointer scalar) (s.is_shift op) h
  where
    by : (a b : Bool)
        → (if a then and_then (demand (s.is_add op) 4) (λ _. and_then (s.operand env 4 Ptr left) (λ _. s.operand env 4 I64 right)) else and_then (s.operand env 4 scalar left) (λ _. if b then s.count env scalar right else s.operand env 4 scalar right)) ≡ Ok tt
        → (a ≡ true → (s.is_add op ≡ true) × HasScalar env Ptr left × HasScalar env I64 right) × (a ≡ false → HasScalar env scalar left × (b ≡ true → IsCount env scalar right) × (b ≡ false → HasScalar env scalar right))
    by true b k =
        let p = first_passed (demand (s.is_add op) 4) _ tt k in
        let q = first_passed (s.operand env 4 Ptr left) _ tt p.2 in
        ((λ e. (demanded _ 4 p.1, operand_so env 4 Ptr left q.1, operand_so env 4 I64 right q.2)), (λ e. cc))
    by false true k =
        let p = first_passed (s.operand env 4 scalar left) _ tt k in
        ((λ e. cc), (λ e. (operand_so env 4 scalar left p.1, (λ d. count_so env scalar right p.2), (λ d. cc))))
    by false false k =
        let p = first_passed (s.operand env 4 scalar left) _ tt k in
        ((λ e. cc), (λ e. (operand_so env 4 scalar left p.1, (λ d. cc), (λ d. operand_so env 4 scalar right p.2))))

compared_so : (env : Env) (left : Operand) (cmp : Cmp) (right : Operand) → s.compared env left cmp right ≡ Ok tt → ComparedTyped env left cmp right
unfolding s.compared
compared_so env left cmp right h =
    let p = first_passed (s.common_scalar env left right) _ tt h in
    let q = first_passed (s.operand env 4 p.0 left) _ tt p.2 in
    let r = first_passed (s.operand env 4 p.0 right) _ tt q.2 in
    (p.0, operand_so env 4 p.0 left q.1, operand_so env 4 p.0 right r.1, not_true _ (demanded _ 4 r.2))

place_so : (env : Env) (scalar : Scalar) (base : Base) (offset : ℤ) → s.place_at env scalar base offset ≡ Ok tt → PlaceTyped env scalar base offset
unfolding s.place_at
place_so env scalar (RegBase name) offset h =
    let p = first_passed (scalar_of env name) _ tt h in
    let q = first_passed (demand (s.is_pointer p.0) 4) _ tt p.2 in
    (register_as env name p.0 Ptr (pointer_is p.0 (demanded _ 4 q.1)) (register_so env name p.0 p.1), demanded _ 13 q.2)
place_so env scalar (Variable name) offset h =
    let p = first_passed (found (variable env name) 1) _ tt h in
    let q = first_passed (demand (in_scalar I64 offset) 13) _ tt p.2 in
    (p.0, found_so (variable env name) 1 p.0 p.1, demanded _ 13 q.1, demanded _ 11 q.2)

-- ---- calls

fit : (env : Env) (scalars : List Scalar) (xs : List Operand) → length xs ≡ length scalars → s.arguments env scalars xs ≡ Ok tt → Fit env scalars xs
unfolding s.arguments
fit env [] [] e h = tt
fit env [] (x ∷ xs) e h = let z : ⊥ = omega (arith, e) in absurd z
fit env (scalar ∷ scalars) [] e h = let z : ⊥ = omega (arith, e) in absurd z
fit env (scalar ∷ scalars) (x ∷ xs) e h =
    let p = first_passed (s.operand env 6 scalar x) _ tt h in
    let l : length xs ≡ length scalars = omega (arith, e) in
    (operand_so env 6 scalar x p.1, fit env scalars xs l p.2)

takes : (env : Env) (to : Option (List ℕ)) (scalar result : Option Scalar) → s.target env to ≡ Ok scalar → s.result_fits scalar result ≡ Ok tt → TakesResult env to result
takes env None scalar result h k = tt
takes env (Some name) scalar result h k =
    let p = first_passed (scalar_of env name) _ scalar h in
    let e : Some p.0 ≡ scalar = cc in
    by p.0 result (register_so env name p.0 p.1) (subst (λ o. s.result_fits o result ≡ Ok tt) (sym e) k)
  where
    by : (own : Scalar) (result : Option Scalar) → IsRegister env own name → s.result_fits (Some own) result ≡ Ok tt → TakesResult env (Some name) result
    by own None r k = absurd (err_no k)
    by own (Some other) r k = register_as env name own other (same_scalar_true own other (demanded _ 4 k)) r

call_so : (env : Env) (functions : Names Function) (to : Option (List ℕ)) (callee : List ℕ) (xs : List Operand) → s.called env functions to callee xs ≡ Ok tt → (f : Function) × (named callee functions ≡ Some f) × Fit env (s.scalars_of f.params) xs × TakesResult env to f.result
unfolding s.called
call_so env functions to callee xs h =
    let p = first_passed (s.target env to) _ tt h in
    let q = first_passed (found (named callee functions) 1) _ tt p.2 in
    let r = first_passed (demand (length xs == length q.0.params) 5) _ tt q.2 in
    let t = first_passed (s.arguments env (s.scalars_of q.0.params) xs) _ tt r.2 in
    let few : length xs ≡ length (s.scalars_of q.0.params) = eqb-true (length xs) (length q.0.params) (demanded _ 5 r.1) ∙ sym (length-map q.0.params (λ (r : Register). r.scalar)) in
    (q.0, found_so (named callee functions) 1 q.0 q.1, fit env (s.scalars_of q.0.params) xs few t.1, takes env to p.0 q.0.result p.1 t.2)

found_some : {A : Type 0} (o : Option A) (code : ℕ) (a : A) → found o code ≡ Ok a → is_some o ≡ true
found_some (Some x) code a h = refl
found_some None code a h = absurd (err_no h)

indirect_so : (env : Env) (functions : Names Function) (to : Option (List ℕ)) (signature : Signature) (callee : List ℕ) (xs : List Operand) → s.called_through env to signature callee xs ≡ Ok tt → StatementTyped env functions (Indirect to signature callee xs)
unfolding s.called_through
indirect_so env functions to signature callee xs h =
    let p = first_passed (s.target env to) _ tt h in
    let q = first_passed (found env.targets 1) _ tt p.2 in
    let r = first_passed (scalar_of env callee) _ tt q.2 in
    let t = first_passed (demand (s.is_pointer r.0) 4) _ tt r.2 in
    let u = first_passed (demand (length xs == length signature.params) 5) _ tt t.2 in
    let v = first_passed (s.arguments env signature.params xs) _ tt u.2 in (
      found_some env.targets 1 q.0 q.1,
      register_as env callee r.0 Ptr (pointer_is r.0 (demanded _ 4 t.1)) (register_so env callee r.0 r.1),
      fit env signature.params xs (eqb-true (length xs) (length signature.params) (demanded _ 5 u.1)) v.1,
      takes env to p.0 signature.result p.1 v.2,
    )

-- ---- statements

printed_so : (env : Env) (x : Operand) → s.printed env x ≡ Ok tt → Printable env x
unfolding s.printed
printed_so env (Reg name) h =
    let p = first_passed (scalar_of env name) _ tt h in
    (p.0, (register_so env name p.0 p.1, not_true _ (demanded _ 4 p.2)))
printed_so env (Number z) h = demanded _ 13 h
printed_so env Null h = absurd (err_no h)
printed_so env (Address name offset) h = absurd (err_no h)

pub statement_so : (env : Env) (functions : Names Function) (x : Stmt) → s.statement env functions x ≡ Ok tt → StatementTyped env functions x
unfolding s.statement s.converted
statement_so env functions (Copy to from) h =
    let p = first_passed (scalar_of env to) _ tt h in
    (p.0, register_so env to p.0 p.1, operand_so env 4 p.0 from p.2)
statement_so env functions (Arith to left op right) h =
    let p = first_passed (scalar_of env to) _ tt h in
    (p.0, register_so env to p.0 p.1, arith_so env p.0 left op right p.2)
statement_so env functions (Compare to left cmp right) h =
    let p = first_passed (scalar_of env to) _ tt h in
    let q = first_passed (demand (not (s.is_pointer p.0)) 4) _ tt p.2 in
    (p.0, register_so env to p.0 p.1, not_true _ (demanded _ 4 q.1), compared_so env left cmp right q.2)
statement_so env functions (Convert to scalar from) h =
    let p = first_passed (scalar_of env to) _ tt h in
    let q = first_passed (s.integer env from) _ tt p.2 in
    let r = first_passed (demand (not (s.is_pointer scalar)) 4) _ tt q.2 in
    (register_as env to p.0 scalar (sym (same_scalar_true scalar p.0 (demanded _ 4 r.2))) (register_so env to p.0 p.1), not_true _ (demanded _ 4 r.1), (q.0, integer_so env from q.0 q.1))
statement_so env functions (Load to scalar place) h =
    let p = first_passed (scalar_of env to) _ tt h in
    let q = first_passed (demand (same_scalar scalar p.0) 4) _ tt p.2 in
    (register_as env to p.0 scalar (sym (same_scalar_true scalar p.0 (demanded _ 4 q.1))) (register_so env to p.0 p.1), place_so env scalar place.base place.offset q.2)
statement_so env functions (Store scalar place from) h =
    let p = first_passed (s.place env scalar place) _ tt h in
    let q = first_passed (demand (not (s.is_read_only env place.base)) 14) _ tt p.2 in
    (place_so env scalar place.base place.offset p.1, not_true _ (demanded _ 14 q.1), operand_so env 4 scalar from q.2)
statement_so env functions (Call to callee xs) h = call_so env functions to callee xs h
statement_so env functions (Indirect to signature callee xs) h = indirect_so env functions to signature callee xs h
statement_so env functions (Get to) h =
    let p = first_passed (scalar_of env to) _ tt h in
    register_as env to p.0 I64 (same_scalar_true p.0 I64 (demanded _ 4 p.2)) (register_so env to p.0 p.1)
statement_so env functions (Put from) h = printed_so env from h
statement_so env functions Abort h = tt

-- ---- ends

label_so : (env : Env) (to : ℕ) → s.label env to ≡ Ok tt → HasLabel env to
unfolding s.label
label_so env to h = demanded _ 8 h

cases_so : (env : Env) (scalar : Scalar) (earlier : List ℤ) (cs : List Case) → s.case_values scalar earlier cs ≡ Ok tt → s.case_labels env cs ≡ Ok tt → CasesTyped env scalar cs
unfolding s.case_values s.new_case s.case_labels
cases_so env scalar earlier [] h k = tt
cases_so env scalar earlier (c ∷ cs) h k =
    let q = first_passed (s.new_case scalar earlier c.value) _ tt h in
    let p = first_passed (demand (in_scalar scalar c.value) 13) _ q.0 q.1 in
    let r = first_passed (s.label env c.target) _ tt k in
    (demanded _ 13 p.1, label_so env c.target r.1, cases_so env scalar q.0 cs q.2 r.2)

return_so : (env : Env) (x : Option Operand) (result : Option Scalar) → s.returned env x result ≡ Ok tt → ReturnTyped env x result
unfolding s.returned
return_so env None None h = tt
return_so env (Some x) (Some scalar) h = operand_so env 16 scalar x h
return_so env (Some x) None h = absurd (err_no h)
return_so env None (Some scalar) h = absurd (err_no h)

pub ending_so : (env : Env) (end : End) → s.ending env end ≡ Ok tt → EndTyped env end
unfolding s.ending
ending_so env (Goto to) h = label_so env to h
ending_so env (If left cmp right hit miss) h =
    let p = first_passed (s.compared env left cmp right) _ tt h in
    let q = first_passed (s.label env hit) _ tt p.2 in
    (compared_so env left cmp right p.1, label_so env hit q.1, label_so env miss q.2)
ending_so env (Switch on cases other) h =
    let p = first_passed (s.integer env on) _ tt h in
    let q = first_passed (s.case_values p.0 [] cases) _ tt p.2 in
    let r = first_passed (s.case_labels env cases) _ tt q.2 in
    (p.0, integer_so env on p.0 p.1, cases_so env p.0 [] cases q.1 r.1, label_so env other r.2)
ending_so env (Return x) h = return_so env x env.result h

pub body_so : (env : Env) (functions : Names Function) (index number : ℕ) (xs : List Stmt) → s.body env functions index number xs ≡ Ok tt → BodyTyped env functions xs
unfolding s.body
body_so env functions index number [] h = tt
body_so env functions index number (x ∷ xs) h =
    let p = first_passed (at _ (s.statement env functions x)) _ tt h in
    (statement_so env functions x (at_passed _ (s.statement env functions x) tt p.1), body_so env functions index (number + 1) xs p.2)

pub blocks_so : (env : Env) (functions : Names Function) (index number : ℕ) (bs : List Block) → s.blocks env functions index number bs ≡ Ok tt → BlocksTyped env functions bs
unfolding s.blocks
blocks_so env functions index number [] h = tt
blocks_so env functions index number (b ∷ bs) h =
    let p = first_passed (s.body env functions index number b.body) _ tt h in
    let q = first_passed (at _ (s.ending env b.end)) _ tt p.2 in
    (body_so env functions index number b.body p.1, ending_so env b.end (at_passed _ (s.ending env b.end) tt q.1), blocks_so env functions index (number + length b.body + 1) bs q.2)
