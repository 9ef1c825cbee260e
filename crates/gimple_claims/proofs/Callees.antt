-- What a call enters: a function of the program, whose formals and result its checks fit.
use Rattle.std.proofs.Common.{◌≡◌, ℕ, ◌==◌, Bool, true, false, List, [], ◌∷◌, length, refl, sym, ◌∙◌, ap, subst, Option, Some, None, Result, Ok, Err, if◌then◌else◌}
use Rattle.std.specs.List.{find}
use Rattle.std.proofs.lemmas.Bool.{eqb-true}
use Rattle.std.proofs.lemmas.List.{length-map}
use Rattle.std.specs.Str.{bytes_eq}
use Rattle.gimple_ir.specs.declared.scalar.Scalar.{Scalar}
use Rattle.gimple_ir.specs.declared.declarations.Register.{Register}
use Rattle.gimple_ir.specs.declared.operand.Operand.{Operand}
use Rattle.gimple_ir.specs.declared.value.Value.{Value}
use Rattle.gimple_ir.specs.declared.value.Value.TheVariants.{Int, Null, At, Code}
use Rattle.gimple_ir.specs.declared.value.TrapKind.{TrapKind}
use Rattle.gimple_ir.specs.declared.value.TrapKind.TheVariants.{BadCall}
use Rattle.gimple_ir.specs.declared.statement.Stmt.{Stmt}
use Rattle.gimple_ir.specs.declared.statement.Stmt.TheVariants.{Copy, Arith, Compare, Convert, Load, Store, Call, Indirect, Get, Put, Abort}
use Rattle.gimple_ir.specs.declared.statement.Signature.{Signature}
use Rattle.gimple_ir.specs.declared.program.Function.{Function}
use Rattle.gimple_core.specs.Memory.{same_scalar}
use Rattle.gimple_core.specs.State.{Scope, value_in}
use Rattle.gimple_core.specs.Run.{Callee, Named, Through, Calling, call_of, function_named, same_scalars, same_result, has_signature, called_by_name, called_with, called_through, called_function}
use Rattle.gimple_core.specs.Verdict.{Verdict, demand, found}
use Rattle.gimple_core.specs.Env.{Env, Names, named, scalar_of, functions_by_name}
use Rattle.gimple_core.specs.Statements as s
use Rattle.gimple_core.proofs.NameLemmas.{same_name_true}
use Rattle.gimple_core.proofs.Passed.{first_passed, demanded, found_so}
use Rattle.gimple_core.proofs.EnvLemmas.{named_find}
use Rattle.gimple_core.proofs.ScalarLemmas.{same_scalar_true}
use Rattle.gimple_claims.proofs.Lists.{both_true, found_test}

-- ---- the function

-- a function that is found is found by its own name
pub own_name : (name : List ℕ) (fs : List Function) (g : Function) → function_named name fs ≡ Some g → function_named g.name fs ≡ Some g
unfolding function_named
own_name name fs g e = let same : g.name ≡ name = same_name_true g.name name (found_test (λ f. bytes_eq f.name name) fs g e) in subst (λ n. find (λ f. bytes_eq f.name n) fs ≡ Some g) (sym same) e

pub by_name : (o : Option Function) (g : Function) → called_by_name o ≡ Ok g → o ≡ Some g
by_name None g e = cc
by_name (Some f) g e = let same : f ≡ g = cc in ap Some same

-- the value is this function, which has the signature
pub record HoldsFunction (fs : List Function) (signature : Signature) (v : Value) (g : Function) : Type 0 where
  pub name : List ℕ
  pub value_is : v ≡ Code name
  pub found : function_named name fs ≡ Some g
  pub fits : has_signature signature g ≡ true

abbrev pub called_if : Bool → Function → Result Function TrapKind
called_if b f = if b then Ok f else Err BadCall

with_fits : (signature : Signature) (f g : Function) (b : Bool) → has_signature signature f ≡ b → called_if b f ≡ Ok g → (f ≡ g) × (has_signature signature g ≡ true)
with_fits signature f g true h e = let same : f ≡ g = cc in (same, subst (λ z. has_signature signature z ≡ true) same h)
with_fits signature f g false h e = cc

with_is : (signature : Signature) (o : Option Function) (g : Function) → called_with signature o ≡ Ok g → (o ≡ Some g) × (has_signature signature g ≡ true)
with_is signature None g e = cc
with_is signature (Some f) g e = let h = with_fits signature f g (has_signature signature f) refl e in (ap Some h.0, h.1)

pub through_is : (fs : List Function) (signature : Signature) (v : Value) (g : Function) → called_through fs signature v ≡ Ok g → HoldsFunction fs signature v g
through_is fs signature (Int z) g e = cc
through_is fs signature Null g e = cc
through_is fs signature (At object offset) g e = cc
through_is fs signature (Code name) g e =
    let h = with_is signature (function_named name fs) g e in
    record { name = name; value_is = refl; found = h.0; fits = h.1 }

-- what is called is a function of the program
pub called_own : (fs : List Function) (scope : Scope) (registers : List Value) (c : Callee) (g : Function) → called_function fs scope registers c ≡ Ok g → function_named g.name fs ≡ Some g
called_own fs scope registers (Named name) g e = own_name name fs g (by_name (function_named name fs) g e)
called_own fs scope registers (Through name signature) g e =
    let h = through_is fs signature (value_in scope registers name) g e in
    own_name h.name fs g h.found

-- ---- its signature

same_scalars_true : (xs ys : List Scalar) → same_scalars xs ys ≡ true → xs ≡ ys
same_scalars_true [] [] e = refl
same_scalars_true [] (y ∷ ys) e = cc
same_scalars_true (x ∷ xs) [] e = cc
same_scalars_true (x ∷ xs) (y ∷ ys) e =
    let h = both_true (same_scalar x y) (same_scalars xs ys) e in
    λ i. same_scalar_true x y h.0 i ∷ same_scalars_true xs ys h.1 i

same_result_true : (x y : Option Scalar) → same_result x y ≡ true → x ≡ y
same_result_true None None e = refl
same_result_true None (Some y) e = cc
same_result_true (Some x) None e = cc
same_result_true (Some x) (Some y) e = ap Some (same_scalar_true x y e)

pub signature_is : (signature : Signature) (g : Function) → has_signature signature g ≡ true → (s.scalars_of g.params ≡ signature.params) × (g.result ≡ signature.result)
signature_is signature g e =
    let h = both_true (same_scalars (s.scalars_of g.params) signature.params) (same_result g.result signature.result) e in
    (same_scalars_true (s.scalars_of g.params) signature.params h.0, same_result_true g.result signature.result h.1)

-- ---- the checks of a call

abbrev pub call_check : Env → Names Function → Option (List ℕ) → List Operand → Callee → Verdict (Unit {0})
call_check env names to xs (Named name) = s.called env names to name xs
call_check env names to xs (Through name signature) = s.called_through env to signature name xs

pub called_of : (env : Env) (names : Names Function) (x : Stmt) (c : Calling) → call_of x ≡ Some c → s.statement env names x ≡ Ok tt → call_check env names c.to c.arguments c.callee ≡ Ok tt
unfolding s.statement
called_of env names (Copy to from) c e h = cc
called_of env names (Arith to left op right) c e h = cc
called_of env names (Compare to left cmp right) c e h = cc
called_of env names (Convert to scalar from) c e h = cc
called_of env names (Load to scalar place) c e h = cc
called_of env names (Store scalar place from) c e h = cc
called_of env names (Call to name xs) c e h =
    let same : record { to = to; callee = Named name; arguments = xs } ≡ c = cc in
    subst (λ (z : Calling). call_check env names z.to z.arguments z.callee ≡ Ok tt) same h
called_of env names (Indirect to signature name xs) c e h =
    let same : record { to = to; callee = Through name signature; arguments = xs } ≡ c = cc in
    subst (λ (z : Calling). call_check env names z.to z.arguments z.callee ≡ Ok tt) same h
called_of env names (Get to) c e h = cc
called_of env names (Put from) c e h = cc
called_of env names Abort c e h = cc

-- the arguments fit these scalars, and the target this result
pub record CallPasses (env : Env) (c : Calling) (scalars : List Scalar) (result : Option Scalar) : Type 0 where
  pub target : Option Scalar
  pub to : s.target env c.to ≡ Ok target
  pub count : length c.arguments ≡ length scalars
  pub arguments : s.arguments env scalars c.arguments ≡ Ok tt
  pub fits : s.result_fits target result ≡ Ok tt

module _ (env : Env) (fs : List Function) where
  named_passes : (to : Option (List ℕ)) (name : List ℕ) (xs : List Operand) (g : Function) → s.called env (functions_by_name fs) to name xs ≡ Ok tt → function_named name fs ≡ Some g →
      CallPasses env (record { to = to; callee = Named name; arguments = xs }) (s.scalars_of g.params) g.result
  unfolding s.called function_named
  named_passes to name xs g h e =
      let a = first_passed (s.target env to) _ tt h in
      let b = first_passed (found (named name (functions_by_name fs)) 1) _ tt a.2 in
      let n = first_passed (demand (length xs == length b.0.params) 5) _ tt b.2 in
      let all = first_passed (s.arguments env (s.scalars_of b.0.params) xs) _ tt n.2 in
      let both : Some b.0 ≡ Some g = sym (found_so (named name (functions_by_name fs)) 1 b.0 b.1) ∙ (named_find (λ (y : Function). y.name) name fs ∙ e) in
      let same : b.0 ≡ g = cc in
      subst (λ (z : Function). CallPasses env (record { to = to; callee = Named name; arguments = xs }) (s.scalars_of z.params) z.result) same
      (record {
        target = a.0;
        to = a.1;
        count = eqb-true (length xs) (length b.0.params) (demanded _ 5 n.1) ∙ sym (length-map b.0.params (λ (r : Register). r.scalar));
        arguments = all.1;
        fits = all.2;
      })

  through_passes : (to : Option (List ℕ)) (signature : Signature) (name : List ℕ) (xs : List Operand) → s.called_through env to signature name xs ≡ Ok tt →
      CallPasses env (record { to = to; callee = Through name signature; arguments = xs }) signature.params signature.result
  unfolding s.called_through
  through_passes to signature name xs h =
      let a = first_passed (s.target env to) _ tt h in
      let t = first_passed (found env.targets 1) _ tt a.2 in
      let o = first_passed (scalar_of env name) _ tt t.2 in
      let p = first_passed (demand (s.is_pointer o.0) 4) _ tt o.2 in
      let n = first_passed (demand (length xs == length signature.params) 5) _ tt p.2 in
      let all = first_passed (s.arguments env signature.params xs) _ tt n.2 in
      record { target = a.0; to = a.1; count = eqb-true (length xs) (length signature.params) (demanded _ 5 n.1); arguments = all.1; fits = all.2 }

  passes_through : (scope : Scope) (registers : List Value) (to : Option (List ℕ)) (signature : Signature) (name : List ℕ) (xs : List Operand) (g : Function) → s.called_through env to signature name xs ≡ Ok tt →
      called_function fs scope registers (Through name signature) ≡ Ok g → CallPasses env (record { to = to; callee = Through name signature; arguments = xs }) (s.scalars_of g.params) g.result
  passes_through scope registers to signature name xs g h e =
      let held = through_is fs signature (value_in scope registers name) g e in
      let same = signature_is signature g held.fits in
      subst (λ r. CallPasses env (record { to = to; callee = Through name signature; arguments = xs }) (s.scalars_of g.params) r) (sym same.1)
      (subst (λ ss. CallPasses env (record { to = to; callee = Through name signature; arguments = xs }) ss signature.result) (sym same.0) (through_passes to signature name xs h))

  checked_passes : (scope : Scope) (registers : List Value) (to : Option (List ℕ)) (xs : List Operand) (callee : Callee) (g : Function) → call_check env (functions_by_name fs) to xs callee ≡ Ok tt → called_function fs scope registers callee ≡ Ok g →
      CallPasses env (record { to = to; callee = callee; arguments = xs }) (s.scalars_of g.params) g.result
  checked_passes scope registers to xs (Named name) g h e = named_passes to name xs g h (by_name (function_named name fs) g e)
  checked_passes scope registers to xs (Through name signature) g h e = passes_through scope registers to signature name xs g h e

  -- where a call enters a function, its arguments and its target fit that function
  pub call_passes : (scope : Scope) (registers : List Value) (x : Stmt) (c : Calling) (g : Function) → call_of x ≡ Some c → s.statement env (functions_by_name fs) x ≡ Ok tt → called_function fs scope registers c.callee ≡ Ok g →
      CallPasses env c (s.scalars_of g.params) g.result
  call_passes scope registers x c g n h e = checked_passes scope registers c.to c.arguments c.callee g (called_of env (functions_by_name fs) x c n h) e
