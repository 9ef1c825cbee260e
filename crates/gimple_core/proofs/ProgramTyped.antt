-- What a program without a type fault has: a main, unique names of functions, and typed statements and ends.
use Rattle.std.proofs.Common.{◌≡◌, ℕ, ◌+◌, ◌==◌, Bool, true, false, not, if◌then◌else◌, List, [], ◌∷◌, ◌++◌, map, length, nat_le, Option, Some, None, Ok, refl, sym, ap, ◌∙◌, subst, append_assoc, append-nil}
use Rattle.std.specs.List.{list_any}
use Rattle.std.specs.Str.{bytes_eq}
use Rattle.gimple_ir.specs.declared.scalar.Scalar.{Scalar}
use Rattle.gimple_ir.specs.declared.scalar.Scalar.TheVariants.{I8, I16, I32, I64, U8, U16, U32, U64, Ptr}
use Rattle.gimple_ir.specs.declared.block.Block.{Block}
use Rattle.gimple_ir.specs.declared.declarations.Decl.{Decl}
use Rattle.gimple_ir.specs.declared.declarations.Global.{Global}
use Rattle.gimple_ir.specs.declared.declarations.StructDef.{StructDef}
use Rattle.gimple_ir.specs.declared.declarations.Register.{Register}
use Rattle.gimple_ir.specs.declared.program.Function.{Function}
use Rattle.gimple_ir.specs.declared.program.Program.{Program}
use Rattle.gimple_ir.specs.declared.fault.Site.TheVariants as site
use Rattle.gimple_core.specs.Run.{function_named, main_name}
use Rattle.gimple_core.specs.Layout.{layout_of}
use Rattle.gimple_core.specs.Verdict.{Verdict, demand, at}
use Rattle.gimple_core.specs.Env.{Env, Names, Targets, named, has, declared, targets_of, globals_by_name, functions_by_name, decls_by_name, registers_by_name, structs_by_name}
use Rattle.gimple_core.specs.Declarations as d
use Rattle.gimple_core.specs.Accepted.{checked, first_fault, known_env}
use Rattle.gimple_core.specs.Typed.{BlocksTyped, FunctionsTyped, AcceptedTyped}
use Rattle.gimple_core.proofs.Passed.{first_passed, demanded, at_passed, no_fault, err_no}
use Rattle.gimple_core.proofs.EnvLemmas.{same_test, named_find, declared_new}
use Rattle.gimple_core.proofs.Heads.{heads_are, heads_find, Each}
use Rattle.gimple_core.proofs.AcceptedTyped.{blocks_so}

-- ---- the names of a function

register_is : (env out : Env) (functions : Names Function) (r : Register) → d.register env functions r ≡ Ok out → out ≡ record env { registers = env.registers ++ (r.name, r) ∷ [] }
unfolding d.register
register_is env out functions r h =
    let p = first_passed (d.is_free env functions r.name) _ out h in
    let q = first_passed (demand (not (has r.name env.locals)) 2) _ out p.2 in
    let t = first_passed (declared env.registers r.name r) _ out q.2 in
    let e : record env { registers = t.0 } ≡ out = cc in
    sym e ∙ ap (λ rs. record env { registers = rs }) (declared_new env.registers r.name r t.0 t.1).1

pub registers_are : (env out : Env) (functions : Names Function) (rs : List Register) → d.registers env functions rs ≡ Ok out → out ≡ record env { registers = env.registers ++ registers_by_name rs }
unfolding d.registers
registers_are env out functions [] h = let e : env ≡ out = cc in sym e ∙ ap (λ rs. record env { registers = rs }) (sym (append-nil env.registers))
registers_are env out functions (r ∷ rs) h =
    let p = first_passed (d.register env functions r) _ out h in
    registers_are p.0 out functions rs p.2
    ∙ ap (λ (e : Env). record e { registers = e.registers ++ registers_by_name rs }) (register_is env p.0 functions r p.1)
    ∙ ap (λ l. record env { registers = l }) (append_assoc env.registers ((r.name, r) ∷ []) (registers_by_name rs))

local_is : (env out : Env) (functions : Names Function) (x : Decl) → d.local env functions x ≡ Ok out → out ≡ record env { locals = env.locals ++ (x.name, x) ∷ [] }
unfolding d.local
local_is env out functions x h =
    let p = first_passed (d.is_free env functions x.name) _ out h in
    let q = first_passed (demand (not (has x.name env.registers)) 2) _ out p.2 in
    let t = first_passed (declared env.locals x.name x) _ out q.2 in
    let u = first_passed (d.known_shape (structs_by_name env.structs) x.shape) _ out t.2 in
    let v = first_passed (d.sized env.structs x) _ out u.2 in
    let e : record env { locals = t.0 } ≡ out = cc in
    sym e ∙ ap (λ xs. record env { locals = xs }) (declared_new env.locals x.name x t.0 t.1).1

pub locals_are : (env out : Env) (functions : Names Function) (xs : List Decl) → d.locals env functions xs ≡ Ok out → out ≡ record env { locals = env.locals ++ decls_by_name xs }
unfolding d.locals
locals_are env out functions [] h = let e : env ≡ out = cc in sym e ∙ ap (λ xs. record env { locals = xs }) (sym (append-nil env.locals))
locals_are env out functions (x ∷ xs) h =
    let p = first_passed (d.local env functions x) _ out h in
    locals_are p.0 out functions xs p.2
    ∙ ap (λ (e : Env). record e { locals = e.locals ++ decls_by_name xs }) (local_is env p.0 functions x p.1)
    ∙ ap (λ l. record env { locals = l }) (append_assoc env.locals ((x.name, x) ∷ []) (decls_by_name xs))

label_is : (earlier out : List ℕ) (label : ℕ) → d.new_label earlier label ≡ Ok out → out ≡ earlier ++ label ∷ []
unfolding d.new_label
label_is earlier out label h =
    let p = first_passed (demand (not (list_any (λ l. label == l) earlier)) 9) _ out h in
    let e : earlier ++ label ∷ [] ≡ out = cc in
    sym e

pub labels_are : (earlier out : List ℕ) (bs : List Block) → d.labels earlier bs ≡ Ok out → out ≡ earlier ++ map (λ b. b.label) bs
unfolding d.labels
labels_are earlier out [] h = let e : earlier ≡ out = cc in sym e ∙ sym (append-nil earlier)
labels_are earlier out (b ∷ bs) h =
    let p = first_passed (d.new_label earlier b.label) _ out h in
    labels_are p.0 out bs p.2 ∙ ap (λ l. l ++ map (λ b. b.label) bs) (label_is earlier p.0 b.label p.1) ∙ append_assoc earlier (b.label ∷ []) (map (λ b. b.label) bs)

-- what a function sees
pub own_is : (known out : Env) (functions : Names Function) (f : Function) → d.own known functions f ≡ Ok out → out ≡ record known { locals = decls_by_name f.locals; registers = registers_by_name f.params ++ registers_by_name f.registers; labels = map (λ b. b.label) f.blocks; result = f.result }
unfolding d.own
own_is known out functions f h =
    let first : Env = record known { locals = []; registers = []; labels = []; result = f.result } in
    let p = first_passed (d.registers first functions f.params) _ out h in
    let q = first_passed (d.locals p.0 functions f.locals) _ out p.2 in
    let r = first_passed (d.registers q.0 functions f.registers) _ out q.2 in
    let t = first_passed (demand (d.has_blocks f.blocks) 10) _ out r.2 in
    let u = first_passed (d.labels [] f.blocks) _ out t.2 in
    let e : record r.0 { labels = u.0 } ≡ out = cc in
    let a = registers_are first p.0 functions f.params p.1 in
    let b = locals_are p.0 q.0 functions f.locals q.1 in
    let c = registers_are q.0 r.0 functions f.registers r.1 in
    let b' : q.0 ≡ record first { locals = decls_by_name f.locals; registers = registers_by_name f.params } = b ∙ ap (λ (x : Env). record x { locals = x.locals ++ decls_by_name f.locals }) a in
    let c' = c ∙ ap (λ (x : Env). record x { registers = x.registers ++ registers_by_name f.registers }) b' in
    sym e ∙ ap (λ ls. record r.0 { labels = ls }) (labels_are [] u.0 f.blocks u.1) ∙ ap (λ (x : Env). record x { labels = map (λ b. b.label) f.blocks }) c'

pub own_has_blocks : (known out : Env) (functions : Names Function) (f : Function) → d.own known functions f ≡ Ok out → d.has_blocks f.blocks ≡ true
unfolding d.own
own_has_blocks known out functions f h =
    let p = first_passed (d.registers (record known { locals = []; registers = []; labels = []; result = f.result }) functions f.params) _ out h in
    let q = first_passed (d.locals p.0 functions f.locals) _ out p.2 in
    let r = first_passed (d.registers q.0 functions f.registers) _ out q.2 in
    let t = first_passed (demand (d.has_blocks f.blocks) 10) _ out r.2 in
    demanded _ 10 t.1

-- ---- globals

passed_on : (a b : Names Global) → (let r : Verdict (Names Global) = Ok a in r) ≡ Ok b → b ≡ a
passed_on a b h = cc

global_is : (structs : List StructDef) (ts : Targets) (all earlier out : Names Global) (g : Global) → d.one_global structs ts all earlier g ≡ Ok out → out ≡ earlier ++ (g.decl.name, g) ∷ []
unfolding d.one_global
global_is structs ts all earlier out g h =
    let p = first_passed (declared earlier g.decl.name g) _ out h in
    let q = first_passed (d.known_shape (structs_by_name structs) g.decl.shape) _ out p.2 in
    let r = first_passed (d.sized structs g.decl) _ out q.2 in
    let t = first_passed (demand (nat_le (length g.items) (length (layout_of structs g.decl).slots)) 11) _ out r.2 in
    let u = first_passed (d.items ts all (layout_of structs g.decl).slots g.items) _ out t.2 in
    passed_on p.0 out u.2 ∙ (declared_new earlier g.decl.name g p.0 p.1).1

pub globals_are : (structs : List StructDef) (ts : Targets) (all : Names Global) (number : ℕ) (earlier out : Names Global) (gs : List Global) → d.globals structs ts all number earlier gs ≡ Ok out → out ≡ earlier ++ globals_by_name gs
unfolding d.globals
globals_are structs ts all number earlier out [] h = let e : earlier ≡ out = cc in sym e ∙ sym (append-nil earlier)
globals_are structs ts all number earlier out (g ∷ gs) h =
    let p = first_passed (at _ (d.one_global structs ts all earlier g)) _ out h in
    globals_are structs ts all (number + 1) p.0 out gs p.2
    ∙ ap (λ l. l ++ globals_by_name gs) (global_is structs ts all earlier p.0 g (at_passed _ (d.one_global structs ts all earlier g) p.0 p.1))
    ∙ append_assoc earlier ((g.decl.name, g) ∷ []) (globals_by_name gs)

-- ---- main

main_is : (formals : List Register) (result : Option Scalar) → d.is_main formals result ≡ true → (formals ≡ []) × (result ≡ Some I32)
main_is [] (Some I32) h = (refl, refl)
main_is [] (Some I8) h = cc
main_is [] (Some I16) h = cc
main_is [] (Some I64) h = cc
main_is [] (Some U8) h = cc
main_is [] (Some U16) h = cc
main_is [] (Some U32) h = cc
main_is [] (Some U64) h = cc
main_is [] (Some Ptr) h = cc
main_is [] None h = cc
main_is (r ∷ rs) result h = cc

main_so : (number : ℕ) (fs : List Function) → d.main number fs ≡ Ok tt → (f : Function) × (function_named main_name fs ≡ Some f) × (f.params ≡ []) × (f.result ≡ Some I32)
unfolding d.main function_named
main_so number [] h = absurd (err_no h)
main_so number (f ∷ fs) h = by (bytes_eq main_name f.name) (bytes_eq f.name main_name) (same_test main_name f.name) (main_so (number + 1) fs) h
  where
    by : (a b : Bool) → a ≡ b
        → (d.main (number + 1) fs ≡ Ok tt → (g : Function) × (function_named main_name fs ≡ Some g) × (g.params ≡ []) × (g.result ≡ Some I32))
        → (if a then at (site.Statement number 0) (demand (d.is_main f.params f.result) 3) else d.main (number + 1) fs) ≡ Ok tt
        → (g : Function) × ((if b then Some f else function_named main_name fs) ≡ Some g) × (g.params ≡ []) × (g.result ≡ Some I32)
    by true true e more k = let m = main_is f.params f.result (demanded _ 3 (at_passed _ (demand (d.is_main f.params f.result) 3) tt k)) in (f, refl, m.0, m.1)
    by false false e more k = more k
    by true false e more k = cc
    by false true e more k = cc

-- ---- functions

functions_so : (p : Program) (number : ℕ) (fs : List Function) → Each (λ f. named f.name (functions_by_name p.functions) ≡ Some f) fs → d.functions (known_env p.structs (targets_of p) (globals_by_name p.globals)) (functions_by_name p.functions) number fs ≡ Ok tt → FunctionsTyped p fs
unfolding d.functions d.one_function function_named
functions_so p number [] u h = tt
functions_so p number (f ∷ fs) u h =
    let known = known_env p.structs (targets_of p) (globals_by_name p.globals) in
    let callees = functions_by_name p.functions in
    let a = first_passed (d.one_function known callees number f) _ tt h in
    let b = first_passed (at _ (d.own known callees f)) _ tt a.1 in
    let e = own_is known b.0 callees f (at_passed _ (d.own known callees f) b.0 b.1) in (
      sym (named_find (λ g. g.name) f.name p.functions) ∙ u.0,
      own_has_blocks known b.0 callees f (at_passed _ (d.own known callees f) b.0 b.1),
      subst (λ (env : Env). BlocksTyped env callees f.blocks) e (blocks_so b.0 callees number 1 f.blocks b.2),
      functions_so p (number + 1) fs u.1 a.2,
    )

-- a program without a type fault is typed
pub accepted_typed : AcceptedTyped
unfolding first_fault checked
accepted_typed p h =
    let all = no_fault _ h in
    let a = first_passed (d.structs p.structs 0 [] p.structs) _ tt all in
    let b = first_passed (d.globals p.structs (targets_of p) (globals_by_name p.globals) 0 [] p.globals) _ tt a.2 in
    let c = first_passed (d.heads b.0 0 [] p.functions) _ tt b.2 in
    let m = first_passed (d.main 0 p.functions) _ tt c.2 in
    let gs : b.0 ≡ globals_by_name p.globals = globals_are p.structs (targets_of p) (globals_by_name p.globals) 0 [] b.0 p.globals b.1 in
    let fs : c.0 ≡ functions_by_name p.functions = heads_are b.0 0 [] c.0 p.functions c.1 in
    let found = subst (λ t. Each (λ f. named f.name t ≡ Some f) p.functions) fs (heads_find b.0 0 [] c.0 p.functions c.1) in
    let bodies = subst (λ t. d.functions (known_env p.structs (targets_of p) b.0) t 0 p.functions ≡ Ok tt) fs m.2 in
    (main_so 0 p.functions m.1, functions_so p 0 p.functions found (subst (λ t. d.functions (known_env p.structs (targets_of p) t) (functions_by_name p.functions) 0 p.functions ≡ Ok tt) gs bodies))
