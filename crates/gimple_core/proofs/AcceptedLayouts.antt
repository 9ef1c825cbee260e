-- In a program without a type fault each variable has a layout.
use Rattle.std.proofs.Common.{◌≡◌, ℕ, zero, suc, ◌+◌, ◌≤◌, ◌^◌, ◌==◌, Bool, true, false, cond, not, take, slice_get, List, [], ◌∷◌, ◌++◌, Some, Ok, sym, ◌∙◌, ap, subst, append_assoc, append-nil, arith}
use Rattle.std.specs.List.{All, find}
use Rattle.std.proofs.lemmas.Bool.Decides.{nat_tests}
use Rattle.std.proofs.lemmas.List.Elements.{All-nil, All-cons, All-head, All-tail, All-weaker}
use Rattle.gimple_ir.specs.declared.declarations.Decl.{Decl}
use Rattle.gimple_ir.specs.declared.declarations.StructDef.{StructDef}
use Rattle.gimple_ir.specs.declared.declarations.Global.{Global}
use Rattle.gimple_ir.specs.declared.declarations.Register.{Register}
use Rattle.gimple_ir.specs.declared.program.Function.{Function}
use Rattle.gimple_ir.specs.declared.program.Program.{Program}
use Rattle.std.specs.Str.{bytes_eq}
use Rattle.gimple_core.specs.Layout.{layout_of, count_of, HasLayout}
use Rattle.gimple_core.specs.Accepted.{IsAccepted}
use Rattle.gimple_core.specs.Env.{Env, Names, Targets, has, declared, structs_by_name, globals_by_name, targets_of}
use Rattle.gimple_core.specs.Verdict.{demand, at}
use Rattle.gimple_ir.specs.declared.fault.Site.TheVariants as site
use Rattle.gimple_core.specs.Declarations as d
use Rattle.gimple_core.specs.Accepted.{checked, first_fault, known_env}
use Rattle.gimple_core.proofs.Passed.{first_passed, demanded, at_passed, no_fault}

small : (n : ℕ) → d.is_size n ≡ true → n ≤ 2 ^ 24
small n h = grind (arith, nat_tests, h)

sized_small : (structs : List StructDef) (x : Decl) → d.sized structs x ≡ Ok tt → (layout_of structs x).size ≤ 2 ^ 24
unfolding d.sized
sized_small structs x h =
    let p = first_passed (demand (not (count_of x.length == 0)) 12) _ tt h in
    small (layout_of structs x).size (demanded (d.is_size (layout_of structs x).size) 12 p.2)

-- ---- structs

struct_small : (all earlier : List StructDef) (s : StructDef) → d.one_struct all earlier s ≡ Ok tt → d.struct_size earlier s.fields ≤ 2 ^ 24
unfolding d.one_struct
struct_small all earlier s h =
    let p = first_passed (demand (not (has s.name (structs_by_name earlier))) 2) _ tt h in
    let q = first_passed (d.fields all earlier [] s.fields) _ tt p.2 in
    let r = first_passed (demand (not (d.is_empty s.fields)) 12) _ tt q.2 in
    small (d.struct_size earlier s.fields) (demanded (d.is_size (d.struct_size earlier s.fields)) 12 r.2)

structs_small : (all : List StructDef) (number : ℕ) (earlier ss : List StructDef) → d.structs all number earlier ss ≡ Ok tt → (k : ℕ) (s : StructDef) → slice_get ss k ≡ Some s → d.struct_size (earlier ++ take k ss) s.fields ≤ 2 ^ 24
unfolding d.structs
structs_small all number earlier [] h zero s e = cc
structs_small all number earlier [] h (suc k) s e = cc
structs_small all number earlier (x ∷ xs) h zero s e =
    let p = first_passed (at (site.Struct number) (d.one_struct all earlier x)) _ tt h in
    let same : x ≡ s = cc in
    subst (λ (es : List StructDef). d.struct_size es s.fields ≤ 2 ^ 24) (sym (append-nil earlier))
    (subst (λ (y : StructDef). d.struct_size earlier y.fields ≤ 2 ^ 24) same (struct_small all earlier x (at_passed _ _ tt p.1)))
structs_small all number earlier (x ∷ xs) h (suc k) s e =
    let p = first_passed (at (site.Struct number) (d.one_struct all earlier x)) _ tt h in
    subst (λ (es : List StructDef). d.struct_size es s.fields ≤ 2 ^ 24) (append_assoc earlier (x ∷ []) (take k xs))
    (structs_small all (number + 1) (earlier ++ x ∷ []) xs p.2 k s e)

-- ---- globals

abbrev Small : List StructDef → Decl → Type 0
Small structs x = (layout_of structs x).size ≤ 2 ^ 24

global_small : (structs : List StructDef) (ts : Targets) (all earlier out : Names Global) (g : Global) → d.one_global structs ts all earlier g ≡ Ok out → Small structs g.decl
unfolding d.one_global
global_small structs ts all earlier out g h =
    let p = first_passed (declared earlier g.decl.name g) _ out h in
    let q = first_passed (d.known_shape (structs_by_name structs) g.decl.shape) _ out p.2 in
    let r = first_passed (d.sized structs g.decl) _ out q.2 in
    sized_small structs g.decl r.1

globals_small : (structs : List StructDef) (ts : Targets) (all : Names Global) (number : ℕ) (earlier out : Names Global) (gs : List Global) → d.globals structs ts all number earlier gs ≡ Ok out → All (λ g. Small structs g.decl) gs
unfolding d.globals
globals_small structs ts all number earlier out [] h = All-nil (λ g. Small structs g.decl)
globals_small structs ts all number earlier out (g ∷ gs) h =
    let p = first_passed (at (site.Global number) (d.one_global structs ts all earlier g)) _ out h in
    All-cons (λ x. Small structs x.decl) g gs (global_small structs ts all earlier p.0 g (at_passed _ _ p.0 p.1)) (globals_small structs ts all (number + 1) p.0 out gs p.2)

-- ---- locals

register_structs : (env out : Env) (functions : Names Function) (r : Register) → d.register env functions r ≡ Ok out → out.structs ≡ env.structs
unfolding d.register
register_structs env out functions r h =
    let p = first_passed (d.is_free env functions r.name) _ out h in
    let q = first_passed (demand (not (has r.name env.locals)) 2) _ out p.2 in
    let s = first_passed (declared env.registers r.name r) _ out q.2 in
    let same : record env { registers = s.0 } ≡ out = let e = s.2 in cc in
    sym (ap (λ (x : Env). x.structs) same)

registers_structs : (env out : Env) (functions : Names Function) (rs : List Register) → d.registers env functions rs ≡ Ok out → out.structs ≡ env.structs
unfolding d.registers
registers_structs env out functions [] h =
    let same : env ≡ out = cc in
    sym (ap (λ (x : Env). x.structs) same)
registers_structs env out functions (r ∷ rs) h =
    let p = first_passed (d.register env functions r) _ out h in
    registers_structs p.0 out functions rs p.2 ∙ register_structs env p.0 functions r p.1

local_structs : (env out : Env) (functions : Names Function) (x : Decl) → d.local env functions x ≡ Ok out → (out.structs ≡ env.structs) × Small env.structs x
unfolding d.local
local_structs env out functions x h =
    let p = first_passed (d.is_free env functions x.name) _ out h in
    let q = first_passed (demand (not (has x.name env.registers)) 2) _ out p.2 in
    let s = first_passed (declared env.locals x.name x) _ out q.2 in
    let t = first_passed (d.known_shape (structs_by_name env.structs) x.shape) _ out s.2 in
    let u = first_passed (d.sized env.structs x) _ out t.2 in
    let same : record env { locals = s.0 } ≡ out = let e = u.2 in cc in
    (sym (ap (λ (y : Env). y.structs) same), sized_small env.structs x u.1)

locals_small : (structs : List StructDef) (env out : Env) (functions : Names Function) (ds : List Decl) → env.structs ≡ structs → d.locals env functions ds ≡ Ok out → All (Small structs) ds
unfolding d.locals
locals_small structs env out functions [] e h = All-nil (Small structs)
locals_small structs env out functions (x ∷ xs) e h =
    let p = first_passed (d.local env functions x) _ out h in
    let l = local_structs env p.0 functions x p.1 in
    All-cons (Small structs) x xs (subst (λ ss. Small ss x) e l.1) (locals_small structs p.0 out functions xs (l.0 ∙ e) p.2)

function_small : (known : Env) (callees : Names Function) (number : ℕ) (f : Function) → d.one_function known callees number f ≡ Ok tt → All (Small known.structs) f.locals
unfolding d.one_function d.own
function_small known callees number f h =
    let p = first_passed (at (site.Statement number 0) (d.own known callees f)) _ tt h in
    let q = first_passed (d.registers (record known { locals = []; registers = []; labels = []; result = f.result }) callees f.params) _ p.0 (at_passed _ (d.own known callees f) p.0 p.1) in
    let r = first_passed (d.locals q.0 callees f.locals) _ p.0 q.2 in
    locals_small known.structs q.0 r.0 callees f.locals (registers_structs (record known { locals = []; registers = []; labels = []; result = f.result }) q.0 callees f.params q.1) r.1

functions_small : (known : Env) (callees : Names Function) (number : ℕ) (fs : List Function) → d.functions known callees number fs ≡ Ok tt → All (λ f. All (Small known.structs) f.locals) fs
unfolding d.functions
functions_small known callees number [] h = All-nil (λ f. All (Small known.structs) f.locals)
functions_small known callees number (f ∷ fs) h =
    let p = first_passed (d.one_function known callees number f) _ tt h in
    All-cons (λ g. All (Small known.structs) g.locals) f fs (function_small known callees number f p.1) (functions_small known callees (number + 1) fs p.2)

-- ---- programs

record AreSmall (p : Program) : Type 0 where
  structs : (k : ℕ) (s : StructDef) → slice_get p.structs k ≡ Some s → d.struct_size (take k p.structs) s.fields ≤ 2 ^ 24
  globals : All (λ g. Small p.structs g.decl) p.globals
  locals : All (λ f. All (Small p.structs) f.locals) p.functions

all_small : (p : Program) → IsAccepted p → AreSmall p
unfolding first_fault checked
all_small p h =
    let a = first_passed (d.structs p.structs 0 [] p.structs) _ tt (no_fault (checked p) h) in
    let b = first_passed (d.globals p.structs (targets_of p) (globals_by_name p.globals) 0 [] p.globals) _ tt a.2 in
    let c = first_passed (d.heads b.0 0 [] p.functions) _ tt b.2 in
    let e = first_passed (d.main 0 p.functions) _ tt c.2 in
    record {
      structs = structs_small p.structs 0 [] p.structs a.1;
      globals = globals_small p.structs (targets_of p) (globals_by_name p.globals) 0 [] b.0 p.globals b.1;
      locals = functions_small (known_env p.structs (targets_of p) b.0) c.0 0 p.functions e.2;
    }

-- ---- layouts

has_layout : (p : Program) (small : AreSmall p) (x : Decl) → Small p.structs x → HasLayout p.structs x
has_layout p small x h = record { size = h; before = λ k s e n. small.structs k s e }

pub global_layouts : (p : Program) → IsAccepted p → All (λ g. HasLayout p.structs g.decl) p.globals
global_layouts p accepted =
    let small : AreSmall p = all_small p accepted in
    All-weaker (λ g. Small p.structs g.decl) (λ g. HasLayout p.structs g.decl) (λ g h. has_layout p small g.decl h) p.globals small.globals

pub local_layouts : (p : Program) → IsAccepted p → All (λ f. All (HasLayout p.structs) f.locals) p.functions
local_layouts p accepted =
    let small : AreSmall p = all_small p accepted in
    All-weaker (λ f. All (Small p.structs) f.locals) (λ f. All (HasLayout p.structs) f.locals) (λ f h. All-weaker (Small p.structs) (HasLayout p.structs) (λ x k. has_layout p small x k) f.locals h) p.functions small.locals

-- what each item satisfies, the one found satisfies
found_satisfies : {X : Type 0} (P : X → Type 0) (test : X → Bool) (xs : List X) (y : X) → All P xs → find test xs ≡ Some y → P y
found_satisfies P test [] y h e = cc
found_satisfies P test (x ∷ xs) y h e = by (test x) (All-head P x xs h) (λ k. found_satisfies P test xs y (All-tail P x xs h) k) e
  where
    by : (b : Bool) → P x → (find test xs ≡ Some y → P y) → cond b (Some x) (find test xs) ≡ Some y → P y
    by true h k e = let same : x ≡ y = cc in subst P same h
    by false h k e = k e

pub global_layout : (p : Program) → IsAccepted p → (name : List ℕ) (g : Global) → find (λ g. bytes_eq g.decl.name name) p.globals ≡ Some g → HasLayout p.structs g.decl
global_layout p accepted name g e = found_satisfies (λ g. HasLayout p.structs g.decl) (λ g. bytes_eq g.decl.name name) p.globals g (global_layouts p accepted) e
