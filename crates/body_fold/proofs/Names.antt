-- In a program without a type fault the name of a global means it in each function.
use Rattle.std.proofs.Common.{◌≡◌, ℕ, zero, suc, ◌+◌, ◌<◌, Bool, true, false, not, cond, ◌||◌, nat_lt, List, [], ◌∷◌, ◌++◌, length, refl, sym, ◌∙◌, ap, subst, arith, Option, Some, None, Ok, slice_get}
use Rattle.std.specs.Prelude.{is_some}
use Rattle.std.specs.List.{position_or_len}
use Rattle.std.specs.Str.{bytes_eq}
use Rattle.std.proofs.lemmas.Option.{slice_get_within}
use Rattle.gimple_ir.specs.declared.declarations.Register.{Register}
use Rattle.gimple_ir.specs.declared.declarations.Decl.{Decl}
use Rattle.gimple_ir.specs.declared.declarations.StructDef.{StructDef}
use Rattle.gimple_ir.specs.declared.declarations.Global.{Global}
use Rattle.gimple_ir.specs.declared.program.Function.{Function}
use Rattle.gimple_ir.specs.declared.program.Program.{Program}
use Rattle.gimple_core.specs.Verdict.{demand, at}
use Rattle.gimple_core.specs.Env.{Env, Names, Targets, has, named, declared, targets_of, globals_by_name, functions_by_name}
use Rattle.gimple_core.specs.Declarations as d
use Rattle.gimple_core.specs.Accepted.{checked, first_fault, known_env}
use Rattle.gimple_core.proofs.NameLemmas.{same_name_true, same_name_self}
use Rattle.gimple_core.proofs.Passed.{first_passed, demanded, at_passed, no_fault}
use Rattle.gimple_core.proofs.EnvLemmas.{same_test, has_append, declared_new}
use Rattle.gimple_core.proofs.Heads.{heads_are}
use Rattle.gimple_core.proofs.ProgramTyped.{globals_are}
use Rattle.gimple_claims.proofs.Checked.{ok_same}
use Rattle.body_values.specs.Bodies.{is_local, global_place}
use Rattle.body_fold.specs.Folders.{NamesMean}

-- ---- the globals have names of their own

neither : (a b : Bool) → (a || b) ≡ false → (a ≡ false) × (b ≡ false)
neither true b h = cc
neither false b h = (refl, h)

here_first : (t : Bool) (m : ℕ) → t ≡ true → cond (not t) (1 + m) 0 ≡ 0
here_first true m e = refl
here_first false m e = cc

later_first : (t : Bool) (m : ℕ) → t ≡ false → cond (not t) (1 + m) 0 ≡ suc m
later_first true m e = cc
later_first false m e = omega arith

unlike : (b : Bool) (x : Global) (name : List ℕ) → bytes_eq name x.decl.name ≡ b → is_some (cond b (Some x) None) ≡ false → bytes_eq name x.decl.name ≡ false
unlike true x name e h = cc
unlike false x name e h = e

pub record IsFirst (earlier : Names Global) (gs : List Global) (k : ℕ) (g : Global) : Type 0 where
  pub new : has g.decl.name earlier ≡ false
  pub place : position_or_len (λ (x : Global). bytes_eq x.decl.name g.decl.name) gs ≡ k

global_first : (structs : List StructDef) (ts : Targets) (all : Names Global) (number : ℕ) (earlier out : Names Global) (gs : List Global) → d.globals structs ts all number earlier gs ≡ Ok out → (k : ℕ) (g : Global) → slice_get gs k ≡ Some g → IsFirst earlier gs k g
unfolding d.globals d.one_global
global_first structs ts all number earlier out [] h k g e = cc
global_first structs ts all number earlier out (x ∷ xs) h zero g e =
    let p = first_passed (at _ (d.one_global structs ts all earlier x)) _ out h in
    let more = first_passed (declared earlier x.decl.name x) _ p.0 (at_passed _ (d.one_global structs ts all earlier x) p.0 p.1) in
    let new = declared_new earlier x.decl.name x more.0 more.1 in
    let same : x ≡ g = cc in
    record { new = subst (λ (y : Global). has y.decl.name earlier ≡ false) same new.0; place = here_first (bytes_eq x.decl.name g.decl.name) _ (ap (λ (y : Global). bytes_eq y.decl.name g.decl.name) same ∙ same_name_self g.decl.name) }
global_first structs ts all number earlier out (x ∷ xs) h (suc k) g e =
    let p = first_passed (at _ (d.one_global structs ts all earlier x)) _ out h in
    let more = first_passed (declared earlier x.decl.name x) _ p.0 (at_passed _ (d.one_global structs ts all earlier x) p.0 p.1) in
    let new = declared_new earlier x.decl.name x more.0 more.1 in
    let made : p.0 ≡ earlier ++ (x.decl.name, x) ∷ [] = one_made earlier p.0 x (at_passed _ (d.one_global structs ts all earlier x) p.0 p.1) in
    let r : IsFirst p.0 xs k g = global_first structs ts all (number + 1) p.0 out xs p.2 k g e in
    let apart = neither (has g.decl.name earlier) (has g.decl.name ((x.decl.name, x) ∷ [])) (sym (has_append g.decl.name earlier ((x.decl.name, x) ∷ [])) ∙ (ap (has g.decl.name) (sym made) ∙ r.new)) in
    let other : bytes_eq x.decl.name g.decl.name ≡ false = sym (same_test g.decl.name x.decl.name) ∙ unlike (bytes_eq g.decl.name x.decl.name) x g.decl.name refl apart.1 in
    record { new = apart.0; place = later_first (bytes_eq x.decl.name g.decl.name) _ other ∙ ap suc r.place }
  where
    one_made : (earlier out : Names Global) (x : Global) → d.one_global structs ts all earlier x ≡ Ok out → out ≡ earlier ++ (x.decl.name, x) ∷ []
    one_made earlier out x h =
        let one : d.globals structs ts all 0 earlier (x ∷ []) ≡ Ok out = single h in
        globals_are structs ts all 0 earlier out (x ∷ []) one
      where
        single : d.one_global structs ts all earlier x ≡ Ok out → d.globals structs ts all 0 earlier (x ∷ []) ≡ Ok out
        single h = rw h refl

less : (n m : ℕ) → n < m → nat_lt n m ≡ true
less n m l = grind (arith, l)

placed_by : (b : Bool) (n k : ℕ) → b ≡ true → n ≡ k → cond b (Some n) None ≡ Some k
placed_by true n k e h = ap Some h
placed_by false n k e h = cc

place_is : (gs : List Global) (k : ℕ) (g : Global) → slice_get gs k ≡ Some g → position_or_len (λ (x : Global). bytes_eq x.decl.name g.decl.name) gs ≡ k → global_place gs g.decl.name ≡ Some k
place_is gs k g e h =
    let within : k < length gs = slice_get_within gs k g e in
    placed_by _ _ k (less (position_or_len (λ (x : Global). bytes_eq x.decl.name g.decl.name) gs) (length gs) (omega (arith, h, within))) h

-- ---- they are among the names

has_by : (b : Bool) (x : Global) (o : Option Global) → (b ≡ false → is_some o ≡ true) → is_some (cond b (Some x) o) ≡ true
has_by true x o h = refl
has_by false x o h = h refl

global_listed : (gs : List Global) (k : ℕ) (g : Global) → slice_get gs k ≡ Some g → has g.decl.name (globals_by_name gs) ≡ true
global_listed [] k g e = cc
global_listed (x ∷ xs) zero g e =
    let same : x ≡ g = cc in
    has_by (bytes_eq g.decl.name x.decl.name) x (named g.decl.name (globals_by_name xs)) (λ f. absurd (clash _ (same_test g.decl.name x.decl.name ∙ (ap (λ (y : Global). bytes_eq y.decl.name g.decl.name) same ∙ same_name_self g.decl.name)) f))
  where
    clash : (b : Bool) → b ≡ true → b ≡ false → ⊥
    clash true e f = cc
    clash false e f = cc
global_listed (x ∷ xs) (suc k) g e = has_by (bytes_eq g.decl.name x.decl.name) x (named g.decl.name (globals_by_name xs)) (λ f. global_listed xs k g e)

-- ---- no local has such a name

register_globals : (env out : Env) (names : Names Function) (r : Register) → d.register env names r ≡ Ok out → out.globals ≡ env.globals
unfolding d.register
register_globals env out names r h =
    let free = first_passed (d.is_free env names r.name) _ out h in
    let own = first_passed (demand (not (has r.name env.locals)) 2) _ out free.2 in
    let more = first_passed (declared env.registers r.name r) _ out own.2 in
    sym (ap (λ (e : Env). e.globals) (ok_same more.2))

registers_globals : (env out : Env) (names : Names Function) (rs : List Register) → d.registers env names rs ≡ Ok out → out.globals ≡ env.globals
unfolding d.registers
registers_globals env out names [] h = sym (ap (λ (e : Env). e.globals) (ok_same h))
registers_globals env out names (r ∷ rs) h =
    let p = first_passed (d.register env names r) _ out h in
    registers_globals p.0 out names rs p.2 ∙ register_globals env p.0 names r p.1

local_globals : (env out : Env) (names : Names Function) (x : Decl) → d.local env names x ≡ Ok out → out.globals ≡ env.globals
unfolding d.local
local_globals env out names x h =
    let free = first_passed (d.is_free env names x.name) _ out h in
    let own = first_passed (demand (not (has x.name env.registers)) 2) _ out free.2 in
    let more = first_passed (declared env.locals x.name x) _ out own.2 in
    let shape = first_passed (d.known_shape _ x.shape) _ out more.2 in
    let size = first_passed (d.sized env.structs x) _ out shape.2 in
    sym (ap (λ (e : Env). e.globals) (ok_same size.2))

local_new : (env out : Env) (names : Names Function) (x : Decl) → d.local env names x ≡ Ok out → not (has x.name env.globals) ≡ true
unfolding d.local d.is_free
local_new env out names x h =
    let free = first_passed (d.is_free env names x.name) _ out h in
    let new = first_passed (demand (not (has x.name env.globals)) 2) _ tt free.1 in
    demanded _ 2 new.1

locals_free : (env out : Env) (names : Names Function) (xs : List Decl) (name : List ℕ) → d.locals env names xs ≡ Ok out → has name env.globals ≡ true → is_local xs name ≡ false
unfolding d.locals
locals_free env out names [] name h k = refl
locals_free env out names (x ∷ xs) name h k =
    let p = first_passed (d.local env names x) _ out h in
    by (bytes_eq x.name name) refl (local_new env p.0 names x p.1) (locals_free p.0 out names xs name p.2 (ap (has name) (local_globals env p.0 names x p.1) ∙ k))
  where
    clash : (b : Bool) → not b ≡ true → b ≡ true → ⊥
    clash true e f = cc
    clash false e f = cc

    by : (b : Bool) → bytes_eq x.name name ≡ b → not (has x.name env.globals) ≡ true → is_local xs name ≡ false → (b || is_local xs name) ≡ false
    by true e new more = absurd (clash (has x.name env.globals) new (ap (λ n. has n env.globals) (same_name_true x.name name e) ∙ k))
    by false e new more = more

own_free : (known out : Env) (names : Names Function) (f : Function) (name : List ℕ) → d.own known names f ≡ Ok out → has name known.globals ≡ true → is_local f.locals name ≡ false
unfolding d.own
own_free known out names f name h k =
    let first : Env = record known { locals = []; registers = []; labels = []; result = f.result } in
    let p = first_passed (d.registers first names f.params) _ out h in
    let q = first_passed (d.locals p.0 names f.locals) _ out p.2 in
    locals_free p.0 q.0 names f.locals name q.1 (ap (has name) (registers_globals first p.0 names f.params p.1) ∙ k)

-- ---- each function by its number

pub function_at : (known : Env) (names : Names Function) (number : ℕ) (fs : List Function) (n : ℕ) (f : Function) → d.functions known names number fs ≡ Ok tt → slice_get fs n ≡ Some f → (k : ℕ) × (d.one_function known names k f ≡ Ok tt)
unfolding d.functions
function_at known names number [] n f h e = cc
function_at known names number (x ∷ xs) zero f h e =
    let p = first_passed (d.one_function known names number x) _ tt h in
    let same : x ≡ f = cc in
    (number, subst (λ (g : Function). d.one_function known names number g ≡ Ok tt) same p.1)
function_at known names number (x ∷ xs) (suc n) f h e =
    let p = first_passed (d.one_function known names number x) _ tt h in
    function_at known names (number + 1) xs n f p.2 e

-- what the checks of a program say of its globals and functions
pub record Parts (p : Program) : Type 0 where
  pub structs : d.structs p.structs 0 [] p.structs ≡ Ok tt
  pub globals : d.globals p.structs (targets_of p) (globals_by_name p.globals) 0 [] p.globals ≡ Ok (globals_by_name p.globals)
  pub heads : d.heads (globals_by_name p.globals) 0 [] p.functions ≡ Ok (functions_by_name p.functions)
  pub main : d.main 0 p.functions ≡ Ok tt
  pub functions : d.functions (known_env p.structs (targets_of p) (globals_by_name p.globals)) (functions_by_name p.functions) 0 p.functions ≡ Ok tt

pub parts : (p : Program) → first_fault p ≡ None → Parts p
unfolding first_fault checked
parts p h =
    let every = no_fault (checked p) h in
    let a = first_passed (d.structs p.structs 0 [] p.structs) _ tt every in
    let b = first_passed (d.globals p.structs (targets_of p) (globals_by_name p.globals) 0 [] p.globals) _ tt a.2 in
    let c = first_passed (d.heads b.0 0 [] p.functions) _ tt b.2 in
    let m = first_passed (d.main 0 p.functions) _ tt c.2 in
    let variables : b.0 ≡ globals_by_name p.globals = globals_are p.structs (targets_of p) (globals_by_name p.globals) 0 [] b.0 p.globals b.1 in
    let callees : c.0 ≡ functions_by_name p.functions = heads_are b.0 0 [] c.0 p.functions c.1 in
    record {
      structs = a.1;
      globals = subst (λ v. d.globals p.structs (targets_of p) (globals_by_name p.globals) 0 [] p.globals ≡ Ok v) variables b.1;
      heads = subst (λ v. d.heads v 0 [] p.functions ≡ Ok (functions_by_name p.functions)) variables (subst (λ t. d.heads b.0 0 [] p.functions ≡ Ok t) callees c.1);
      main = m.1;
      functions = subst (λ t. d.functions (known_env p.structs (targets_of p) (globals_by_name p.globals)) t 0 p.functions ≡ Ok tt) callees (subst (λ v. d.functions (known_env p.structs (targets_of p) v) c.0 0 p.functions ≡ Ok tt) variables m.2);
    }

pub names_mean : (p : Program) (n : ℕ) (f : Function) → first_fault p ≡ None → slice_get p.functions n ≡ Some f → NamesMean p.globals f.locals
unfolding d.one_function
names_mean p n f h own = λ k g e.
    let a : Parts p = parts p h in
    let r : IsFirst [] p.globals k g = global_first p.structs (targets_of p) (globals_by_name p.globals) 0 [] (globals_by_name p.globals) p.globals a.globals k g e in
    let one = function_at (known_env p.structs (targets_of p) (globals_by_name p.globals)) (functions_by_name p.functions) 0 p.functions n f a.functions own in
    let env = first_passed (at _ (d.own (known_env p.structs (targets_of p) (globals_by_name p.globals)) (functions_by_name p.functions) f)) _ tt one.1 in
    record {
      free = own_free (known_env p.structs (targets_of p) (globals_by_name p.globals)) env.0 (functions_by_name p.functions) f g.decl.name (at_passed _ (d.own (known_env p.structs (targets_of p) (globals_by_name p.globals)) (functions_by_name p.functions) f) env.0 env.1) (global_listed p.globals k g e);
      place = place_is p.globals k g e r.place;
    }
