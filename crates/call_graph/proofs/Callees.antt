-- The names that calls of an accepted program rest on.
use Rattle.std.proofs.Common.{◌≡◌, ℕ, zero, suc, ◌+◌, ◌<◌, inl, inr, Bool, true, false, not, cond, List, [], ◌∷◌, ◌++◌, map, length, take, get_or, is_some, Option, Some, Ok, refl, sym, ◌∙◌, ap, subst, arith, append_assoc, append-nil, slice_get, option_map, true≢false}
use Rattle.std.proofs.lemmas.Bool.{cases_lt}
use Rattle.std.proofs.lemmas.List.{length-map}
use Rattle.std.proofs.lemmas.Option.{get_or_from_slice_get, slice_get-map, slice_get_within}
use Rattle.std.specs.Str.{bytes_eq}
use Rattle.gimple_ir.specs.declared.operand.Operand.{Operand}
use Rattle.gimple_ir.specs.declared.statement.Signature.{Signature}
use Rattle.gimple_ir.specs.declared.statement.Stmt.{Stmt}
use Rattle.gimple_ir.specs.declared.statement.Stmt.TheVariants.{Copy, Arith, Compare, Convert, Load, Store, Call, Indirect, Get, Put, Abort}
use Rattle.gimple_ir.specs.declared.block.Block.{Block}
use Rattle.gimple_ir.specs.declared.declarations.Global.{Global}
use Rattle.gimple_ir.specs.declared.program.Function.{Function}
use Rattle.gimple_ir.specs.declared.program.Program.{Program}
use Rattle.gimple_core.specs.Run.{Callee, Named, Through, Calling, call_of, function_named, main_name}
use Rattle.gimple_core.specs.Verdict.{demand, at}
use Rattle.gimple_core.specs.Env.{Env, Names, named, has, targets_of, functions_by_name, globals_by_name}
use Rattle.gimple_core.specs.Declarations as d
use Rattle.gimple_core.specs.Accepted.{first_fault, checked, IsAccepted}
use Rattle.gimple_core.specs.Typed.{StatementTyped, BodyTyped, BlocksTyped, FunctionsTyped, env_of}
use Rattle.gimple_core.proofs.Passed.{first_passed, at_passed, no_fault}
use Rattle.gimple_core.proofs.EnvLemmas.{named_find, declared_new, named_here}
use Rattle.gimple_core.proofs.ProgramTyped.{accepted_typed}
use Rattle.call_graph.specs.Calls.{number_in, names_of}
use Rattle.call_graph.proofs.Called.{CalledIn, CalledInBlocks}
use Rattle.call_graph.proofs.Naming.{AreDistinct, function_at}

-- the functions have distinct names, and there is one of each name that is called, `main` among them
pub record CallsStand (p : Program) : Type 0 where
  pub distinct : AreDistinct (names_of p)
  pub main : number_in (names_of p) main_name < length p.functions
  pub callees : (k : ℕ) (f : Function) (name : List ℕ) → slice_get p.functions k ≡ Some f → CalledInBlocks name f.blocks → number_in (names_of p) name < length p.functions

-- ---- callees are there

-- a name that a function has is the name of a number
pub named_number : (fs : List Function) (name : List ℕ) (f : Function) → function_named name fs ≡ Some f → number_in (map (λ g. g.name) fs) name < length fs
named_number fs name f e = slice_get_within fs (number_in (map (λ g. g.name) fs) name) f (sym (function_at fs name) ∙ e)

-- a function of this name is there
abbrev IsThere : List Function → List ℕ → Type 0
IsThere fs name = (f : Function) × (named name (functions_by_name fs) ≡ Some f)

called_so : (c : Calling) (to : Option (List ℕ)) (callee : Callee) (xs : List Operand) → Some (record { to = to; callee = callee; arguments = xs }) ≡ Some c → c.callee ≡ callee
called_so c to callee xs e = let same : record { to = to; callee = callee; arguments = xs } ≡ c = cc in ap (λ (d : Calling). d.callee) (sym same)

named_so : (a b : List ℕ) → Named a ≡ Named b → a ≡ b
named_so a b e = cc

not_through : (a b : List ℕ) (signature : Signature) → Named a ≡ Through b signature → ⊥
not_through a b signature e = cc

statement_there : (env : Env) (fs : List Function) (name : List ℕ) (x : Stmt) (c : Calling) → call_of x ≡ Some c → c.callee ≡ Named name → StatementTyped env (functions_by_name fs) x → IsThere fs name
statement_there env fs name (Call to callee xs) c e is typed =
    let same : callee ≡ name = named_so callee name (sym (called_so c to (Named callee) xs e) ∙ is) in
    (typed.0, ap (λ n. named n (functions_by_name fs)) (sym same) ∙ typed.1)
statement_there env fs name (Indirect to signature callee xs) c e is typed =
    absurd (not_through name callee signature (sym is ∙ called_so c to (Through callee signature) xs e))
statement_there env fs name (Copy to from) c e is typed = cc e
statement_there env fs name (Arith to left op right) c e is typed = cc e
statement_there env fs name (Compare to left cmp right) c e is typed = cc e
statement_there env fs name (Convert to scalar from) c e is typed = cc e
statement_there env fs name (Load to scalar from) c e is typed = cc e
statement_there env fs name (Store scalar to from) c e is typed = cc e
statement_there env fs name (Get to) c e is typed = cc e
statement_there env fs name (Put from) c e is typed = cc e
statement_there env fs name Abort c e is typed = cc e

body_there : (env : Env) (fs : List Function) (name : List ℕ) (xs : List Stmt) → CalledIn name xs → BodyTyped env (functions_by_name fs) xs → IsThere fs name
body_there env fs name _ (CalledIn.here x xs c e is) typed = statement_there env fs name x c e is typed.0
body_there env fs name _ (CalledIn.later x xs r) typed = body_there env fs name xs r typed.1

blocks_there : (env : Env) (fs : List Function) (name : List ℕ) (bs : List Block) → CalledInBlocks name bs → BlocksTyped env (functions_by_name fs) bs → IsThere fs name
blocks_there env fs name _ (CalledInBlocks.here b bs r) typed = body_there env fs name b.body r typed.0
blocks_there env fs name _ (CalledInBlocks.later b bs r) typed = blocks_there env fs name bs r typed.2

functions_there : (p : Program) (fs : List Function) (k : ℕ) (f : Function) (name : List ℕ) → FunctionsTyped p fs → slice_get fs k ≡ Some f → CalledInBlocks name f.blocks → IsThere p.functions name
functions_there p [] k f name typed e r = cc e
functions_there p (g ∷ fs) zero f name typed e r =
    let same : g ≡ f = cc in
    blocks_there (env_of p g) p.functions name g.blocks (subst (λ (x : Function). CalledInBlocks name x.blocks) (sym same) r) typed.2
functions_there p (g ∷ fs) (suc k) f name typed e r = functions_there p fs k f name typed.3 e r

there_number : (fs : List Function) (name : List ℕ) → IsThere fs name → number_in (map (λ f. f.name) fs) name < length fs
unfolding function_named
there_number fs name t = named_number fs name t.0 (sym (named_find (λ (f : Function). f.name) name fs) ∙ t.1)

-- ---- names are distinct

head_new : (gs : Names Global) (earlier out : Names Function) (f : Function) → d.head gs earlier f ≡ Ok out → (has f.name earlier ≡ false) × (out ≡ earlier ++ (f.name, f) ∷ [])
unfolding d.head
head_new gs earlier out f h =
    let p = first_passed (demand (not (has f.name gs)) 2) _ out h in
    declared_new earlier f.name f out p.2

-- no function has the name of an earlier one
heads_new : (gs : Names Global) (number k : ℕ) (earlier out : Names Function) (fs : List Function) (f : Function) → d.heads gs number earlier fs ≡ Ok out → slice_get fs k ≡ Some f → has f.name (earlier ++ functions_by_name (take k fs)) ≡ false
unfolding d.heads
heads_new gs number k earlier out [] f h e = cc e
heads_new gs number zero earlier out (g ∷ fs) f h e =
    let p = first_passed (at _ (d.head gs earlier g)) _ out h in
    let q = head_new gs earlier p.0 g (at_passed _ (d.head gs earlier g) p.0 p.1) in
    let same : g ≡ f = cc in
    let P : Function → Type 0 = λ x. has x.name earlier ≡ false in
    ap (has f.name) (append-nil earlier) ∙ subst P same q.0
heads_new gs number (suc k) earlier out (g ∷ fs) f h e =
    let p = first_passed (at _ (d.head gs earlier g)) _ out h in
    let q = head_new gs earlier p.0 g (at_passed _ (d.head gs earlier g) p.0 p.1) in
    let P : Names Function → Type 0 = λ t. d.heads gs (number + 1) t fs ≡ Ok out in
    ap (has f.name) (sym (append_assoc earlier ((g.name, g) ∷ []) (functions_by_name (take k fs))))
    ∙ heads_new gs (number + 1) k (earlier ++ (g.name, g) ∷ []) out fs f (subst P q.1 p.2) e

pub slice_get_at : (fs : List Function) (k : ℕ) → k < length fs → (f : Function) × (slice_get fs k ≡ Some f)
slice_get_at [] k low = let none : ⊥ = omega (arith, low) in elim none [ ]
slice_get_at (f ∷ fs) zero low = (f, refl)
slice_get_at (f ∷ fs) (suc k) low = slice_get_at fs k (omega (arith, low))

name_read : (fs : List Function) (k : ℕ) (f : Function) → slice_get fs k ≡ Some f → get_or (map (λ g. g.name) fs) k [] ≡ f.name
name_read fs k f e = get_or_from_slice_get (map (λ g. g.name) fs) k f.name [] (slice_get-map (λ g. g.name) fs k ∙ ap (option_map (λ g. g.name)) e)

has_at : (fs : List Function) (k : ℕ) (f : Function) → slice_get fs k ≡ Some f → has f.name (functions_by_name fs) ≡ true
has_at [] k f e = cc e
has_at (g ∷ fs) zero f e =
    let same : g ≡ f = cc in
    let P : Function → Type 0 = λ x. has x.name (functions_by_name (g ∷ fs)) ≡ true in
    subst P same (ap is_some (named_here g.name g (functions_by_name fs)))
has_at (g ∷ fs) (suc k) f e = by (bytes_eq f.name g.name) (has_at fs k f e)
  where
    by : (a : Bool) → has f.name (functions_by_name fs) ≡ true → is_some (cond a (Some g) (named f.name (functions_by_name fs))) ≡ true
    by true h = refl
    by false h = h

earlier_at : (fs : List Function) (i j : ℕ) (f : Function) → i < j → slice_get fs i ≡ Some f → slice_get (take j fs) i ≡ Some f
earlier_at [] i j f low e = cc e
earlier_at (g ∷ fs) i zero f low e = let none : ⊥ = omega (arith, low) in elim none [ ]
earlier_at (g ∷ fs) zero (suc j) f low e = e
earlier_at (g ∷ fs) (suc i) (suc j) f low e = earlier_at fs i j f (omega (arith, low)) e

module _ (gs : Names Global) (number : ℕ) (out : Names Function) (fs : List Function) (passed : d.heads gs number [] fs ≡ Ok out) where
  no_earlier : (i j : ℕ) (f g : Function) → i < j → slice_get fs i ≡ Some f → slice_get fs j ≡ Some g → f.name ≡ g.name → ⊥
  no_earlier i j f g low e k same =
      let off = heads_new gs number j [] out fs g passed k in
      let P : List ℕ → Type 0 = λ n. has n (functions_by_name (take j fs)) ≡ true in
      let on : P g.name = subst P same (has_at (take j fs) i f (earlier_at fs i j f low e)) in
      true≢false (sym on ∙ off)

  heads_distinct : AreDistinct (map (λ f. f.name) fs)
  heads_distinct i j p q same =
      let len = length-map fs (λ f. f.name) in
      let first = slice_get_at fs i (omega (arith, p, len)) in
      let second = slice_get_at fs j (omega (arith, q, len)) in
      let a : get_or (map (λ f. f.name) fs) i [] ≡ first.0.name = name_read fs i first.0 first.1 in
      let b : get_or (map (λ f. f.name) fs) j [] ≡ second.0.name = name_read fs j second.0 second.1 in
      let names : first.0.name ≡ second.0.name = sym a ∙ same ∙ b in
      elim (cases_lt i j) [
        | inl low ↦ let none = no_earlier i j first.0 second.0 low first.1 second.1 names in elim none [ ]
        | inr high ↦ elim (cases_lt j i) [
          | inl low ↦ let none = no_earlier j i second.0 first.0 low second.1 first.1 (sym names) in elim none [ ]
          | inr below ↦ omega (arith, high, below)
        ]
      ]

-- the calls of an accepted program stand
pub accepted_calls : (p : Program) → IsAccepted p → CallsStand p
unfolding first_fault checked
accepted_calls p h =
    let all = no_fault _ h in
    let a = first_passed (d.structs p.structs 0 [] p.structs) _ tt all in
    let b = first_passed (d.globals p.structs (targets_of p) (globals_by_name p.globals) 0 [] p.globals) _ tt a.2 in
    let c = first_passed (d.heads b.0 0 [] p.functions) _ tt b.2 in
    let (main, functions) = accepted_typed p h in
    record {
      distinct = heads_distinct b.0 0 c.0 p.functions c.1;
      main = named_number p.functions main_name main.0 main.1;
      callees = λ k f name e r. there_number p.functions name (functions_there p p.functions k f name functions e r);
    }
