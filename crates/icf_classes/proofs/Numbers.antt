-- Each function of a program without a type fault has a name of its own.
use Rattle.std.proofs.Common.{◌≡◌, ℕ, zero, suc, ◌+◌, ◌≤◌, Bool, true, false, not, cond, ◌||◌, arith, List, [], ◌∷◌, length, refl, sym, ◌∙◌, ap, subst, Some, None, Ok, slice_get, true≢false}
use Rattle.std.specs.Option.{is_some}
use Rattle.std.specs.List.{position_or_len, find}
use Rattle.std.specs.Str.{bytes_eq}
use Rattle.std.proofs.lemmas.List.Folds.{find_at}
use Rattle.gimple_ir.specs.declared.declarations.Global.{Global}
use Rattle.gimple_ir.specs.declared.program.Function.{Function}
use Rattle.gimple_ir.specs.declared.program.Program.{Program}
use Rattle.gimple_core.specs.Run.{function_named, main_name}
use Rattle.gimple_core.specs.Verdict.{at}
use Rattle.gimple_core.specs.Env.{Names, has, targets_of, globals_by_name}
use Rattle.gimple_core.specs.Declarations as d
use Rattle.gimple_core.specs.Accepted.{IsAccepted, checked, first_fault}
use Rattle.gimple_core.proofs.NameLemmas.{same_name_true, same_name_self}
use Rattle.gimple_core.proofs.EnvLemmas.{same_test, has_append, named_here}
use Rattle.gimple_core.proofs.Passed.{first_passed, at_passed, no_fault}
use Rattle.gimple_core.proofs.Heads.{head_passed}
use Rattle.gimple_core.proofs.ProgramTyped.{accepted_typed}
use Rattle.icf_classes.specs.Placed.{number_of}

-- a name that stands already is none of a later function
heads_lack : (gs : Names Global) (number : ℕ) (earlier out : Names Function) (fs : List Function) (name : List ℕ) → d.heads gs number earlier fs ≡ Ok out → has name earlier ≡ true → (k : ℕ) (g : Function) → slice_get fs k ≡ Some g → bytes_eq g.name name ≡ false
unfolding d.heads
heads_lack gs number earlier out [] name h t k g e = cc
heads_lack gs number earlier out (f ∷ fs) name h t zero g e =
    let p = first_passed (at _ (d.head gs earlier f)) _ out h in
    let q = head_passed gs earlier p.0 f (at_passed _ (d.head gs earlier f) p.0 p.1) in
    let same : f ≡ g = cc in
    let lacks : has g.name earlier ≡ false = subst (λ (z : Function). has z.name earlier ≡ false) same q.1 in
    by (bytes_eq g.name name) refl lacks
  where
    by : (b : Bool) → bytes_eq g.name name ≡ b → has g.name earlier ≡ false → b ≡ false
    by true x lacks = absurd (true≢false (sym t ∙ (ap (λ n. has n earlier) (sym (same_name_true g.name name x)) ∙ lacks)))
    by false x lacks = refl
heads_lack gs number earlier out (f ∷ fs) name h t (suc k) g e =
    let p = first_passed (at _ (d.head gs earlier f)) _ out h in
    let q = head_passed gs earlier p.0 f (at_passed _ (d.head gs earlier f) p.0 p.1) in
    let more : has name p.0 ≡ true = ap (has name) q.2 ∙ (has_append name earlier ((f.name, f) ∷ []) ∙ rw t refl) in
    heads_lack gs (number + 1) p.0 out fs name p.2 more k g e

heads_numbered : (gs : Names Global) (number : ℕ) (earlier out : Names Function) (fs : List Function) → d.heads gs number earlier fs ≡ Ok out → (k : ℕ) (f : Function) → slice_get fs k ≡ Some f → position_or_len (λ (g : Function). bytes_eq g.name f.name) fs ≡ k
unfolding d.heads
heads_numbered gs number earlier out [] h k f e = cc
heads_numbered gs number earlier out (x ∷ fs) h zero f e =
    let same : x ≡ f = cc in
    let test : bytes_eq x.name f.name ≡ true = ap (λ (z : Function). bytes_eq z.name f.name) same ∙ same_name_self f.name in
    ap (λ b. cond (not b) (1 + position_or_len (λ (g : Function). bytes_eq g.name f.name) fs) 0) test
heads_numbered gs number earlier out (x ∷ fs) h (suc k) f e =
    let p = first_passed (at _ (d.head gs earlier x)) _ out h in
    let q = head_passed gs earlier p.0 x (at_passed _ (d.head gs earlier x) p.0 p.1) in
    let there : has x.name p.0 ≡ true = ap (has x.name) q.2 ∙ (has_append x.name earlier ((x.name, x) ∷ []) ∙ (ap (λ o. has x.name earlier || is_some o) (named_here x.name x []) ∙ or_true (has x.name earlier))) in
    let other : bytes_eq x.name f.name ≡ false = same_test x.name f.name ∙ heads_lack gs (number + 1) p.0 out fs x.name p.2 there k f e in
    let rest = heads_numbered gs (number + 1) p.0 out fs p.2 k f e in
    ap (λ b. cond (not b) (1 + position_or_len (λ (g : Function). bytes_eq g.name f.name) fs) 0) other ∙ omega (arith, rest)
  where
    or_true : (b : Bool) → (b || true) ≡ true
    or_true true = refl
    or_true false = refl

-- nothing stands only past the end
pub none_past : {X : Type 0} (xs : List X) (i : ℕ) → slice_get xs i ≡ None → length xs ≤ i
none_past [] i e = omega arith
none_past (x ∷ xs) zero e = cc
none_past (x ∷ xs) (suc i) e = let rest = none_past xs i e in omega (arith, rest)

-- the function of a name stands at the number of the name
pub named_at : (p : Program) (name : List ℕ) → function_named name p.functions ≡ slice_get p.functions (number_of p name)
unfolding function_named number_of
named_at p name = find_at (λ (f : Function). bytes_eq f.name name) p.functions

found_test : (name : List ℕ) (fs : List Function) (f : Function) → find (λ (g : Function). bytes_eq g.name name) fs ≡ Some f → bytes_eq f.name name ≡ true
found_test name [] f e = cc
found_test name (x ∷ fs) f e = by (bytes_eq x.name name) refl e (found_test name fs f)
  where
    by : (b : Bool) → bytes_eq x.name name ≡ b → cond b (Some x) (find (λ (g : Function). bytes_eq g.name name) fs) ≡ Some f → (find (λ (g : Function). bytes_eq g.name name) fs ≡ Some f → bytes_eq f.name name ≡ true) → bytes_eq f.name name ≡ true
    by true t h more = let same : x ≡ f = cc in subst (λ (z : Function). bytes_eq z.name name ≡ true) same t
    by false t h more = more h

-- a function that is found has the name
pub named_so : (p : Program) (name : List ℕ) (f : Function) → function_named name p.functions ≡ Some f → f.name ≡ name
unfolding function_named
named_so p name f e = same_name_true f.name name (found_test name p.functions f e)

module _ (p : Program) (accepted : IsAccepted p) where
  -- a function's number is that of its name
  pub numbered_own : (k : ℕ) (f : Function) → slice_get p.functions k ≡ Some f → number_of p f.name ≡ k
  unfolding first_fault checked number_of
  numbered_own k f e =
      let a = first_passed (d.structs p.structs 0 [] p.structs) _ tt (no_fault _ accepted) in
      let b = first_passed (d.globals p.structs (targets_of p) (globals_by_name p.globals) 0 [] p.globals) _ tt a.2 in
      let c = first_passed (d.heads b.0 0 [] p.functions) _ tt b.2 in
      heads_numbered b.0 0 [] c.0 p.functions c.1 k f e

  -- each function is the one of its name
  pub named_own : (k : ℕ) (f : Function) → slice_get p.functions k ≡ Some f → function_named f.name p.functions ≡ Some f
  named_own k f e = named_at p f.name ∙ (ap (slice_get p.functions) (numbered_own k f e) ∙ e)

  pub main_there : (f : Function) × (function_named main_name p.functions ≡ Some f)
  main_there = let typed = accepted_typed p accepted in let m = typed.0 in (m.0, m.1)
