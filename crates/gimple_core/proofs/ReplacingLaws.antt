-- Programs that may replace others.
use Rattle.std.proofs.Common.{◌≡◌, ℕ, zero, suc, ◌+◌, ◌*◌, ◌<◌, ◌≤◌, Bool, true, false, not, cond, arith, List, [], ◌∷◌, length, filter, sum_by, refl, sym, ◌∙◌, ap, subst, IsTrue, All}
use Rattle.std.proofs.Math.Nat.{mul_assoc}
use Rattle.std.proofs.lemmas.List.Elements.{All-filter}
use Rattle.std.proofs.lemmas.List.Filters.{sum_by-filter_both}
use Rattle.gimple_ir.specs.declared.declarations.StructDef.{StructDef}
use Rattle.gimple_ir.specs.declared.program.Function.{Function}
use Rattle.gimple_ir.specs.declared.program.Program.{Program}
use Rattle.gimple_ir.specs.Size.{size_of_function, size_of_program, branches_of_function}
use Rattle.gimple_ir.specs.Counts.{CountsWithin}
use Rattle.gimple_ir.specs.Spellable.{IsSpellable}
use Rattle.gimple_ir.proofs.SpellableLaws.{filtered_spellable}
use Rattle.gimple_core.specs.Accepted.{IsAccepted}
use Rattle.gimple_core.specs.Sealed.{Sealed}
use Rattle.gimple_core.specs.Reach.{IsWithoutUnreached, with_kept}
use Rattle.gimple_core.specs.Replacing.{Replaces, ReplacesItself, ReplacesInTurn}
use Rattle.gimple_core.proofs.Dropping.{reached_runs}
use Rattle.gimple_core.proofs.KeptAccepted.{reached_accepted}

once : (n : ℕ) (p : Program) → CountsWithin n p → CountsWithin (1 * n) p
once n p h = let same : n ≡ 1 * n = omega arith in subst (λ m. CountsWithin m p) same h

pub replaces_itself : ReplacesItself
replaces_itself p a = record { accepted = a; mode = refl; profile = refl; spellable = λ h. h; counts = λ n h. once n p.program h; runs = λ input k n. refl }

pub replaces_in_turn : ReplacesInTurn
replaces_in_turn g h p q r a b = record {
  accepted = b.accepted;
  mode = b.mode ∙ a.mode;
  profile = b.profile ∙ a.profile;
  spellable = λ s. b.spellable (a.spellable s);
  counts = λ n c. let same : h * (g * n) ≡ (h * g) * n = sym (mul_assoc h g n) in subst (λ m. CountsWithin m r.program) same (b.counts (g * n) (a.counts n c));
  runs = λ input k n. b.runs input k n ∙ a.runs input k n;
}

-- ---- programs without some functions

one_fewer : (b : Bool) (f : Function) (fs : List Function) (n : ℕ) → length fs ≤ n → length (cond b (f ∷ fs) fs) ≤ suc n
one_fewer true f fs n h = omega (arith, h)
one_fewer false f fs n h = omega (arith, h)

fewer : (keeps : Function → Bool) (fs : List Function) → length (filter keeps fs) ≤ length fs
fewer keeps [] = omega arith
fewer keeps (f ∷ fs) = one_fewer (keeps f) f (filter keeps fs) (length fs) (fewer keeps fs)

pub kept_size : (keeps : Function → Bool) (fs : List Function) → sum_by size_of_function (filter keeps fs) ≤ sum_by size_of_function fs
kept_size keeps fs = let both = sum_by-filter_both keeps (λ f. not (keeps f)) (λ f. refl) size_of_function fs in omega (arith, both)

kept_counts : (n : ℕ) (p : Program) (keeps : List ℕ → Bool) → CountsWithin n p → CountsWithin n (with_kept keeps p)
kept_counts n p keeps h =
    let keep : Function → Bool = λ f. keeps f.name in
    let fewer_functions = fewer keep p.functions in
    let smaller = kept_size keep p.functions in
    let functions = h.functions in
    let size : size_of_program p < n = h.size in
    record {
      structs = h.structs;
      fields = h.fields;
      globals = h.globals;
      functions = omega (arith, fewer_functions, functions);
      size = omega (arith, smaller, size);
      formals = All-filter keep (λ (f : Function). length f.params < n) p.functions h.formals;
      locals = All-filter keep (λ (f : Function). length f.locals < n) p.functions h.locals;
      branches = All-filter keep (λ (f : Function). branches_of_function f < n) p.functions h.branches;
    }

-- a program may be replaced by itself without the functions that main does not reach
pub reached_replaces : (p q : Sealed) → IsAccepted p.program → IsWithoutUnreached p.program q.program → q.mode ≡ p.mode → Replaces 1 p q
reached_replaces p q a w same = record {
  accepted = reached_accepted p.program q.program a w;
  mode = same;
  profile = ap (λ (r : Program). r.profile) w.program;
  spellable = λ h. subst IsSpellable (sym w.program) (filtered_spellable p.program (λ (f : Function). w.keeps f.name) h);
  counts = λ n h. once n q.program (subst (CountsWithin n) (sym w.program) (kept_counts n p.program w.keeps h));
  runs = λ input k n. reached_runs p q w same input n;
}
