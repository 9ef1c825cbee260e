-- Marked functions are those whose names are reached.
use Rattle.std.proofs.Common.{◌≡◌, ◌↔◌, ℕ, suc, ◌<◌, ◌≤◌, ◌⊎◌, inl, inr, Bool, true, false, List, [], ◌∷◌, ◌++◌, length, filter, get_or, refl, sym, ◌∙◌, ap, subst, arith, slice_get, Some, IsTrue, cond, not, append-nil}
use Rattle.std.specs.Prelude.{sum_by}
use Rattle.std.proofs.lemmas.List.Filters.{sum_by-filter_both}
use Rattle.gimple_ir.specs.declared.program.Function.{Function}
use Rattle.gimple_ir.specs.declared.program.Program.{Program}
use Rattle.gimple_ir.specs.Size.{size_of_function}
use Rattle.gimple_core.specs.Reach.{IsReached, IsWithoutUnreached}
use Rattle.call_graph.specs.Calls.{number_in, names_of}
use Rattle.call_graph.specs.Reached.{AreReached}
use Rattle.call_graph.proofs.Bridge.{name_of}
use Rattle.call_graph.proofs.Callees.{CallsStand, slice_get_at}
use Rattle.call_graph.proofs.Mentioning.{reached_leads, leads_inside}
use Rattle.call_graph.proofs.Naming.{name_at, number_at}
use Rattle.graph_walk.proofs.Walking.{marked_inside}
use Rattle.call_graph.specs.Reached.{marked, unless_dropped}

none_left : (marks : List Bool) (fs : List Function) → (length fs ≡ 0) ⊎ (length marks ≡ 0) → marked marks fs ≡ []
unfolding marked
none_left [] fs h = refl
none_left (mark ∷ marks) [] h = refl
none_left (mark ∷ marks) (f ∷ fs) (inl h) = let none : ⊥ = omega (arith, h) in elim none [ ]
none_left (mark ∷ marks) (f ∷ fs) (inr h) = let none : ⊥ = omega (arith, h) in elim none [ ]

-- where the functions or the marks have ended, all is kept
pub kept_all : (kept all fs : List Function) (marks : List Bool) → kept ++ marked marks fs ≡ all → (length fs ≡ 0) ⊎ (length marks ≡ 0) → kept ≡ all
kept_all kept all fs marks h ends = sym (append-nil kept) ∙ ap (λ (xs : List Function). kept ++ xs) (sym (none_left marks fs ends)) ∙ h

marked_filter : (keep : Function → Bool) (marks : List Bool) (fs : List Function) → length marks ≡ length fs → ((k : ℕ) (f : Function) → slice_get fs k ≡ Some f → get_or marks k false ≡ keep f) → marked marks fs ≡ filter keep fs
unfolding marked
marked_filter keep [] [] len each = refl
marked_filter keep [] (f ∷ fs) len each = let none : ⊥ = omega (arith, len) in elim none [ ]
marked_filter keep (mark ∷ marks) [] len each = refl
marked_filter keep (mark ∷ marks) (f ∷ fs) len each =
    by mark (keep f) (each 0 f refl) (marked_filter keep marks fs (omega (arith, len)) (λ k g h. each (suc k) g h))
  where
    by : (a b : Bool) → a ≡ b → marked marks fs ≡ filter keep fs → unless_dropped a f (marked marks fs) ≡ cond b (f ∷ filter keep fs) (filter keep fs)
    by true true e h = λ i. f ∷ h i
    by true false e h = cc e
    by false true e h = cc e
    by false false e h = h

-- what is dropped makes a program no larger
filter_shrinks : (keep : Function → Bool) (fs : List Function) → sum_by size_of_function (filter keep fs) ≤ sum_by size_of_function fs
filter_shrinks keep fs = let both = sum_by-filter_both keep (λ f. not (keep f)) (λ f. refl) size_of_function fs in omega (arith, both)

module _ (p : Program) (stand : CallsStand p) (marks : List Bool) (are : AreReached p marks) where
  keeps : List ℕ → Bool
  keeps name = get_or marks (number_in (names_of p) name) false

  -- the function at the number of a name
  found_at : (name : List ℕ) → number_in (names_of p) name < length p.functions → (f : Function) × (slice_get p.functions (number_in (names_of p) name) ≡ Some f) × (f.name ≡ name)
  found_at name low =
      let at = slice_get_at p.functions (number_in (names_of p) name) low in
      (at.0, at.1, name_at (names_of p) name at.0.name (name_of p.functions _ at.0 at.1))

  reached_kept : (name : List ℕ) → IsTrue (keeps name) ↔ IsReached p name
  unfolding keeps
  reached_kept name = (
    λ on.
        let low = marked_inside marks (number_in (names_of p) name) on in
        let at = found_at name (omega (arith, low, are.one_each)) in
        let P : List ℕ → Type 0 = λ n. IsReached p n in
        subst P at.2 ((are.exact (number_in (names_of p) name) at.0 at.1).0 on),
    λ r.
        let low = leads_inside p stand (number_in (names_of p) name) (reached_leads p stand name r) in
        let at = found_at name low in
        let P : List ℕ → Type 0 = λ n. IsReached p n in
        (are.exact (number_in (names_of p) name) at.0 at.1).1 (subst P (sym at.2) r),
  )

  marked_kept : marked marks p.functions ≡ filter (λ f. keeps f.name) p.functions
  unfolding keeps
  marked_kept = marked_filter (λ f. keeps f.name) marks p.functions are.one_each
      (λ k f h. ap (λ (i : ℕ). get_or marks i false) (sym (number_at (names_of p) k f.name stand.distinct (name_of p.functions k f h))))

  -- the program with its marked functions is the one without unreached functions
  marked_dropped : IsWithoutUnreached p (record p { functions = marked marks p.functions })
  marked_dropped = record {
    keeps = keeps;
    reached = reached_kept;
    program = λ i. record p { functions = marked_kept i };
  }

  -- the same of parts that are equal to those
  pub parts_dropped : (r : Program) (ms : List Bool) (hs fs : List Function) → r ≡ p → ms ≡ marks → hs ≡ r.functions → fs ≡ marked ms hs → IsWithoutUnreached p (record r { functions = fs })
  parts_dropped r ms hs fs same m h f =
      let kept : fs ≡ marked marks p.functions = f ∙ (λ i. marked (m i) ((h ∙ ap (λ (q : Program). q.functions) same) i)) in
      let P : Program → Type 0 = λ q. IsWithoutUnreached p q in
      let whole : record r { functions = fs } ≡ record p { functions = marked marks p.functions } = λ i. record (same i) { functions = kept i } in
      subst P (sym whole) marked_dropped

-- a program without its unreached functions is no larger
pub dropped_shrinks : (p q : Program) → IsWithoutUnreached p q → sum_by size_of_function q.functions ≤ sum_by size_of_function p.functions
dropped_shrinks p q w =
    let less = filter_shrinks (λ f. w.keeps f.name) p.functions in
    let same = ap (λ (r : Program). sum_by size_of_function r.functions) w.program in
    omega (arith, less, same)
