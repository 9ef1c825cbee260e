-- A graph has no more components than nodes, and a program no fewer functions than what is kept of it.
use Rattle.std.proofs.Common.{◌≡◌, ℕ, zero, suc, ◌<◌, ◌≤◌, ◌^◌, inl, inr, Bool, true, false, cond, List, [], ◌∷◌, ◌++◌, length, get_or, refl, sym, ap, subst, arith}
use Rattle.std.specs.List.{filter}
use Rattle.std.proofs.lemmas.Bool.{cases_Bool}
use Rattle.gimple_ir.specs.declared.program.Function.{Function}
use Rattle.gimple_ir.specs.declared.program.Program.{Program}
use Rattle.gimple_core.specs.Reach.{IsWithoutUnreached, with_kept}
use Rattle.call_graph.specs.Calls.{callees_of}
use Rattle.call_graph.specs.Graph.{start, IsOrder, IsOrderAfter}
use Rattle.call_graph.specs.Walk.{unmarked}
use Rattle.call_graph.proofs.Standing.{SayStanding, stood, says_none, says_more, stood_falls}

abbrev unset : ℕ → List Bool
unset zero = []
unset (suc n) = false ∷ unset n

unset_length : (n : ℕ) → length (unset n) ≡ n
unset_length zero = refl
unset_length (suc n) = ap suc (unset_length n)

unset_off : (n a : ℕ) → get_or (unset n) a false ≡ false
unset_off zero a = refl
unset_off (suc n) zero = refl
unset_off (suc n) (suc a) = unset_off n a

unset_left : (n : ℕ) → unmarked (unset n) ≡ n
unset_left zero = refl
unset_left (suc n) = ap suc (unset_left n)

module _ (out : ℕ → List ℕ) (n : ℕ) where
  few_after : (standing : List ℕ) (marks : List Bool) (cs : List (List ℕ)) → SayStanding n standing marks → IsOrderAfter out n standing cs → length cs ≤ unmarked marks
  few_after standing marks [] says h = omega arith
  few_after standing marks (c ∷ cs) says ((a, next, component), rest) =
      let p = next.is_node in
      let off : get_or marks a false ≡ false = elim (cases_Bool (get_or marks a false)) [
        | inl on ↦ let none = next.is_new ((says.exact a p).0 on) in elim none [ ]
        | inr off ↦ off
      ] in
      let falls = stood_falls c marks a (omega (arith, p, says.one_each)) off ((component.exact a).1 (p, (start, start))) in
      let after = few_after (standing ++ c) (stood c marks) cs (says_more n c standing marks (λ b h. ((component.exact b).0 h).0) says) rest in
      omega (arith, falls, after)

  few : (cs : List (List ℕ)) → IsOrder out n cs → length cs ≤ n
  few cs h =
      let says = says_none n (unset n) (unset_length n) (unset_off n) in
      let k = few_after [] (unset n) cs says h in
      omega (arith, k, unset_left n)

pub few_components : (p : Program) (cs : List (List ℕ)) → IsOrder (callees_of p) (length p.functions) cs → length p.functions < 2 ^ 32 → length cs < 2 ^ 32
few_components p cs h k = let l = few (callees_of p) (length p.functions) cs h in omega (arith, k, l)

one_kept : (b : Bool) (f : Function) (fs : List Function) (n : ℕ) → length fs ≤ n → length (cond b (f ∷ fs) fs) ≤ suc n
one_kept true f fs n h = omega (arith, h)
one_kept false f fs n h = omega (arith, h)

few_kept : (keeps : Function → Bool) (fs : List Function) → length (filter keeps fs) ≤ length fs
few_kept keeps [] = omega arith
few_kept keeps (f ∷ fs) = one_kept (keeps f) f (filter keeps fs) (length fs) (few_kept keeps fs)

pub few_functions : (p q : Program) → IsWithoutUnreached p q → length p.functions < 2 ^ 32 → length q.functions < 2 ^ 32
few_functions p q h k =
    let l = few_kept (λ (f : Function). h.keeps f.name) p.functions in
    let kept : length (with_kept h.keeps p).functions < 2 ^ 32 = omega (arith, l, k) in
    subst (λ (r : Program). length r.functions < 2 ^ 32) (sym h.program) kept
