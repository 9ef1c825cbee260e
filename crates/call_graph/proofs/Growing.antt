-- A class grows by its next member.
use Rattle.std.proofs.Common.{◌≡◌, ℕ, ◌+◌, ◌<◌, inl, inr, Bool, true, false, List, [], ◌∷◌, ◌++◌, sym, subst, arith}
use Rattle.std.specs.List.{Contains}
use Rattle.std.proofs.lemmas.List.Elements.{Contains-append_left, Contains-push, Contains-push_cases}
use Rattle.std.proofs.lemmas.Bool.Decides.{eqb_tells}
use Rattle.call_graph.specs.Graph.{IsAscending}
use Rattle.call_graph.specs.Firsts.{IsPart, pushed_if}
use Rattle.graph_walk.proofs.Parting.{nothing, here, later}

ascending_push : (xs : List ℕ) (m : ℕ) → IsAscending xs → ((y : ℕ) → Contains xs y → y < m) → IsAscending (xs ++ m ∷ [])
ascending_push [] m up below = (λ y h. let no = nothing y h in elim no [ ], tt)
ascending_push (x ∷ xs) m up below = (
  λ y h. elim (Contains-push_cases xs m y h) [
    | inl old ↦ up.0 y old
    | inr same ↦ let P : ℕ → Type 0 = λ i. x < i in subst P same (below x (here x xs))
  ],
  ascending_push xs m up.1 (λ y h. below y (later x xs y h)),
)

pub part_more : (test : ℕ → Bool) (m : ℕ) (xs : List ℕ) (is : Bool) → test m ≡ is → IsPart test m xs → IsPart test (m + 1) (pushed_if is m xs)
part_more test m xs true e part =
    let P : ℕ → Type 0 = λ i. (i < m + 1) × (test i ≡ true) in
    let Q : ℕ → Type 0 = λ i. Contains (xs ++ m ∷ []) i in
    record {
      ascends = ascending_push xs m part.ascends (λ y h. ((part.exact y).0 h).0);
      exact = λ k. (
        λ h. elim (Contains-push_cases xs m k h) [
          | inl old ↦ let low = ((part.exact k).0 old).0 in (omega (arith, low), ((part.exact k).0 old).1)
          | inr same ↦ subst P same (omega arith, e)
        ],
        λ h. elim (eqb_tells k m) [
          | inl same ↦ subst Q (sym same.1) (Contains-push xs m)
          | inr other ↦ let low = h.0 in Contains-append_left xs (m ∷ []) k ((part.exact k).1 (omega (arith, low, other.1), h.1))
        ],
      );
    }
part_more test m xs false e part =
    let P : ℕ → Type 0 = λ i. test i ≡ false in
    record {
      ascends = part.ascends;
      exact = λ k. (
        λ h. let low = ((part.exact k).0 h).0 in (omega (arith, low), ((part.exact k).0 h).1),
        λ h. elim (eqb_tells k m) [
          | inl same ↦ let off = subst P (sym same.1) e in let on = h.1 in cc (on, off)
          | inr other ↦ let low = h.0 in (part.exact k).1 (omega (arith, low, other.1), h.1)
        ],
      );
    }
