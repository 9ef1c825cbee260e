-- Marks of the nodes that stand: the members of a component stand after they are marked, and fewer nodes are left.
use Rattle.std.proofs.Common.{◌≡◌, ◌↔◌, ℕ, zero, suc, ◌<◌, ◌≤◌, inl, inr, Bool, true, false, List, [], ◌∷◌, ◌++◌, length, set, get_or, sym, ◌∙◌, subst, arith}
use Rattle.std.specs.List.{Contains}
use Rattle.std.proofs.lemmas.List.{get_or-set_same, get_or-set_other}
use Rattle.std.proofs.Math.ListN.{length-set}
use Rattle.std.proofs.lemmas.List.Elements.{Contains-append_left, Contains-append_cases, Contains-push, Contains-push_cases}
use Rattle.std.proofs.lemmas.Bool.Decides.{eqb_tells}
use Rattle.call_graph.specs.Walk.{unmarked}
use Rattle.graph_walk.proofs.Parting.{push_then}
use Rattle.graph_walk.proofs.Parting.{nothing, contains_cases, here, later}
use Rattle.graph_walk.proofs.Walking.{unmarked_set}

-- the marks say which nodes stand
pub record SayStanding (n : ℕ) (standing : List ℕ) (marks : List Bool) : Type 0 where
  pub one_each : length marks ≡ n
  pub exact : (a : ℕ) → a < n → (get_or marks a false ≡ true) ↔ Contains standing a

-- the marks after the members were marked
abbrev pub stood : List ℕ → List Bool → List Bool
stood [] marks = marks
stood (x ∷ xs) marks = stood xs (set marks x true)

-- no node stands
pub says_none : (n : ℕ) (marks : List Bool) → length marks ≡ n → ((a : ℕ) → get_or marks a false ≡ false) → SayStanding n [] marks
says_none n marks len off = record { one_each = len; exact = λ a p. (λ h. let low = off a in cc (h, low), λ h. let no = nothing a h in elim no [ ]) }

says_one : (n : ℕ) (s : List ℕ) (marks : List Bool) (x : ℕ) → x < n → SayStanding n s marks → SayStanding n (s ++ x ∷ []) (set marks x true)
says_one n s marks x low says =
    let P : ℕ → Type 0 = λ i. get_or (set marks x true) i false ≡ true in
    let Q : ℕ → Type 0 = λ i. Contains (s ++ x ∷ []) i in
    let marked : P x = get_or-set_same marks x true false (omega (arith, low, says.one_each)) in
    record {
      one_each = length-set marks x true ∙ says.one_each;
      exact = λ a p. (
        λ h. elim (eqb_tells a x) [
          | inl same ↦ subst Q (sym same.1) (Contains-push s x)
          | inr other ↦ Contains-append_left s (x ∷ []) a ((says.exact a p).0 (sym (get_or-set_other marks x a true false other.1) ∙ h))
        ],
        λ h. elim (Contains-push_cases s x a h) [
          | inl old ↦ elim (eqb_tells a x) [
            | inl same ↦ subst P (sym same.1) marked
            | inr other ↦ get_or-set_other marks x a true false other.1 ∙ (says.exact a p).1 old
          ]
          | inr same ↦ subst P same marked
        ],
      );
    }

pub says_more : (n : ℕ) (members s : List ℕ) (marks : List Bool) → ((b : ℕ) → Contains members b → b < n) → SayStanding n s marks → SayStanding n (s ++ members) (stood members marks)
says_more n [] s marks low says = record {
  one_each = says.one_each;
  exact = λ a p. (
    λ h. Contains-append_left s [] a ((says.exact a p).0 h),
    λ h. elim (Contains-append_cases s [] a h) [ inl k ↦ (says.exact a p).1 k | inr none ↦ let no = nothing a none in elim no [ ] ],
  );
}
says_more n (x ∷ xs) s marks low says =
    let P : List ℕ → Type 0 = λ ys. SayStanding n ys (stood xs (set marks x true)) in
    subst P (push_then s xs x) (says_more n xs (s ++ x ∷ []) (set marks x true) (λ b h. low b (later x xs b h)) (says_one n s marks x (low x (here x xs)) says))

set_less : (xs : List Bool) (m : ℕ) → unmarked (set xs m true) ≤ unmarked xs
set_less [] m = omega arith
set_less (true ∷ xs) zero = omega arith
set_less (false ∷ xs) zero = omega arith
set_less (true ∷ xs) (suc m) = set_less xs m
set_less (false ∷ xs) (suc m) = let h = set_less xs m in omega (arith, h)

stood_less : (members : List ℕ) (marks : List Bool) → unmarked (stood members marks) ≤ unmarked marks
stood_less [] marks = omega arith
stood_less (x ∷ xs) marks = let h = stood_less xs (set marks x true) in let k = set_less marks x in omega (arith, h, k)

pub stood_falls : (members : List ℕ) (marks : List Bool) (a : ℕ) → a < length marks → get_or marks a false ≡ false → Contains members a → unmarked (stood members marks) < unmarked marks
stood_falls [] marks a low off h = let no = nothing a h in elim no [ ]
stood_falls (x ∷ xs) marks a low off h = elim (eqb_tells a x) [
  | inl same ↦
      let P : ℕ → Type 0 = λ i. unmarked (stood xs (set marks i true)) < unmarked marks in
      let k = unmarked_set marks a low off in
      let j = stood_less xs (set marks a true) in
      subst P same.1 (omega (arith, k, j))
  | inr other ↦ elim (contains_cases x xs a h) [
    | inl e ↦ let no = other.1 (sym e) in elim no [ ]
    | inr rest ↦
        let len = length-set marks x true in
        let j = stood_falls xs (set marks x true) a (omega (arith, low, len)) (get_or-set_other marks x a true false other.1 ∙ off) rest in
        let k = set_less marks x in
        omega (arith, j, k)
  ]
]
