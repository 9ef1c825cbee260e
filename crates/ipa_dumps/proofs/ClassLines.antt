-- The members of classes are found function by function, and so are the lines.
use Rattle.std.proofs.Common.{◌≡◌, ℕ, zero, suc, ◌+◌, ◌<◌, ◌≤◌, ◌==◌, Bool, true, false, if◌then◌else◌, List, [], ◌∷◌, ◌++◌, length, get_or, set, take, length-take, drop, drop-cons, add-one, append_assoc, append-nil, refl, sym, ap, ◌∙◌, arith, inl, inr, true≢false}
use Rattle.std.proofs.lemmas.Bool.{cases_Bool, eqb-true, eq-eqb}
use Rattle.std.proofs.lemmas.List.{take_more, get_or_default, get_or-set_same, get_or-set_other, length-set}
use Rattle.gimple_ir.specs.declared.program.Program.{Program}
use Rattle.ipa_dumps.specs.Classes.{members_from, class_at, classes_from}
use Rattle.ipa_dumps.specs.Groups.{AreGroups}

-- ---- members

abbrev pub here : ℕ → ℕ → ℕ → List ℕ
here c class k = if c == class then k ∷ [] else []

one_member : (c class k : ℕ) (b : Bool) → (c == class) ≡ b → members_from (c ∷ []) class k ≡ (if b then k ∷ [] else [])
unfolding members_from
one_member c class k true e = rw e refl
one_member c class k false e = rw e refl

no_member : (class k : ℕ) → members_from [] class k ≡ []
unfolding members_from
no_member class k = refl

step_member : (c : ℕ) (cs : List ℕ) (class k : ℕ) (b : Bool) → (c == class) ≡ b → members_from (c ∷ cs) class k ≡ (if b then k ∷ members_from cs class (k + 1) else members_from cs class (k + 1))
unfolding members_from
step_member c cs class k b e = rw e refl

shift : (k n : ℕ) → k + 1 + n ≡ k + suc n
shift k n = omega arith

zero_plus : (n : ℕ) → 0 + n ≡ n
zero_plus n = omega arith

stays : (k : ℕ) → k ≡ k + 0
stays k = omega arith

pub members_push : (cs : List ℕ) (c class k : ℕ) (b : Bool) → (c == class) ≡ b → members_from (cs ++ c ∷ []) class k ≡ members_from cs class k ++ (if b then (k + length cs) ∷ [] else [])
members_push [] c class k b e = one_member c class k b e ∙ (rw (no_member class k) (ap (λ n. if b then n ∷ [] else []) (stays k)))
members_push (x ∷ cs) c class k b e = elim (cases_Bool (x == class)) [
  | inl on ↦
      step_member x (cs ++ c ∷ []) class k true on
      ∙ (ap (λ rest. k ∷ rest) (members_push cs c class (k + 1) b e ∙ ap (λ n. members_from cs class (k + 1) ++ (if b then n ∷ [] else [])) (shift k (length cs)))
      ∙ sym (ap (λ ms. ms ++ (if b then (k + suc (length cs)) ∷ [] else [])) (step_member x cs class k true on)))
  | inr off ↦
      step_member x (cs ++ c ∷ []) class k false off
      ∙ (members_push cs c class (k + 1) b e ∙ ap (λ n. members_from cs class (k + 1) ++ (if b then n ∷ [] else [])) (shift k (length cs))
      ∙ sym (ap (λ ms. ms ++ (if b then (k + suc (length cs)) ∷ [] else [])) (step_member x cs class k false off)))
]

pub empties_push : (xs : List (List ℕ)) → ((class : ℕ) → get_or xs class [] ≡ []) → (class : ℕ) → get_or (xs ++ [] ∷ []) class [] ≡ []
empties_push [] h zero = refl
empties_push [] h (suc class) = refl
empties_push (x ∷ xs) h zero = h zero
empties_push (x ∷ xs) h (suc class) = empties_push xs (λ k. h (suc k)) class

-- no function yet
pub no_groups : (n : ℕ) (groups : List (List ℕ)) → length groups ≡ n → ((class : ℕ) → get_or groups class [] ≡ []) → AreGroups [] n groups
no_groups n groups count none = record { count = count; each = λ class h. none class ∙ sym (no_member class 0) }

module _ (classes : List ℕ) (n i class : ℕ) (groups : List (List ℕ)) (are : AreGroups (take i classes) n groups) (low : i < length classes) (is : class ≡ get_or classes i i) (within : class < n) where
  abbrev more : List (List ℕ)
  more = set groups class (get_or groups class [] ++ i ∷ [])

  taken : take (i + 1) classes ≡ take i classes ++ class ∷ []
  taken = take_more classes i i low ∙ ap (λ c. take i classes ++ c ∷ []) (sym is)

  long : length (take i classes) ≡ i
  long = let l = length-take i classes in omega (arith, l, low)

  at : (other : ℕ) (b : Bool) → (class == other) ≡ b → members_from (take (i + 1) classes) other 0 ≡ members_from (take i classes) other 0 ++ (if b then i ∷ [] else [])
  at other b e =
      ap (λ cs. members_from cs other 0) taken
      ∙ (members_push (take i classes) class other 0 b e
      ∙ ap (λ m. members_from (take i classes) other 0 ++ (if b then m ∷ [] else [])) (zero_plus (length (take i classes)) ∙ long))

  in_range : class < length groups
  in_range = let c = are.count in omega (arith, c, within)

  pub group_more : AreGroups (take (i + 1) classes) n more
  group_more = record {
    count = length-set groups class (get_or groups class [] ++ i ∷ []) ∙ are.count;
    each = λ other h. elim (cases_Bool (class == other)) [
      | inl on ↦
          let same : class ≡ other = eqb-true class other on in
          ap (λ o. get_or more o []) (sym same)
          ∙ (get_or-set_same groups class (get_or groups class [] ++ i ∷ []) [] in_range
          ∙ (ap (λ ms. ms ++ i ∷ []) (are.each class within ∙ ap (λ o. members_from (take i classes) o 0) same)
          ∙ sym (at other true on)))
      | inr off ↦
          get_or-set_other groups class other (get_or groups class [] ++ i ∷ []) [] (λ e. true≢false (sym (eq-eqb class other (sym e)) ∙ off))
          ∙ (are.each other h ∙ (sym (append-nil (members_from (take i classes) other 0)) ∙ sym (at other false off)))
    ];
  }

-- ---- lines

first_line : (p : Program) (classes : List ℕ) (k c : ℕ) (cs : List ℕ) → classes_from p classes k (c ∷ cs) ≡ class_at p c k (members_from classes c 0) ++ classes_from p classes (k + 1) cs
unfolding classes_from
first_line p classes k c cs = refl

no_line : (p : Program) (classes : List ℕ) (k : ℕ) → classes_from p classes k [] ≡ []
unfolding classes_from
no_line p classes k = refl

pub one_more_class : (p : Program) (classes : List ℕ) (k c : ℕ) (text : List ℕ) → k < length classes → c ≡ get_or classes k k
    → (text ++ class_at p c k (members_from classes c 0)) ++ classes_from p classes (k + 1) (drop (k + 1) classes) ≡ text ++ classes_from p classes k (drop k classes)
one_more_class p classes k c text h is =
    let d : drop k classes ≡ c ∷ drop (k + 1) classes = rw add-one (drop-cons classes k k h ∙ ap (λ x. x ∷ drop (suc k) classes) (sym is)) in
    rw (d, first_line p classes k c (drop (k + 1) classes)) (append_assoc text (class_at p c k (members_from classes c 0)) (classes_from p classes (k + 1) (drop (k + 1) classes)))

pub no_more_classes : (p : Program) (classes : List ℕ) (k : ℕ) (text : List ℕ) → drop k classes ≡ [] → text ++ classes_from p classes k (drop k classes) ≡ text
no_more_classes p classes k text e = rw (e, no_line p classes k) (append-nil text)

-- a row that was found has the members of its class
pub group_at : (classes : List ℕ) (n : ℕ) (groups : List (List ℕ)) (class : ℕ) (row : List ℕ) → AreGroups classes n groups → class < n → row ≡ get_or groups class row → row ≡ members_from classes class 0
group_at classes n groups class row are h is =
    let c = are.count in
    is ∙ (get_or_default groups class row [] (omega (arith, c, h)) ∙ are.each class h)
