-- Lists of items by numbers, one item put in after another.
use Rattle.std.proofs.Common.{◌≡◌, ℕ, zero, suc, ◌+◌, ◌<◌, ◌==◌, ◌⊎◌, inl, inr, Bool, true, false, List, [], ◌∷◌, ◌++◌, length, get_or, set, Contains, refl, sym, ◌∙◌, ap, subst, arith, length-set, get_or-set_same, get_or-set_other}
use Rattle.std.proofs.lemmas.Bool.{eqb-true, eq-eqb, cases_lt, true≢false}
use Rattle.std.proofs.lemmas.List.Elements.{Contains-append_left, Contains-push, Contains-push_cases}
use Rattle.partition_refinement.specs.Relations.{class_of, row_of}
use Rattle.partition_refinement.specs.Coarsest.{Below}
use Rattle.partition_refinement.specs.Splitting.{IsIn, AddsCaller, AreCallers, Gathers, AreMembers, IsGrouping}

-- ---- one list

pub contains_none : (x : ℕ) → Contains [] x → ⊥
contains_none x c = let l = c.1 in absurd (omega (arith, l))

pub eq_cases : (a b : ℕ) → (a ≡ b) ⊎ (a ≡ b → ⊥)
eq_cases a b = by (a == b) refl
  where
    by : (r : Bool) → (a == b) ≡ r → (a ≡ b) ⊎ (a ≡ b → ⊥)
    by true e = inl (eqb-true a b e)
    by false e = inr (λ same. true≢false (sym (eq-eqb a b same) ∙ e))

pub contains_head : (x : ℕ) (xs : List ℕ) → Contains (x ∷ xs) x
contains_head x xs = (0, omega arith, refl)

pub contains_tail : (y : ℕ) (xs : List ℕ) (x : ℕ) → Contains xs x → Contains (y ∷ xs) x
contains_tail y xs x (k, l, e) = (suc k, omega (arith, l), e)

pub contains_parts : (y : ℕ) (xs : List ℕ) (x : ℕ) → Contains (y ∷ xs) x → (y ≡ x) ⊎ Contains xs x
contains_parts y xs x (zero, l, e) = inl e
contains_parts y xs x (suc k, l, e) = inr (k, omega (arith, l), e)

pub contains_or : (xs : List ℕ) (x : ℕ) → Contains xs x ⊎ (Contains xs x → ⊥)
contains_or [] x = inr (contains_none x)
contains_or (y ∷ xs) x = elim (eq_cases y x) [
  | inl e ↦ inl (subst (Contains (y ∷ xs)) e (contains_head y xs))
  | inr n ↦ elim (contains_or xs x) [
    | inl c ↦ inl (contains_tail y xs x c)
    | inr m ↦ inr (λ c. elim (contains_parts y xs x c) [ inl e ↦ n e | inr d ↦ m d ])
  ]
]

pub below_in : (n : ℕ) (xs : List ℕ) → Below n xs → (x : ℕ) → Contains xs x → x < n
below_in n [] b x c = absurd (contains_none x c)
below_in n (y ∷ xs) b x c = elim (contains_parts y xs x c) [ inl e ↦ let l = b.0 in omega (arith, l, e) | inr d ↦ below_in n xs b.1 x d ]

-- ---- an item put into a list

module _ (lists : List (List ℕ)) (at item : ℕ) (within : at < length lists) where
  abbrev after : List (List ℕ)
  after = set lists at (row_of lists at ++ item ∷ [])

  pub put_here : row_of (set lists at (row_of lists at ++ item ∷ [])) at ≡ row_of lists at ++ item ∷ []
  put_here = get_or-set_same lists at (row_of lists at ++ item ∷ []) [] within

  put_other : (e : ℕ) → (e ≡ at → ⊥) → row_of (set lists at (row_of lists at ++ item ∷ [])) e ≡ row_of lists e
  put_other e n = get_or-set_other lists at e (row_of lists at ++ item ∷ []) [] n

  pub put_keeps : (e x : ℕ) → IsIn lists e x → IsIn (set lists at (row_of lists at ++ item ∷ [])) e x
  put_keeps e x c = elim (eq_cases e at) [
    | inl s ↦
        let here : Contains (row_of lists at) x = subst (λ z. Contains (row_of lists z) x) s c in
        subst (λ z. IsIn (set lists at (row_of lists at ++ item ∷ [])) z x) (sym s) (subst (λ l. Contains l x) (sym put_here) (Contains-append_left (row_of lists at) (item ∷ []) x here))
    | inr n ↦ subst (λ l. Contains l x) (sym (put_other e n)) c
  ]

  pub put_new : IsIn (set lists at (row_of lists at ++ item ∷ [])) at item
  put_new = subst (λ l. Contains l item) (sym put_here) (Contains-push (row_of lists at) item)

  pub put_cases : (e x : ℕ) → IsIn (set lists at (row_of lists at ++ item ∷ [])) e x → IsIn lists e x ⊎ ((x ≡ item) × (e ≡ at))
  put_cases e x c = elim (eq_cases e at) [
    | inl s ↦
        let here : Contains (row_of (set lists at (row_of lists at ++ item ∷ [])) at) x = subst (λ z. IsIn (set lists at (row_of lists at ++ item ∷ [])) z x) s c in
        elim (Contains-push_cases (row_of lists at) item x (subst (λ l. Contains l x) put_here here)) [
          | inl d ↦ inl (subst (λ z. IsIn lists z x) (sym s) d)
          | inr e2 ↦ inr (sym e2, s)
        ]
    | inr n ↦ inl (subst (λ l. Contains l x) (put_other e n) c)
  ]

-- ---- callers

pub no_caller : (lists : List (List ℕ)) (item : ℕ) → AddsCaller lists item [] lists
no_caller lists item = record {
  count = refl;
  keeps = λ e x c. c;
  found = λ e c. absurd (contains_none e c);
  only = λ e x c. inl c;
}

pub caller_more : (old : List (List ℕ)) (item : ℕ) (row : List ℕ) (lists : List (List ℕ)) (at : ℕ) → AddsCaller old item row lists → at < length lists → AddsCaller old item (row ++ at ∷ []) (set lists at (row_of lists at ++ item ∷ []))
caller_more old item row lists at adds within = record {
  count = length-set lists at (row_of lists at ++ item ∷ []) ∙ adds.count;
  keeps = λ e x c. put_keeps lists at item within e x (adds.keeps e x c);
  found = λ e c. elim (Contains-push_cases row at e c) [
    | inl d ↦ put_keeps lists at item within e item (adds.found e d)
    | inr s ↦ subst (λ z. IsIn (set lists at (row_of lists at ++ item ∷ [])) z item) s (put_new lists at item within)
  ];
  only = λ e x c. elim (put_cases lists at item within e x c) [
    | inl d ↦ elim (adds.only e x d) [
      | inl f ↦ inl f
      | inr (s, t) ↦ inr (s, Contains-append_left row (at ∷ []) e t)
    ]
    | inr (s, t) ↦ inr (s, subst (Contains (row ++ at ∷ [])) (sym t) (Contains-push row at))
  ];
}

pub no_callers : (rows lists : List (List ℕ)) → ((e : ℕ) → row_of lists e ≡ []) → AreCallers rows 0 lists
no_callers rows lists none = record {
  found = λ x e l c. absurd (omega (arith, l));
  only = λ e x c. absurd (contains_none x (subst (λ l. Contains l x) (none e) c));
}

pub callers_more : (rows old : List (List ℕ)) (n : ℕ) (new : List (List ℕ)) → AreCallers rows n old → AddsCaller old n (row_of rows n) new → AreCallers rows (n + 1) new
callers_more rows old n new are adds = record {
  found = λ x e l c. elim (cases_lt x n) [
    | inl m ↦ adds.keeps e x (are.found x e m c)
    | inr m ↦
        let same : x ≡ n = omega (arith, l, m) in
        subst (IsIn new e) (sym same) (adds.found e (subst (λ z. Contains (row_of rows z) e) same c))
  ];
  only = λ e x c. elim (adds.only e x c) [
    | inl d ↦ let low = (are.only e x d).0 in (omega (arith, low), (are.only e x d).1)
    | inr (s, t) ↦ (omega (arith, s), subst (λ z. Contains (row_of rows z) e) (sym s) t)
  ];
}

-- ---- what items lead to

pub gathers_none : (leads : ℕ → ℕ → Type 0) (old : List ℕ) → Gathers leads [] old old
gathers_none leads old = record {
  keeps = λ x c. c;
  found = λ item x c h. absurd (contains_none item c);
  only = λ x c. inl c;
}

pub gathers_more : (leads : ℕ → ℕ → Type 0) (items : List ℕ) (y : ℕ) (old between new : List ℕ) → Gathers leads items old between
    → ((x : ℕ) → Contains between x → Contains new x) → ((x : ℕ) → leads y x → Contains new x) → ((x : ℕ) → Contains new x → Contains between x ⊎ leads y x)
    → Gathers leads (items ++ y ∷ []) old new
gathers_more leads items y old between new gathers keeps found only = record {
  keeps = λ x c. keeps x (gathers.keeps x c);
  found = λ item x c h. elim (Contains-push_cases items y item c) [
    | inl d ↦ keeps x (gathers.found item x d h)
    | inr s ↦ found x (subst (λ z. leads z x) (sym s) h)
  ];
  only = λ x c. elim (only x c) [
    | inl d ↦ elim (gathers.only x d) [
      | inl e ↦ inl e
      | inr f ↦ inr (record { item = f.item; there = Contains-append_left items (y ∷ []) f.item f.there; leads_here = f.leads_here })
    ]
    | inr h ↦ inr (record { item = y; there = Contains-push items y; leads_here = h })
  ];
}

-- ---- groups

pub no_groups : (items numbers : List ℕ) (lists : List (List ℕ)) → ((e : ℕ) → row_of lists e ≡ []) → IsGrouping items numbers 0 lists
no_groups items numbers lists none = record {
  found = λ k l. absurd (omega (arith, l));
  only = λ g x c. absurd (contains_none x (subst (λ l. Contains l x) (none g) c));
}

pub groups_more : (items numbers : List ℕ) (n at item : ℕ) (lists : List (List ℕ)) → IsGrouping items numbers n lists → at ≡ get_or numbers n 0 → item ≡ get_or items n 0 → at < length lists
    → IsGrouping items numbers (n + 1) (set lists at (row_of lists at ++ item ∷ []))
groups_more items numbers n at item lists grouping e f within = record {
  found = λ k l. elim (cases_lt k n) [
    | inl m ↦ put_keeps lists at item within (get_or numbers k 0) (get_or items k 0) (grouping.found k m)
    | inr m ↦
        let same : n ≡ k = omega (arith, l, m) in
        let here : at ≡ get_or numbers k 0 = e ∙ ap (λ z. get_or numbers z 0) same in
        let there : item ≡ get_or items k 0 = f ∙ ap (λ z. get_or items z 0) same in
        subst (λ z. IsIn (set lists at (row_of lists at ++ item ∷ [])) z (get_or items k 0)) here (subst (IsIn (set lists at (row_of lists at ++ item ∷ [])) at) there (put_new lists at item within))
  ];
  only = λ g x c. elim (put_cases lists at item within g x c) [
    | inl d ↦ let before = grouping.only g x d in let low = before.1 in (before.0, omega (arith, low), before.2, before.3)
    | inr (s, t) ↦ (n, omega arith, sym e ∙ sym t, sym f ∙ sym s)
  ];
}

-- ---- members

pub no_members : (classes : List ℕ) (lists : List (List ℕ)) → AreMembers classes lists 0
no_members classes lists = record { within = λ x l. absurd (omega (arith, l)); inside = λ x l. absurd (omega (arith, l)) }

pub members_more : (classes : List ℕ) (n class : ℕ) (lists : List (List ℕ)) → AreMembers classes lists n → class ≡ class_of classes n → class < length lists → AreMembers classes (set lists class (row_of lists class ++ n ∷ [])) (n + 1)
members_more classes n class lists are e within =
    let size = length-set lists class (row_of lists class ++ n ∷ []) in
    record {
      within = λ x l. elim (cases_lt x n) [
        | inl m ↦ let low = are.within x m in omega (arith, low, size)
        | inr m ↦
            let same : n ≡ x = omega (arith, l, m) in
            let here : class ≡ class_of classes x = e ∙ ap (class_of classes) same in
            omega (arith, here, within, size)
      ];
      inside = λ x l. elim (cases_lt x n) [
        | inl m ↦ put_keeps lists class n within (class_of classes x) x (are.inside x m)
        | inr m ↦
            let same : n ≡ x = omega (arith, l, m) in
            subst (λ z. IsIn (set lists class (row_of lists class ++ n ∷ [])) (class_of classes z) z) same (subst (λ z. IsIn (set lists class (row_of lists class ++ n ∷ [])) z n) e (put_new lists class n within))
      ];
    }
