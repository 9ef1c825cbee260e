-- Edges turned around, and edges between components.
use Rattle.std.proofs.Common.{◌≡◌, ◌≢◌, ℕ, ◌+◌, ◌<◌, ◌==◌, ◌⊎◌, inl, inr, Bool, true, false, List, [], ◌∷◌, ◌++◌, length, get_or, drop, refl, sym, ◌∙◌, ap, subst, arith, append-nil}
use Rattle.std.specs.List.{Contains}
use Rattle.std.proofs.lemmas.Bool.Decides.{eqb_tells}
use Rattle.std.proofs.lemmas.List.{drop_more}
use Rattle.std.proofs.lemmas.List.Elements.{Contains-append_cases, Contains-append_left, Contains-append_right, Contains-push, Contains-push_cases}
use Rattle.gimple_ir.specs.declared.point.Edge.{Edge}
use Rattle.call_graph.specs.Calls.{callees_in, with_callee}
use Rattle.call_graph.specs.Firsts.{turned, between_firsts, unless_inside, edges_between, AreBetween}
use Rattle.graph_walk.proofs.Parting.{nothing, contains_cases, here, later}

no_edge_in : (e : Edge) → Contains [] e → ⊥
no_edge_in e (k, low, _) = omega (arith, low)

edge_cases : (x : Edge) (xs : List Edge) (y : Edge) → Contains (x ∷ xs) y → (x ≡ y) ⊎ Contains xs y
edge_cases x xs y h = elim (Contains-append_cases (x ∷ []) xs y h) [
  | inl one ↦ elim (Contains-push_cases [] x y one) [ inl (k, low, _) ↦ absurd (omega (arith, low)) | inr e ↦ inl e ]
  | inr rest ↦ inr rest
]

edge_here : (e : Edge) (es : List Edge) → Contains (e ∷ es) e
edge_here e es = Contains-append_left (e ∷ []) es e (Contains-push [] e)

edge_later : (x : Edge) (xs : List Edge) (y : Edge) → Contains xs y → Contains (x ∷ xs) y
edge_later x xs y h = Contains-append_right (x ∷ []) xs y h

callee_cases : (e : Edge) (es : List Edge) (x y : ℕ) → Contains (callees_in (e ∷ es) x) y → ((x ≡ e.caller) × (e.callee ≡ y)) ⊎ Contains (callees_in es x) y
unfolding callees_in
callee_cases e es x y h =
    let P : Bool → Type 0 = λ is. Contains (with_callee is e.callee (callees_in es x)) y in
    elim (eqb_tells x e.caller) [
      | inl same ↦ elim (contains_cases e.callee (callees_in es x) y (subst P same.0 h)) [ inl to ↦ inl (same.1, to) | inr rest ↦ inr rest ]
      | inr other ↦ inr (subst P other.0 h)
    ]

callee_here : (e : Edge) (es : List Edge) → Contains (callees_in (e ∷ es) e.caller) e.callee
unfolding callees_in
callee_here e es =
    let P : Bool → Type 0 = λ is. Contains (with_callee is e.callee (callees_in es e.caller)) e.callee in
    elim (eqb_tells e.caller e.caller) [
      | inl same ↦ subst P (sym same.0) (here e.callee (callees_in es e.caller))
      | inr other ↦ absurd (other.1 refl)
    ]

callee_later : (e : Edge) (es : List Edge) (x y : ℕ) → Contains (callees_in es x) y → Contains (callees_in (e ∷ es) x) y
unfolding callees_in
callee_later e es x y h =
    let P : Bool → Type 0 = λ is. Contains (with_callee is e.callee (callees_in es x)) y in
    elim (eqb_tells x e.caller) [
      | inl same ↦ subst P (sym same.0) (later e.callee (callees_in es x) y h)
      | inr other ↦ subst P (sym other.0) h
    ]

-- an edge that goes from x to y
callee_at : (e : Edge) (es : List Edge) (x y : ℕ) → e.caller ≡ x → e.callee ≡ y → Contains (callees_in (e ∷ es) x) y
callee_at e es x y from to =
    let P : ℕ → Type 0 = λ i. Contains (callees_in (e ∷ es) i) e.callee in
    let Q : ℕ → Type 0 = λ i. Contains (callees_in (e ∷ es) x) i in
    subst Q to (subst P from (callee_here e es))

pub callee_of : (es : List Edge) (e : Edge) → Contains es e → Contains (callees_in es e.caller) e.callee
callee_of [] e h = absurd (no_edge_in e h)
callee_of (d ∷ es) e h = elim (edge_cases d es e h) [
  | inl same ↦ let P : Edge → Type 0 = λ i. Contains (callees_in (d ∷ es) i.caller) i.callee in subst P same (callee_here d es)
  | inr rest ↦ callee_later d es e.caller e.callee (callee_of es e rest)
]

-- an edge from x leads to y
pub edge_of : (es : List Edge) (x y : ℕ) → Contains (callees_in es x) y → (e : Edge) × Contains es e × (e.caller ≡ x) × (e.callee ≡ y)
unfolding callees_in
edge_of [] x y h = absurd (nothing y h)
edge_of (e ∷ es) x y h = elim (callee_cases e es x y h) [
  | inl at ↦ (e, edge_here e es, sym at.0, at.1)
  | inr rest ↦ let found = edge_of es x y rest in (found.0, edge_later e es found.0 found.1, found.2, found.3)
]

pub turned_to : (es : List Edge) (a b : ℕ) → Contains (callees_in es a) b → Contains (callees_in (turned es) b) a
unfolding callees_in turned
turned_to [] a b h = absurd (nothing b h)
turned_to (e ∷ es) a b h =
    let d : Edge = record { caller = e.callee; point = e.point; callee = e.caller } in
    elim (callee_cases e es a b h) [
      | inl at ↦ callee_at d (turned es) b a at.1 (sym at.0)
      | inr rest ↦ callee_later d (turned es) b a (turned_to es a b rest)
    ]

pub turned_from : (es : List Edge) (a b : ℕ) → Contains (callees_in (turned es) b) a → Contains (callees_in es a) b
unfolding callees_in turned
turned_from [] a b h = absurd (nothing a h)
turned_from (e ∷ es) a b h =
    let d : Edge = record { caller = e.callee; point = e.point; callee = e.caller } in
    elim (callee_cases d (turned es) b a h) [
      | inl at ↦ callee_at e es a b at.1 (sym at.0)
      | inr rest ↦ callee_later e es a b (turned_from es a b rest)
    ]

pub turned_begins : (n : ℕ) (es : List Edge) → ((e : Edge) → Contains es e → e.callee < n) → (e : Edge) → Contains (turned es) e → e.caller < n
unfolding turned
turned_begins n [] low e h = absurd (no_edge_in e h)
turned_begins n (d ∷ es) low e h =
    let around : Edge = record { caller = d.callee; point = d.point; callee = d.caller } in
    elim (edge_cases around (turned es) e h) [
      | inl same ↦ let P : Edge → Type 0 = λ i. i.caller < n in subst P same (low d (edge_here d es))
      | inr rest ↦ turned_begins n es (λ x k. low x (edge_later d es x k)) e rest
    ]

module _ (firsts : List ℕ) where
  unless_later : (is : Bool) (e : Edge) (es : List Edge) (r c : ℕ) → Contains (callees_in es r) c → Contains (callees_in (unless_inside is e es) r) c
  unless_later true e es r c h = h
  unless_later false e es r c h = callee_later e es r c h

  unless_cases : (e : Edge) (es : List Edge) (d : Edge) → Contains (unless_inside (get_or firsts e.caller 0 == get_or firsts e.callee 0) (between_firsts firsts e) es) d → (between_firsts firsts e ≡ d) ⊎ Contains es d
  unless_cases e es d h =
      let P : Bool → Type 0 = λ is. Contains (unless_inside is (between_firsts firsts e) es) d in
      elim (eqb_tells (get_or firsts e.caller 0) (get_or firsts e.callee 0)) [
        | inl same ↦ inr (subst P same.0 h)
        | inr other ↦ edge_cases (between_firsts firsts e) es d (subst P other.0 h)
      ]

  pub between_complete : (es : List Edge) (x y : ℕ) → Contains (callees_in es x) y → get_or firsts x 0 ≢ get_or firsts y 0 → Contains (callees_in (edges_between firsts es) (get_or firsts x 0)) (get_or firsts y 0)
  unfolding callees_in edges_between
  between_complete [] x y h apart = absurd (nothing y h)
  between_complete (e ∷ es) x y h apart =
      let rest = edges_between firsts es in
      let first = λ (i : ℕ). get_or firsts i 0 in
      let is = get_or firsts e.caller 0 == get_or firsts e.callee 0 in
      elim (callee_cases e es x y h) [
        | inl at ↦
            let P : Bool → Type 0 = λ b. Contains (callees_in (unless_inside b (between_firsts firsts e) rest) (first x)) (first y) in
            elim (eqb_tells (first e.caller) (first e.callee)) [
              | inl same ↦ absurd (apart (ap first at.0 ∙ same.1 ∙ ap first at.1))
              | inr other ↦ subst P (sym other.0) (callee_at (between_firsts firsts e) rest (first x) (first y) (ap first (sym at.0)) (ap first at.1))
            ]
        | inr old ↦ unless_later is (between_firsts firsts e) rest (first x) (first y) (between_complete es x y old apart)
      ]

  pub between_sound : (es : List Edge) (r c : ℕ) → Contains (callees_in (edges_between firsts es) r) c → (x : ℕ) × (y : ℕ) × Contains (callees_in es x) y × (get_or firsts x 0 ≡ r) × (get_or firsts y 0 ≡ c) × (r ≢ c)
  unfolding callees_in edges_between
  between_sound [] r c h = absurd (nothing c h)
  between_sound (e ∷ es) r c h =
      let rest = edges_between firsts es in
      let P : Bool → Type 0 = λ b. Contains (callees_in (unless_inside b (between_firsts firsts e) rest) r) c in
      elim (eqb_tells (get_or firsts e.caller 0) (get_or firsts e.callee 0)) [
        | inl same ↦ between_later e es r c (between_sound es r c (subst P same.0 h))
        | inr other ↦ elim (callee_cases (between_firsts firsts e) rest r c (subst P other.0 h)) [
          | inl at ↦ (e.caller, e.callee, callee_here e es, sym at.0, at.1, λ q. other.1 (sym at.0 ∙ q ∙ sym at.1))
          | inr old ↦ between_later e es r c (between_sound es r c old)
        ]
      ]
    where
      between_later : (e : Edge) (es : List Edge) (r c : ℕ) → (x : ℕ) × (y : ℕ) × Contains (callees_in es x) y × (get_or firsts x 0 ≡ r) × (get_or firsts y 0 ≡ c) × (r ≢ c) → (x : ℕ) × (y : ℕ) × Contains (callees_in (e ∷ es) x) y × (get_or firsts x 0 ≡ r) × (get_or firsts y 0 ≡ c) × (r ≢ c)
      between_later e es r c (x, y, h, from, to, apart) = (x, y, callee_later e es x y h, from, to, apart)

  pub are_between : (es : List Edge) → AreBetween (callees_in es) firsts (callees_in (edges_between firsts es))
  are_between es = record { complete = λ x y h apart. between_complete es x y h apart; sound = λ r c h. between_sound es r c h }

  pub between_begins : (n : ℕ) (es : List Edge) → ((e : Edge) → Contains es e → e.caller < n) → ((a : ℕ) → a < n → get_or firsts a 0 < n) → (e : Edge) → Contains (edges_between firsts es) e → e.caller < n
  unfolding edges_between
  between_begins n [] low inside e h = absurd (no_edge_in e h)
  between_begins n (d ∷ es) low inside e h = elim (unless_cases d (edges_between firsts es) e h) [
    | inl same ↦ let P : Edge → Type 0 = λ i. i.caller < n in subst P same (inside d.caller (low d (edge_here d es)))
    | inr rest ↦ between_begins n es (λ x k. low x (edge_later d es x k)) inside e rest
  ]

  pub ends_between : (n : ℕ) (es : List Edge) → ((e : Edge) → Contains es e → e.callee < n) → ((a : ℕ) → a < n → get_or firsts a 0 < n) → (r c : ℕ) → Contains (callees_in (edges_between firsts es) r) c → c < n
  ends_between n es low inside r c h =
      let (x, y, edge, from, to, apart) = between_sound es r c h in
      let (e, has, source, target) = edge_of es x y edge in
      let P : ℕ → Type 0 = λ i. i < n in
      let Q : ℕ → Type 0 = λ i. get_or firsts i 0 < n in
      let below = low e has in
      subst P to (inside y (subst P target below))

  between_here : (is : Bool) (xs : List Edge) (e : Edge) (rest : List Edge) → (xs ++ unless_inside is e []) ++ rest ≡ xs ++ unless_inside is e rest
  between_here true xs e rest = ap (λ (ys : List Edge). ys ++ rest) (append-nil xs)
  between_here false [] e rest = refl
  between_here false (x ∷ xs) e rest = λ i. x ∷ between_here false xs e rest i

  pub between_step : (so_far new es : List Edge) (i : ℕ) (d : Edge) → i < length es
      → new ≡ so_far ++ unless_inside (get_or firsts (get_or es i d).caller 0 == get_or firsts (get_or es i d).callee 0) (between_firsts firsts (get_or es i d)) []
      → new ++ edges_between firsts (drop (i + 1) es) ≡ so_far ++ edges_between firsts (drop i es)
  unfolding edges_between
  between_step so_far new es i d inside is =
      let e = get_or es i d in
      let rest = edges_between firsts (drop (i + 1) es) in
      let Q : List Edge → Type 0 = λ xs. new ++ rest ≡ so_far ++ edges_between firsts xs in
      subst Q (sym (drop_more es i d inside)) (ap (λ (ys : List Edge). ys ++ rest) is ∙ between_here (get_or firsts e.caller 0 == get_or firsts e.callee 0) so_far (between_firsts firsts e) rest)
