-- A visit of a node: the edges that are left of it, by the next of them.
use Rattle.std.proofs.Common.{◌≡◌, ◌≢◌, ℕ, ◌+◌, ◌<◌, ◌≤◌, ◌==◌, not, nat_lt, inl, inr, Bool, true, false, List, Option, Some, None, IfSome, length, slice_index, refl, sym, ◌∙◌, ap, subst, arith, eq-eqb}
use Rattle.std.proofs.lemmas.Bool.{cases_Bool, cases_lt, ltb-true, lt-ltb}
use Rattle.std.proofs.lemmas.Bool.Decides.{eqb_tells}
use Rattle.fix_engine.specs.Bools.{and_left, and_right, both}
use Rattle.fix_engine.specs.Lattice.{LatticeLaws}
use Rattle.fix_engine.specs.Least.{Equations, FlowLaws, value_at}
use Rattle.fix_engine.specs.Outgoing.{IsNextFrom}
use Rattle.fix_engine.specs.Solving.{AreSources, Follows, IsVisiting, one_if, work_left, visits_left, follows_left, all_left, some_left, from_next}
use Rattle.fix_engine.proofs.Work.{sum_below_le, sum_below_has}
use Rattle.fix_engine.proofs.Worklist.{one_if_from, visiting_followed, followed_work, followed_visits}

eqb_true : (m n : ℕ) → (m == n) ≡ true → m ≡ n
eqb_true m n h = elim (eqb_tells m n) [ inl same ↦ same.1 | inr other ↦ let o = other.0 in cc (o, h) ]

-- the edges that are left of a visit, by the next of them
at_next : (next : Option ℕ) (sources : List ℕ) (node low : ℕ) → IsNextFrom sources node low next → (d : ℕ) → low ≤ d → d < length sources → slice_index sources d ≡ node → from_next next d ≡ true
at_next None sources node low is d le lt from = absurd (is d le lt from)
at_next (Some e) sources node low is d le lt from =
    elim (cases_Bool (nat_lt d e)) [
      | inl less ↦ absurd (is.none_between d le (ltb-true d e less) from)
      | inr more ↦ rw more refl
    ]

next_at : (next : Option ℕ) (sources : List ℕ) (node low : ℕ) → IsNextFrom sources node low next → (d : ℕ) → from_next next d ≡ true → low ≤ d
next_at None sources node low is d h = cc (h)
next_at (Some e) sources node low is d h =
    elim (cases_lt d e) [
      | inl less ↦ let t = lt-ltb d e less in let n : not (nat_lt d e) ≡ false = ap not t in cc (n, h)
      | inr le ↦ let f = is.from_low in omega (arith, f, le)
    ]

from_itself : (e : ℕ) → from_next (Some e) e ≡ true
from_itself e = elim (cases_Bool (nat_lt e e)) [
  | inl less ↦ absurd (let lt = ltb-true e e less in omega (arith, lt))
  | inr more ↦ rw more refl
]

module _ {V : Type 0} (s : Equations V) (outgoing : List ℕ) (sources : AreSources s outgoing) (node : ℕ) where
  -- at first all edges from the node are left
  pub first_keeps : (next : Option ℕ) → IsNextFrom outgoing node 0 next → (d : ℕ) → d < s.edges → all_left s node d ≡ true → some_left s node next d ≡ true
  first_keeps next is d h all =
      let from : s.source d ≡ node = eqb_true (s.source d) node all in
      both (s.source d == node) (from_next next d) all (at_next next outgoing node 0 is d (omega arith) (omega (arith, h, sources.source_each)) (sources.source_is d h ∙ from))

  pub some_from_all : (next : Option ℕ) (d : ℕ) → some_left s node next d ≡ true → all_left s node d ≡ true
  some_from_all next d some = and_left (s.source d == node) (from_next next d) some

  module _ (e : ℕ) (is_edge : e < s.edges) (is_from : s.source e ≡ node) (after : Option ℕ) (is : IsNextFrom outgoing (slice_index outgoing e) (e + 1) after) where
    next_from : IsNextFrom outgoing node (e + 1) after
    next_from = let P : ℕ → Type 0 = λ n. IsNextFrom outgoing n (e + 1) after in subst P (sources.source_is e is_edge ∙ is_from) is

    pub next_keeps : (d : ℕ) → d < s.edges → d ≢ e → some_left s node (Some e) d ≡ true → some_left s node after d ≡ true
    next_keeps d h other left =
        let from = and_left (s.source d == node) (from_next (Some e) d) left in
        let at = and_right (s.source d == node) (from_next (Some e) d) left in
        let le = from_some d at in
        both (s.source d == node) (from_next after d) from (at_next after outgoing node (e + 1) next_from d (omega (arith, le, other)) (omega (arith, h, sources.source_each)) (sources.source_is d h ∙ eqb_true (s.source d) node from))
      where
        from_some : (d : ℕ) → not (nat_lt d e) ≡ true → e ≤ d
        from_some d at = elim (cases_lt d e) [
          | inl less ↦ let t = ap not (lt-ltb d e less) in cc (t, at)
          | inr le ↦ le
        ]

    pub next_had : some_left s node (Some e) e ≡ true
    next_had = both (s.source e == node) (from_next (Some e) e) (eq-eqb (s.source e) node is_from) (from_itself e)

    pub next_has_not : some_left s node after e ≡ false
    next_has_not = elim (cases_Bool (some_left s node after e)) [
      | inl yet ↦ absurd (let le = next_at after outgoing node (e + 1) next_from e (and_right (s.source e == node) (from_next after e) yet) in omega (arith, le))
      | inr gone ↦ gone
    ]

    pub next_fewer : (d : ℕ) → d < s.edges → some_left s node after d ≡ true → some_left s node (Some e) d ≡ true
    next_fewer d h left =
        let at = next_at after outgoing node (e + 1) next_from d (and_right (s.source d == node) (from_next after d) left) in
        both (s.source d == node) (not (nat_lt d e)) (and_left (s.source d == node) (from_next after d) left) (elim (cases_Bool (nat_lt d e)) [
          | inl less ↦ absurd (let lt = ltb-true d e less in omega (arith, lt, at))
          | inr more ↦ rw more refl
        ])

-- the next edge is an edge from the node
next_edge : {V : Type 0} (s : Equations V) (outgoing : List ℕ) → AreSources s outgoing → (node low : ℕ) (next : Option ℕ) → IsNextFrom outgoing node low next → IfSome next (λ e. e < s.edges)
next_edge s outgoing sources node low None is = tt
next_edge s outgoing sources node low (Some e) is = let h = is.in_range in omega (arith, h, sources.source_each)

next_source : {V : Type 0} (s : Equations V) (outgoing : List ℕ) → AreSources s outgoing → (node low : ℕ) (next : Option ℕ) → IsNextFrom outgoing node low next → IfSome next (λ e. s.source e ≡ node)
next_source s outgoing sources node low None is = tt
next_source s outgoing sources node low (Some e) is = sym (sources.source_is e (let h = is.in_range in omega (arith, h, sources.source_each))) ∙ is.is_from

-- what holds where the next edge of a visit is known
pub record IsAtEdge {V : Type 0} (fits : List ℕ → V → Type 0) (rank : List ℕ → V → ℕ) (below : V → V → Bool) (k : List ℕ) (s : Equations V) (node : ℕ) (next : Option ℕ) (xs : List V) (waits : List Bool) : Type 0 where
  pub is_edge : IfSome next (λ e. e < s.edges)
  pub is_from : IfSome next (λ e. s.source e ≡ node)
  pub state : IsVisiting (fits k) below s xs waits (some_left s node next)

module _ {V : Type 0} {fits : List ℕ → V → Type 0} {height : List ℕ → ℕ} {rank : List ℕ → V → ℕ} {below : V → V → Bool} {joined : V → V → V}
    (lat : LatticeLaws fits height rank below joined) (k : List ℕ) (s : Equations V) (flow : FlowLaws (fits k) below s)
    (outgoing : List ℕ) (sources : AreSources s outgoing) (node : ℕ) (xs : List V) (waits : List Bool) where
  pub visit_first : IsVisiting (fits k) below s xs waits (all_left s node) → (next : Option ℕ) → IsNextFrom outgoing node 0 next
      → IsAtEdge fits rank below k s node next xs waits
      × (work_left (rank k) s xs (follows_left s waits (some_left s node next)) ≤ work_left (rank k) s xs (follows_left s waits (all_left s node)))
  visit_first state next is = (
    record {
      is_edge = next_edge s outgoing sources node 0 next is;
      is_from = next_source s outgoing sources node 0 next is;
      state = record {
        between = state.between;
        waits_each = state.waits_each;
        pending = λ e h. elim (state.pending e h) [
          | inl yet ↦ elim yet [
            | inl waiting ↦ inl (inl waiting)
            | inr all ↦ inl (inr (first_keeps s outgoing sources node next is e h all))
          ]
          | inr satisfied ↦ inr satisfied
        ];
      };
    },
    sum_below_le (λ e. rank k (value_at s xs (s.source e)) + follows_left s waits (all_left s node) e) (λ e. rank k (value_at s xs (s.source e)) + follows_left s waits (some_left s node next) e) s.edges
        (λ e h. let l = one_if_from (some_left s node next e) (all_left s node e) (some_from_all s outgoing sources node next e) in omega (arith, l)),
  )

  -- where an edge is next, work is left
  pub visit_work : (next : Option ℕ) → IsAtEdge fits rank below k s node next xs waits → (e : ℕ) → next ≡ Some e
      → 0 < work_left (rank k) s xs (follows_left s waits (some_left s node next))
  visit_work next at e next_is =
      let A : Option ℕ → Type 0 = λ o. IsAtEdge fits rank below k s node o xs waits in
      let here = subst A next_is at in
      let W : Option ℕ → Type 0 = λ o. 0 < work_left (rank k) s xs (follows_left s waits (some_left s node o)) in
      let left = ap one_if (both (s.source e == node) (from_next (Some e) e) (eq-eqb (s.source e) node here.is_from) (from_itself e)) in
      let has = sum_below_has (λ d. rank k (value_at s xs (s.source d)) + follows_left s waits (some_left s node (Some e)) d) s.edges e here.is_edge in
      subst W (sym next_is) (omega (arith, left, has))

  pub visit_next : (next : Option ℕ) → IsAtEdge fits rank below k s node next xs waits → (e : ℕ) → next ≡ Some e
      → (ys : List V) (marked : List Bool) → Follows below joined s e xs waits ys marked
      → (after : Option ℕ) → IsNextFrom outgoing (slice_index outgoing e) (e + 1) after
      → IsAtEdge fits rank below k s node after ys marked
      × (work_left (rank k) s ys (follows_left s marked (some_left s node after)) < work_left (rank k) s xs (follows_left s waits (some_left s node next)))
      × (visits_left (rank k) s ys marked ≤ visits_left (rank k) s xs waits)
  visit_next next at e next_is ys marked follows after is =
      let A : Option ℕ → Type 0 = λ o. IsAtEdge fits rank below k s node o xs waits in
      let here = subst A next_is at in
      let from = next_from s outgoing sources node e here.is_edge here.is_from after is in
      let W : Option ℕ → Type 0 = λ o. work_left (rank k) s ys (follows_left s marked (some_left s node after)) < work_left (rank k) s xs (follows_left s waits (some_left s node o)) in (
        record {
          is_edge = next_edge s outgoing sources node (e + 1) after from;
          is_from = next_source s outgoing sources node (e + 1) after from;
          state = visiting_followed lat k s flow xs waits (some_left s node (Some e)) here.state e here.is_edge ys marked follows (some_left s node after)
              (next_keeps s outgoing sources node e here.is_edge here.is_from after is);
        },
        subst W (sym next_is) (followed_work lat k s flow xs waits (some_left s node (Some e)) here.state e here.is_edge ys marked follows (some_left s node after)
            (next_had s outgoing sources node e here.is_edge here.is_from after is) (next_has_not s outgoing sources node e here.is_edge here.is_from after is)
            (next_fewer s outgoing sources node e here.is_edge here.is_from after is)),
        followed_visits lat k s flow xs waits (some_left s node (Some e)) here.state e here.is_edge ys marked follows (some_left s node after),
      )
