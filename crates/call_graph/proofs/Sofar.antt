-- The order so far goes on, and the next component is the first one that is ready.
use Rattle.std.proofs.Common.{◌≡◌, ℕ, ◌<◌, ◌≤◌, ◌==◌, inl, inr, Bool, true, false, List, [], ◌∷◌, ◌++◌, length, set, get_or, refl, sym, ◌∙◌, ap, subst, arith, Vec}
use Rattle.std.specs.declared.alloc.Global.{Global}
use Rattle.std.specs.List.{Contains}
use Rattle.std.proofs.lemmas.Bool.{cases_Bool, cases_lt}
use Rattle.std.proofs.lemmas.Bool.Decides.{eqb_tells}
use Rattle.std.proofs.lemmas.List.{get_or-set_same, get_or-set_other}
use Rattle.std.proofs.lemmas.List.Elements.{Contains-append_left, Contains-append_right, Contains-append_cases}
use Rattle.fix_engine.specs.Marks.{IsFirstMark}
use Rattle.gimple_ir.specs.declared.point.Edge.{Edge}
use Rattle.call_graph.specs.Calls.{callees_in}
use Rattle.call_graph.specs.Graph.{start, AreMutual, IsReady, IsNext, IsComponent, IsOrder, IsOrderAfter}
use Rattle.call_graph.specs.Firsts.{AreFirsts, AreBetween, IsFirst, IsPart, edges_between}
use Rattle.call_graph.specs.Queue.{SayStanding, IsQueue, Waits, flat}
use Rattle.call_graph.specs.Walk.{row_at, unmarked}
use Rattle.graph_walk.proofs.Parting.{nothing}
use Rattle.call_graph.proofs.Choosing.{all_stand, marks_found}
use Rattle.graph_walk.proofs.Leading.{leads_inside, mutual_then, mutual_back}
use Rattle.graph_walk.proofs.Walking.{marked_inside, unmarked_set}
use Rattle.call_graph.proofs.Edging.{edge_of, are_between}

none_after : {X : Type 0} (xs : List X) → xs ++ [] ≡ xs
none_after [] = refl
none_after (x ∷ xs) = λ i. x ∷ none_after xs i

appended : (xs ys zs : List ℕ) → xs ++ (ys ++ zs) ≡ (xs ++ ys) ++ zs
appended [] ys zs = refl
appended (x ∷ xs) ys zs = λ i. x ∷ appended xs ys zs i

class_here : (xs : List (List ℕ)) (c : List ℕ) (cs : List (List ℕ)) → (xs ++ c ∷ []) ++ cs ≡ xs ++ c ∷ cs
class_here [] c cs = refl
class_here (x ∷ xs) c cs = λ i. x ∷ class_here xs c cs i

flat_push : (xs : List (List ℕ)) (c : List ℕ) → flat (xs ++ c ∷ []) ≡ flat xs ++ c
flat_push [] c = none_after c
flat_push (x ∷ xs) c = ap (λ (ys : List ℕ). x ++ ys) (flat_push xs c) ∙ appended x (flat xs) c

-- ---- the components by their first nodes

module _ (out : ℕ → List ℕ) (n : ℕ) (ends : (x y : ℕ) → Contains (out x) y → y < n) (firsts : List ℕ) (are : AreFirsts out n firsts) where
  same_first : (a b : ℕ) → a < n → b < n → AreMutual out a b → get_or firsts a 0 ≡ get_or firsts b 0
  same_first a b p q both =
      let fa = get_or firsts a 0 in
      let fb = get_or firsts b 0 in
      let to_b = are.of_component b q in
      let to_a = are.of_component a p in
      let low = are.least a fb p (mutual_then out a b fb both to_b) (leads_inside out n ends b fb q to_b.0) in
      let high = are.least b fa q (mutual_then out b a fa (mutual_back out a b both) to_a) (leads_inside out n ends a fa p to_a.0) in
      omega (arith, low, high)

  pub first_inside : (a : ℕ) → a < n → get_or firsts a 0 < n
  first_inside a p = leads_inside out n ends a (get_or firsts a 0) p (are.of_component a p).0

  first_first : (a : ℕ) → a < n → IsFirst firsts (get_or firsts a 0)
  first_first a p =
      let fa = get_or firsts a 0 in
      let q = first_inside a p in
      (omega (arith, q, are.one_each), sym (same_first a fa p q (are.of_component a p)))

  same_component : (a b : ℕ) → a < n → b < n → get_or firsts a 0 ≡ get_or firsts b 0 → AreMutual out a b
  same_component a b p q same =
      let P : ℕ → Type 0 = λ i. AreMutual out a i in
      let fb = get_or firsts b 0 in
      mutual_then out a fb b (subst P same (are.of_component a p)) (mutual_back out b fb (are.of_component b q))

  first_below : (a : ℕ) → a < n → get_or firsts a 0 ≤ a
  first_below a p = are.least a a p (start, start) p

  -- the members of the component of a first node
  pub component_is : (a : ℕ) (members : List ℕ) → IsFirst firsts a → IsPart (λ m. a == get_or firsts m 0) (length firsts) members → IsComponent out n a members
  component_is a members first part =
      let low = first.0 in
      let p : a < n = omega (arith, low, are.one_each) in
      record {
        ascends = part.ascends;
        exact = λ m. (
          λ h.
              let both = (part.exact m).0 h in
              let below = both.0 in
              let q : m < n = omega (arith, below, are.one_each) in
              let is = both.1 in
              (q, same_component a m p q (first.1 ∙ told a (get_or firsts m 0) is)),
          λ h. let q = h.0 in (part.exact m).1 (omega (arith, q, are.one_each), tells a (get_or firsts m 0) (sym first.1 ∙ same_first a m p h.0 h.1)),
        );
      }
    where
      told : (a b : ℕ) → (a == b) ≡ true → a ≡ b
      told a b is = elim (eqb_tells a b) [ inl same ↦ same.1 | inr other ↦ let off = other.0 in cc (is, off) ]

      tells : (a b : ℕ) → a ≡ b → (a == b) ≡ true
      tells a b is = elim (eqb_tells a b) [ inl same ↦ same.0 | inr other ↦ absurd (other.1 is) ]

  module _ (begins : (x y : ℕ) → Contains (out x) y → x < n) (between : ℕ → List ℕ) (edges : AreBetween out firsts between) (s : List ℕ)
      (standing ready : List Bool) (waiting leaving : List (Vec ℕ Global)) (queue : IsQueue firsts between [] standing ready waiting leaving) (says : SayStanding n firsts s standing) where
    -- a component that is marked as ready is ready
    ready_node : (a : ℕ) → get_or ready a false ≡ true → IsReady out s a
    ready_node a on x y both h =
        let (first, off, none) = queue.ready_is a on in
        let low = first.0 in
        let p : a < n = omega (arith, low, are.one_each) in
        let q = begins x y h in
        let fx : get_or firsts x 0 ≡ a = sym (same_first a x p q both) ∙ first.1 in
        elim (eqb_tells (get_or firsts x 0) (get_or firsts y 0)) [
          | inl same ↦ inr (same_component a y p (ends x y h) (first.1 ∙ sym fx ∙ same.1))
          | inr other ↦ elim (queue.left (get_or firsts x 0) (get_or firsts y 0) (edges.complete x y h other.1)) [
            | inl stands ↦ inl ((says y (ends x y h)).0 stands)
            | inr stays ↦ let P : List ℕ → Type 0 = λ xs. Contains xs (get_or firsts y 0) in absurd (nothing (get_or firsts y 0) (subst P (ap (row_at leaving) fx ∙ none) stays))
          ]
        ]

    first_down : (b : ℕ) → b < n → (Contains s b → ⊥) → get_or standing (get_or firsts b 0) false ≡ false
    first_down b p new = elim (cases_Bool (get_or standing (get_or firsts b 0) false)) [
      | inl on ↦ absurd (new ((says b p).0 on))
      | inr off ↦ off
    ]

    -- a component that is ready is marked as ready
    marked_ready : (b : ℕ) → b < n → (Contains s b → ⊥) → IsReady out s b → get_or ready (get_or firsts b 0) false ≡ true
    marked_ready b p new is = elim (queue.is_kept (get_or firsts b 0) (first_first b p) (first_down b p new)) [
      | inl on ↦ on
      | inr (inl none) ↦ absurd (nothing (get_or firsts b 0) none)
      | inr (inr w) ↦ not_waiting w
    ]
      where
        not_waiting : Waits standing waiting leaving (get_or firsts b 0) → get_or ready (get_or firsts b 0) false ≡ true
        not_waiting (c, h, down, w) =
            let (x, y, edge, fx, fy, apart) = edges.sound (get_or firsts b 0) c (queue.sound (get_or firsts b 0) c h) in
            let q = begins x y edge in
            let low = ends x y edge in
            elim (is x y (same_component b x p q (sym fx)) edge) [
              | inl stands ↦
                  let P : ℕ → Type 0 = λ i. get_or standing i false ≡ true in
                  let on = subst P fy ((says y low).1 stands) in
                  cc (on, down)
              | inr both ↦ absurd (apart (same_first b y p low both ∙ fy))
            ]

    pub first_next : (a : ℕ) → IsFirstMark ready a → IsNext out n s a
    first_next a mark =
        let (first, off, none) = queue.ready_is a mark.is_marked in
        let low = first.0 in
        let p : a < n = omega (arith, low, are.one_each) in
        record {
          is_node = p;
          is_new = λ h. let P : ℕ → Type 0 = λ i. get_or standing i false ≡ true in let on = subst P first.1 ((says a p).1 h) in cc (on, off);
          ready = ready_node a mark.is_marked;
          least = λ b q new is. elim (cases_lt (get_or firsts b 0) a) [
            | inl less ↦ let on = marked_ready b q new is in let away = mark.none_before (get_or firsts b 0) less in cc (on, away)
            | inr above ↦ let below = first_below b q in omega (arith, above, below)
          ];
        }

    pub first_is_first : (a : ℕ) → IsFirstMark ready a → IsFirst firsts a × (get_or standing a false ≡ false)
    first_is_first a mark = let (first, off, none) = queue.ready_is a mark.is_marked in (first, off)

    pub none_all : ((e : ℕ) → e < length ready → get_or ready e false ≡ false) → (a : ℕ) → a < n → Contains s a
    none_all none = all_stand out n (λ a p. marks_found out n a ends p) ends s
        (λ y q. elim (cases_Bool (get_or standing (get_or firsts y 0) false)) [
          | inl on ↦ inl ((says y q).0 on)
          | inr off ↦ inr (λ h. let on = (says y q).1 h in cc (on, off))
        ])
        (λ b q new is. let on = marked_ready b q new is in let away = none (get_or firsts b 0) (marked_inside ready (get_or firsts b 0) on) in cc (on, away))

    pub says_more : (a : ℕ) (members : List ℕ) → IsFirst firsts a → a < length standing → IsComponent out n a members → SayStanding n firsts (s ++ members) (set standing a true)
    says_more a members first inside class b p =
        let low = first.0 in
        let q : a < n = omega (arith, low, are.one_each) in
        let P : ℕ → Type 0 = λ i. get_or (set standing a true) i false ≡ true in
        let now : P a = get_or-set_same standing a true false inside in (
          λ on. elim (eqb_tells (get_or firsts b 0) a) [
            | inl same ↦ Contains-append_right s members b ((class.exact b).1 (p, same_component a b q p (first.1 ∙ sym same.1)))
            | inr other ↦ Contains-append_left s members b ((says b p).0 (sym (get_or-set_other standing a (get_or firsts b 0) true false other.1) ∙ on))
          ],
          λ h. elim (Contains-append_cases s members b h) [
            | inl old ↦ elim (eqb_tells (get_or firsts b 0) a) [
              | inl same ↦ subst P (sym same.1) now
              | inr other ↦ get_or-set_other standing a (get_or firsts b 0) true false other.1 ∙ (says b p).1 old
            ]
            | inr new ↦ let both = ((class.exact b).0 new).1 in subst P (sym first.1 ∙ same_first a b q p both) now
          ],
        )

-- ---- the order so far

pub record IsSoFar (out : ℕ → List ℕ) (n : ℕ) (firsts : List ℕ) (done : List (List ℕ)) (standing : List Bool) : Type 0 where
  pub says : SayStanding n firsts (flat done) standing
  pub goes_on : (cs : List (List ℕ)) → IsOrderAfter out n (flat done) cs → IsOrderAfter out n [] (done ++ cs)

module _ (out : ℕ → List ℕ) (n : ℕ) (firsts : List ℕ) where
  pub so_far_start : (standing : List Bool) → ((a : ℕ) → get_or standing a false ≡ false) → IsSoFar out n firsts [] standing
  so_far_start standing off = record {
    says = λ a p. (λ h. let low = off (get_or firsts a 0) in cc (h, low), λ h. absurd (nothing a h));
    goes_on = λ cs h. h;
  }

  pub so_far_more : (done : List (List ℕ)) (standing after : List Bool) → IsSoFar out n firsts done standing → (a : ℕ) (c : List ℕ) → IsNext out n (flat done) a → IsComponent out n a c → SayStanding n firsts (flat done ++ c) after → IsSoFar out n firsts (done ++ c ∷ []) after
  so_far_more done standing after far a c next class says =
      let P : List ℕ → Type 0 = λ ys. SayStanding n firsts ys after in
      record {
        says = subst P (sym (flat_push done c)) says;
        goes_on = λ cs h.
            let Q : List ℕ → Type 0 = λ ys. IsOrderAfter out n ys cs in
            let R : List (List ℕ) → Type 0 = λ ys. IsOrderAfter out n [] ys in
            subst R (sym (class_here done c cs)) (far.goes_on (c ∷ cs) ((a, next, class), subst Q (flat_push done c) h));
      }

  pub so_far_done : (done : List (List ℕ)) (standing : List Bool) → IsSoFar out n firsts done standing → ((a : ℕ) → a < n → Contains (flat done) a) → IsOrder out n done
  so_far_done done standing far all =
      let R : List (List ℕ) → Type 0 = λ ys. IsOrderAfter out n [] ys in
      subst R (none_after done) (far.goes_on [] all)

-- ---- one more component

module _ (es : List Edge) (firsts : List ℕ) (callers : (e : Edge) → Contains es e → e.caller < length firsts) (callees : (e : Edge) → Contains es e → e.callee < length firsts)
    (are : AreFirsts (callees_in es) (length firsts) firsts) where
  ends : (x y : ℕ) → Contains (callees_in es x) y → y < length firsts
  ends x y h = let (e, has, from, to) = edge_of es x y h in let low = callees e has in omega (arith, low, to)

  begins : (x y : ℕ) → Contains (callees_in es x) y → x < length firsts
  begins x y h = let (e, has, from, to) = edge_of es x y h in let low = callers e has in omega (arith, low, from)

  pub firsts_inside : (a : ℕ) → a < length firsts → get_or firsts a 0 < length firsts
  firsts_inside a p = first_inside (callees_in es) (length firsts) ends firsts are a p

  module _ (done : List (List ℕ)) (standing ready : List Bool) (waiting leaving : List (Vec ℕ Global)) (one_each : length standing ≡ length firsts)
      (queue : IsQueue firsts (callees_in (edges_between firsts es)) [] standing ready waiting leaving) (far : IsSoFar (callees_in es) (length firsts) firsts done standing) where
    pub order_done : ((e : ℕ) → e < length ready → get_or ready e false ≡ false) → IsOrder (callees_in es) (length firsts) done
    order_done none = so_far_done (callees_in es) (length firsts) firsts done standing far
        (none_all (callees_in es) (length firsts) ends firsts are begins (callees_in (edges_between firsts es)) (are_between firsts es) (flat done) standing ready waiting leaving queue far.says none)

    module _ (a : ℕ) (mark : IsFirstMark ready a) where
      is_first : IsFirst firsts a × (get_or standing a false ≡ false)
      is_first = first_is_first (callees_in es) (length firsts) ends firsts are begins (callees_in (edges_between firsts es)) (are_between firsts es) (flat done) standing ready waiting leaving queue far.says a mark

      pub node_inside : a < length firsts
      node_inside = is_first.0.0

      pub order_falls : (after : List Bool) → after ≡ set standing a true → unmarked after < unmarked standing
      order_falls after is =
          let low = node_inside in
          let less = unmarked_set standing a (omega (arith, low, one_each)) is_first.1 in
          let P : List Bool → Type 0 = λ ms. unmarked ms < unmarked standing in
          subst P (sym is) (omega (arith, less))

      pub order_more : (c : List ℕ) → IsPart (λ m. a == get_or firsts m 0) (length firsts) c → (after : List Bool) → after ≡ set standing a true
          → (more : List (List ℕ)) → more ≡ done ++ c ∷ [] → IsSoFar (callees_in es) (length firsts) firsts more after
      order_more c part after is more is_more =
          let out = callees_in es in
          let n = length firsts in
          let low = node_inside in
          let inside : a < length standing = omega (arith, low, one_each) in
          let between = callees_in (edges_between firsts es) in
          let next = first_next out n ends firsts are begins between (are_between firsts es) (flat done) standing ready waiting leaving queue far.says a mark in
          let class = component_is out n ends firsts are a c is_first.0 part in
          let says = says_more out n ends firsts are begins between (are_between firsts es) (flat done) standing ready waiting leaving queue far.says a c is_first.0 inside class in
          let P : List Bool → Type 0 = λ ms. IsSoFar out n firsts (done ++ c ∷ []) ms in
          let Q : List (List ℕ) → Type 0 = λ xs. IsSoFar out n firsts xs after in
          subst Q (sym is_more) (subst P (sym is) (so_far_more out n firsts done standing (set standing a true) far a c next class says))
