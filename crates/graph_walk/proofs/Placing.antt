-- Walks back from the nodes of a finishing order, the last one first, find whole components.
use Rattle.std.proofs.Common.{◌≡◌, ◌↔◌, ℕ, ◌<◌, ◌≤◌, inl, inr, Bool, true, false, List, [], ◌∷◌, ◌++◌, length, get_or, refl, sym, ◌∙◌, ap, subst}
use Rattle.std.specs.List.{Contains}
use Rattle.std.proofs.lemmas.Bool.{cases_Bool}
use Rattle.std.proofs.lemmas.List.Elements.{Contains-append_cases}
use Rattle.graph_walk.specs.Graph.{Leads, start, along, LeadsPast, start_past, along_past, AreMutual, AreFirsts}
use Rattle.graph_walk.specs.Walk.{HasWalked}
use Rattle.graph_walk.specs.Search.{IsFinishing}
use Rattle.graph_walk.specs.Components.{AreFirstsOf, ArePlaced}
use Rattle.graph_walk.proofs.Leading.{turned_leads, leads_inside, mutual_then, mutual_back, past_leads, past_open}
use Rattle.graph_walk.proofs.Parting.{nothing, here, later, contains_cases, push_then}

-- what a walk meets are nodes of the graph
pub met_inside : (out : ℕ → List ℕ) (n root : ℕ) (walls marks : List Bool) (nodes : List ℕ) → ((a b : ℕ) → Contains (out a) b → b < n) → root < n → HasWalked out root walls marks nodes
    → (a : ℕ) → Contains nodes a → a < n
met_inside out n root walls marks nodes ends low walked a h = leads_inside out n ends root a low (past_leads out walls root a ((walked.exact a).0 h))

-- the last node of an order that was parted there
pub order_parted : (out : ℕ → List ℕ) (n : ℕ) (all before after : List ℕ) (r : ℕ) → all ≡ before ++ r ∷ [] → IsFinishing out n (all ++ after) → IsFinishing out n (before ++ r ∷ after)
order_parted out n all before after r split order =
    let P : List ℕ → Type 0 = λ xs. IsFinishing out n xs in
    subst P (ap (λ (xs : List ℕ). xs ++ after) split ∙ push_then before after r) order

-- no component is known yet
pub firsts_start : (out : ℕ → List ℕ) (n : ℕ) (marks : List Bool) (firsts : List ℕ) → length marks ≡ n → length firsts ≡ n → ((a : ℕ) → get_or marks a false ≡ false) → AreFirstsOf out n [] marks firsts
firsts_start out n marks firsts len each none = record {
  one_mark = len;
  one_each = each;
  marked = λ a. (λ on. let off = none a in cc (on, off), λ (s, h, _). let no = nothing s h in elim no [ ]);
  of_component = λ a on. let off = none a in cc (on, off);
  least = λ a b on both. let off = none a in cc (on, off);
}

module _ (out back : ℕ → List ℕ) (n : ℕ) (turned : (a b : ℕ) → Contains (back b) a ↔ Contains (out a) b)
    (before after : List ℕ) (r : ℕ) (order : IsFinishing out n (before ++ r ∷ after))
    (walls : List Bool) (olds : List ℕ) (far : AreFirstsOf out n after walls olds) (root : r < n) (ends : (a b : ℕ) → Contains (back a) b → b < n)
    (marks : List Bool) (nodes : List ℕ) (walked : HasWalked back r walls marks nodes) where
  -- the walls are whole components
  wall_whole : (a b : ℕ) → AreMutual out a b → get_or walls a false ≡ true → get_or walls b false ≡ true
  wall_whole a b both wall =
      let (s, h, with_s) = (far.marked a).0 wall in
      (far.marked b).1 (s, h, mutual_then out b a s (mutual_back out a b both) with_s)

  open_whole : (a b : ℕ) → AreMutual out a b → get_or walls a false ≡ false → get_or walls b false ≡ false
  open_whole a b both off = elim (cases_Bool (get_or walls b false)) [
    | inl wall ↦ let on = wall_whole b a (mutual_back out a b both) wall in cc (on, off)
    | inr is_open ↦ is_open
  ]

  -- what the walk meets is of the component of its root
  pub met_mutual : (a : ℕ) → Contains nodes a → AreMutual out a r
  met_mutual a h =
      let past = (walked.exact a).0 h in
      let off = past_open back walls r a past in
      let leads : Leads out a r = turned_leads back out (λ x y. (turned y x).0) r a (past_leads back walls r a past) in
      let of_later : (s : ℕ) → Contains (r ∷ after) s → AreMutual out a s → AreMutual out a r = λ s is both. elim (contains_cases r after s is) [
        | inl same ↦ let P : ℕ → Type 0 = λ i. AreMutual out a i in subst P (sym same) both
        | inr behind ↦ let wall = (far.marked a).1 (s, behind, both) in cc (wall, off)
      ] in
      elim (Contains-append_cases before (r ∷ after) a (order.all a (leads_inside back n ends r a root (past_leads back walls r a past)))) [
        | inl early ↦
            let (s, is, both) = order.later before (r ∷ after) refl a r early (here r after) leads in
            of_later s is both
        | inr behind ↦ of_later a behind (start, start)
      ]

  mutual_past : (a : ℕ) → get_or walls r false ≡ false → Leads back r a → Leads out r a → LeadsPast back walls r a
  mutual_past _ off start to = start_past off
  mutual_past _ off (along x y leads edge) to =
      let on : Contains (out y) x = (turned y x).0 edge in
      let to_x : Leads out r x = along y x to on in
      let from_y : Leads out y r = turned_leads back out (λ p q. (turned q p).0) r y (along x y leads edge) in
      along_past x y (mutual_past x off leads to_x) edge (open_whole r y (to, from_y) off)

  -- and all of that component is met, where it is no wall
  pub mutual_met : (a : ℕ) → AreMutual out a r → get_or walls a false ≡ false → Contains nodes a
  mutual_met a both off =
      (walked.exact a).1 (mutual_past a (open_whole a r both off) (turned_leads out back (λ x y. (turned x y).1) a r both.0) both.1)

  -- with the component of one more node
  pub firsts_more : (news : List ℕ) → ArePlaced nodes olds news → AreFirstsOf out n (r ∷ after) marks news
  firsts_more news placed = record {
    one_mark = walked.one_each ∙ far.one_mark;
    one_each = placed.one_each ∙ far.one_each;
    marked = λ a. (
      λ on. elim ((walked.marked a).0 on) [
        | inl wall ↦ let (s, h, both) = (far.marked a).0 wall in (s, later r after s h, both)
        | inr is ↦ (r, here r after, met_mutual a is)
      ],
      λ (s, h, both). elim (contains_cases r after s h) [
        | inl same ↦
            let P : ℕ → Type 0 = λ i. AreMutual out a i in
            elim (cases_Bool (get_or walls a false)) [
              | inl wall ↦ (walked.marked a).1 (inl wall)
              | inr off ↦ (walked.marked a).1 (inr (mutual_met a (subst P (sym same) both) off))
            ]
        | inr behind ↦ (walked.marked a).1 (inl ((far.marked a).1 (s, behind, both)))
      ],
    );
    of_component = λ a on. elim (cases_Bool (get_or walls a false)) [
      | inl wall ↦ let P : ℕ → Type 0 = λ i. AreMutual out a i in subst P (sym (same_there a wall)) (far.of_component a wall)
      | inr off ↦
          let is = met_now a on off in
          mutual_then out a r (get_or news a 0) (met_mutual a is) (mutual_back out (get_or news a 0) r (met_mutual (get_or news a 0) (placed.of_nodes a is)))
    ];
    least = λ a b on both. elim (cases_Bool (get_or walls a false)) [
      | inl wall ↦ let P : ℕ → Type 0 = λ i. i ≤ b in subst P (sym (same_there a wall)) (far.least a b wall both)
      | inr off ↦
          let is = met_now a on off in
          let with_r = mutual_then out b a r (mutual_back out a b both) (met_mutual a is) in
          placed.least a b is (mutual_met b with_r (open_whole a b both off))
    ];
  }
    where
      same_there : (a : ℕ) → get_or walls a false ≡ true → get_or news a 0 ≡ get_or olds a 0
      same_there a wall = placed.others a (λ is. let off = past_open back walls r a ((walked.exact a).0 is) in cc (wall, off))

      met_now : (a : ℕ) → get_or marks a false ≡ true → get_or walls a false ≡ false → Contains nodes a
      met_now a on off = elim ((walked.marked a).0 on) [ inl wall ↦ cc (wall, off) | inr is ↦ is ]

-- the components of all nodes
pub firsts_done : (out : ℕ → List ℕ) (n : ℕ) (nodes : List ℕ) (marks : List Bool) (firsts : List ℕ) → IsFinishing out n nodes → AreFirstsOf out n nodes marks firsts → AreFirsts out n firsts
firsts_done out n nodes marks firsts order far =
    let all : (a : ℕ) → a < n → get_or marks a false ≡ true = λ a low. (far.marked a).1 (a, order.all a low, (start, start)) in
    record {
      one_each = far.one_each;
      of_component = λ a low. far.of_component a (all a low);
      least = λ a b low both less. far.least a b (all a low) both;
    }
