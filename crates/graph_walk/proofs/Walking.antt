-- A walk keeps its invariant, and marks at its end exactly what is reached past the walls.
use Rattle.std.proofs.Common.{◌≡◌, ℕ, zero, suc, ◌+◌, ◌<◌, ◌≤◌, ◌⊎◌, inl, inr, Bool, true, false, List, [], ◌∷◌, ◌++◌, length, set, get_or, refl, sym, ◌∙◌, ap, subst, arith, append_assoc, append-nil}
use Rattle.std.specs.List.{Contains}
use Rattle.std.proofs.lemmas.List.{get_or-set_same, get_or-set_other, length-append, get_or_append_left, get_or_default}
use Rattle.std.proofs.lemmas.List.Elements.{Contains-append_cases, Contains-append_left, Contains-append_right, Contains-push, Contains-push_cases, Contains-get_or}
use Rattle.std.proofs.lemmas.Bool.{cases_Bool, cases_lt}
use Rattle.std.proofs.lemmas.Bool.Decides.{eqb_tells}
use Rattle.std.proofs.Math.ListN.{length-set}
use Rattle.graph_walk.specs.Graph.{LeadsPast, start_past, along_past, AreMarks}
use Rattle.graph_walk.specs.Walk.{Walk, unless_met, met, unmarked, IsWalk, HasWalked}
use Rattle.graph_walk.proofs.Parting.{nothing, single, here}
use Rattle.graph_walk.proofs.Leading.{past_leads, leads_past}

pub unmarked_set : (xs : List Bool) (m : ℕ) → m < length xs → get_or xs m false ≡ false → suc (unmarked (set xs m true)) ≡ unmarked xs
unmarked_set [] m h e = let no : ⊥ = omega (arith, h) in elim no [ ]
unmarked_set (true ∷ xs) zero h e = cc e
unmarked_set (false ∷ xs) zero h e = refl
unmarked_set (true ∷ xs) (suc m) h e = unmarked_set xs m (omega (arith, h)) e
unmarked_set (false ∷ xs) (suc m) h e = ap suc (unmarked_set xs m (omega (arith, h)) e)

-- what meeting a row does
pub record HasMet (row : List ℕ) (w v : Walk) : Type 0 where
  pub same_length : length v.marks ≡ length w.marks
  pub kept : (a : ℕ) → get_or w.marks a false ≡ true → get_or v.marks a false ≡ true
  pub marked : (a : ℕ) → Contains row a → get_or v.marks a false ≡ true
  pub only : (a : ℕ) → get_or v.marks a false ≡ true → (get_or w.marks a false ≡ true) ⊎ Contains v.nodes a
  pub nodes_only : (a : ℕ) → Contains v.nodes a → Contains w.nodes a ⊎ (Contains row a × (get_or w.marks a false ≡ false) × (get_or v.marks a false ≡ true))
  pub grown : (more : List ℕ) × (v.nodes ≡ w.nodes ++ more)
  pub work : unmarked v.marks + length v.nodes ≡ unmarked w.marks + length w.nodes

met_before : (m : ℕ) (w : Walk) → get_or w.marks m false ≡ true → HasMet (m ∷ []) w w
met_before m w h = record {
  same_length = refl;
  kept = λ a k. k;
  marked = λ a k. let P : ℕ → Type 0 = λ i. get_or w.marks i false ≡ true in subst P (single m a k) h;
  only = λ a k. inl k;
  nodes_only = λ a k. inl k;
  grown = ([], sym (append-nil w.nodes));
  work = refl;
}

met_now : (m : ℕ) (w : Walk) → m < length w.marks → get_or w.marks m false ≡ false → HasMet (m ∷ []) w (unless_met false m w)
met_now m w low h =
    let P : ℕ → Type 0 = λ i. get_or (set w.marks m true) i false ≡ true in
    let now : P m = get_or-set_same w.marks m true false low in
    let shorter = unmarked_set w.marks m low h in
    let longer : length (w.nodes ++ m ∷ []) ≡ length w.nodes + 1 = length-append w.nodes (m ∷ []) in
    record {
      same_length = length-set w.marks m true;
      kept = λ a k. elim (eqb_tells a m) [ inl same ↦ subst P (sym same.1) now | inr other ↦ get_or-set_other w.marks m a true false other.1 ∙ k ];
      marked = λ a k. subst P (single m a k) now;
      only = λ a k. elim (eqb_tells a m) [
        | inl same ↦ let Q : ℕ → Type 0 = λ i. Contains (w.nodes ++ m ∷ []) i in inr (subst Q (sym same.1) (Contains-push w.nodes m))
        | inr other ↦ inl (sym (get_or-set_other w.marks m a true false other.1) ∙ k)
      ];
      nodes_only = λ a k. elim (Contains-push_cases w.nodes m a k) [
        | inl old ↦ inl old
        | inr e ↦ let Q : ℕ → Type 0 = λ i. Contains (m ∷ []) i × (get_or w.marks i false ≡ false) × (get_or (set w.marks m true) i false ≡ true) in inr (subst Q e (here m [], h, now))
      ];
      grown = (m ∷ [], refl);
      work = omega (arith, shorter, longer);
    }

met_then : (m : ℕ) (ms : List ℕ) (w u v : Walk) → HasMet (m ∷ []) w u → HasMet ms u v → HasMet (m ∷ ms) w v
met_then m ms w u v one rest =
    let (first, e) = one.grown in
    let (then, f) = rest.grown in
    let nodes_kept : (a : ℕ) → Contains u.nodes a → Contains v.nodes a = λ a k. let P : List ℕ → Type 0 = λ xs. Contains xs a in subst P (sym f) (Contains-append_left u.nodes then a k) in
    record {
      same_length = rest.same_length ∙ one.same_length;
      kept = λ a k. rest.kept a (one.kept a k);
      marked = λ a k. elim (Contains-append_cases (m ∷ []) ms a k) [ inl h ↦ rest.kept a (one.marked a h) | inr h ↦ rest.marked a h ];
      only = λ a k. elim (rest.only a k) [
        | inl old ↦ elim (one.only a old) [ inl older ↦ inl older | inr p ↦ inr (nodes_kept a p) ]
        | inr p ↦ inr p
      ];
      nodes_only = λ a k. elim (rest.nodes_only a k) [
        | inl old ↦ elim (one.nodes_only a old) [ inl older ↦ inl older | inr (h, off, on) ↦ inr (Contains-append_left (m ∷ []) ms a h, off, rest.kept a on) ]
        | inr (h, off, on) ↦ inr (Contains-append_right (m ∷ []) ms a h, elim (cases_Bool (get_or w.marks a false)) [ inl was ↦ let still = one.kept a was in cc (still, off) | inr was ↦ was ], on)
      ];
      grown = (first ++ then, f ∙ ap (λ (xs : List ℕ). xs ++ then) e ∙ append_assoc w.nodes first then);
      work = rest.work ∙ one.work;
    }

met_one : (m : ℕ) (w : Walk) → m < length w.marks → (is : Bool) → get_or w.marks m false ≡ is → HasMet (m ∷ []) w (unless_met is m w)
met_one m w low true h = met_before m w h
met_one m w low false h = met_now m w low h

pub met_meets : (row : List ℕ) (w : Walk) → ((b : ℕ) → Contains row b → b < length w.marks) → HasMet row w (met row w)
met_meets [] w low = record {
  same_length = refl;
  kept = λ a k. k;
  marked = λ a k. let no = nothing a k in elim no [ ];
  only = λ a k. inl k;
  nodes_only = λ a k. inl k;
  grown = ([], sym (append-nil w.nodes));
  work = refl;
}
met_meets (m ∷ ms) w low =
    let u = unless_met (get_or w.marks m false) m w in
    let one = met_one m w (low m (here m ms)) (get_or w.marks m false) refl in
    met_then m ms w u (met ms u) one
    (met_meets ms u (λ b h. let fits = low b (Contains-append_right (m ∷ []) ms b h) in omega (arith, fits, one.same_length)))

pub marked_inside : (xs : List Bool) (k : ℕ) → get_or xs k false ≡ true → k < length xs
marked_inside [] k h = cc h
marked_inside (x ∷ xs) zero h = omega arith
marked_inside (x ∷ xs) (suc k) h = let low = marked_inside xs k h in omega (arith, low)

module _ (out : ℕ → List ℕ) (walls : List Bool) (root : ℕ) where
  -- the root alone is met, if it is no wall
  pub walk_start : root < length walls → IsWalk out walls root 0 (met (root ∷ []) (record { marks = walls; nodes = [] }))
  walk_start low =
      let w : Walk = record { marks = walls; nodes = [] } in
      let v = met (root ∷ []) w in
      let has : HasMet (root ∷ []) w v = met_meets (root ∷ []) w (λ b h. let P : ℕ → Type 0 = λ i. i < length walls in subst P (single root b h) low) in
      record {
        one_each = has.same_length;
        root_met = has.marked root (here root []);
        followed_met = omega arith;
        marked = λ a. (
          has.only a,
          λ h. elim h [
            | inl wall ↦ has.kept a wall
            | inr in_nodes ↦ elim (has.nodes_only a in_nodes) [ inl none ↦ let no = nothing a none in elim no [ ] | inr (_, _, on) ↦ on ]
          ],
        );
        sound = λ a h. elim (has.nodes_only a h) [
          | inl none ↦ let no = nothing a none in elim no [ ]
          | inr (is, off, _) ↦
              let P : ℕ → Type 0 = λ i. get_or walls i false ≡ false in
              let Q : ℕ → Type 0 = λ i. LeadsPast out walls root i in
              subst Q (single root a is) (start_past (subst P (sym (single root a is)) off))
        ];
        closed = λ k a b less is edge. absurd (omega (arith, less));
      }

  module _ (followed : ℕ) (w : Walk) (walk : IsWalk out walls root followed w) where
    -- a walk at its end
    pub walk_done : length w.nodes ≡ followed → HasWalked out root walls w.marks w.nodes
    walk_done end = record { one_each = walk.one_each; exact = λ a. (walk.sound a, complete a); marked = walk.marked }
      where
        complete : (a : ℕ) → LeadsPast out walls root a → Contains w.nodes a
        complete _ (start_past off) = elim ((walk.marked root).0 walk.root_met) [ inl wall ↦ cc (wall, off) | inr is ↦ is ]
        complete _ (along_past a b r edge off) =
            let (k, low, is) = complete a r in
            elim ((walk.marked b).0 (walk.closed k a b (omega (arith, low, end)) is edge)) [ inl wall ↦ cc (wall, off) | inr on ↦ on ]

    module _ (a : ℕ) (inside : followed < length w.nodes) (is : get_or w.nodes followed 0 ≡ a) where
      next_in : Contains w.nodes a
      next_in = let P : ℕ → Type 0 = λ i. Contains w.nodes i in subst P is (Contains-get_or w.nodes followed 0 inside)

      -- the next node is a node of the graph
      pub next_inside : a < length walls
      next_inside = let low = marked_inside w.marks a ((walk.marked a).1 (inr next_in)) in omega (arith, low, walk.one_each)

      module _ (row : List ℕ) (v : Walk) (is_row : row ≡ out a) (ends : (b : ℕ) → Contains (out a) b → b < length walls) (becomes : v ≡ met row w) where
        has_met : HasMet (out a) w v
        has_met =
            let P : List ℕ → Type 0 = λ xs. HasMet xs w (met row w) in
            let Q : List ℕ → Type 0 = λ xs. (b : ℕ) → Contains xs b → b < length w.marks in
            let R : Walk → Type 0 = λ u. HasMet (out a) w u in
            let low : Q row = subst Q (sym is_row) (λ b h. let fits = ends b h in omega (arith, fits, walk.one_each)) in
            subst R (sym becomes) (subst P is_row (met_meets row w low))

        grown_on : (k b : ℕ) → k < length w.nodes → get_or v.nodes k b ≡ get_or w.nodes k b
        grown_on k b low =
            let (more, e) = has_met.grown in
            ap (λ (xs : List ℕ). get_or xs k b) e ∙ get_or_append_left w.nodes more b k low

        grown_length : length w.nodes ≤ length v.nodes
        grown_length =
            let (more, e) = has_met.grown in
            let longer = length-append w.nodes more in
            let same = ap length e in
            omega (arith, longer, same)

        -- the walk after the edges of its next node were followed
        pub step_kept : IsWalk out walls root (followed + 1) v
        step_kept = record {
          one_each = has_met.same_length ∙ walk.one_each;
          root_met = has_met.kept root walk.root_met;
          followed_met = omega (arith, inside, grown_length);
          marked = λ b. (
            λ on. elim (has_met.only b on) [
              | inl old ↦ elim ((walk.marked b).0 old) [
                | inl wall ↦ inl wall
                | inr was ↦ inr (nodes_kept b was)
              ]
              | inr now ↦ inr now
            ],
            λ h. elim h [
              | inl wall ↦ has_met.kept b ((walk.marked b).1 (inl wall))
              | inr in_nodes ↦ elim (has_met.nodes_only b in_nodes) [
                | inl was ↦ has_met.kept b ((walk.marked b).1 (inr was))
                | inr (_, _, on) ↦ on
              ]
            ],
          );
          sound = λ b h. elim (has_met.nodes_only b h) [
            | inl was ↦ walk.sound b was
            | inr (edge, off, _) ↦ along_past a b (walk.sound a next_in) edge (open_before b off)
          ];
          closed = λ k c b less at edge. elim (cases_lt k followed) [
            | inl before ↦
                let under : k < length w.nodes = omega (arith, before, inside) in
                has_met.kept b (walk.closed k c b before (sym (grown_on k c under) ∙ at) edge)
            | inr after ↦
                let here_it_is : k ≡ followed = omega (arith, less, after) in
                let under : k < length w.nodes = omega (arith, here_it_is, inside) in
                let P : ℕ → Type 0 = λ i. get_or w.nodes i 0 ≡ a in
                let same : a ≡ c = sym (subst P (sym here_it_is) is) ∙ get_or_default w.nodes k 0 c under ∙ sym (grown_on k c under) ∙ at in
                let Q : ℕ → Type 0 = λ i. Contains (out i) b in
                has_met.marked b (subst Q (sym same) edge)
          ];
        }
          where
            nodes_kept : (b : ℕ) → Contains w.nodes b → Contains v.nodes b
            nodes_kept b h =
                let (more, e) = has_met.grown in
                let P : List ℕ → Type 0 = λ xs. Contains xs b in
                subst P (sym e) (Contains-append_left w.nodes more b h)

            open_before : (b : ℕ) → get_or w.marks b false ≡ false → get_or walls b false ≡ false
            open_before b off = elim (cases_Bool (get_or walls b false)) [
              | inl wall ↦ let on = (walk.marked b).1 (inl wall) in cc (on, off)
              | inr is_open ↦ is_open
            ]

        -- as many nodes as were unmarked or met before, of which one more is followed
        pub step_work : unmarked v.marks + length v.nodes ≡ unmarked w.marks + length w.nodes
        step_work = has_met.work

-- a walk without walls marks what the root reaches
pub walked_marks : (out : ℕ → List ℕ) (n root : ℕ) (walls marks : List Bool) (nodes : List ℕ) → length walls ≡ n → ((a : ℕ) → get_or walls a false ≡ false)
    → HasWalked out root walls marks nodes → AreMarks out n root marks
walked_marks out n root walls marks nodes len none walked = record {
  one_each = walked.one_each ∙ len;
  exact = λ a low. (
    λ on. elim ((walked.marked a).0 on) [
      | inl wall ↦ let off = none a in cc (wall, off)
      | inr is ↦ past_leads out walls root a ((walked.exact a).0 is)
    ],
    λ leads. (walked.marked a).1 (inr ((walked.exact a).1 (leads_past out walls root a none leads))),
  );
}
