-- The queue of components that do not stand, as it changes.
use Rattle.std.proofs.Common.{◌≡◌, ◌≢◌, ℕ, ◌<◌, ◌==◌, ◌⊎◌, inl, inr, Bool, true, false, zero, suc, ◌≤◌, drop, List, [], ◌∷◌, ◌++◌, length, set, get_or, replicate, refl, sym, ◌∙◌, ap, subst, arith, Vec}
use Rattle.std.specs.declared.alloc.Global.{Global}
use Rattle.std.specs.List.{Contains}
use Rattle.std.proofs.Math.ListN.{length-set}
use Rattle.std.proofs.lemmas.Bool.{cases_Bool}
use Rattle.std.proofs.lemmas.Bool.Decides.{eqb_tells}
use Rattle.std.proofs.lemmas.List.{get_or-set_same, get_or-set_other, map-set}
use Rattle.std.proofs.lemmas.List.Elements.{Contains-append_left, Contains-push, Contains-push_cases}
use Rattle.call_graph.specs.Firsts.{IsFirst, IsPart}
use Rattle.call_graph.specs.Walk.{listed, row_at}
use Rattle.call_graph.specs.Queue.{AreTrimmed, AreNodes, IsQueue, IsUnsettled, Waits}
use Rattle.graph_walk.proofs.Parting.{nothing, contains_cases, here, later}
use Rattle.call_graph.proofs.Filling.{row_set, row_not_set, set_one_each}

none_in : (xs : List ℕ) → ((c : ℕ) → Contains xs c → ⊥) → xs ≡ []
none_in [] f = refl
none_in (x ∷ xs) f = absurd (f x (here x xs))

-- ---- a list is trimmed

pub trimmed_first : (standing : List Bool) (xs : List ℕ) → AreTrimmed standing xs xs
trimmed_first standing xs = record { fewer = λ c h. h; kept = λ c h off. h }

-- the last one stands, and is taken off
pub trimmed_more : (standing : List Bool) (all xs rest : List ℕ) (c : ℕ) → AreTrimmed standing all xs → xs ≡ rest ++ c ∷ [] → get_or standing c false ≡ true → AreTrimmed standing all rest
trimmed_more standing all xs rest c so_far split on =
    let P : ℕ → List ℕ → Type 0 = λ i ys. Contains ys i in
    record {
      fewer = λ a h. let Q : List ℕ → Type 0 = λ ys. Contains ys a in so_far.fewer a (subst Q (sym split) (Contains-append_left rest (c ∷ []) a h));
      kept = λ a h off.
          let Q : List ℕ → Type 0 = λ ys. Contains ys a in
          elim (Contains-push_cases rest c a (subst Q split (so_far.kept a h off))) [
            | inl old ↦ old
            | inr same ↦ let R : ℕ → Type 0 = λ i. get_or standing i false ≡ true in let is = subst R same on in cc (is, off)
          ];
    }

pub last_in : (xs rest : List ℕ) (c : ℕ) → xs ≡ rest ++ c ∷ [] → Contains xs c
last_in xs rest c split = let Q : List ℕ → Type 0 = λ ys. Contains ys c in subst Q (sym split) (Contains-push rest c)

pub none_marked : (n a : ℕ) → get_or (replicate n false) a false ≡ false
none_marked zero a = refl
none_marked (suc n) zero = refl
none_marked (suc n) (suc a) = none_marked n a

-- ---- the start

module _ (n : ℕ) (between : ℕ → List ℕ) (standing ready : List Bool) (waiting leaving : List (Vec ℕ Global)) (start : IsUnsettled n between standing ready waiting leaving) where
  pub start_queue : (firsts first : List ℕ) → length firsts ≡ n → IsPart (λ m. get_or firsts m 0 == m) (length firsts) first → IsQueue firsts between first standing ready waiting leaving
  start_queue firsts first len part =
      let none : (a : ℕ) → get_or standing a false ≡ false = start.none_stands in
      record {
        left = λ r c h. let P : List ℕ → Type 0 = λ xs. Contains xs c in inr (subst P (sym (start.all_left r)) h);
        sound = λ r c h. let P : List ℕ → Type 0 = λ xs. Contains xs c in subst P (start.all_left r) h;
        ready_is = λ r on. let off = start.none_ready r in cc (on, off);
        is_kept = λ r is off. inr (inl ((part.exact r).1 (is.0, first_test firsts r is.1)));
        waits_is = λ r c h off. let P : List ℕ → Type 0 = λ xs. Contains xs r in absurd (nothing r (subst P (start.none_waits c) h));
        rest_is = λ r h. let both = (part.exact r).0 h in ((both.0, test_first firsts r both.1), none r);
      }
    where
      first_test : (firsts : List ℕ) (r : ℕ) → get_or firsts r 0 ≡ r → (get_or firsts r 0 == r) ≡ true
      first_test firsts r is = elim (eqb_tells (get_or firsts r 0) r) [ inl same ↦ same.0 | inr other ↦ absurd (other.1 is) ]

      test_first : (firsts : List ℕ) (r : ℕ) → (get_or firsts r 0 == r) ≡ true → get_or firsts r 0 ≡ r
      test_first firsts r is = elim (eqb_tells (get_or firsts r 0) r) [ inl same ↦ same.1 | inr other ↦ let off = other.0 in cc (is, off) ]

pub drop_end : (xs : List ℕ) (i : ℕ) → length xs ≤ i → drop i xs ≡ []
drop_end [] zero low = refl
drop_end [] (suc i) low = refl
drop_end (x ∷ xs) zero low = absurd (omega (arith, low))
drop_end (x ∷ xs) (suc i) low = drop_end xs i (omega (arith, low))

-- a row of rows is taken for another
pub row_replaced : (rows : List (Vec ℕ Global)) (i : ℕ) (new : Vec ℕ Global) → listed (set rows i new) ≡ set (listed rows) i new.items
row_replaced rows i new = map-set (λ (x : Vec ℕ Global). x.items) rows i new

-- ---- one component is settled

module _ (standing ready : List Bool) (waiting leaving : List (Vec ℕ Global)) (nodes : AreNodes standing ready waiting leaving) (r : ℕ) (low : r < length standing) where
  r_in_leaving : r < length leaving
  r_in_leaving = omega (arith, low, nodes.leaving_each)

  module _ (trimmed : List (Vec ℕ Global)) (row : List ℕ) (is_row : listed trimmed ≡ set (listed leaving) r row) (trims : AreTrimmed standing (row_at leaving r) row) where
    -- what is left of a row was there
    row_fewer : (a c : ℕ) → Contains (row_at trimmed a) c → Contains (row_at leaving a) c
    row_fewer a c h = elim (eqb_tells a r) [
      | inl same ↦
          let P : ℕ → Type 0 = λ i. Contains (row_at leaving i) c in
          let Q : List ℕ → Type 0 = λ xs. Contains xs c in
          subst P (sym same.1) (trims.fewer c (subst Q (ap (row_at trimmed) same.1 ∙ row_set leaving trimmed r row r_in_leaving is_row) h))
      | inr other ↦ let Q : List ℕ → Type 0 = λ xs. Contains xs c in subst Q (row_not_set leaving trimmed r row r_in_leaving is_row a other.1) h
    ]

    row_kept : (a c : ℕ) → Contains (row_at leaving a) c → get_or standing c false ≡ false → Contains (row_at trimmed a) c
    row_kept a c h off = elim (eqb_tells a r) [
      | inl same ↦
          let P : ℕ → Type 0 = λ i. Contains (row_at leaving i) c in
          let Q : List ℕ → Type 0 = λ xs. Contains xs c in
          subst Q (sym (ap (row_at trimmed) same.1 ∙ row_set leaving trimmed r row r_in_leaving is_row)) (trims.kept c (subst P same.1 h) off)
      | inr other ↦ let Q : List ℕ → Type 0 = λ xs. Contains xs c in subst Q (sym (row_not_set leaving trimmed r row r_in_leaving is_row a other.1)) h
    ]

    pub nodes_trimmed : AreNodes standing ready waiting trimmed
    nodes_trimmed = record {
      ready_each = nodes.ready_each;
      waiting_each = nodes.waiting_each;
      leaving_each = set_one_each leaving trimmed r row r_in_leaving is_row ∙ nodes.leaving_each;
      ends = λ a c h. nodes.ends a c (row_fewer a c h);
      waits = nodes.waits;
    }

    pub queue_trimmed : (firsts : List ℕ) (between : ℕ → List ℕ) (rest : List ℕ) → IsQueue firsts between rest standing ready waiting leaving → IsQueue firsts between rest standing ready waiting trimmed
    queue_trimmed firsts between rest is = record {
      left = λ a c h. elim (is.left a c h) [
        | inl on ↦ inl on
        | inr stays ↦ elim (cases_Bool (get_or standing c false)) [ inl on ↦ inl on | inr off ↦ inr (row_kept a c stays off) ]
      ];
      sound = λ a c h. is.sound a c (row_fewer a c h);
      ready_is = λ a on.
          let was = is.ready_is a on in
          let P : List ℕ → Type 0 = λ xs. (c : ℕ) → Contains xs c → ⊥ in
          (was.0, was.1, none_in (row_at trimmed a) (λ c h. subst P (sym was.2) nothing c (row_fewer a c h)));
      is_kept = λ a first off. elim (is.is_kept a first off) [
        | inl on ↦ inl on
        | inr (inl yet) ↦ inr (inl yet)
        | inr (inr (c, h, down, w)) ↦ inr (inr (c, row_kept a c h down, down, w))
      ];
      waits_is = λ a c h off. let was = is.waits_is a c h off in (was.0, was.1, row_kept a c was.2 off);
      rest_is = is.rest_is;
    }

  -- the component waits for a target
  module _ (c : ℕ) (target : Contains (row_at leaving r) c) (down : get_or standing c false ≡ false) (more : List (Vec ℕ Global))
      (is_row : listed more ≡ set (listed waiting) c (row_at waiting c ++ r ∷ [])) where
    c_in_waiting : c < length waiting
    c_in_waiting = let end = nodes.ends r c target in omega (arith, end, nodes.waiting_each)

    waits_more : (a b : ℕ) → Contains (row_at waiting b) a → Contains (row_at more b) a
    waits_more a b h = elim (eqb_tells b c) [
      | inl same ↦
          let P : ℕ → Type 0 = λ i. Contains (row_at waiting i) a in
          let Q : List ℕ → Type 0 = λ xs. Contains xs a in
          subst Q (sym (ap (row_at more) same.1 ∙ row_set waiting more c (row_at waiting c ++ r ∷ []) c_in_waiting is_row)) (Contains-append_left (row_at waiting c) (r ∷ []) a (subst P same.1 h))
      | inr other ↦ let Q : List ℕ → Type 0 = λ xs. Contains xs a in subst Q (sym (row_not_set waiting more c (row_at waiting c ++ r ∷ []) c_in_waiting is_row b other.1)) h
    ]

    waits_now : Contains (row_at more c) r
    waits_now = let Q : List ℕ → Type 0 = λ xs. Contains xs r in subst Q (sym (row_set waiting more c (row_at waiting c ++ r ∷ []) c_in_waiting is_row)) (Contains-push (row_at waiting c) r)

    waits_cases : (a b : ℕ) → Contains (row_at more b) a → Contains (row_at waiting b) a ⊎ ((b ≡ c) × (r ≡ a))
    waits_cases a b h = elim (eqb_tells b c) [
      | inl same ↦
          let P : ℕ → Type 0 = λ i. Contains (row_at waiting i) a in
          let Q : List ℕ → Type 0 = λ xs. Contains xs a in
          elim (Contains-push_cases (row_at waiting c) r a (subst Q (ap (row_at more) same.1 ∙ row_set waiting more c (row_at waiting c ++ r ∷ []) c_in_waiting is_row) h)) [
            | inl old ↦ inl (subst P (sym same.1) old)
            | inr new ↦ inr (same.1, new)
          ]
      | inr other ↦ let Q : List ℕ → Type 0 = λ xs. Contains xs a in inl (subst Q (row_not_set waiting more c (row_at waiting c ++ r ∷ []) c_in_waiting is_row b other.1) h)
    ]

    pub nodes_waiting : AreNodes standing ready more leaving
    nodes_waiting = record {
      ready_each = nodes.ready_each;
      waiting_each = set_one_each waiting more c (row_at waiting c ++ r ∷ []) c_in_waiting is_row ∙ nodes.waiting_each;
      leaving_each = nodes.leaving_each;
      ends = nodes.ends;
      waits = λ b a h. elim (waits_cases a b h) [
        | inl old ↦ nodes.waits b a old
        | inr new ↦ let P : ℕ → Type 0 = λ i. i < length standing in subst P new.1 low
      ];
    }

    pub queue_waiting : (firsts : List ℕ) (between : ℕ → List ℕ) (rest : List ℕ) → IsQueue firsts between (r ∷ rest) standing ready waiting leaving → IsQueue firsts between rest standing ready more leaving
    queue_waiting firsts between rest is = record {
      left = is.left;
      sound = is.sound;
      ready_is = is.ready_is;
      is_kept = λ a first off. elim (is.is_kept a first off) [
        | inl on ↦ inl on
        | inr (inl yet) ↦ elim (contains_cases r rest a yet) [
          | inl same ↦ let P : ℕ → Type 0 = λ i. Waits standing more leaving i in inr (inr (subst P same (c, target, down, waits_now)))
          | inr later_on ↦ inr (inl later_on)
        ]
        | inr (inr (b, h, low_b, w)) ↦ inr (inr (b, h, low_b, waits_more a b w))
      ];
      waits_is = λ a b h off. elim (waits_cases a b h) [
        | inl old ↦ is.waits_is a b old off
        | inr new ↦
            let P : ℕ → Type 0 = λ i. IsFirst firsts i × (get_or standing i false ≡ false) × Contains (row_at leaving i) b in
            let Q : ℕ → Type 0 = λ i. Contains (row_at leaving r) i in
            let was = is.rest_is r (here r rest) in
            subst P new.1 (was.0, was.1, subst Q (sym new.0) target)
      ];
      rest_is = λ a h. is.rest_is a (later r rest a h);
    }

  -- the component is ready
  module _ (none : row_at leaving r ≡ []) where
    r_in_ready : r < length ready
    r_in_ready = omega (arith, low, nodes.ready_each)

    pub nodes_ready : AreNodes standing (set ready r true) waiting leaving
    nodes_ready = record {
      ready_each = length-set ready r true ∙ nodes.ready_each;
      waiting_each = nodes.waiting_each;
      leaving_each = nodes.leaving_each;
      ends = nodes.ends;
      waits = nodes.waits;
    }

    ready_now : get_or (set ready r true) r false ≡ true
    ready_now = get_or-set_same ready r true false r_in_ready

    ready_more : (a : ℕ) → get_or ready a false ≡ true → get_or (set ready r true) a false ≡ true
    ready_more a on = elim (eqb_tells a r) [
      | inl same ↦ let P : ℕ → Type 0 = λ i. get_or (set ready r true) i false ≡ true in subst P (sym same.1) ready_now
      | inr other ↦ get_or-set_other ready r a true false other.1 ∙ on
    ]

    pub queue_ready : (firsts : List ℕ) (between : ℕ → List ℕ) (rest : List ℕ) → IsQueue firsts between (r ∷ rest) standing ready waiting leaving → IsQueue firsts between rest standing (set ready r true) waiting leaving
    queue_ready firsts between rest is = record {
      left = is.left;
      sound = is.sound;
      ready_is = λ a on. elim (eqb_tells a r) [
        | inl same ↦
            let P : ℕ → Type 0 = λ i. IsFirst firsts i × (get_or standing i false ≡ false) × (row_at leaving i ≡ []) in
            let was = is.rest_is r (here r rest) in
            subst P (sym same.1) (was.0, was.1, none)
        | inr other ↦ is.ready_is a (sym (get_or-set_other ready r a true false other.1) ∙ on)
      ];
      is_kept = λ a first off. elim (is.is_kept a first off) [
        | inl on ↦ inl (ready_more a on)
        | inr (inl yet) ↦ elim (contains_cases r rest a yet) [
          | inl same ↦ let P : ℕ → Type 0 = λ i. get_or (set ready r true) i false ≡ true in inl (subst P same ready_now)
          | inr later_on ↦ inr (inl later_on)
        ]
        | inr (inr w) ↦ inr (inr w)
      ];
      waits_is = is.waits_is;
      rest_is = λ a h. is.rest_is a (later r rest a h);
    }

-- ---- a ready component stands

module _ (standing ready : List Bool) (waiting leaving : List (Vec ℕ Global)) (nodes : AreNodes standing ready waiting leaving) (r : ℕ) (low : r < length standing)
    (emptied : List (Vec ℕ Global)) (is_row : listed emptied ≡ set (listed waiting) r []) where
  r_in_waiting : r < length waiting
  r_in_waiting = omega (arith, low, nodes.waiting_each)

  waits_fewer : (a b : ℕ) → Contains (row_at emptied b) a → Contains (row_at waiting b) a × (b ≢ r)
  waits_fewer a b h = elim (eqb_tells b r) [
    | inl same ↦ let Q : List ℕ → Type 0 = λ xs. Contains xs a in absurd (nothing a (subst Q (ap (row_at emptied) same.1 ∙ row_set waiting emptied r [] r_in_waiting is_row) h))
    | inr other ↦ let Q : List ℕ → Type 0 = λ xs. Contains xs a in (subst Q (row_not_set waiting emptied r [] r_in_waiting is_row b other.1) h, other.1)
  ]

  pub nodes_standing : AreNodes (set standing r true) (set ready r false) emptied leaving
  nodes_standing =
      let len = length-set standing r true in
      record {
        ready_each = length-set ready r false ∙ nodes.ready_each ∙ sym len;
        waiting_each = set_one_each waiting emptied r [] r_in_waiting is_row ∙ nodes.waiting_each ∙ sym len;
        leaving_each = nodes.leaving_each ∙ sym len;
        ends = λ a c h. let end = nodes.ends a c h in omega (arith, end, len);
        waits = λ b a h. let end = nodes.waits b a (waits_fewer a b h).0 in omega (arith, end, len);
      }

  pub queue_standing : (firsts : List ℕ) (between : ℕ → List ℕ) → get_or ready r false ≡ true → IsQueue firsts between [] standing ready waiting leaving
      → IsQueue firsts between (row_at waiting r) (set standing r true) (set ready r false) emptied leaving
  queue_standing firsts between is_ready is =
      let now = is.ready_is r is_ready in
      let stands : get_or (set standing r true) r false ≡ true = get_or-set_same standing r true false low in
      let old_standing : (a : ℕ) → a ≢ r → get_or (set standing r true) a false ≡ get_or standing a false = λ a apart. get_or-set_other standing r a true false apart in
      let old_ready : (a : ℕ) → a ≢ r → get_or (set ready r false) a false ≡ get_or ready a false = λ a apart. get_or-set_other ready r a false false apart in
      let not_r : (a : ℕ) → get_or (set standing r true) a false ≡ false → a ≢ r = λ a off same.
      let P : ℕ → Type 0 = λ i. get_or (set standing r true) i false ≡ true in let on = subst P (sym same) stands in cc (on, off) in
      let has_row : (a c : ℕ) → Contains (row_at leaving a) c → a ≢ r = λ a c h same.
      let P : ℕ → Type 0 = λ i. Contains (row_at leaving i) c in let Q : List ℕ → Type 0 = λ xs. Contains xs c in nothing c (subst Q now.2 (subst P same h)) in
      record {
        left = λ a c h. elim (is.left a c h) [
          | inl on ↦ elim (eqb_tells c r) [
            | inl same ↦ let P : ℕ → Type 0 = λ i. get_or (set standing r true) i false ≡ true in inl (subst P (sym same.1) stands)
            | inr other ↦ inl (old_standing c other.1 ∙ on)
          ]
          | inr stays ↦ inr stays
        ];
        sound = is.sound;
        ready_is = λ a on. elim (eqb_tells a r) [
          | inl same ↦
              let P : ℕ → Type 0 = λ i. get_or (set ready r false) i false ≡ true in
              let is_on = subst P same.1 on in
              let is_off : get_or (set ready r false) r false ≡ false = get_or-set_same ready r false false (omega (arith, low, nodes.ready_each)) in
              cc (is_on, is_off)
          | inr other ↦ let was = is.ready_is a (sym (old_ready a other.1) ∙ on) in (was.0, old_standing a other.1 ∙ was.1, was.2)
        ];
        is_kept = λ a first off.
            let apart = not_r a off in
            elim (is.is_kept a first (sym (old_standing a apart) ∙ off)) [
              | inl on ↦ inl (old_ready a apart ∙ on)
              | inr (inl none) ↦ absurd (nothing a none)
              | inr (inr (c, h, down, w)) ↦ elim (eqb_tells c r) [
                | inl same ↦ let P : ℕ → Type 0 = λ i. Contains (row_at waiting i) a in inr (inl (subst P same.1 w))
                | inr other ↦
                    let Q : List ℕ → Type 0 = λ xs. Contains xs a in
                    inr (inr (c, h, old_standing c other.1 ∙ down, subst Q (sym (row_not_set waiting emptied r [] r_in_waiting is_row c other.1)) w))
              ]
            ];
        waits_is = λ a c h off.
            let old = waits_fewer a c h in
            let was = is.waits_is a c old.0 (sym (old_standing c old.1) ∙ off) in
            (was.0, old_standing a (has_row a c was.2) ∙ was.1, was.2);
        rest_is = λ a h.
            let was = is.waits_is a r h now.1 in
            (was.0, old_standing a (has_row a r was.2) ∙ was.1);
      }
