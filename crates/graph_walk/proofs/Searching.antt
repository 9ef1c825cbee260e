-- A search in depth keeps its invariant, and leaves all nodes in a finishing order.
use Rattle.std.proofs.Common.{◌≡◌, ℕ, ◌+◌, ◌<◌, ◌≤◌, ◌⊎◌, inl, inr, Bool, true, false, List, [], ◌∷◌, ◌++◌, length, set, get_or, refl, sym, ◌∙◌, ap, subst, arith, append_assoc, append-nil}
use Rattle.std.specs.List.{Contains}
use Rattle.std.proofs.lemmas.List.{get_or-set_same, get_or-set_other, get_or_default, length-append}
use Rattle.std.proofs.lemmas.List.Elements.{Contains-append_left, Contains-push, Contains-push_cases, Contains-get_or}
use Rattle.std.proofs.lemmas.Bool.Decides.{eqb_tells}
use Rattle.std.proofs.lemmas.Bool.{cases_lt}
use Rattle.std.proofs.Math.ListN.{length-set}
use Rattle.graph_walk.specs.Graph.{Leads, start, along, AreMutual}
use Rattle.graph_walk.specs.Search.{IsFinishing, IsPath, IsSearch, work}
use Rattle.graph_walk.specs.Walk.{unmarked}
use Rattle.graph_walk.proofs.Leading.{reached_then, mutual_then}
use Rattle.graph_walk.proofs.Parting.{nothing, push_parted}
use Rattle.graph_walk.proofs.Walking.{marked_inside, unmarked_set}

-- a path with one more node that all its nodes reach
pub path_pushed : (out : ℕ → List ℕ) (path : List ℕ) (t : ℕ) → IsPath out path → ((a : ℕ) → Contains path a → Leads out a t) → IsPath out (path ++ t ∷ [])
path_pushed out path t chain comes lower upper e a b inside above = elim (push_parted path t lower upper e) [
  | inl (l, u) ↦ let P : List ℕ → Type 0 = λ xs. Contains xs b in let no = nothing b (subst P u above) in elim no [ ]
  | inr (rest, u, s) ↦
      let P : List ℕ → Type 0 = λ xs. Contains xs b in
      let Q : List ℕ → Type 0 = λ xs. Contains xs a in
      elim (Contains-push_cases rest t b (subst P u above)) [
        | inl old ↦ chain lower rest s a b inside old
        | inr same ↦ let R : ℕ → Type 0 = λ i. Leads out a i in subst R same (comes a (subst Q (sym s) (Contains-append_left lower rest a inside)))
      ]
]

-- a path without its last node
pub path_popped : (out : ℕ → List ℕ) (rest : List ℕ) (r : ℕ) → IsPath out (rest ++ r ∷ []) → IsPath out rest
path_popped out rest r chain lower upper e a b inside above =
    chain lower (upper ++ r ∷ []) (ap (λ (xs : List ℕ). xs ++ r ∷ []) e ∙ append_assoc lower upper (r ∷ [])) a b inside (Contains-append_left upper (r ∷ []) b above)

module _ (out : ℕ → List ℕ) (n : ℕ) (marks : List Bool) (followed path finished : List ℕ) (search : IsSearch out n marks followed path finished) where
  -- what was marked is marked after one more mark
  pub still_marked : (t a : ℕ) → get_or marks a false ≡ true → get_or (set marks t true) a false ≡ true
  still_marked t a on =
      let P : ℕ → Type 0 = λ i. get_or (set marks t true) i false ≡ true in
      elim (eqb_tells a t) [
        | inl same ↦
            let Q : ℕ → Type 0 = λ i. get_or marks i false ≡ true in
            subst P (sym same.1) (get_or-set_same marks t true false (marked_inside marks t (subst Q same.1 on)))
        | inr other ↦ get_or-set_other marks t a true false other.1 ∙ on
      ]

  -- a node that was not met is entered, from the end of the path
  pub search_entered : (t : ℕ) → t < n → get_or marks t false ≡ false → ((a : ℕ) → Contains path a → Leads out a t)
      → IsSearch out n (set marks t true) followed (path ++ t ∷ []) finished
  search_entered t low fresh comes =
      let P : ℕ → Type 0 = λ i. get_or (set marks t true) i false ≡ true in
      let now : P t = get_or-set_same marks t true false (omega (arith, low, search.one_each)) in
      record {
        one_each = length-set marks t true ∙ search.one_each;
        counts = search.counts;
        path_marked = λ a h. elim (Contains-push_cases path t a h) [
          | inl old ↦ still_marked t a (search.path_marked a old)
          | inr same ↦ subst P same now
        ];
        finished_marked = λ a h. still_marked t a (search.finished_marked a h);
        met = λ a on. elim (eqb_tells a t) [
          | inl same ↦ let Q : ℕ → Type 0 = λ i. Contains (path ++ t ∷ []) i in inl (subst Q (sym same.1) (Contains-push path t))
          | inr other ↦ elim (search.met a (sym (get_or-set_other marks t a true false other.1) ∙ on)) [
            | inl old ↦ inl (Contains-append_left path (t ∷ []) a old)
            | inr left ↦ inr left
          ]
        ];
        behind = λ a k less inside. still_marked t (get_or (out a) k 0) (search.behind a k less inside);
        closed = λ a b h edge. still_marked t b (search.closed a b h edge);
        chain = path_pushed out path t search.chain comes;
        later = λ before after e b u early ahead leads.
            let open_before : Contains after u ⊎ (Contains path u ⊎ (get_or marks u false ≡ false)) = elim ahead [
              | inl after_it ↦ inl after_it
              | inr (inl on_path) ↦ elim (Contains-push_cases path t u on_path) [
                | inl old ↦ inr (inl old)
                | inr same ↦ let Q : ℕ → Type 0 = λ i. get_or marks i false ≡ false in inr (inr (subst Q same fresh))
              ]
              | inr (inr off) ↦ elim (eqb_tells u t) [
                | inl same ↦ let Q : ℕ → Type 0 = λ i. get_or marks i false ≡ false in inr (inr (subst Q (sym same.1) fresh))
                | inr other ↦ inr (inr (sym (get_or-set_other marks t u true false other.1) ∙ off))
              ]
            ] in
            let (s, where_it_is, both) = search.later before after e b u early open_before leads in
            elim where_it_is [
              | inl after_it ↦ (s, inl after_it, both)
              | inr on_path ↦ (s, inr (Contains-append_left path (t ∷ []) s on_path), both)
            ];
      }

  -- more edges of a node are followed
  pub search_followed : (r count : ℕ) → ((k : ℕ) → k < count → k < length (out r) → get_or marks (get_or (out r) k 0) false ≡ true) → r < n
      → IsSearch out n marks (set followed r count) path finished
  search_followed r count behind low = record {
    one_each = search.one_each;
    counts = length-set followed r count ∙ search.counts;
    path_marked = search.path_marked;
    finished_marked = search.finished_marked;
    met = search.met;
    behind = λ a k less inside. elim (eqb_tells a r) [
      | inl same ↦
          let P : ℕ → Type 0 = λ i. k < get_or (set followed r count) i 0 in
          let Q : ℕ → Type 0 = λ i. k < length (out i) in
          let R : ℕ → Type 0 = λ i. get_or marks (get_or (out i) k 0) false ≡ true in
          let now = get_or-set_same followed r count 0 (omega (arith, low, search.counts)) in
          let under : k < get_or (set followed r count) r 0 = subst P same.1 less in
          subst R (sym same.1) (behind k (omega (arith, under, now)) (subst Q same.1 inside))
      | inr other ↦ search.behind a k (let old = get_or-set_other followed r a count 0 other.1 in omega (arith, old, less)) inside
    ];
    closed = search.closed;
    chain = search.chain;
    later = search.later;
  }

module _ (out : ℕ → List ℕ) (n : ℕ) (marks : List Bool) (followed rest finished : List ℕ) (r : ℕ) (search : IsSearch out n marks followed (rest ++ r ∷ []) finished)
    (all : (b : ℕ) → Contains (out r) b → get_or marks b false ≡ true) where
  kept_on : (a : ℕ) → get_or marks a false ≡ true → Contains rest a ⊎ Contains (finished ++ r ∷ []) a
  kept_on a on = elim (search.met a on) [
    | inl on_path ↦ elim (Contains-push_cases rest r a on_path) [
      | inl old ↦ inl old
      | inr same ↦ let P : ℕ → Type 0 = λ i. Contains (finished ++ r ∷ []) i in inr (subst P same (Contains-push finished r))
    ]
    | inr left ↦ inr (Contains-append_left finished (r ∷ []) a left)
  ]

  closed_on : (a b : ℕ) → Contains (finished ++ r ∷ []) a → Contains (out a) b → get_or marks b false ≡ true
  closed_on a b h edge = elim (Contains-push_cases finished r a h) [
    | inl old ↦ search.closed a b old edge
    | inr same ↦ let P : ℕ → Type 0 = λ i. Contains (out i) b in all b (subst P (sym same) edge)
  ]

  marked_on : (a : ℕ) → Contains (finished ++ r ∷ []) a → get_or marks a false ≡ true
  marked_on a h = elim (Contains-push_cases finished r a h) [
    | inl old ↦ search.finished_marked a old
    | inr same ↦ let P : ℕ → Type 0 = λ i. get_or marks i false ≡ true in subst P same (search.path_marked r (Contains-push rest r))
  ]

  -- what the last node of the path reaches is left with it, or it reaches a node before it on the path
  reaches_back : (u : ℕ) → Leads out r u → Contains (finished ++ r ∷ []) u ⊎ ((s : ℕ) × Contains rest s × Leads out r s)
  reaches_back _ start = inl (Contains-push finished r)
  reaches_back _ (along a b leads edge) = elim (reaches_back a leads) [
    | inl left ↦ elim (kept_on b (closed_on a b left edge)) [
      | inl on_path ↦ inr (b, on_path, along a b leads edge)
      | inr too ↦ inl too
    ]
    | inr back ↦ inr back
  ]

  comes_up : (s : ℕ) → Contains rest s → Leads out s r
  comes_up s h = search.chain rest (r ∷ []) refl s r h (Contains-push [] r)

  back_mutual : (u : ℕ) → Contains rest u ⊎ (get_or marks u false ≡ false) → Leads out r u → (s : ℕ) × Contains rest s × AreMutual out r s
  back_mutual u (inl on_path) leads = (u, on_path, (leads, comes_up u on_path))
  back_mutual u (inr off) leads = elim (reaches_back u leads) [
    | inl left ↦ let on = marked_on u left in cc (on, off)
    | inr (s, h, q) ↦ (s, h, (q, comes_up s h))
  ]

  later_end : (b u : ℕ) → Contains (finished ++ r ∷ []) b → Contains rest u ⊎ (get_or marks u false ≡ false) → Leads out b u → (s : ℕ) × Contains rest s × AreMutual out b s
  later_end b u early ahead leads = elim (Contains-push_cases finished r b early) [
    | inl old ↦
        let open_before : Contains [] u ⊎ (Contains (rest ++ r ∷ []) u ⊎ (get_or marks u false ≡ false)) = elim ahead [
          | inl on_path ↦ inr (inl (Contains-append_left rest (r ∷ []) u on_path))
          | inr off ↦ inr (inr off)
        ] in
        let (s, where_it_is, both) = search.later finished [] (sym (append-nil finished)) b u old open_before leads in
        elim where_it_is [
          | inl none ↦ let no = nothing s none in elim no [ ]
          | inr on_path ↦ elim (Contains-push_cases rest r s on_path) [
            | inl below ↦ (s, below, both)
            | inr same ↦
                let P : ℕ → Type 0 = λ i. AreMutual out b i in
                let with_r : AreMutual out b r = subst P (sym same) both in
                let (t, below, too) = back_mutual u ahead (reached_then out r b u with_r.1 leads) in
                (t, below, mutual_then out b r t with_r too)
          ]
        ]
    | inr same ↦
        let P : ℕ → Type 0 = λ i. Leads out i u in
        let Q : ℕ → Type 0 = λ i. (s : ℕ) × Contains rest s × AreMutual out i s in
        subst Q same (back_mutual u ahead (subst P (sym same) leads))
  ]

  -- the last node of the path is left
  pub search_left : IsSearch out n marks followed rest (finished ++ r ∷ [])
  search_left = record {
    one_each = search.one_each;
    counts = search.counts;
    path_marked = λ a h. search.path_marked a (Contains-append_left rest (r ∷ []) a h);
    finished_marked = marked_on;
    met = kept_on;
    behind = search.behind;
    closed = closed_on;
    chain = path_popped out rest r search.chain;
    later = λ before after e b u early ahead leads. elim (push_parted finished r before after e) [
      | inl (l, none) ↦
          let P : List ℕ → Type 0 = λ xs. Contains xs b in
          let Q : List ℕ → Type 0 = λ xs. Contains xs u in
          let on : Contains rest u ⊎ (get_or marks u false ≡ false) = elim ahead [
            | inl after_it ↦ let no = nothing u (subst Q none after_it) in elim no [ ]
            | inr still ↦ still
          ] in
          let (s, below, both) = later_end b u (subst P l early) on leads in
          (s, inr below, both)
      | inr (mid, end, parts) ↦
          let P : List ℕ → Type 0 = λ xs. Contains xs u in
          let on_path : ℕ → Type 0 = λ i. Contains (rest ++ r ∷ []) i in
          let Q : List ℕ → Type 0 = λ xs. (s : ℕ) × (Contains xs s ⊎ Contains rest s) × AreMutual out b s in
          let open_before : Contains mid u ⊎ (Contains (rest ++ r ∷ []) u ⊎ (get_or marks u false ≡ false)) = elim ahead [
            | inl after_it ↦ elim (Contains-push_cases mid r u (subst P end after_it)) [
              | inl old ↦ inl old
              | inr same ↦ inr (inl (subst on_path same (Contains-push rest r)))
            ]
            | inr (inl below) ↦ inr (inl (Contains-append_left rest (r ∷ []) u below))
            | inr (inr off) ↦ inr (inr off)
          ] in
          let (s, where_it_is, both) = search.later before mid parts b u early open_before leads in
          let found : Q (mid ++ r ∷ []) = elim where_it_is [
            | inl after_it ↦ (s, inl (Contains-append_left mid (r ∷ []) s after_it), both)
            | inr up ↦ elim (Contains-push_cases rest r s up) [
              | inl below ↦ (s, inr below, both)
              | inr same ↦ let R : ℕ → Type 0 = λ i. Contains (mid ++ r ∷ []) i in (s, inl (subst R same (Contains-push mid r)), both)
            ]
          ] in
          subst Q (sym end) found
    ];
  }

module _ (out : ℕ → List ℕ) (n : ℕ) (marks : List Bool) (followed path finished : List ℕ) (search : IsSearch out n marks followed path finished)
    (marks_now : List Bool) (followed_now path_now finished_now : List ℕ) where
  -- the same of equal lists
  search_same : (ms : List Bool) (fs ps ls : List ℕ) → marks_now ≡ ms → followed_now ≡ fs → path_now ≡ ps → finished_now ≡ ls → IsSearch out n ms fs ps ls → IsSearch out n marks_now followed_now path_now finished_now
  search_same ms fs ps ls m f p l is =
      let M : List Bool → Type 0 = λ xs. IsSearch out n xs followed_now path_now finished_now in
      let F : List ℕ → Type 0 = λ xs. IsSearch out n ms xs path_now finished_now in
      let P : List ℕ → Type 0 = λ xs. IsSearch out n ms fs xs finished_now in
      let L : List ℕ → Type 0 = λ xs. IsSearch out n ms fs ps xs in
      subst M (sym m) (subst F (sym f) (subst P (sym p) (subst L (sym l) is)))

  -- a search begins at a node that was not met
  pub search_begun : path ≡ [] → (t : ℕ) → t < n → get_or marks t false ≡ false
      → marks_now ≡ set marks t true → followed_now ≡ followed → path_now ≡ path ++ t ∷ [] → finished_now ≡ finished → IsSearch out n marks_now followed_now path_now finished_now
  search_begun none t low fresh m f p l =
      search_same (set marks t true) followed (path ++ t ∷ []) finished m f p l (search_entered out n marks followed path finished search t low fresh
      (λ a h. let P : List ℕ → Type 0 = λ xs. Contains xs a in let no = nothing a (subst P none h) in elim no [ ]))

  module _ (rest : List ℕ) (r : ℕ) (split : path ≡ rest ++ r ∷ []) where
    last_on : Contains path r
    last_on = let P : List ℕ → Type 0 = λ xs. Contains xs r in subst P (sym split) (Contains-push rest r)

    module _ (row : List ℕ) (is_row : row ≡ out r) (seen : List Bool) (are : seen ≡ marks) (from : ℕ) (count : from ≡ get_or followed r 0) where
      same_at : (k : ℕ) → get_or row k 0 ≡ get_or (out r) k 0
      same_at k = ap (λ (xs : List ℕ). get_or xs k 0) is_row

      seen_on : (t : ℕ) (b : Bool) → get_or seen t false ≡ b → get_or marks t false ≡ b
      seen_on t b h = let P : List Bool → Type 0 = λ ms. get_or ms t false ≡ b in subst P are h

      before_marked : (k : ℕ) → k < from → k < length (out r) → get_or marks (get_or (out r) k 0) false ≡ true
      before_marked k less inside = search.behind r k (omega (arith, less, count)) inside

      -- an edge of the last node leads to a node that was not met
      pub search_onward : (at : ℕ) → at < length row → get_or seen (get_or row at 0) false ≡ false
          → ((k : ℕ) → from ≤ k → k < at → get_or seen (get_or row k 0) false ≡ true) → ((b : ℕ) → Contains (out r) b → b < n) → r < n
          → marks_now ≡ set marks (get_or row at 0) true → followed_now ≡ followed → path_now ≡ path ++ get_or row at 0 ∷ [] → finished_now ≡ finished
          → IsSearch out n marks_now (set followed_now r (at + 1)) path_now finished_now
      search_onward at inside fresh first ends low m f p l =
          let t = get_or row at 0 in
          let In : List ℕ → Type 0 = λ xs. Contains xs t in
          let edge : Contains (out r) t = subst In is_row (Contains-get_or row at 0 inside) in
          let under = ends t edge in
          let off = seen_on t false fresh in
          let comes : (a : ℕ) → Contains path a → Leads out a t = λ a h.
          let P : List ℕ → Type 0 = λ xs. Contains xs a in
          let Q : ℕ → Type 0 = λ i. Leads out i t in
          elim (Contains-push_cases rest r a (subst P split h)) [
            | inl below ↦ along r t (search.chain rest (r ∷ []) split a r below (Contains-push [] r)) edge
            | inr same ↦ subst Q same (along r t start edge)
          ] in
          let entered = search_entered out n marks followed path finished search t under off comes in
          let Q : ℕ → Type 0 = λ i. get_or (set marks t true) i false ≡ true in
          let still = still_marked out n marks followed path finished search t in
          let behind : (k : ℕ) → k < at + 1 → k < length (out r) → Q (get_or (out r) k 0) = λ k less within. elim (cases_lt k from) [
            | inl early ↦ still (get_or (out r) k 0) (before_marked k early within)
            | inr on ↦ elim (cases_lt k at) [
              | inl before ↦ subst Q (same_at k) (still (get_or row k 0) (seen_on (get_or row k 0) true (first k on before)))
              | inr after ↦
                  let here_it_is : at ≡ k = omega (arith, less, after) in
                  subst Q (ap (λ (i : ℕ). get_or row i 0) here_it_is ∙ same_at k) (get_or-set_same marks t true false (omega (arith, under, search.one_each)))
            ]
          ] in
          let F : List ℕ → Type 0 = λ xs. IsSearch out n marks_now (set xs r (at + 1)) path_now finished_now in
          let M : List Bool → Type 0 = λ xs. IsSearch out n xs (set followed r (at + 1)) path_now finished_now in
          let P : List ℕ → Type 0 = λ xs. IsSearch out n (set marks t true) (set followed r (at + 1)) xs finished_now in
          let L : List ℕ → Type 0 = λ xs. IsSearch out n (set marks t true) (set followed r (at + 1)) (path ++ t ∷ []) xs in
          subst F (sym f) (subst M (sym m) (subst P (sym p) (subst L (sym l) (search_followed out n (set marks t true) followed (path ++ t ∷ []) finished entered r (at + 1) behind low))))

      -- all edges of the last node lead to nodes that were met
      pub search_back : ((k : ℕ) → from ≤ k → k < length row → get_or seen (get_or row k 0) false ≡ true)
          → marks_now ≡ marks → followed_now ≡ followed → path ≡ path_now ++ r ∷ [] → finished_now ≡ finished ++ r ∷ [] → IsSearch out n marks_now followed_now path_now finished_now
      search_back rest_marked m f p l =
          let P : List ℕ → Type 0 = λ xs. IsSearch out n marks followed xs finished in
          let all : (b : ℕ) → Contains (out r) b → get_or marks b false ≡ true = λ b (k, inside, is).
          let Q : ℕ → Type 0 = λ i. get_or marks i false ≡ true in
          let same : get_or (out r) k 0 ≡ b = get_or_default (out r) k 0 b inside ∙ is in
          elim (cases_lt k from) [
            | inl early ↦ subst Q same (before_marked k early inside)
            | inr on ↦ subst Q (same_at k ∙ same) (seen_on (get_or row k 0) true (rest_marked k on (let len = ap length is_row in omega (arith, len, inside))))
          ] in
          search_same marks followed path_now (finished ++ r ∷ []) m f refl l (search_left out n marks followed path_now finished r (subst P p search) all)

-- the last node of a path is a node of the graph
pub last_inside : (out : ℕ → List ℕ) (n : ℕ) (marks : List Bool) (followed path finished : List ℕ) → IsSearch out n marks followed path finished
    → (last : ℕ) → (rest : List ℕ) × (path ≡ rest ++ last ∷ []) → last < n
last_inside out n marks followed path finished search last (rest, split) =
    let P : List ℕ → Type 0 = λ xs. Contains xs last in
    let low = marked_inside marks last (search.path_marked last (subst P (sym split) (Contains-push rest last))) in
    omega (arith, low, search.one_each)

-- there is less to do once a node is entered
pub work_falls : (marks news : List Bool) (path longer : List ℕ) (t : ℕ) → t < length marks → get_or marks t false ≡ false → news ≡ set marks t true → longer ≡ path ++ t ∷ [] → work news longer < work marks path
work_falls marks news path longer t low off m p =
    let fewer = unmarked_set marks t low off in
    let count = ap unmarked m in
    let more : length (path ++ t ∷ []) ≡ length path + 1 = length-append path (t ∷ []) in
    let len = ap length p in
    omega (arith, fewer, count, more, len)

-- nothing is met yet
pub search_start : (out : ℕ → List ℕ) (n : ℕ) (marks : List Bool) (followed : List ℕ) → length marks ≡ n → length followed ≡ n
    → ((a : ℕ) → get_or marks a false ≡ false) → ((a : ℕ) → get_or followed a 0 ≡ 0) → IsSearch out n marks followed [] []
search_start out n marks followed len counts none zeros = record {
  one_each = len;
  counts = counts;
  path_marked = λ a h. let no = nothing a h in elim no [ ];
  finished_marked = λ a h. let no = nothing a h in elim no [ ];
  met = λ a on. let off = none a in cc (on, off);
  behind = λ a k less inside. let low = zeros a in absurd (omega (arith, low, less));
  closed = λ a b h edge. let no = nothing a h in elim no [ ];
  chain = λ lower upper e a b inside above.
      let P : List ℕ → Type 0 = λ xs. Contains xs a in
      let no = nothing a (subst P (sym e) (Contains-append_left lower upper a inside)) in elim no [ ];
  later = λ before after e b u early ahead leads.
      let P : List ℕ → Type 0 = λ xs. Contains xs b in
      let no = nothing b (subst P (sym e) (Contains-append_left before after b early)) in elim no [ ];
}

-- a search that met all nodes and is at none
pub search_done : (out : ℕ → List ℕ) (n : ℕ) (marks : List Bool) (followed finished : List ℕ) → IsSearch out n marks followed [] finished
    → ((a : ℕ) → a < n → get_or marks a false ≡ true) → IsFinishing out n finished
search_done out n marks followed finished search all = record {
  nodes = λ a h. let low = marked_inside marks a (search.finished_marked a h) in omega (arith, low, search.one_each);
  all = λ a low. elim (search.met a (all a low)) [
    | inl none ↦ let no = nothing a none in elim no [ ]
    | inr left ↦ left
  ];
  later = λ before after e b a early after_it leads.
      let (s, where_it_is, both) = search.later before after e b a early (inl after_it) leads in
      elim where_it_is [
        | inl found ↦ (s, found, both)
        | inr none ↦ let no = nothing s none in elim no [ ]
      ];
}
