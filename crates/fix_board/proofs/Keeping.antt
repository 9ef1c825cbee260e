-- Each event keeps the board's invariant.
use Rattle.std.proofs.Common.{◌≡◌, ◌≢◌, ℕ, ◌+◌, ◌-◌, ◌<◌, ◌≤◌, ◌⊎◌, ◌||◌, ◌&&◌, ◌==◌, not, inl, inr, Bool, true, false, List, Option, Some, None, IsSomeAnd, IsTrue, nat_lt, length, replicate, set, get_or, refl, sym, eq-eqb, ◌∙◌, ap, subst, arith}
use Rattle.std.proofs.lemmas.List.{get_or-set_same, get_or-set_other, get_or_read_under, get_or-replicate, set-set, set-get_or}
use Rattle.std.proofs.Math.ListN.{length-set, length-replicate}
use Rattle.fix_engine.specs.Lattice.{LatticeLaws}
use Rattle.fix_engine.specs.Least.{Equations, FlowLaws, IsLeast, IsBetween, IsSatisfied, value_at}
use Rattle.fix_engine.specs.Solving.{AreSources, AreStarts, rises, posted, raised, one_if, work_left}
use Rattle.fix_engine.proofs.Rising.{value_read, between_start, between_posted, least_at_rest, source_fits}
use Rattle.fix_engine.proofs.Pending.{pending_after, read_after_write}
use Rattle.fix_engine.proofs.Work.{work_falls, one_if_or}
use Rattle.fix_board.specs.Edges.{Marks, is_ready}
use Rattle.fix_board.specs.Board.{State, is_dirty, times_out, dirt, IsKept, IsStart, IsNext, IsBoard, AreTargets, AreHome, IsDone, MarksFrom, after_take, after_back, CanPost, Posts}

module _ {V : Type 0} {fits : List ℕ → V → Type 0} {height : List ℕ → ℕ} {rank : List ℕ → V → ℕ} {below : V → V → Bool} {joined : V → V → V}
    (lat : LatticeLaws fits height rank below joined) (k : List ℕ) (s : Equations V) (flow : FlowLaws (fits k) below s) where
  pub start_kept : (b : State V) → IsStart s b → IsKept (fits k) below s b
  start_kept b start = record {
    between = between_start lat k s flow b.values start.values.one_each start.values.starts;
    dirty_each = start.dirty_each;
    out_each = start.out_each;
    pending = λ e h. inl (start.all_dirty e h);
  }

  -- the values are below every solution, and every edge is satisfied
  pub least_when_done : (b : State V) → IsKept (fits k) below s b
      → ((e : ℕ) → e < s.edges → is_dirty b e ≡ false) → ((e : ℕ) → e < s.edges → times_out b e ≡ 0) → IsLeast (fits k) below s b.values
  least_when_done b kept clean home =
      least_at_rest lat k s flow b.values kept.between (λ e h.
      elim (kept.pending e h) [
        | inl dirty ↦ let c = clean e h in cc (dirty, c)
        | inr rest ↦ elim rest [
          | inl out ↦ let z = home e h in absurd (omega (arith, out, z))
          | inr satisfied ↦ satisfied
        ]
      ])

  module _ (b : State V) (kept : IsKept (fits k) below s b) (e : ℕ) (is_edge : e < s.edges) where
    dirty_room : e < length b.dirty
    dirty_room = omega (arith, is_edge, kept.dirty_each)

    out_room : e < length b.out
    out_room = omega (arith, is_edge, kept.out_each)

    pub take_kept : IsKept (fits k) below s (after_take b e)
    take_kept = record {
      between = kept.between;
      dirty_each = length-set b.dirty e false ∙ kept.dirty_each;
      out_each = length-set b.out e (times_out b e + 1) ∙ kept.out_each;
      pending = λ d h.
          elim (read_after_write b.out e d (times_out b e + 1) 0 out_room) [
            | inl here ↦ inr (inl (omega (arith, here.1)))
            | inr there ↦
                elim (kept.pending d h) [
                  | inl dirty ↦ inl (get_or-set_other b.dirty e d false false there.0 ∙ dirty)
                  | inr rest ↦ elim rest [
                    | inl out ↦ inr (inl (omega (arith, there.1, out)))
                    | inr satisfied ↦ inr (inr satisfied)
                  ]
                ]
          ];
    }

    pub back_kept : IsKept (fits k) below s (after_back b e)
    back_kept = record {
      between = kept.between;
      dirty_each = length-set b.dirty e true ∙ kept.dirty_each;
      out_each = length-set b.out e (times_out b e - 1) ∙ kept.out_each;
      pending = λ d h.
          elim (read_after_write b.dirty e d true false dirty_room) [
            | inl here ↦ inl here.1
            | inr there ↦
                elim (kept.pending d h) [
                  | inl dirty ↦ inl (there.1 ∙ dirty)
                  | inr rest ↦ elim rest [
                    | inl out ↦ let o = get_or-set_other b.out e d (times_out b e - 1) 0 there.0 in inr (inl (omega (arith, o, out)))
                    | inr satisfied ↦ inr (inr satisfied)
                  ]
                ]
          ];
    }

-- dirty or out
abbrev Waits : {V : Type 0} → State V → ℕ → Type 0
Waits b d = (is_dirty b d ≡ true) ⊎ (0 < times_out b d)

or_first : (a b : Bool) → a ≡ true → (a || b) ≡ true
or_first a b h = rw h refl

or_second : (a b c : Bool) → b ≡ true → c ≡ true → (a || (b && c)) ≡ true
or_second true b c p q = refl
or_second false b c p q = rw (p, q) refl

module _ {V : Type 0} {fits : List ℕ → V → Type 0} {height : List ℕ → ℕ} {rank : List ℕ → V → ℕ} {below : V → V → Bool} {joined : V → V → V}
    (lat : LatticeLaws fits height rank below joined) (k : List ℕ) (s : Equations V) (flow : FlowLaws (fits k) below s)
    (b : State V) (kept : IsKept (fits k) below s b) (e : ℕ) (from : V) (can : CanPost (fits k) below s b e from)
    (new : State V) (posts : Posts below joined s b e from new) where
  dirty_stays : (d : ℕ) → d < s.edges → is_dirty b d ≡ true → is_dirty new d ≡ true
  dirty_stays d h was = posts.dirty d h ∙ or_first (is_dirty b d) (rises below s b.values e from && (s.source d == s.target e)) was

  out_after : (d : ℕ) → ((d ≡ e) × (times_out new d ≡ times_out b e - 1)) ⊎ ((d ≢ e) × (times_out new d ≡ times_out b d))
  out_after d =
      let room : e < length b.out = let i = can.is_edge in omega (arith, i, kept.out_each) in
      let P : List ℕ → Type 0 = λ xs. ((d ≡ e) × (get_or xs d 0 ≡ times_out b e - 1)) ⊎ ((d ≢ e) × (get_or xs d 0 ≡ times_out b d)) in
      subst P (sym posts.out) (read_after_write b.out e d (times_out b e - 1) 0 room)

  stays : (d : ℕ) → d < s.edges → d ≢ e → Waits b d → Waits new d
  stays d h other yet = elim yet [
    | inl dirty ↦ inl (dirty_stays d h dirty)
    | inr out ↦ elim (out_after d) [
      | inl here ↦ absurd (other here.0)
      | inr there ↦ inr (omega (arith, there.1, out))
    ]
  ]

  itself : (from ≡ value_at s b.values (s.source e)) ⊎ Waits new e
  itself = elim can.covered [
    | inl is ↦ inl is
    | inr rest ↦ elim rest [
      | inl dirty ↦ inr (inl (dirty_stays e can.is_edge dirty))
      | inr more ↦ elim (out_after e) [
        | inl here ↦ inr (inr (omega (arith, here.1, more)))
        | inr there ↦ absurd (there.0 refl)
      ]
    ]
  ]

  risen : rises below s b.values e from ≡ true → (d : ℕ) → d < s.edges → s.source d ≡ s.target e → Waits new d
  risen rose d h is = inl (posts.dirty d h ∙ or_second (is_dirty b d) (rises below s b.values e from) (s.source d == s.target e) rose (eq-eqb (s.source d) (s.target e) is))

  pending : (d : ℕ) → d < s.edges → Waits b d ⊎ IsSatisfied below s b.values d
  pending d h = elim (kept.pending d h) [
    | inl dirty ↦ inl (inl dirty)
    | inr rest ↦ elim rest [
      | inl out ↦ inl (inr out)
      | inr satisfied ↦ inr satisfied
    ]
  ]

  pending_new : (d : ℕ) → d < s.edges → Waits new d ⊎ IsSatisfied below s new.values d
  pending_new =
      let S : List V → Type 0 = λ zs. (d : ℕ) → d < s.edges → Waits new d ⊎ IsSatisfied below s zs d in
      subst S (sym posts.values) (pending_after lat k s flow b.values kept.between e can.is_edge from can.fit (Waits b) (Waits new) stays risen itself pending)

  pub post_kept : IsKept (fits k) below s new
  post_kept = record {
    between =
        let P : List V → Type 0 = λ xs. IsBetween (fits k) below s xs in
        subst P (sym posts.values) (between_posted lat k s flow b.values kept.between e can.is_edge from can.fit can.lower);
    dirty_each = posts.dirty_each ∙ kept.dirty_each;
    out_each = ap length posts.out ∙ length-set b.out e (times_out b e - 1) ∙ kept.out_each;
    pending = λ d h. elim (pending_new d h) [
      | inl yet ↦ elim yet [
        | inl dirty ↦ inl dirty
        | inr out ↦ inr (inl out)
      ]
      | inr satisfied ↦ inr (inr satisfied)
    ];
  }

ready_dirty : (dirty few : Bool) → (dirty && few) ≡ true → dirty ≡ true
ready_dirty true few h = refl
ready_dirty false few h = h

-- an edge that was taken and given back leaves the board as it was
pub back_undone : {V : Type 0} (fits : V → Type 0) (below : V → V → Bool) (o : Option (Equations V)) (b : State V) (e : ℕ)
    → IsSomeAnd o (λ s. IsKept fits below s b) → IsNext b e → after_back (after_take b e) e ≡ b
back_undone fits below None b e kept next = absurd kept
back_undone fits below (Some s) b e kept next =
    let n = times_out b e in
    let room : e < length b.out = let h = next.is_edge in omega (arith, h, kept.dirty_each, kept.out_each) in
    let was : is_dirty b e ≡ true = ready_dirty (is_dirty b e) (nat_lt n 4294967295) next.ready in
    let one : get_or (set b.out e (n + 1)) e 0 ≡ n + 1 = get_or-set_same b.out e (n + 1) 0 room in
    let less : get_or (set b.out e (n + 1)) e 0 - 1 ≡ n = omega (arith, one) in
    let dirty_is : set (set b.dirty e false) e true ≡ b.dirty = set-set b.dirty e false true ∙ ap (set b.dirty e) (sym was) ∙ set-get_or b.dirty e false in
    let out_is : set (set b.out e (n + 1)) e (get_or (set b.out e (n + 1)) e 0 - 1) ≡ b.out =
    set-set b.out e (n + 1) (get_or (set b.out e (n + 1)) e 0 - 1) ∙ ap (set b.out e) less ∙ set-get_or b.out e 0 in
    λ i. record { values = b.values; dirty = dirty_is i; out = out_is i }

-- what holds of the value holds of it with what follows from it
some_map_3 : {A : Type 0} (o : Option A) (P Q R S : A → Type 0) → IsSomeAnd o P → IsSomeAnd o Q → IsSomeAnd o R → ((x : A) → P x → Q x → R x → S x) → IsSomeAnd o S
some_map_3 None P Q R S p q r f = p
some_map_3 (Some x) P Q R S p q r f = f x p q r

module _ {V : Type 0} {fits : List ℕ → V → Type 0} {height : List ℕ → ℕ} {rank : List ℕ → V → ℕ} {below : V → V → Bool} {joined : V → V → V}
    (lat : LatticeLaws fits height rank below joined) (k : List ℕ) (o : Option (Equations V)) (b : State V) (sources targets : List ℕ)
    (board : IsSomeAnd o (λ s. IsBoard (fits k) below s b sources targets)) where
  pub board_post : (e : ℕ) (from : V) (new : State V) → IsSomeAnd o (λ s. CanPost (fits k) below s b e from)
      → IsSomeAnd o (λ s. Posts below joined s b e from new) → IsSomeAnd o (λ s. IsBoard (fits k) below s new sources targets)
  board_post e from new can posts =
      let P : Equations V → Type 0 = λ s. IsBoard (fits k) below s b sources targets in
      let C : Equations V → Type 0 = λ s. CanPost (fits k) below s b e from in
      let S : Equations V → Type 0 = λ s. Posts below joined s b e from new in
      let Q : Equations V → Type 0 = λ s. IsBoard (fits k) below s new sources targets in
      some_map_3 o P C S Q board can posts (λ s w c p.
      record { laws = w.laws; sources_are = w.sources_are; targets_are = w.targets_are; kept = post_kept lat k s w.laws b w.kept e from c new p })

-- the board of a flow whose values and edges' ends were just listed
pub board_new : {V : Type 0} {fits : List ℕ → V → Type 0} {height : List ℕ → ℕ} {rank : List ℕ → V → ℕ} {below : V → V → Bool} {joined : V → V → V}
    (lat : LatticeLaws fits height rank below joined) (k kind : List ℕ) (s : Equations V) (o : Option (Equations V)) (flow : FlowLaws (fits k) below s) (xs : List V) (marks : Marks) (count : ℕ) (sources targets : List ℕ)
    → o ≡ Some s → kind ≡ k → count ≡ s.edges → AreStarts s xs → marks ≡ record { dirty = replicate count true; out = replicate count 0 } → AreSources s sources → AreTargets s targets
    → IsSomeAnd o (λ t. IsBoard (fits kind) below t (record { values = xs; dirty = marks.dirty; out = marks.out }) sources targets)
board_new {V} {fits} {height} {rank} {below} {joined} lat k kind s o flow xs marks count sources targets o_is kind_is count_is starts marks_is sources_are targets_are =
    let all = length-replicate count true in
    let none = length-replicate {A = ℕ} count 0 in
    let start : IsStart s (record { values = xs; dirty = replicate count true; out = replicate count 0 }) = record {
      values = starts;
      dirty_each = omega (arith, all, count_is);
      out_each = omega (arith, none, count_is);
      all_dirty = λ e h. get_or-replicate count e true false (omega (arith, h, count_is));
      none_out = λ e h. get_or-replicate {A = ℕ} count e 0 0 (omega (arith, h, count_is));
    } in
    let M : Marks → Type 0 = λ m. IsBoard (fits k) below s (record { values = xs; dirty = m.dirty; out = m.out }) sources targets in
    let board = subst M (sym marks_is) (record { laws = flow; sources_are = sources_are; targets_are = targets_are; kept = start_kept lat k s flow (record { values = xs; dirty = replicate count true; out = replicate count 0 }) start }) in
    let Q : List ℕ → Type 0 = λ i. IsBoard (fits i) below s (record { values = xs; dirty = marks.dirty; out = marks.out }) sources targets in
    let O : Option (Equations V) → Type 0 = λ p. IsSomeAnd p (λ t. IsBoard (fits kind) below t (record { values = xs; dirty = marks.dirty; out = marks.out }) sources targets) in
    subst O (sym o_is) (subst Q (sym kind_is) board)

-- what `join_into` leaves is what a post leaves
posts_of : {V : Type 0} (fits : V → Type 0) (below : V → V → Bool) (joined : V → V → V) (s : Equations V) (b : State V) (sources targets : List ℕ) (e t : ℕ) (from found : V) (vs : List V) (ds : List Bool)
    → IsBoard fits below s b sources targets → e < s.edges → t ≡ get_or targets e t → found ≡ s.flow e from
    → ((d : V) → vs ≡ set b.values t (joined (get_or b.values t d) found))
    → ((d : V) → MarksFrom sources t (not (below found (get_or b.values t d))) b.dirty ds)
    → Posts below joined s b e from (record { values = vs; dirty = ds; out = set b.out e (get_or b.out e 0 - 1) })
posts_of {V} fits below joined s b sources targets e t from found vs ds w is_edge t_is found_is vs_is ds_is =
    let t_read : t ≡ s.target e = get_or_read_under targets e s.edges t 0 t_is is_edge (sym w.targets_are.target_each) ∙ w.targets_are.target_is e is_edge in
    let P : ℕ → Type 0 = λ n. vs ≡ set b.values n (joined (get_or b.values n (s.start (s.target e))) found) in
    let P2 : V → Type 0 = λ v. vs ≡ set b.values (s.target e) (joined (get_or b.values (s.target e) (s.start (s.target e))) v) in
    let Q : ℕ → Type 0 = λ n. MarksFrom sources n (not (below found (get_or b.values n (s.start (s.target e))))) b.dirty ds in
    let Q2 : V → Type 0 = λ v. MarksFrom sources (s.target e) (not (below v (get_or b.values (s.target e) (s.start (s.target e))))) b.dirty ds in
    let marks = subst Q2 found_is (subst Q t_read (ds_is (s.start (s.target e)))) in
    record {
      values = subst P2 found_is (subst P t_read (vs_is (s.start (s.target e))));
      dirty_each = marks.same_length;
      dirty = λ d h.
          let R : ℕ → Type 0 = λ n. get_or ds d false ≡ (get_or b.dirty d false || (rises below s b.values e from && (n == s.target e))) in
          subst R (w.sources_are.source_is d h) (marks.each d (omega (arith, h, w.kept.dirty_each)));
      out = refl;
    }

pub board_posts : {V : Type 0} (fits : V → Type 0) (below : V → V → Bool) (joined : V → V → V) (o : Option (Equations V)) (b : State V) (sources targets : List ℕ) (e t : ℕ) (from found : V) (vs : List V) (marked home : Marks)
    → IsSomeAnd o (λ s. IsBoard fits below s b sources targets) → IsSomeAnd o (λ s. CanPost fits below s b e from) → t ≡ get_or targets e t → IsSomeAnd o (λ s. found ≡ s.flow e from)
    → ((d : V) → vs ≡ set b.values t (joined (get_or b.values t d) found))
    → ((d : V) → MarksFrom sources t (not (below found (get_or b.values t d))) b.dirty marked.dirty)
    → marked.out ≡ b.out → home ≡ record { dirty = marked.dirty; out = set marked.out e (get_or marked.out e 0 - 1) }
    → IsSomeAnd o (λ s. Posts below joined s b e from (record { values = vs; dirty = home.dirty; out = home.out }))
board_posts fits below joined None b sources targets e t from found vs marked home w can t_is found_is vs_is ds_is out_is home_is = w
board_posts fits below joined (Some s) b sources targets e t from found vs marked home w can t_is found_is vs_is ds_is out_is home_is =
    let posts = posts_of fits below joined s b sources targets e t from found vs marked.dirty w can.is_edge t_is found_is vs_is ds_is in
    let O : List ℕ → Type 0 = λ os. Posts below joined s b e from (record { values = vs; dirty = marked.dirty; out = set os e (get_or os e 0 - 1) }) in
    let H : Marks → Type 0 = λ m. Posts below joined s b e from (record { values = vs; dirty = m.dirty; out = m.out }) in
    subst H (sym home_is) (subst O (sym out_is) posts)

pub board_edge : {V : Type 0} (fits : V → Type 0) (below : V → V → Bool) (o : Option (Equations V)) (b : State V) (sources targets : List ℕ) (e : ℕ) (from : V)
    → IsSomeAnd o (λ s. IsBoard fits below s b sources targets) → IsSomeAnd o (λ s. CanPost fits below s b e from) → e < length b.dirty
board_edge fits below None b sources targets e from w can = absurd w
board_edge fits below (Some s) b sources targets e from w can = omega (arith, w.kept.dirty_each, can.is_edge)

-- what the code reads at an edge
source_read : {V : Type 0} (fits : V → Type 0) (below : V → V → Bool) (s : Equations V) (b : State V) (sources targets : List ℕ) (e u : ℕ) (src : V)
    → IsBoard fits below s b sources targets → e < s.edges → u ≡ get_or sources e 0 → src ≡ get_or b.values u src → src ≡ value_at s b.values (s.source e)
source_read fits below s b sources targets e u src w is_edge u_is src_is =
    value_read s b.values u (s.source e) src (u_is ∙ w.sources_are.source_is e is_edge)
    (let h = w.laws.sources e is_edge in omega (arith, h, w.kept.between.one_each)) src_is

pub board_source_fits : {V : Type 0} {fits : List ℕ → V → Type 0} {height : List ℕ → ℕ} {rank : List ℕ → V → ℕ} {below : V → V → Bool} {joined : V → V → V}
    (lat : LatticeLaws fits height rank below joined) (k : List ℕ) (o : Option (Equations V)) (b : State V) (sources targets : List ℕ) (e u : ℕ) (src : V)
    → IsSomeAnd o (λ s. IsBoard (fits k) below s b sources targets) → IsSomeAnd o (λ s. e < s.edges) → u ≡ get_or sources e 0 → src ≡ get_or b.values u src → fits k src
board_source_fits lat k None b sources targets e u src w is_edge u_is src_is = absurd w
board_source_fits {V} {fits} {height} {rank} {below} lat k (Some s) b sources targets e u src w is_edge u_is src_is =
    let P : V → Type 0 = λ v. fits k v in
    subst P (sym (source_read (fits k) below s b sources targets e u src w is_edge u_is src_is)) (source_fits lat k s w.laws b.values w.kept.between e is_edge)

pub may_dirty : {V : Type 0} (fits : V → Type 0) (below : V → V → Bool) (o : Option (Equations V)) (b : State V) (sources targets : List ℕ) (e u : ℕ) (src from : V)
    → IsSomeAnd o (λ s. IsBoard fits below s b sources targets) → IsSomeAnd o (λ s. e < s.edges) → u ≡ get_or sources e 0 → src ≡ get_or b.values u src
    → fits from → below from src ≡ true → (times_out b e ≡ 0 → ⊥) → is_dirty b e ≡ true → IsSomeAnd o (λ s. CanPost fits below s b e from)
may_dirty fits below None b sources targets e u src from w is_edge u_is src_is from_fits low out is_yes = w
may_dirty fits below (Some s) b sources targets e u src from w is_edge u_is src_is from_fits low out is_yes =
    let read = source_read fits below s b sources targets e u src w is_edge u_is src_is in
    record { is_edge = is_edge; out = omega (arith, out); fit = from_fits; lower = cc (read, low); covered = inr (inl is_yes) }

pub may_last : {V : Type 0} {fits : List ℕ → V → Type 0} {height : List ℕ → ℕ} {rank : List ℕ → V → ℕ} {below : V → V → Bool} {joined : V → V → V}
    (lat : LatticeLaws fits height rank below joined) (k : List ℕ) (o : Option (Equations V)) (b : State V) (sources targets : List ℕ) (e u : ℕ) (r : Bool) (src from : V)
    → IsSomeAnd o (λ s. IsBoard (fits k) below s b sources targets) → IsSomeAnd o (λ s. e < s.edges) → u ≡ get_or sources e 0 → src ≡ get_or b.values u src
    → fits k from → below from src ≡ true → (times_out b e ≡ 0 → ⊥) → is_dirty b e ≡ false → times_out b e ≤ 1 → r ≡ below src from
    → (IsTrue r → IsSomeAnd o (λ s. CanPost (fits k) below s b e from)) × (IsSomeAnd o (λ s. CanPost (fits k) below s b e from) → IsTrue r)
may_last lat k None b sources targets e u r src from w is_edge u_is src_is from_fits low out is_no few r_is = absurd w
may_last {V} {fits} {height} {rank} {below} {joined} lat k (Some s) b sources targets e u r src from w is_edge u_is src_is from_fits low out is_no few r_is =
    let read = source_read (fits k) below s b sources targets e u src w is_edge u_is src_is in
    let src_fits : fits k src = let P : V → Type 0 = λ v. fits k v in subst P (sym read) (source_fits lat k s w.laws b.values w.kept.between e is_edge) in (
      λ rises. record {
        is_edge = is_edge;
        out = omega (arith, out);
        fit = from_fits;
        lower = cc (read, low);
        covered = inl (lat.antisymmetric k from src from_fits src_fits low (sym r_is ∙ rises) ∙ read);
      },
      λ can. elim can.covered [
        | inl same ↦ r_is ∙ (let P : V → Type 0 = λ v. below src v ≡ true in subst P (read ∙ sym same) (lat.reflexive k src src_fits))
        | inr rest ↦ elim rest [
          | inl was ↦ cc (was, is_no)
          | inr more ↦ absurd (omega (arith, more, few))
        ]
      ],
    )

module _ {V : Type 0} {fits : List ℕ → V → Type 0} {height : List ℕ → ℕ} {rank : List ℕ → V → ℕ} {below : V → V → Bool} {joined : V → V → V}
    (lat : LatticeLaws fits height rank below joined) (k : List ℕ) (s : Equations V) (flow : FlowLaws (fits k) below s)
    (b : State V) (kept : IsKept (fits k) below s b) (home : AreHome b s.edges) (e : ℕ) (is_edge : e < s.edges) (ready : is_ready b.dirty b.out e ≡ true)
    (from : V) (from_is : from ≡ value_at s b.values (s.source e)) (new : State V) (posts : Posts below joined s (after_take b e) e from new) where
  pub step_home : AreHome new s.edges
  step_home d h =
      let room : e < length b.out = omega (arith, is_edge, kept.out_each) in
      let room2 : e < length (set b.out e (times_out b e + 1)) = omega (arith, length-set b.out e (times_out b e + 1), room) in
      let out_is : times_out new d ≡ get_or (set (set b.out e (times_out b e + 1)) e (times_out (after_take b e) e - 1)) d 0 = ap (λ (xs : List ℕ). get_or xs d 0) posts.out in
      elim (read_after_write (set b.out e (times_out b e + 1)) e d (times_out (after_take b e) e - 1) 0 room2) [
        | inl here ↦
            let one : times_out (after_take b e) e ≡ times_out b e + 1 = get_or-set_same b.out e (times_out b e + 1) 0 room in
            let zero_before = home e is_edge in omega (arith, out_is, here.1, one, zero_before)
        | inr there ↦
            let other = get_or-set_other b.out e d (times_out b e + 1) 0 there.0 in
            let zero_before = home d h in omega (arith, out_is, there.1, other, zero_before)
      ]

  pub step_falls : work_left (rank k) s new.values (dirt new) < work_left (rank k) s b.values (dirt b)
  step_falls =
      let from_fits : fits k from = let P : V → Type 0 = λ v. fits k v in subst P (sym from_is) (source_fits lat k s flow b.values kept.between e is_edge) in
      let room : e < length b.dirty = omega (arith, is_edge, kept.dirty_each) in
      let more : (d : ℕ) → d < s.edges → dirt new d ≤ one_if (get_or (set b.dirty e false) d false) + one_if (rises below s b.values e from && (s.source d == s.target e)) =
      λ d h. let is = ap one_if (posts.dirty d h) in
      let o = one_if_or (get_or (set b.dirty e false) d false) (rises below s b.values e from && (s.source d == s.target e)) in omega (arith, is, o) in
      let P : List V → Type 0 = λ xs. work_left (rank k) s xs (dirt new) < work_left (rank k) s b.values (dirt b) in
      subst P (sym posts.values) (work_falls lat k s flow b.values kept.between e is_edge from from_fits (dirt b) (dirt new)
      (λ d h. let m = more d h in elim (read_after_write b.dirty e d false false room) [
        | inl here ↦ let c = ap one_if here.1 in omega (arith, m, c)
        | inr there ↦ let c = ap one_if there.1 in omega (arith, m, c)
      ])
      (let m = more e is_edge in
      let c = ap one_if (get_or-set_same b.dirty e false false room) in
      let w = ap one_if (ready_dirty (is_dirty b e) (nat_lt (times_out b e) 4294967295) ready) in omega (arith, m, c, w)))
