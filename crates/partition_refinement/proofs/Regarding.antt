-- What a round regards, and what is kept by what moves.
use Rattle.std.proofs.Common.{◌≡◌, ◌↔◌, ℕ, ◌+◌, ◌<◌, ◌≤◌, ◌==◌, ◌&&◌, inl, inr, Bool, true, false, cond, nat_lt, ℤ, List, [], ◌∷◌, ◌++◌, map, filter, length, get_or, set, Some, slice_get, Contains, refl, sym, ◌∙◌, ap, subst, arith, length-append, length-set, get_or-set_same, get_or-set_other}
use Rattle.std.proofs.lemmas.Bool.{eqb-true, eq-eqb, cases_lt, true≢false}
use Rattle.std.proofs.lemmas.Bool.Decides.{Decides-ltb}
use Rattle.std.proofs.lemmas.List.{get_or_append_left, get_or_push, get_or_default}
use Rattle.std.proofs.lemmas.List.Elements.{Contains-append_left, Contains-push, Contains-push_cases}
use Rattle.partition_refinement.specs.Relations.{class_of, row_of}
use Rattle.partition_refinement.specs.Coarsest.{Below}
use Rattle.partition_refinement.specs.Stages.{AreFirstSame, IsStage, key_of}
use Rattle.partition_refinement.specs.Splitting.{IsIn, AreCallers, LedFrom, Gathers, TouchedBy, is_of, AreMembers, AreItems, IsSet, IsMoved, IsRegarded, AreRegarded, IsGrouping, IsNext, AreKept, pair_of}
use Rattle.partition_refinement.proofs.Lists.{before_push, push_there}
use Rattle.partition_refinement.proofs.Members.{contains_none, contains_or, contains_head, contains_tail, contains_parts, eq_cases, below_in}
use Rattle.partition_refinement.proofs.Staging.{related_same, firsts_same, same_firsts, firsts_low, firsts_fixed, same_items, items_same, keys_join}

-- ---- items that moved are found from both of two rows

same_entry : (classes xs ys : List ℕ) → map (class_of classes) xs ≡ map (class_of classes) ys → (x : ℕ) → Contains xs x → LedFrom (λ y z. class_of classes y ≡ class_of classes z) ys x
same_entry classes [] ys e x c = absurd (contains_none x c)
same_entry classes (a ∷ xs) [] e x c = cc
same_entry classes (a ∷ xs) (b ∷ ys) e x c =
    let one : class_of classes a ≡ class_of classes b = cc in
    let more : map (class_of classes) xs ≡ map (class_of classes) ys = cc in
    elim (contains_parts a xs x c) [
      | inl s ↦ record { item = b; there = contains_head b ys; leads_here = sym one ∙ ap (class_of classes) s }
      | inr d ↦
          let found = same_entry classes xs ys more x d in
          record { item = found.item; there = contains_tail b ys found.item found.there; leads_here = found.leads_here }
    ]

pub touched_regarded : (rows callers : List (List ℕ)) (classes work items : List ℕ) → ((i : ℕ) → i < length classes → Below (length classes) (row_of rows i)) → AreCallers rows (length classes) callers → Gathers (TouchedBy classes callers) work [] items → IsRegarded rows classes items
touched_regarded rows callers classes work items below are gathers = record {
  within = λ x c. elim (gathers.only x c) [
    | inl n ↦ absurd (contains_none x n)
    | inr from ↦ (are.only from.leads_here.item x from.leads_here.called).0
  ];
  same = λ i j l m s c. elim (gathers.only i c) [
    | inl n ↦ absurd (contains_none i n)
    | inr from ↦
        let touch = from.leads_here in
        let entry = (are.only touch.item i touch.called).1 in
        let other = same_entry classes (row_of rows i) (row_of rows j) s.1 touch.item entry in
        let low = below_in (length classes) (row_of rows j) (below j m) other.item other.there in
        gathers.found from.item j from.there (record {
          item = other.item;
          within = low;
          of_class = other.leads_here ∙ touch.of_class;
          called = are.found j other.item m other.there;
        })
  ];
}

-- ---- groups

module _ (rows : List (List ℕ)) (classes items numbers : List ℕ) (groups : List (List ℕ)) (size : length numbers ≡ length items)
    (tell : (a b : ℕ) → a < length items → b < length items → key_of classes (get_or items a 0) (row_of rows (get_or items a 0)) ≡ key_of classes (get_or items b 0) (row_of rows (get_or items b 0)) → class_of numbers a ≡ class_of numbers b)
    (grouping : IsGrouping items numbers (length items) groups) (regarded : IsRegarded rows classes items) where
  number_of : (k : ℕ) → k < length items → get_or numbers k 0 ≡ class_of numbers k
  number_of k l = get_or_default numbers k 0 k (omega (arith, l, size))

  there : (k x : ℕ) → k < length items → get_or items k 0 ≡ x → Contains items x
  there k x l e = (k, l, get_or_default items k x 0 l ∙ e)

  pub groups_regarded : AreRegarded rows classes groups
  groups_regarded g = record {
    within = λ x c. let at = grouping.only g x c in regarded.within x (there at.0 x at.1 at.3);
    same = λ i j l m s c.
        let at = grouping.only g i c in
        let other = regarded.same i j l m s (there at.0 i at.1 at.3) in
        let here : get_or items other.0 0 ≡ j = get_or_default items other.0 0 j other.1 ∙ other.2 in
        let keys : key_of classes i (row_of rows i) ≡ key_of classes j (row_of rows j) = keys_join classes i j (row_of rows i) (row_of rows j) s.0 s.1 in
        let between : key_of classes (get_or items at.0 0) (row_of rows (get_or items at.0 0)) ≡ key_of classes (get_or items other.0 0) (row_of rows (get_or items other.0 0)) =
        ap (λ z. key_of classes z (row_of rows z)) at.3 ∙ (keys ∙ ap (λ z. key_of classes z (row_of rows z)) (sym here)) in
        let same : get_or numbers other.0 0 ≡ g = number_of other.0 other.1 ∙ (sym (tell at.0 other.0 at.1 other.1 between) ∙ (sym (number_of at.0 at.1) ∙ at.2)) in
        subst (λ z. IsIn groups z j) same (subst (IsIn groups (get_or numbers other.0 0)) here (grouping.found other.0 other.1));
  }

-- ---- moves

pub set_none : (old : List ℕ) (class : ℕ) → IsSet old [] class old
set_none old class = record { count = refl; here = λ x c l. absurd (contains_none x c); others = λ x n. refl }

pub set_more : (old items : List ℕ) (class : ℕ) (now : List ℕ) (y : ℕ) → IsSet old items class now → y < length now → IsSet old (items ++ y ∷ []) class (set now y class)
set_more old items class now y is within = record {
  count = length-set now y class ∙ is.count;
  here = λ x c l. elim (eq_cases x y) [
    | inl s ↦ ap (class_of (set now y class)) s ∙ get_or-set_same now y class y within
    | inr n ↦ elim (Contains-push_cases items y x c) [
      | inl d ↦ get_or-set_other now y x class x n ∙ is.here x d l
      | inr s ↦ absurd (n (sym s))
    ]
  ];
  others = λ x n.
      let away : x ≡ y → ⊥ = λ s. n (subst (Contains (items ++ y ∷ [])) (sym s) (Contains-push items y)) in
      get_or-set_other now y x class x away ∙ is.others x (λ c. n (Contains-append_left items (y ∷ []) x c));
}

pub moved_set : (old items : List ℕ) (class : ℕ) (new : List ℕ) → IsSet old items class new → IsMoved old items new
moved_set old items class new is = record {
  count = is.count;
  alike = λ x y c d l m e. is.here x c l ∙ sym (is.here y d m);
  others = is.others;
}

pub not_moved : (old items : List ℕ) → IsMoved old items old
not_moved old items = record { count = refl; alike = λ x y c d l m e. e; others = λ x n. refl }

pub members_moved : (classes : List ℕ) (members : List (List ℕ)) (items new : List ℕ) → AreMembers classes members (length classes) → IsSet classes items (length members) new → AreMembers new (members ++ items ∷ []) (length new)
members_moved classes members items new are is =
    let size = length-append members (items ∷ []) in
    let count = is.count in
    let last : row_of (members ++ items ∷ []) (length members) ≡ items = get_or_push members items [] (length members) refl in
    record {
      within = λ x l. elim (contains_or items x) [
        | inl c ↦ let here = is.here x c (omega (arith, l, count)) in omega (arith, here, size)
        | inr n ↦ let same = is.others x n in let low = are.within x (omega (arith, l, count)) in omega (arith, same, low, size)
      ];
      inside = λ x l. elim (contains_or items x) [
        | inl c ↦ subst (λ z. IsIn (members ++ items ∷ []) z x) (sym (is.here x c (omega (arith, l, count)))) (subst (λ z. Contains z x) (sym last) c)
        | inr n ↦
            let u : x < length classes = omega (arith, l, count) in
            let kept : row_of (members ++ items ∷ []) (class_of classes x) ≡ row_of members (class_of classes x) = get_or_append_left members (items ∷ []) [] (class_of classes x) (are.within x u) in
            subst (λ z. IsIn (members ++ items ∷ []) z x) (sym (is.others x n)) (subst (λ z. Contains z x) (sym kept) (are.inside x u))
      ];
    }

pub next_none : (rows : List (List ℕ)) (classes : List ℕ) → IsNext rows classes classes
next_none rows classes = record { count = refl; same = λ i j l m s. s.0 }

pub next_more : (rows : List (List ℕ)) (first old items new : List ℕ) → IsNext rows first old → IsMoved old items new → IsRegarded rows first items → IsNext rows first new
next_more rows first old items new next moved regarded =
    let size = next.count in
    record {
      count = moved.count ∙ next.count;
      same = λ i j l m s. elim (contains_or items i) [
        | inl c ↦ moved.alike i j c (regarded.same i j l m s c) (omega (arith, l, size)) (omega (arith, m, size)) (next.same i j l m s)
        | inr n ↦
            let away : Contains items j → ⊥ = λ d. n (regarded.same j i m l (sym s.0, sym s.1) d) in
            moved.others i n ∙ (next.same i j l m s ∙ sym (moved.others j away))
      ];
    }

-- ---- what is kept

pub kept_first : (rows : List (List ℕ)) (classes : List ℕ) → AreKept classes rows classes
kept_first rows classes = record { count = refl; coarse = λ R a i j l m r. a.within i j l m r }

pub kept_next : (first : List ℕ) (rows : List (List ℕ)) (old new : List ℕ) → ((i : ℕ) → i < length first → Below (length first) (row_of rows i)) → AreKept first rows old → IsNext rows old new → AreKept first rows new
kept_next first rows old new below kept next =
    let size = kept.count in
    record {
      count = next.count ∙ kept.count;
      coarse = λ R a i j l m r.
          next.same i j (omega (arith, l, size)) (omega (arith, m, size))
          (kept.coarse R a i j l m r, related_same R (length first) old (row_of rows i) (row_of rows j) (kept.coarse R a) (below i l) (below j m) (a.alike i j l m r));
    }

-- ---- the items of a class

filter_in : (p : ℕ → Bool) (xs : List ℕ) (x : ℕ) → Contains xs x → p x ≡ true → Contains (filter p xs) x
filter_in p [] x c t = absurd (contains_none x c)
filter_in p (y ∷ xs) x c t = put (p y) refl (λ d. filter_in p xs x d t)
  where
    put : (b : Bool) → p y ≡ b → (Contains xs x → Contains (filter p xs) x) → Contains (cond b (y ∷ filter p xs) (filter p xs)) x
    put true e more = elim (contains_parts y xs x c) [ inl s ↦ subst (Contains (y ∷ filter p xs)) s (contains_head y (filter p xs)) | inr d ↦ contains_tail y (filter p xs) x (more d) ]
    put false e more = elim (contains_parts y xs x c) [ inl s ↦ absurd (true≢false (sym t ∙ (ap p (sym s) ∙ e))) | inr d ↦ more d ]

filter_only : (p : ℕ → Bool) (xs : List ℕ) (x : ℕ) → Contains (filter p xs) x → p x ≡ true
filter_only p [] x c = absurd (contains_none x c)
filter_only p (y ∷ xs) x c = only (p y) refl (λ d. filter_only p xs x d) c
  where
    only : (b : Bool) → p y ≡ b → (Contains (filter p xs) x → p x ≡ true) → Contains (cond b (y ∷ filter p xs) (filter p xs)) x → p x ≡ true
    only true e more d = elim (contains_parts y (filter p xs) x d) [ inl s ↦ ap p (sym s) ∙ e | inr f ↦ more f ]
    only false e more d = more d

both_true : (a b : Bool) → (a && b) ≡ true → (a ≡ true) × (b ≡ true)
both_true true b e = (refl, e)
both_true false b e = absurd (true≢false (sym e))

is_of_true : (classes : List ℕ) (class x : ℕ) → is_of classes class x ≡ true → (x < length classes) × (class_of classes x ≡ class)
is_of_true classes class x e =
    let parts = both_true (nat_lt x (length classes)) (class_of classes x == class) e in
    ((Decides-ltb x (length classes)).0 parts.0, eqb-true (class_of classes x) class parts.1)

true_is_of : (classes : List ℕ) (class x : ℕ) → x < length classes → class_of classes x ≡ class → is_of classes class x ≡ true
true_is_of classes class x l e = (λ i. (Decides-ltb x (length classes)).1 l i && eq-eqb (class_of classes x) class e i)

pub items_kept : (classes : List ℕ) (members : List (List ℕ)) (class : ℕ) → AreMembers classes members (length classes) → AreItems classes class (filter (is_of classes class) (row_of members class))
items_kept classes members class are = record {
  found = λ x l e. filter_in (is_of classes class) (row_of members class) x (subst (λ z. IsIn members z x) e (are.inside x l)) (true_is_of classes class x l e);
  only = λ x c. is_of_true classes class x (filter_only (is_of classes class) (row_of members class) x c);
}

pub no_items : (classes : List ℕ) (members : List (List ℕ)) (class : ℕ) → AreMembers classes members (length classes) → length members ≤ class → AreItems classes class []
no_items classes members class are past = record {
  found = λ x l e. let low = are.within x l in absurd (omega (arith, low, e, past));
  only = λ x c. absurd (contains_none x c);
}

-- ---- classes under plain numbers made a stage

pub noted_more : (f : ℕ → List ℤ) (n : ℕ) (keys : List (List ℤ)) → length keys ≡ n → ((k : ℕ) → k < n → slice_get keys k ≡ Some (f k)) → (k : ℕ) → k < n + 1 → slice_get (keys ++ f n ∷ []) k ≡ Some (f k)
noted_more f n keys size have k l = elim (cases_lt k n) [
  | inl m ↦ before_push keys (f n) k (f k) (have k m)
  | inr m ↦
      let same : length keys ≡ k = omega (arith, size, l, m) in
      let last : n ≡ k = omega (arith, l, m) in
      ap (slice_get (keys ++ f n ∷ [])) (sym same) ∙ (push_there keys (f n) ∙ ap (λ z. Some (f z)) last)
]

module _ (classes : List ℕ) (rows : List (List ℕ)) (plain : List ℕ) (keys : List (List ℤ)) (numbers shown names : List ℕ) (kept : AreKept classes rows plain) (size : length keys ≡ length classes)
    (have : (k : ℕ) → k < length classes → slice_get keys k ≡ Some (pair_of (class_of classes k) (class_of plain k)))
    (many : length numbers ≡ length keys) (tell : (i j : ℕ) → i < length keys → j < length keys → (class_of numbers i ≡ class_of numbers j) ↔ (slice_get keys i ≡ slice_get keys j))
    (same : shown ≡ numbers) (are : AreFirstSame ℕ shown names) where
  are_numbers : AreFirstSame ℕ numbers names
  are_numbers = subst (λ s. AreFirstSame ℕ s names) same are

  pub pairs_stage : IsStage classes rows names
  pairs_stage =
      let a = are_numbers in
      record {
        count = a.count ∙ (many ∙ size);
        low = λ i l. firsts_low numbers names a i (omega (arith, l, many, size));
        named = λ i l. firsts_fixed numbers names a i (omega (arith, l, many, size));
        finer = λ i j l m e.
            let u : i < length numbers = omega (arith, l, many, size) in
            let v : j < length numbers = omega (arith, m, many, size) in
            let one = items_same numbers i j u v (same_firsts numbers names a i j u v e) in
            let pairs : Some (pair_of (class_of classes i) (class_of plain i)) ≡ Some (pair_of (class_of classes j) (class_of plain j)) =
            sym (have i l) ∙ ((tell i j (omega (arith, u, many)) (omega (arith, v, many))).0 one ∙ have j m) in
            cc;
        coarse = λ R g i j l m r.
            let u : i < length numbers = omega (arith, l, many, size) in
            let v : j < length numbers = omega (arith, m, many, size) in
            let first = g.within i j l m r in
            let other = kept.coarse R g i j l m r in
            let pairs : slice_get keys i ≡ slice_get keys j = have i l ∙ ((λ k. Some (pair_of (first k) (other k))) ∙ sym (have j m)) in
            firsts_same numbers names a i j u v (same_items numbers i j u v ((tell i j (omega (arith, u, many)) (omega (arith, v, many))).1 pairs));
      }

-- groups of items that are regarded, by other names
pub regarded_groups : (rows : List (List ℕ)) (classes shown items listed : List ℕ) (groups : List (List ℕ)) → IsRegarded rows classes items → shown ≡ classes → listed ≡ items → (IsRegarded rows shown listed → AreRegarded rows shown groups) → AreRegarded rows classes groups
regarded_groups rows classes shown items listed groups regarded e f make =
    subst (λ cs. AreRegarded rows cs groups) e (make (subst (λ cs. IsRegarded rows cs listed) (sym e) (subst (IsRegarded rows classes) (sym f) regarded)))

-- what is kept of the first classes through all splits, by other names
pub kept_through : (classes : List ℕ) (rows : List (List ℕ)) (old new shown : List ℕ) → old ≡ classes → shown ≡ new → ((first : List ℕ) → AreKept first rows old → AreKept first rows new) → AreKept classes rows shown
kept_through classes rows old new shown e f through = subst (AreKept classes rows) (sym f) (through classes (subst (AreKept classes rows) (sym e) (kept_first rows classes)))

-- rows of items stay so under another number of items
pub below_as : (rows : List (List ℕ)) (n m : ℕ) → n ≡ m → ((i : ℕ) → i < n → Below n (row_of rows i)) → (i : ℕ) → i < m → Below m (row_of rows i)
below_as rows n m e below = subst (λ k. (i : ℕ) → i < k → Below k (row_of rows i)) e below
