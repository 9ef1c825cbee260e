-- Rows that are noted.
use Rattle.std.proofs.Common.{◌≡◌, ◌↔◌, ℕ, zero, suc, ◌-◌, ◌^◌, ◌<◌, ◌≤◌, inl, inr, Bool, true, false, cond, ◌||◌, ℤ, List, [], ◌∷◌, ◌++◌, map, length, get_or, Some, slice_get, refl, sym, ◌∙◌, ap, subst, arith, Decides, true≢false, length-append}
use Rattle.std.specs.List.{list_any}
use Rattle.std.specs.Option.{option_map}
use Rattle.std.proofs.lemmas.List.{length-map, map-append}
use Rattle.std.proofs.lemmas.Option.{slice_get_within, slice_get-get_or, get_or_from_slice_get, slice_get-map}
use Rattle.partition_refinement.specs.Relations.{class_of}
use Rattle.partition_refinement.specs.Interned.{rows_at, AreDistinct, AreNumbers, IsNoted}
use Rattle.partition_refinement.proofs.Lists.{at_push, before_push}

-- ---- one row more

module _ {K : Type 0} (items : K → List ℤ) (eq : K → K → Bool) (decides : (x y : K) → Decides (eq x y) (items x ≡ items y)) (row : K) where
  not_same : (x : K) (rest : Bool) (b : Bool) → eq row x ≡ b → (b || rest) ≡ false → items row ≡ items x → ⊥
  not_same x rest true t f h = true≢false f
  not_same x rest false t f h = true≢false (sym ((decides row x).1 h) ∙ t)

  not_rest : (b rest : Bool) → (b || rest) ≡ false → rest ≡ false
  not_rest true rest f = absurd (true≢false f)
  not_rest false rest f = f

  not_among : (old : List K) → list_any (eq row) old ≡ false → (a : ℕ) → slice_get (map items old) a ≡ Some (items row) → ⊥
  not_among [] e a h = cc
  not_among (x ∷ old) e zero h = let same : items row ≡ items x = cc in not_same x (list_any (eq row) old) (eq row x) refl e same
  not_among (x ∷ old) e (suc a) h = not_among old (not_rest (eq row x) (list_any (eq row) old) e) a h

  pub noted : (old new : List K) (number : ℕ) (k : K) → new ≡ cond (list_any (eq row) old) old (old ++ row ∷ []) → slice_get new number ≡ Some k → eq row k ≡ true → IsNoted (map items old) (items row) (map items new) number
  noted old new number k e s t = by (list_any (eq row) old) refl e
    where
      there : slice_get (map items new) number ≡ Some (items row)
      there = slice_get-map items new number ∙ (ap (option_map items) s ∙ ap Some (sym ((decides row k).0 t)))

      by : (b : Bool) → list_any (eq row) old ≡ b → new ≡ cond b old (old ++ row ∷ []) → IsNoted (map items old) (items row) (map items new) number
      by true a n = record {
        apart = λ d. subst (λ l. AreDistinct (map items l)) (sym n) d;
        there = there;
        keeps = λ i other h. ap (λ l. slice_get (map items l) i) n ∙ h;
        grows = let same = ap (λ l. length (map items l)) n in omega (arith, same);
      }
      by false a n =
          let more : map items new ≡ map items old ++ items row ∷ [] = ap (map items) n ∙ map-append items old (row ∷ []) in
          record {
            apart = λ d i j r p q.
                let u : slice_get (map items old ++ items row ∷ []) i ≡ Some r = ap (λ l. slice_get l i) (sym more) ∙ p in
                let v : slice_get (map items old ++ items row ∷ []) j ≡ Some r = ap (λ l. slice_get l j) (sym more) ∙ q in
                elim (at_push (map items old) (items row) i r u) [
                  | inl x ↦ elim (at_push (map items old) (items row) j r v) [
                    | inl y ↦ d i j r x y
                    | inr (y, z) ↦ absurd (not_among old a i (x ∙ ap Some (sym z)))
                  ]
                  | inr (x, w) ↦ elim (at_push (map items old) (items row) j r v) [
                    | inl y ↦ absurd (not_among old a j (y ∙ ap Some (sym w)))
                    | inr (y, z) ↦ x ∙ sym y
                  ]
                ];
            there = there;
            keeps = λ i other h. ap (λ l. slice_get l i) more ∙ before_push (map items old) (items row) i other h;
            grows = let same = ap length more ∙ length-append (map items old) (items row ∷ []) in omega (arith, same);
          }

-- ---- all rows

module _ (distinct new : List (List ℤ)) (numbers : List ℕ) (row : List ℤ) (number : ℕ) (are : AreNumbers distinct numbers) (noted : IsNoted distinct row new number) where
  pub numbers_kept : AreNumbers new (numbers ++ number ∷ [])
  numbers_kept =
      let few = are.few in
      let size = length-append numbers (number ∷ []) in
      let grows = noted.grows in
      let here = slice_get_within new number row noted.there in
      record {
        apart = noted.apart are.apart;
        within = λ i k e. elim (at_push numbers number i k e) [
          | inl h ↦
              let w = are.within i k h in
              slice_get_within new k (get_or distinct k []) (noted.keeps k (get_or distinct k []) (slice_get-get_or distinct k [] w))
          | inr (p, q) ↦ omega (arith, here, q)
        ];
        low = λ i k e. elim (at_push numbers number i k e) [ inl h ↦ are.low i k h | inr (p, q) ↦ omega (arith, here, grows, few, p, q) ];
        few = omega (arith, grows, few, size);
      }

  rows_same : (ks : List ℕ) → ((i k : ℕ) → slice_get ks i ≡ Some k → k < length distinct) → rows_at new ks ≡ rows_at distinct ks
  rows_same [] h = refl
  rows_same (k ∷ ks) h =
      let w = h 0 k refl in
      let here : get_or new k [] ≡ get_or distinct k [] = get_or_from_slice_get new k (get_or distinct k []) [] (noted.keeps k (get_or distinct k []) (slice_get-get_or distinct k [] w)) in
      λ i. here i ∷ rows_same ks (λ a b e. h (suc a) b e) i

  pub rows_kept : rows_at new (numbers ++ number ∷ []) ≡ rows_at distinct numbers ++ row ∷ []
  rows_kept =
      let one : get_or new number [] ≡ row = get_or_from_slice_get new number row [] noted.there in
      map-append (λ k. get_or new k []) numbers (number ∷ []) ∙ (λ i. rows_same numbers are.within i ++ one i ∷ [])

-- a number fits, since there are few rows
pub number_fits : (distinct new rows : List (List ℤ)) (numbers : List ℕ) (row : List ℤ) (number : ℕ) → IsNoted distinct row new number → rows_at distinct numbers ≡ rows → length distinct ≤ length numbers → length rows < 2 ^ 32 → number < 2 ^ 32
number_fits distinct new rows numbers row number noted view few small =
    let grows = noted.grows in
    let here = slice_get_within new number row noted.there in
    let size : length numbers ≡ length rows = sym (length-map numbers (λ k. get_or distinct k [])) ∙ ap length view in
    omega (arith, grows, here, size, few, small)

-- ---- numbers as classes

module _ (distinct rows : List (List ℤ)) (numbers : List ℕ) (are : AreNumbers distinct numbers) (view : rows_at distinct numbers ≡ rows) where
  pub as_many : length numbers ≡ length rows
  as_many = sym (length-map numbers (λ k. get_or distinct k [])) ∙ ap length view

  row_at : (i : ℕ) → i < length rows → slice_get rows i ≡ Some (get_or distinct (class_of numbers i) [])
  row_at i l =
      let c = as_many in
      ap (λ r. slice_get r i) (sym view) ∙ (slice_get-map (λ k. get_or distinct k []) numbers i ∙ ap (option_map (λ k. get_or distinct k [])) (slice_get-get_or numbers i i (omega (arith, l, c))))

  number_at : (i : ℕ) → i < length rows → slice_get numbers i ≡ Some (class_of numbers i)
  number_at i l = let c = as_many in slice_get-get_or numbers i i (omega (arith, l, c))

  pub numbers_low : (i : ℕ) → i < length rows → class_of numbers i ≤ i
  numbers_low i l = are.low i (class_of numbers i) (number_at i l)

  pub numbers_tell : (i j : ℕ) → i < length rows → j < length rows → (class_of numbers i ≡ class_of numbers j) ↔ (slice_get rows i ≡ slice_get rows j)
  numbers_tell i j l m = (there, back)
    where
      there : class_of numbers i ≡ class_of numbers j → slice_get rows i ≡ slice_get rows j
      there e = row_at i l ∙ (ap (λ k. Some (get_or distinct k [])) e ∙ sym (row_at j m))

      back : slice_get rows i ≡ slice_get rows j → class_of numbers i ≡ class_of numbers j
      back e =
          let same : Some (get_or distinct (class_of numbers i) []) ≡ Some (get_or distinct (class_of numbers j) []) = sym (row_at i l) ∙ (e ∙ row_at j m) in
          let a = are.within i (class_of numbers i) (number_at i l) in
          let b = are.within j (class_of numbers j) (number_at j m) in
          are.apart (class_of numbers i) (class_of numbers j) (get_or distinct (class_of numbers j) []) (slice_get-get_or distinct (class_of numbers i) [] a ∙ same) (slice_get-get_or distinct (class_of numbers j) [] b)
