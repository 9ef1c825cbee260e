-- What a round strikes out lies in no relation that agrees, and classes that a round leaves are the coarsest ones.
use Rattle.std.proofs.Common.{◌≡◌, ◌↔◌, ℕ, zero, suc, ◌+◌, ◌<◌, ◌≤◌, Bool, true, false, ℤ, pos, List, [], ◌∷◌, ◌++◌, map, length, get_or, drop, drop-cons, add-one, append_assoc, Some, slice_get, refl, sym, ◌∙◌, ap, subst, arith, bytes_eq, true≢false}
use Rattle.std.proofs.lemmas.List.{append-nil}
use Rattle.std.proofs.Math.ListN.{drop_of_length-le}
use Rattle.std.proofs.lemmas.Slice.Eq.{bytes_eq-Decides}
use Rattle.std.specs.Option.{option_map}
use Rattle.std.proofs.lemmas.Option.{slice_get-get_or, get_or_from_slice_get, slice_get-map}
use Rattle.partition_refinement.specs.Relations.{Relation, AreRelated, class_of, row_of}
use Rattle.partition_refinement.specs.Coarsest.{Agrees, Below, IsCoarsest}
use Rattle.partition_refinement.specs.Stages.{AreFirstSame, IsStage, key_of, keys_of, IsRound}

-- ---- related rows

pub related_same : (R : Relation) (n : ℕ) (classes xs ys : List ℕ) → ((a b : ℕ) → a < n → b < n → R a b ≡ true → class_of classes a ≡ class_of classes b) → Below n xs → Below n ys → AreRelated R xs ys → map (class_of classes) xs ≡ map (class_of classes) ys
related_same R n classes [] [] h b c r = refl
related_same R n classes [] (y ∷ ys) h b c r = absurd r
related_same R n classes (x ∷ xs) [] h b c r = absurd r
related_same R n classes (x ∷ xs) (y ∷ ys) h b c r = λ i. h x y b.0 c.0 r.0 i ∷ related_same R n classes xs ys h b.1 c.1 r.1 i

-- ---- first ones

module _ {X : Type 0} (xs : List X) (ks : List ℕ) (are : AreFirstSame X xs ks) where
  pub firsts_same : (i j : ℕ) → i < length xs → j < length xs → slice_get xs i ≡ slice_get xs j → class_of ks i ≡ class_of ks j
  firsts_same i j l m e =
      let a = (are.each i l).least (class_of ks j) ((are.each j m).same ∙ sym e) in
      let b = (are.each j m).least (class_of ks i) ((are.each i l).same ∙ e) in
      omega (arith, a, b)

  pub same_firsts : (i j : ℕ) → i < length xs → j < length xs → class_of ks i ≡ class_of ks j → slice_get xs i ≡ slice_get xs j
  same_firsts i j l m e = sym (are.each i l).same ∙ (ap (slice_get xs) e ∙ (are.each j m).same)

  pub firsts_low : (i : ℕ) → i < length xs → class_of ks i ≤ i
  firsts_low i l = (are.each i l).least i refl

  pub firsts_fixed : (i : ℕ) → i < length xs → class_of ks (class_of ks i) ≡ class_of ks i
  firsts_fixed i l = let low = firsts_low i l in firsts_same (class_of ks i) i (omega (arith, low, l)) l (are.each i l).same

-- two items of a list are the same where their classes are
pub same_items : (xs : List ℕ) (i j : ℕ) → i < length xs → j < length xs → class_of xs i ≡ class_of xs j → slice_get xs i ≡ slice_get xs j
same_items xs i j l m e = slice_get-get_or xs i i l ∙ (ap Some e ∙ sym (slice_get-get_or xs j j m))

pub items_same : (xs : List ℕ) (i j : ℕ) → i < length xs → j < length xs → slice_get xs i ≡ slice_get xs j → class_of xs i ≡ class_of xs j
items_same xs i j l m e =
    let one : Some (class_of xs i) ≡ Some (class_of xs j) = sym (slice_get-get_or xs i i l) ∙ (e ∙ slice_get-get_or xs j j m) in
    cc

-- the first classes, named
pub first_stage : (first : List ℕ) (rows : List (List ℕ)) (names : List ℕ) → AreFirstSame ℕ first names → IsStage first rows names
first_stage first rows names are = record {
  count = are.count;
  low = firsts_low first names are;
  named = firsts_fixed first names are;
  finer = λ i j l m e. items_same first i j l m (same_firsts first names are i j l m e);
  coarse = λ R a i j l m r. firsts_same first names are i j l m (same_items first i j l m (a.within i j l m r));
}

-- one stage after another
pub stages : (first : List ℕ) (rows : List (List ℕ)) (between last : List ℕ) → IsStage first rows between → IsStage between rows last → IsStage first rows last
stages first rows between last a b =
    let size = a.count in
    record {
      count = b.count ∙ a.count;
      low = λ i l. b.low i (omega (arith, l, size));
      named = λ i l. b.named i (omega (arith, l, size));
      finer = λ i j l m e. a.finer i j l m (b.finer i j (omega (arith, l, size)) (omega (arith, m, size)) e);
      coarse = λ R g i j l m r.
          let agrees : Agrees between rows R = record {
            within = λ x y u v w. a.coarse R g x y (omega (arith, u, size)) (omega (arith, v, size)) w;
            alike = λ x y u v w. g.alike x y (omega (arith, u, size)) (omega (arith, v, size)) w;
          } in
          b.coarse R agrees i j (omega (arith, l, size)) (omega (arith, m, size)) r;
    }

-- the classes that a round leaves are the coarsest ones
pub last_stage : (first : List ℕ) (rows : List (List ℕ)) (classes next : List ℕ) → IsStage first rows classes → IsRound classes rows next → next ≡ classes → IsCoarsest first rows classes
last_stage first rows classes next stage round same =
    let size = stage.count in
    record {
      count = stage.count;
      finer = stage.finer;
      stable = λ i j l m e. round.agree i j (omega (arith, l, size)) (omega (arith, m, size)) (ap (λ cs. class_of cs i) same ∙ (e ∙ sym (ap (λ cs. class_of cs j) same)));
      coarsest = stage.coarse;
      low = stage.low;
      named = stage.named;
    }

-- ---- keys

keys_at : {X : Type 0} (items : X → List ℕ) (classes : List ℕ) (number : ℕ) (rows : List X) (i : ℕ) (x : X) → slice_get rows i ≡ Some x → slice_get (keys_of items classes number rows) i ≡ Some (key_of classes (number + i) (items x))
unfolding keys_of
keys_at items classes number [] i x e = cc
keys_at items classes number (r ∷ rows) zero x e = let same : r ≡ x = cc in let n : number ≡ number + 0 = omega arith in λ k. Some (key_of classes (n k) (items (same k)))
keys_at items classes number (r ∷ rows) (suc i) x e = let n : number + 1 + i ≡ number + suc i = omega arith in keys_at items classes (number + 1) rows i x e ∙ ap (λ k. Some (key_of classes k (items x))) n

pub keys_count : {X : Type 0} (items : X → List ℕ) (classes : List ℕ) (number : ℕ) (rows : List X) → length (keys_of items classes number rows) ≡ length rows
unfolding keys_of
keys_count items classes number [] = refl
keys_count items classes number (r ∷ rows) = ap suc (keys_count items classes (number + 1) rows)

-- one key more
pub keys_step : {X : Type 0} (items : X → List ℕ) (classes : List ℕ) (item : ℕ) (rows : List X) (x : X) (keys all : List (List ℤ)) (after : List (List ℤ)) (key : List ℤ) (row : List ℕ)
    → keys ++ keys_of items classes item (drop item rows) ≡ all → item < length rows → x ≡ get_or rows item x → row ≡ items x → key ≡ key_of classes item row → after ≡ keys ++ key ∷ []
    → after ++ keys_of items classes (item + 1) (drop (item + 1) rows) ≡ all
unfolding keys_of
keys_step items classes item rows x keys all after key row made l e f g h =
    let parted : drop item rows ≡ x ∷ drop (item + 1) rows = drop-cons rows item x l ∙ (λ i. sym e i ∷ drop (sym (add-one item) i) rows) in
    let one : after ≡ keys ++ key_of classes item (items x) ∷ [] = h ∙ ap (λ k. keys ++ k ∷ []) (g ∙ ap (key_of classes item) f) in
    ap (λ a. a ++ keys_of items classes (item + 1) (drop (item + 1) rows)) one
    ∙ (append_assoc keys (key_of classes item (items x) ∷ []) (keys_of items classes (item + 1) (drop (item + 1) rows))
    ∙ (ap (λ d. keys ++ keys_of items classes item d) (sym parted) ∙ made))

pub keys_all : {X : Type 0} (items : X → List ℕ) (classes : List ℕ) (item : ℕ) (rows : List X) (keys all : List (List ℤ)) → keys ++ keys_of items classes item (drop item rows) ≡ all → length rows ≤ item → keys ≡ all
unfolding keys_of
keys_all items classes item rows keys all made l =
    let none : drop item rows ≡ [] = drop_of_length-le rows l in
    sym (append-nil keys) ∙ (ap (λ d. keys ++ keys_of items classes item d) (sym none) ∙ made)

classes_same : (classes xs ys : List ℕ) → map (λ k. pos (class_of classes k)) xs ≡ map (λ k. pos (class_of classes k)) ys → map (class_of classes) xs ≡ map (class_of classes) ys
classes_same classes [] [] e = refl
classes_same classes [] (y ∷ ys) e = cc
classes_same classes (x ∷ xs) [] e = cc
classes_same classes (x ∷ xs) (y ∷ ys) e =
    let one : class_of classes x ≡ class_of classes y = cc in
    let more : map (λ k. pos (class_of classes k)) xs ≡ map (λ k. pos (class_of classes k)) ys = cc in
    λ i. one i ∷ classes_same classes xs ys more i

same_classes : (classes xs ys : List ℕ) → map (class_of classes) xs ≡ map (class_of classes) ys → map (λ k. pos (class_of classes k)) xs ≡ map (λ k. pos (class_of classes k)) ys
same_classes classes [] [] e = refl
same_classes classes [] (y ∷ ys) e = cc
same_classes classes (x ∷ xs) [] e = cc
same_classes classes (x ∷ xs) (y ∷ ys) e =
    let one : class_of classes x ≡ class_of classes y = cc in
    let more : map (class_of classes) xs ≡ map (class_of classes) ys = cc in
    λ i. pos (one i) ∷ same_classes classes xs ys more i

-- keys are the same exactly where the classes are, of the items and of what is in their rows
pub keys_tell : (classes : List ℕ) (i j : ℕ) (xs ys : List ℕ) → key_of classes i xs ≡ key_of classes j ys → (class_of classes i ≡ class_of classes j) × (map (class_of classes) xs ≡ map (class_of classes) ys)
keys_tell classes i j xs ys e =
    let one : class_of classes i ≡ class_of classes j = cc in
    let more : map (λ k. pos (class_of classes k)) xs ≡ map (λ k. pos (class_of classes k)) ys = cc in
    (one, classes_same classes xs ys more)

pub keys_join : (classes : List ℕ) (i j : ℕ) (xs ys : List ℕ) → class_of classes i ≡ class_of classes j → map (class_of classes) xs ≡ map (class_of classes) ys → key_of classes i xs ≡ key_of classes j ys
keys_join classes i j xs ys e f = λ k. pos (e k) ∷ same_classes classes xs ys f k

-- ---- a round

module _ {X : Type 0} (items : X → List ℕ) (classes : List ℕ) (rows : List X) (size : length rows ≡ length classes) where
  item_at : (xs : List X) (i : ℕ) → i < length xs → (x : X) × (slice_get xs i ≡ Some x)
  item_at [] i l = absurd (omega (arith, l))
  item_at (x ∷ xs) zero l = (x, refl)
  item_at (x ∷ xs) (suc i) l = item_at xs i (omega (arith, l))

  key_at : (i : ℕ) → i < length classes → slice_get (keys_of items classes 0 rows) i ≡ Some (key_of classes i (row_of (map items rows) i))
  key_at i l =
      let found = item_at rows i (omega (arith, l, size)) in
      let n : 0 + i ≡ i = omega arith in
      let row : row_of (map items rows) i ≡ items found.0 = get_or_from_slice_get (map items rows) i (items found.0) [] (slice_get-map items rows i ∙ ap (option_map items) found.1) in
      keys_at items classes 0 rows i found.0 found.1 ∙ (λ k. Some (key_of classes (n k) (sym row k)))

  module _ (numbers names : List ℕ) (many : length numbers ≡ length (keys_of items classes 0 rows))
      (tell : (i j : ℕ) → i < length (keys_of items classes 0 rows) → j < length (keys_of items classes 0 rows) → (class_of numbers i ≡ class_of numbers j) ↔ (slice_get (keys_of items classes 0 rows) i ≡ slice_get (keys_of items classes 0 rows) j))
      (are : AreFirstSame ℕ numbers names) (below : (i : ℕ) → i < length classes → Below (length classes) (row_of (map items rows) i)) where
    all : length numbers ≡ length classes
    all = many ∙ (keys_count items classes 0 rows ∙ size)

    apart : (i j : ℕ) → i < length classes → j < length classes → class_of names i ≡ class_of names j → key_of classes i (row_of (map items rows) i) ≡ key_of classes j (row_of (map items rows) j)
    apart i j l m e =
        let n = all in
        let u : i < length numbers = omega (arith, l, n) in
        let v : j < length numbers = omega (arith, m, n) in
        let one = items_same numbers i j u v (same_firsts numbers names are i j u v e) in
        let same : Some (key_of classes i (row_of (map items rows) i)) ≡ Some (key_of classes j (row_of (map items rows) j)) =
        sym (key_at i l) ∙ ((tell i j (omega (arith, u, many)) (omega (arith, v, many))).0 one ∙ key_at j m) in
        cc

    joined : (i j : ℕ) → i < length classes → j < length classes → key_of classes i (row_of (map items rows) i) ≡ key_of classes j (row_of (map items rows) j) → class_of names i ≡ class_of names j
    joined i j l m e =
        let n = all in
        let u : i < length numbers = omega (arith, l, n) in
        let v : j < length numbers = omega (arith, m, n) in
        let one = (tell i j (omega (arith, u, many)) (omega (arith, v, many))).1 (key_at i l ∙ (ap Some e ∙ sym (key_at j m))) in
        firsts_same numbers names are i j u v (same_items numbers i j u v one)

    pub round_made : IsRound classes (map items rows) names
    round_made =
        let n = all in
        record {
          stage = record {
            count = are.count ∙ all;
            low = λ i l. firsts_low numbers names are i (omega (arith, l, n));
            named = λ i l. firsts_fixed numbers names are i (omega (arith, l, n));
            finer = λ i j l m e. (keys_tell classes i j (row_of (map items rows) i) (row_of (map items rows) j) (apart i j l m e)).0;
            coarse = λ R g i j l m r.
                let same = related_same R (length classes) classes (row_of (map items rows) i) (row_of (map items rows) j) g.within (below i l) (below j m) (g.alike i j l m r) in
                joined i j l m (keys_join classes i j (row_of (map items rows) i) (row_of (map items rows) j) (g.within i j l m r) same);
          };
          agree = λ i j l m e. (keys_tell classes i j (row_of (map items rows) i) (row_of (map items rows) j) (apart i j l m e)).1;
        }

-- the same, of keys and numbers by other names
pub round_of : {X : Type 0} (items : X → List ℕ) (classes : List ℕ) (rows : List X) (size : length rows ≡ length classes) (keys : List (List ℤ)) (numbers shown names : List ℕ) → keys ≡ keys_of items classes 0 rows → shown ≡ numbers → length numbers ≡ length keys
    → ((i j : ℕ) → i < length keys → j < length keys → (class_of numbers i ≡ class_of numbers j) ↔ (slice_get keys i ≡ slice_get keys j)) → AreFirstSame ℕ shown names → ((i : ℕ) → i < length classes → Below (length classes) (row_of (map items rows) i))
    → IsRound classes (map items rows) names
round_of items classes rows size keys numbers shown names e f many tell are below =
    round_made items classes rows size numbers names (many ∙ ap length e)
    (subst (λ ks. (i j : ℕ) → i < length ks → j < length ks → (class_of numbers i ≡ class_of numbers j) ↔ (slice_get ks i ≡ slice_get ks j)) e tell)
    (subst (λ s. AreFirstSame ℕ s names) f are) below

-- lists that a test tells apart
pub differ : (xs ys : List ℕ) (r : Bool) → r ≡ bytes_eq xs ys → r ≡ false → xs ≡ ys → ⊥
differ xs ys r e f same = true≢false (sym ((bytes_eq-Decides xs ys).1 same) ∙ (sym e ∙ f))

pub same_lists : (xs ys : List ℕ) (r : Bool) → r ≡ bytes_eq xs ys → r ≡ true → xs ≡ ys
same_lists xs ys r e f = (bytes_eq-Decides xs ys).0 (sym e ∙ f)
