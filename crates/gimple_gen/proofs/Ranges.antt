-- Lists made over numbers that count up.
use Rattle.std.proofs.Common.{◌≡◌, ℕ, zero, suc, ◌+◌, ◌<◌, List, [], ◌∷◌, ◌++◌, map, refl, ap, ◌∙◌, sym, subst, arith, append-nil}
use Rattle.std.specs.List.{range_with_len, flat_map, All}
use Rattle.std.proofs.lemmas.List.Elements.{All-cons, All-nil}
use Rattle.gimple_ir.specs.Spellable.{AllOf}
use Rattle.std.proofs.lemmas.Grind.{flat_map-append}
use Rattle.std.proofs.lemmas.List.Concat.{flat_map-cons}

range_more : (a n : ℕ) → range_with_len a (suc n) ≡ range_with_len a n ++ (a + n) ∷ []
range_more a zero = let e : a ≡ a + 0 = omega arith in ap (λ k. k ∷ []) e
range_more a (suc n) = let e : a + 1 + n ≡ a + suc n = omega arith in ap (λ ks. a ∷ ks) (range_more (a + 1) n ∙ ap (λ k. range_with_len (a + 1) n ++ k ∷ []) e)

-- one more number
from_zero : (n : ℕ) → range_with_len 0 (n + 1) ≡ range_with_len 0 n ++ n ∷ []
from_zero n =
    let e : n + 1 ≡ suc n = omega arith in
    let z : 0 + n ≡ n = omega arith in
    ap (range_with_len 0) e ∙ range_more 0 n ∙ ap (λ k. range_with_len 0 n ++ k ∷ []) z

pub flat_map_more : {A : Type 0} (f : ℕ → List A) (n : ℕ) → flat_map f (range_with_len 0 (n + 1)) ≡ flat_map f (range_with_len 0 n) ++ f n
flat_map_more {A} f n =
    ap (flat_map f) (from_zero n)
    ∙ flat_map-append f (range_with_len 0 n) (n ∷ [])
    ∙ ap (λ xs. flat_map f (range_with_len 0 n) ++ xs) (flat_map-cons f n [] ∙ append-nil (f n))

map_append : {A : Type 0} (f : ℕ → A) (ks : List ℕ) (k : ℕ) → map f (ks ++ k ∷ []) ≡ map f ks ++ f k ∷ []
map_append f [] k = refl
map_append f (x ∷ xs) k = ap (λ ys. f x ∷ ys) (map_append f xs k)

pub map_more : {A : Type 0} (f : ℕ → A) (n : ℕ) → map f (range_with_len 0 (n + 1)) ≡ map f (range_with_len 0 n) ++ f n ∷ []
map_more {A} f n = ap (map f) (from_zero n) ∙ map_append f (range_with_len 0 n) n

-- what holds of each of the numbers, and of what comes behind them
pub all_made : {A : Type 0} (P : A → Type 0) (f : ℕ → A) (last : A) (k m : ℕ) → ((i : ℕ) → i < k + m → P (f i)) → P last → AllOf P (map f (range_with_len k m) ++ last ∷ [])
all_made P f last k zero h p = (p, tt)
all_made P f last k (suc m) h p = (h k (omega arith), all_made P f last (k + 1) m (λ i less. h i (omega (arith, less))) p)

pub joined : {A : Type 0} (P : A → Type 0) (xs ys : List A) → AllOf P xs → AllOf P ys → AllOf P (xs ++ ys)
joined P [] ys h k = k
joined P (x ∷ xs) ys h k = (h.0, joined P xs ys h.1 k)

pub all_flat : {A : Type 0} (P : A → Type 0) (f : ℕ → List A) (k m : ℕ) → ((i : ℕ) → i < k + m → AllOf P (f i)) → AllOf P (flat_map f (range_with_len k m))
all_flat P f k zero h = tt
all_flat P f k (suc m) h =
    subst (AllOf P) (sym (flat_map-cons f k (range_with_len (k + 1) m)))
    (joined P (f k) (flat_map f (range_with_len (k + 1) m)) (h k (omega arith)) (all_flat P f (k + 1) m (λ i less. h i (omega (arith, less)))))

pub all_from : {A : Type 0} (P : A → Type 0) (xs : List A) → AllOf P xs → All P xs
all_from P [] h = All-nil P
all_from P (x ∷ xs) h = All-cons P x xs h.0 (all_from P xs h.1)
