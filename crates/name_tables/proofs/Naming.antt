-- Names in a row, and the places of names.
use Rattle.std.proofs.Common.{◌≡◌, ◌∙◌, ap, sym, refl, ℕ, suc, ◌+◌, ◌≤◌, Bool, true, false, not, ◌||◌, cond, nat_lt, ◌==◌, List, [], ◌∷◌, map, length, Option, Some, None, slice_get, Bor, arith}
use Rattle.std.specs.List.{position, position_or_len, find, list_any}
use Rattle.std.specs.Option.{unwrap_or, is_some, option_copied}
use Rattle.std.specs.Slice.{IsItemAt}
use Rattle.std.specs.Str.{bytes_eq}
use Rattle.std.proofs.lemmas.Bool.{ltb-false}
use Rattle.std.proofs.lemmas.Bool.Decides.{nat_tests}
use Rattle.std.proofs.lemmas.List.{length-map}
use Rattle.std.proofs.lemmas.List.Folds.{find_at}
use Rattle.std.proofs.lemmas.List.Sums.{prefix_len-le-length}
use Rattle.std.proofs.lemmas.Option.{slice_get_past, slice_get-get_or}
use Rattle.gimple_ir.specs.declared.declarations.Register.{Register}
use Rattle.gimple_core.proofs.EnvLemmas.{same_test}

-- ---- the place of the first item that passes, in a list made from another

place_or_len_map : {X Y : Type 0} (f : X → Y) (p : Y → Bool) (q : X → Bool) → ((x : X) → p (f x) ≡ q x) → (xs : List X) → position_or_len p (map f xs) ≡ position_or_len q xs
place_or_len_map f p q same [] = refl
place_or_len_map f p q same (x ∷ xs) = λ i. cond (not (same x i)) (1 + place_or_len_map f p q same xs i) 0

pub position_map : {X Y : Type 0} (f : X → Y) (p : Y → Bool) (q : X → Bool) → ((x : X) → p (f x) ≡ q x) → (xs : List X) → position p (map f xs) ≡ position q xs
position_map f p q same xs = λ i. cond (nat_lt (place_or_len_map f p q same xs i) (length-map xs f i)) (Some (place_or_len_map f p q same xs i)) None

-- ---- a set of names

abbrev pub is_key : List ℕ → Bor (List ℕ) → Bool
is_key name key = bytes_eq name key.now

abbrev pub plain : List (Bor (List ℕ)) → List (List ℕ)
plain keys = map (λ k. k.now) keys

-- the place in the set is the place in the row
pub set_place : (name : List ℕ) (keys : List (Bor (List ℕ))) → position (is_key name) keys ≡ position (λ n. bytes_eq n name) (plain keys)
set_place name keys = sym (position_map (λ (k : Bor (List ℕ)). k.now) (λ n. bytes_eq n name) (is_key name) (λ k. sym (same_test name k.now)) keys)

-- ---- a set of labels

equal_back : (m n : ℕ) → (m == n) ≡ (n == m)
equal_back m n = grind (arith, nat_tests)

place_or_len_same : {X : Type 0} (p q : X → Bool) → ((x : X) → p x ≡ q x) → (xs : List X) → position_or_len p xs ≡ position_or_len q xs
place_or_len_same p q same [] = refl
place_or_len_same p q same (x ∷ xs) = λ i. cond (not (same x i)) (1 + place_or_len_same p q same xs i) 0

pub label_place : (label : ℕ) (labels : List ℕ) → position (λ l. label == l) labels ≡ position (λ l. l == label) labels
label_place label labels = λ i. cond (nat_lt (place_or_len_same (λ l. label == l) (λ l. l == label) (λ l. equal_back label l) labels i) (length labels)) (Some (place_or_len_same (λ l. label == l) (λ l. l == label) (λ l. equal_back label l) labels i)) None

-- ---- a set of the names of registers

-- the place in the set is the place in the row, whatever holds the bytes of a name
key_place : {K : Type 0} (bytes : K → List ℕ) (name : List ℕ) (keys : List K) → position (λ k. bytes_eq name (bytes k)) keys ≡ position (λ n. bytes_eq n name) (map bytes keys)
key_place bytes name keys = sym (position_map bytes (λ n. bytes_eq n name) (λ k. bytes_eq name (bytes k)) (λ k. sym (same_test name (bytes k))) keys)

or_length : (n len : ℕ) → n ≤ len → unwrap_or (cond (nat_lt n len) (Some n) None) len ≡ n
or_length n len h = by (nat_lt n len) refl
  where
    by : (b : Bool) → nat_lt n len ≡ b → unwrap_or (cond b (Some n) None) len ≡ n
    by true e = refl
    by false e =
        let low : len ≤ n = ltb-false n len e in
        omega (arith, low, h)

-- the number of a register by its name's place among the keys
pub register_place : {K : Type 0} (bytes : K → List ℕ) (key name : List ℕ) (keys : List K) (rs : List Register) (r : Option ℕ) → key ≡ name → r ≡ position (λ k. bytes_eq key (bytes k)) keys → map bytes keys ≡ map (λ s. s.name) rs → unwrap_or r (length rs) ≡ position_or_len (λ s. bytes_eq s.name name) rs
register_place bytes key name keys rs r same found names =
    let at : r ≡ position (λ s. bytes_eq s.name name) rs =
    found
    ∙ ap (λ (n : List ℕ). position (λ k. bytes_eq n (bytes k)) keys) same
    ∙ key_place bytes name keys
    ∙ ap (λ (ns : List (List ℕ)). position (λ n. bytes_eq n name) ns) names
    ∙ position_map (λ (s : Register). s.name) (λ n. bytes_eq n name) (λ s. bytes_eq s.name name) (λ s. refl) rs in
    ap (λ (o : Option ℕ). unwrap_or o (length rs)) at ∙ or_length (position_or_len (λ s. bytes_eq s.name name) rs) (length rs) (prefix_len-le-length (λ (s : Register). not (bytes_eq s.name name)) rs)

-- ---- rows of things with names

-- the place of a name among the names of a row is that of the first thing that has it
pub place_in : {X : Type 0} (of : X → List ℕ) (xs : List X) (names : List (List ℕ)) (key name : List ℕ) (r : Option ℕ) → names ≡ map of xs → key ≡ name → r ≡ position (λ n. bytes_eq n key) names → r ≡ position (λ x. bytes_eq (of x) name) xs
place_in of xs names key name r row same found =
    found
    ∙ ap (λ (k : List ℕ). position (λ n. bytes_eq n k) names) same
    ∙ ap (λ (ns : List (List ℕ)). position (λ n. bytes_eq n name) ns) row
    ∙ position_map of (λ n. bytes_eq n name) (λ x. bytes_eq (of x) name) (λ x. refl) xs

-- what stands at the first place
pub found_there : {X : Type 0} (p : X → Bool) (xs : List X) (k : ℕ) → position p xs ≡ Some k → slice_get xs k ≡ find p xs
found_there p xs k h = by (nat_lt (position_or_len p xs) (length xs)) h
  where
    by : (b : Bool) → cond b (Some (position_or_len p xs)) None ≡ Some k → slice_get xs k ≡ find p xs
    by true e =
        let same : position_or_len p xs ≡ k = cc in
        ap (slice_get xs) (sym same) ∙ sym (find_at p xs)
    by false e = cc

abbrev nowhere : Option ℕ
nowhere = None

-- without a place nothing is found
pub found_nowhere : {X : Type 0} (p : X → Bool) (xs : List X) → position p xs ≡ None → find p xs ≡ None
found_nowhere p xs h = by (nat_lt (position_or_len p xs) (length xs)) refl h
  where
    by : (b : Bool) → nat_lt (position_or_len p xs) (length xs) ≡ b → cond b (Some (position_or_len p xs)) None ≡ nowhere → find p xs ≡ None
    by true e g = cc
    by false e g = find_at p xs ∙ slice_get_past xs (position_or_len p xs) (ltb-false (position_or_len p xs) (length xs) e)

any_step : (b : Bool) (n m : ℕ) (rest : Bool) → rest ≡ nat_lt n m → (b || rest) ≡ nat_lt (cond (not b) (1 + n) 0) (suc m)
any_step true n m rest h = grind (arith, nat_tests)
any_step false n m rest h =
    let same : nat_lt n m ≡ nat_lt (1 + n) (suc m) = grind (arith, nat_tests) in
    h ∙ same

any_before : {X : Type 0} (p : X → Bool) (xs : List X) → list_any p xs ≡ nat_lt (position_or_len p xs) (length xs)
any_before p [] = refl
any_before p (x ∷ xs) = any_step (p x) (position_or_len p xs) (length xs) (list_any p xs) (any_before p xs)

is_there : (b : Bool) (n : ℕ) → is_some (cond b (Some n) None) ≡ b
is_there true n = refl
is_there false n = refl

-- whether one has a place
pub any_placed : {X : Type 0} (p : X → Bool) (xs : List X) → is_some (position p xs) ≡ list_any p xs
any_placed p xs = is_there (nat_lt (position_or_len p xs) (length xs)) (position_or_len p xs) ∙ sym (any_before p xs)

-- ---- items of slices

-- what a slice lends at a place is its item there
pub item_there : {X : Type 0} (xs : List X) (i : ℕ) (r : Option (Bor X)) (x : Bor X) → IsItemAt xs i r → r ≡ Some x → slice_get xs i ≡ Some x.now
item_there xs i None x h e = cc
item_there {X} xs i (Some y) x h e =
    let same : y ≡ x = cc in
    slice_get-get_or xs i y.now h.3.0 ∙ (ap Some (sym h.1) ∙ ap (λ (z : Bor X). Some z.now) same)

pub lent : {X : Type 0} (xs : List X) (i : ℕ) (r : Option (Bor X)) → IsItemAt xs i r → option_copied r ≡ slice_get xs i
lent xs i None h = sym (slice_get_past xs i (omega (arith, h)))
lent xs i (Some y) h = sym (item_there xs i (Some y) y h refl)
