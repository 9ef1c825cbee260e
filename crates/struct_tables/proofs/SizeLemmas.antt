-- Slots of elements in a row.
use Rattle.std.proofs.Common.{◌≡◌, ℕ, zero, suc, ◌+◌, ◌-◌, ◌*◌, ◌/◌, ◌%◌, ◌<◌, ◌≤◌, ◌==◌, Bool, true, false, ◌&&◌, ◌||◌, List, [], ◌∷◌, length, refl, sym, ◌∙◌, ap, arith, pos, negsuc}
use Rattle.std.specs.List.{All}
use Rattle.std.proofs.Math.Nat.{div-lt_iff_lt-mul, mod-lt}
use Rattle.std.proofs.lemmas.Nat.{mod-mul-add, div-mul-add}
use Rattle.std.proofs.lemmas.List.{length-append}
use Rattle.std.proofs.lemmas.List.Elements.{All-head, All-tail}
use Rattle.std.proofs.lemmas.List.Folds.{list_any-append}
use Rattle.std.proofs.lemmas.Bool.{eqb-true}
use Rattle.gimple_ir.specs.declared.scalar.Scalar.{Scalar}
use Rattle.gimple_ir.specs.declared.value.LayoutSlot.{LayoutSlot}
use Rattle.gimple_core.specs.Memory.{same_scalar}
use Rattle.gimple_core.specs.Layout.{moved, repeated}
use Rattle.gimple_core.specs.Statements.{is_slot_at, has_slot}

-- no slot lies before 0
pub has_negative : (slots : List LayoutSlot) (n : ℕ) (scalar : Scalar) → false ≡ has_slot slots (negsuc n) scalar
has_negative [] n scalar = refl
has_negative (s ∷ slots) n scalar = has_negative slots n scalar

-- no slot begins behind the size
pub has_outside : (size o : ℕ) (slots : List LayoutSlot) (scalar : Scalar) → All (λ s. s.offset < size) slots → size ≤ o → has_slot slots (pos o) scalar ≡ false
has_outside size o [] scalar w l = refl
has_outside size o (s ∷ slots) scalar w l =
    by (s.offset == o) refl (has_outside size o slots scalar (All-tail (λ s. s.offset < size) s slots w) l)
  where
    by : (b : Bool) → (s.offset == o) ≡ b → has_slot slots (pos o) scalar ≡ false → (b && same_scalar s.scalar scalar) || has_slot slots (pos o) scalar ≡ false
    by true e m = let h = All-head (λ s. s.offset < size) s slots w in let k = eqb-true s.offset o e in let z : ⊥ = omega (arith, h, k, l) in absurd z
    by false e m = m

pub same_place : (by a o : ℕ) → by ≤ o → (by + a == o) ≡ (a == o - by)
same_place by a o l = grind arith

other_place : (by a o : ℕ) → o < by → (by + a == o) ≡ false
other_place by a o l = grind arith

-- slots that were moved
pub has_moved : (by o : ℕ) (slots : List LayoutSlot) (scalar : Scalar) → by ≤ o → has_slot (moved by slots) (pos o) scalar ≡ has_slot slots (pos (o - by)) scalar
has_moved by o [] scalar l = refl
has_moved by o (s ∷ slots) scalar l = rw (same_place by s.offset o l) (rw (has_moved by o slots scalar l) refl)

pub has_before_moved : (by o : ℕ) (slots : List LayoutSlot) (scalar : Scalar) → o < by → has_slot (moved by slots) (pos o) scalar ≡ false
has_before_moved by o [] scalar l = refl
has_before_moved by o (s ∷ slots) scalar l = rw (other_place by s.offset o l) (has_before_moved by o slots scalar l)

-- an offset behind the elements
pub has_behind : (n size o : ℕ) (slots : List LayoutSlot) (scalar : Scalar) → All (λ s. s.offset < size) slots → n * size ≤ o → false ≡ has_slot (repeated n size slots) (pos o) scalar
has_behind zero size o slots scalar w l = refl
has_behind (suc n) size o slots scalar w l =
    let a : n * size ≤ o = grind (arith, l) in
    let b : size ≤ o - n * size = grind (arith, l) in
    sym (list_any-append (is_slot_at (pos o) scalar) (repeated n size slots) (moved (n * size) slots)
    ∙ rw (← has_behind n size o slots scalar w a) (has_moved (n * size) o slots scalar a ∙ has_outside size (o - n * size) slots scalar w b))

-- the remainder of an offset in the n-th element
pub in_element : (n size o : ℕ) → n * size ≤ o → o < suc n * size → o - n * size ≡ o % size
in_element n size o l h =
    let b : o - n * size < size = grind (arith, l, h) in
    let e : n * size + (o - n * size) ≡ o = omega (arith, l) in
    sym (mod-mul-add n size (o - n * size) b) ∙ ap (λ x. x % size) e

pub moved_length : (by : ℕ) (slots : List LayoutSlot) → length (moved by slots) ≡ length slots
moved_length by [] = refl
moved_length by (s ∷ slots) = ap suc (moved_length by slots)

pub repeated_length : (n size : ℕ) (slots : List LayoutSlot) → length (repeated n size slots) ≡ n * length slots
repeated_length zero size slots = omega arith
repeated_length (suc n) size slots =
    let e = length-append (repeated n size slots) (moved (n * size) slots) in
    let a = repeated_length n size slots in
    let b = moved_length (n * size) slots in
    grind (arith, e, a, b)

-- the element in which a place lies
pub in_number : (n size o : ℕ) → n * size ≤ o → o < suc n * size → o / size ≡ n
in_number n size o l h =
    let b : o - n * size < size = grind (arith, l, h) in
    let e : n * size + (o - n * size) ≡ o = omega (arith, l) in
    ap (λ x. x / size) (sym e) ∙ div-mul-add n size (o - n * size) b

some_size : (n size o : ℕ) → o < n * size → 0 < size
some_size n zero o l = grind (arith, l)
some_size n (suc size) o l = omega arith

element_before : (n size o : ℕ) → o < n * size → o / size < n
element_before n size o l = (div-lt_iff_lt-mul (some_size n size o l)).1 l

pub within_element : (n size o : ℕ) → o < n * size → o % size < size
within_element n size o l = mod-lt o (some_size n size o l)

pub element_fits : (n size o unit : ℕ) → o < n * size → o / size * unit + unit ≤ n * unit
element_fits n size o unit l = let q : o / size < n = element_before n size o l in grind (arith, q)
