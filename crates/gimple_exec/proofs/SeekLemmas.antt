-- The tests that find a slot and an extent.
use Rattle.std.proofs.Common.{◌≡◌, ◌∙◌, ap, sym, refl, subst, ℕ, ◌+◌, ◌<◌, ◌≤◌, ◌==◌, ◌&&◌, Bool, true, false, if◌then◌else◌, List, ◌∷◌, [], None, Some, get_or, set, take, arith}
use mathlib.Core.Bool.{false≢true}
use Rattle.std.specs.List.{find, filter}
use Rattle.std.proofs.lemmas.Bool.{cond_both}
use Rattle.std.proofs.lemmas.Bool.Decides.{nat_tests}
use Rattle.std.proofs.lemmas.List.Quantifiers.{position-Some}
use Rattle.gimple_ir.specs.declared.scalar.Scalar.{Scalar}
use Rattle.gimple_ir.specs.declared.value.Value.{Value}
use Rattle.gimple_ir.specs.declared.value.Object.{Object}
use Rattle.gimple_ir.specs.declared.value.Object.TheVariants.{Global, Local}
use Rattle.gimple_core.specs.declared.machine.MemorySlot.{MemorySlot}
use Rattle.gimple_core.specs.Memory.{same_object, same_scalar, is_slot, is_elsewhere, put_slot}
use Rattle.gimple_core.specs.Names.{update_first}
use Rattle.gimple_core.proofs.ScalarLemmas.{same_scalar_true}
use Rattle.gimple_exec.specs.Order.{rank, precedes, comes_before, IsOrdered, IsSplit, IsLatest}
use Rattle.gimple_exec.specs.PlacedLemmas.{right_of, slot_there}
use Rattle.gimple_exec.specs.Places.{IsFirstAt}
use Rattle.gimple_exec.proofs.AssignedLemmas.{update_first_at}
use Rattle.gimple_exec.proofs.OrderLemmas.{Chains, Ranks, Seeks, refuted, precedes_self, precedes_next, precedes_rank, ordered_set, filter_front, all_latest}

-- ---- what is placed in objects

pub placed_chains : {X : Type 0} (object : X → Object) (offset : X → ℕ) → Chains (comes_before object offset)
placed_chains object offset x y z = precedes_next (object x) (object y) (object z) (offset x) (offset y) (offset z)

pub placed_ranks : {X : Type 0} (object : X → Object) (offset : X → ℕ) → Ranks object (comes_before object offset)
placed_ranks object offset x y = precedes_rank (object x) (object y) (offset x) (offset y)

-- what is found where something is sought lies at the same place
abbrev pub MatchesThere : {X : Type 0} → (X → Object) → (X → ℕ) → (X → X → Bool) → Type 0
MatchesThere {X} object offset matches = (t x : X) → matches t x ≡ true → (object x ≡ object t) × (offset x ≡ offset t)

pub placed_seeks : {X : Type 0} (object : X → Object) (offset : X → ℕ) (matches : X → X → Bool) → MatchesThere object offset matches → (t : X) → Seeks (comes_before object offset) t (matches t)
placed_seeks object offset matches there t = record {
  chains = placed_chains object offset;
  apart = λ x e. refuted (matches t x) (λ m. false≢true (sym (precedes_self (object t) (offset t)) ∙ (sym (ap (λ (o : Object). precedes o (offset t) (object t) (offset t)) (there t x m).0) ∙ sym (ap (λ (n : ℕ). precedes (object x) n (object t) (offset t)) (there t x m).1) ∙ e)));
  reach = λ x y m e. sym (ap (λ (o : Object). precedes (object y) (offset y) o (offset t)) (there t x m).0) ∙ sym (ap (λ (n : ℕ). precedes (object y) (offset y) (object x) n) (there t x m).1) ∙ e;
}

-- ---- an item that stands in for another keeps the order

abbrev instead : {X : Type 0} → (X → X → Bool) → X → X → X
instead matches t x = if matches t x then t else x

instead_here : {X : Type 0} (matches : X → X → Bool) (t x : X) → matches t x ≡ true → instead matches t x ≡ t
instead_here matches t x m = rw m refl

instead_left : {X : Type 0} (object : X → Object) (offset : X → ℕ) (matches : X → X → Bool) → MatchesThere object offset matches → (t x y : X) → comes_before object offset (instead matches t x) y ≡ comes_before object offset x y
instead_left object offset matches there t x y =
    cond_both (matches t x) t x (λ z. comes_before object offset z y ≡ comes_before object offset x y)
    (λ m. sym (ap (λ (o : Object). precedes o (offset x) (object y) (offset y)) (there t x m).0 ∙ ap (λ (n : ℕ). precedes (object t) n (object y) (offset y)) (there t x m).1)) (λ _. refl)

instead_right : {X : Type 0} (object : X → Object) (offset : X → ℕ) (matches : X → X → Bool) → MatchesThere object offset matches → (t x y : X) → comes_before object offset y (instead matches t x) ≡ comes_before object offset y x
instead_right object offset matches there t x y =
    cond_both (matches t x) t x (λ z. comes_before object offset y z ≡ comes_before object offset y x)
    (λ m. sym (ap (λ (o : Object). precedes (object y) (offset y) o (offset x)) (there t x m).0 ∙ ap (λ (n : ℕ). precedes (object y) (offset y) (object t) n) (there t x m).1)) (λ _. refl)

pub replaced_ordered : {X : Type 0} (object : X → Object) (offset : X → ℕ) (matches : X → X → Bool) → MatchesThere object offset matches → (xs : List X) (k : ℕ) (t : X) → IsFirstAt (matches t) xs k → IsOrdered (comes_before object offset) xs →
    IsOrdered (comes_before object offset) (set xs k t)
replaced_ordered object offset matches there xs k t first h =
    subst (λ y. IsOrdered (comes_before object offset) (set xs k y)) (instead_here matches t (get_or xs k t) (position-Some (matches t) xs k t first.place).1)
    (ordered_set (comes_before object offset) (instead matches t) (instead_left object offset matches there t) (λ x y. instead_right object offset matches there t y x) xs k t first.within h)

-- an item in the place of the first one that is found where it is sought
pub replaced_at : {X : Type 0} (matches : X → X → Bool) (xs : List X) (k : ℕ) (t : X) → IsFirstAt (matches t) xs k → update_first (matches t) (λ _. t) xs ≡ set xs k t
replaced_at matches xs k t first =
    let found = position-Some (matches t) xs k in
    update_first_at (matches t) (λ _. t) xs k t first.within (λ i e l. (found e first.place).2 i l) (found t first.place).1

-- ---- a frame that returns

-- an object of a frame has the rank behind its serial
rank_here : (serial : ℕ) (o : Object) → rank o ≡ serial + 1 → is_elsewhere serial o ≡ false
rank_here serial (Global k) e = absurd (omega (arith, e))
rank_here serial (Local s k) e = grind (arith, nat_tests)

rank_below : (serial : ℕ) (o : Object) → rank o < serial + 1 → is_elsewhere serial o ≡ true
rank_below serial (Global k) l = refl
rank_below serial (Local s k) l = grind (arith, nat_tests)

-- the objects of the last frame stand at the end
pub leave_front : {X : Type 0} (object : X → Object) (before : X → X → Bool) → ((x y : X) → before x y ≡ true → rank (object x) ≤ rank (object y)) → (serial : ℕ) (xs : List X) (k : ℕ) → IsOrdered before xs → IsSplit object serial xs k → IsLatest object serial xs → filter (λ x. is_elsewhere serial (object x)) xs ≡ take k xs
leave_front object before ranks serial xs k h split latest =
    filter_front (λ x. is_elsewhere serial (object x)) xs k (λ i d l m. rank_below serial (object (get_or xs i d)) (split.front i d l))
    (λ i d l m. let a = split.rest i d l m in let b = all_latest object before ranks serial xs h latest i d m in rank_here serial (object (get_or xs i d)) (omega (arith, a, b)))

-- no item passes a test
update_by : {X : Type 0} (p : X → Bool) (f : X → X) (x : X) (xs : List X) (b : Bool) → p x ≡ b → find p (x ∷ xs) ≡ None → (find p xs ≡ None → update_first p f xs ≡ xs) → update_first p f (x ∷ xs) ≡ x ∷ xs
unfolding update_first
update_by p f x xs true e none more = let some : find p (x ∷ xs) ≡ Some x = rw e refl in cc
update_by p f x xs false e none more =
    let same : find p (x ∷ xs) ≡ find p xs = rw e refl in
    rw e (ap (λ ys. x ∷ ys) (more (sym same ∙ none)))

pub update_none : {X : Type 0} (p : X → Bool) (f : X → X) (xs : List X) → find p xs ≡ None → update_first p f xs ≡ xs
unfolding update_first
update_none p f [] none = refl
update_none p f (x ∷ xs) none = update_by p f x xs (p x) refl none (update_none p f xs)

pub replaced_none : {X : Type 0} (matches : X → X → Bool) (xs : List X) (t : X) → find (matches t) xs ≡ None → update_first (matches t) (λ _. t) xs ≡ xs
replaced_none matches xs t none = update_none (matches t) (λ _. t) xs none

-- ---- a value that is put

-- changes that agree where the test passes
same_change : {X : Type 0} (p : X → Bool) (f g : X → X) → ((x : X) → p x ≡ true → f x ≡ g x) → (xs : List X) → update_first p f xs ≡ update_first p g xs
unfolding update_first
same_change p f g h [] = refl
same_change p f g h (x ∷ xs) =
    by (p x) refl (same_change p f g h xs)
  where
    by : (b : Bool) → p x ≡ b → update_first p f xs ≡ update_first p g xs → (if b then f x ∷ xs else x ∷ update_first p f xs) ≡ (if b then g x ∷ xs else x ∷ update_first p g xs)
    by true e more = ap (λ y. y ∷ xs) (h x e)
    by false e more = ap (λ ys. x ∷ ys) more

abbrev slot_with : Object → ℕ → Scalar → Value → MemorySlot
slot_with object offset scalar value = record { object = object; offset = offset; scalar = scalar; value = value }

slot_put : (object : Object) (offset : ℕ) (scalar : Scalar) (value : Value) (s : MemorySlot) → is_slot object offset scalar s ≡ true → slot_with object offset scalar value ≡ record s { value = value }
slot_put object offset scalar value s m =
    let there = slot_there (slot_with object offset scalar value) s m in
    let own : s.scalar ≡ scalar = same_scalar_true s.scalar scalar (right_of (same_object s.object object && (s.offset == offset)) (same_scalar s.scalar scalar) m) in
    sym (λ i. record { object = there.0 i; offset = there.1 i; scalar = own i; value = value })

pub put_is : (slots : List MemorySlot) (object : Object) (offset : ℕ) (scalar : Scalar) (value : Value) →
    update_first (is_slot object offset scalar) (λ _. record { object = object; offset = offset; scalar = scalar; value = value }) slots ≡ put_slot slots object offset scalar value
put_is slots object offset scalar value =
    same_change (is_slot object offset scalar) (λ s. slot_with object offset scalar value) (λ s. record s { value = value }) (slot_put object offset scalar value) slots
