-- What is found where something is sought lies at the same place.
use Rattle.std.proofs.Common.{◌≡◌, ℕ, ◌==◌, Bool, true, false, ◌&&◌, refl, arith}
use mathlib.Core.Bool.{false≢true}
use Rattle.std.proofs.lemmas.Bool.Decides.{nat_tests}
use Rattle.gimple_ir.specs.declared.value.Object.{Object}
use Rattle.gimple_ir.specs.declared.value.Object.TheVariants.{Global, Local}
use Rattle.gimple_core.specs.declared.machine.Extent.{Extent}
use Rattle.gimple_core.specs.declared.machine.MemorySlot.{MemorySlot}
use Rattle.gimple_core.specs.Memory.{same_object, is_slot}

same_is : (a b : Object) → same_object a b ≡ true → a ≡ b
same_is (Global k) (Global j) e = grind (arith, nat_tests)
same_is (Global k) (Local t j) e = absurd (false≢true e)
same_is (Local s k) (Global j) e = absurd (false≢true e)
same_is (Local s k) (Local t j) e = grind (arith, nat_tests)

pub left_of : (a b : Bool) → (a && b) ≡ true → a ≡ true
left_of true b e = refl
left_of false b e = absurd (false≢true e)

pub right_of : (a b : Bool) → (a && b) ≡ true → b ≡ true
right_of true b e = e
right_of false b e = absurd (false≢true e)

equal : (i j : ℕ) → (i == j) ≡ true → i ≡ j
equal i j e = grind (arith, nat_tests)

pub extent_there : (t x : Extent) → same_object x.object t.object ≡ true → (x.object ≡ t.object) × (◌≡◌ {A = ℕ} 0 0)
extent_there t x e = (same_is x.object t.object e, refl)

pub slot_there : (t s : MemorySlot) → is_slot t.object t.offset t.scalar s ≡ true → (s.object ≡ t.object) × (s.offset ≡ t.offset)
slot_there t s e = (same_is s.object t.object (left_of _ _ (left_of _ _ e)), equal s.offset t.offset (right_of _ _ (left_of _ _ e)))
