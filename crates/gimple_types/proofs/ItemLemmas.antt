-- The slot of each item.
use Rattle.std.proofs.Common.{◌≡◌, ℕ, zero, suc, ◌+◌, add-one, List, [], ◌∷◌, drop, Option, Some, None, Ok, refl, sym, ◌∙◌, ap, arith}
use Rattle.gimple_ir.specs.declared.scalar.Scalar.{Scalar}
use Rattle.gimple_ir.specs.declared.operand.Operand.{Operand}
use Rattle.gimple_ir.specs.declared.declarations.Global.{Global}
use Rattle.gimple_ir.specs.declared.value.LayoutSlot.{LayoutSlot}
use Rattle.gimple_core.specs.Verdict.{and_then}
use Rattle.gimple_core.specs.Env.{Names, Targets}
use Rattle.gimple_core.specs.Declarations.{item, items}
use Rattle.struct_tables.specs.Sizes.{scalar_at}
use Rattle.gimple_types.specs.Items.{slot_item, items_from}

there : (slots : List LayoutSlot) (i : ℕ) (scalar : Scalar) → Some scalar ≡ scalar_at slots i → (s : LayoutSlot) × (s.scalar ≡ scalar) × (drop i slots ≡ s ∷ drop (i + 1) slots)
there [] i scalar h = cc
there (s ∷ slots) zero scalar h = (s, cc, refl)
there (s ∷ slots) (suc i) scalar h = let r = there slots i scalar h in let e : suc (i + 1) ≡ suc i + 1 = omega arith in (r.0, r.1, r.2 ∙ ap (λ k. r.0 ∷ drop k (s ∷ slots)) e)

-- an item that has a slot
pub items_step : (ts : Targets) (all : Names Global) (slots : List LayoutSlot) (i : ℕ) (x : Operand) (xs : List Operand) (scalar : Scalar) → Some scalar ≡ scalar_at slots i → items ts all (drop i slots) (x ∷ xs) ≡ and_then (item ts all scalar x) (λ _. items ts all (drop (i + 1) slots) xs)
unfolding items
items_step ts all slots i x xs scalar h = let t = there slots i scalar h in rw t.2 (rw t.1 refl)

nowhere : (slots : List LayoutSlot) (i : ℕ) → None ≡ scalar_at slots i → drop i slots ≡ []
nowhere [] zero h = refl
nowhere [] (suc i) h = refl
nowhere (s ∷ slots) zero h = cc
nowhere (s ∷ slots) (suc i) h = nowhere slots i h

-- an item behind the last slot
pub items_end : (ts : Targets) (all : Names Global) (slots : List LayoutSlot) (i : ℕ) (x : Operand) (xs : List Operand) → None ≡ scalar_at slots i → items ts all (drop i slots) (x ∷ xs) ≡ Ok tt
unfolding items
items_end ts all slots i x xs h = rw (nowhere slots i h) refl

nowhere_next : (slots : List LayoutSlot) (i : ℕ) → None ≡ scalar_at slots i → drop (i + 1) slots ≡ []
nowhere_next [] zero h = refl
nowhere_next [] (suc i) h = rw (add-one (suc i)) refl
nowhere_next (s ∷ slots) zero h = cc
nowhere_next (s ∷ slots) (suc i) h = rw (add-one (suc i)) (ap (λ k. drop k slots) (sym (add-one i)) ∙ nowhere_next slots i h)

no_slots : (ts : Targets) (all : Names Global) (xs : List Operand) → items ts all [] xs ≡ Ok tt
unfolding items
no_slots ts all [] = refl
no_slots ts all (x ∷ xs) = refl

no_items : (ts : Targets) (all : Names Global) (slots : List LayoutSlot) → items ts all slots [] ≡ Ok tt
unfolding items
no_items ts all [] = refl
no_items ts all (s ∷ slots) = refl

one_more : (ts : Targets) (all : Names Global) (slots : List LayoutSlot) (i : ℕ) (x : Operand) (xs : List Operand) (o : Option Scalar) → o ≡ scalar_at slots i → items ts all (drop (i + 1) slots) xs ≡ items_from ts all slots (i + 1) xs →
    items ts all (drop i slots) (x ∷ xs) ≡ and_then (slot_item ts all o x) (λ _. items_from ts all slots (i + 1) xs)
one_more ts all slots i x xs None e more = items_end ts all slots i x xs e ∙ sym (sym more ∙ ap (λ l. items ts all l xs) (nowhere_next slots i e) ∙ no_slots ts all xs)
one_more ts all slots i x xs (Some scalar) e more = items_step ts all slots i x xs scalar e ∙ ap (λ v. and_then (item ts all scalar x) (λ _. v)) more

-- items from one on, by the numbers of their slots
items_are : (ts : Targets) (all : Names Global) (slots : List LayoutSlot) (i : ℕ) (xs : List Operand) → items ts all (drop i slots) xs ≡ items_from ts all slots i xs
unfolding items_from
items_are ts all slots i [] = no_items ts all (drop i slots)
items_are ts all slots i (x ∷ xs) = one_more ts all slots i x xs (scalar_at slots i) refl (items_are ts all slots (i + 1) xs)

pub all_items_are : (ts : Targets) (all : Names Global) (slots : List LayoutSlot) (xs : List Operand) → items ts all slots xs ≡ items_from ts all slots 0 xs
all_items_are ts all slots xs = items_are ts all slots 0 xs
