-- Lists that are empty.
use Rattle.std.proofs.Common.{◌≡◌, ◌↔◌, Bool, true, false, not, List, [], ◌∷◌, refl, IsTrue}
use Rattle.gimple_ir.specs.declared.block.Block.{Block}
use Rattle.gimple_ir.specs.declared.declarations.Decl.{Decl}
use Rattle.gimple_core.specs.Declarations.{has_blocks, is_empty}

pub not_empty : (bs : List Block) (b : Bool) → (IsTrue b ↔ (bs ≡ [])) → not b ≡ has_blocks bs
not_empty [] true h = refl
not_empty [] false h = let z = h.1 refl in cc
not_empty (x ∷ bs) true h = let z = h.0 refl in cc
not_empty (x ∷ bs) false h = refl

pub empty_is : (fs : List Decl) (b : Bool) → (IsTrue b ↔ (fs ≡ [])) → b ≡ is_empty fs
empty_is [] true h = refl
empty_is [] false h = let z = h.1 refl in cc
empty_is (f ∷ fs) true h = let z = h.0 refl in cc
empty_is (f ∷ fs) false h = refl
