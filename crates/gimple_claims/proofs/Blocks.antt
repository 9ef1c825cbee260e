-- The block of a label: it has what all blocks have, and stands at its number.
use Rattle.std.proofs.Common.{◌≡◌, ℕ, suc, ◌+◌, ◌==◌, ◌||◌, Bool, true, false, List, [], ◌∷◌, map, refl, sym, ◌∙◌, ap, subst, arith, Option, Some, if◌then◌else◌, slice_get}
use Rattle.std.specs.List.{AllByRecursion, list_any}
use Rattle.std.proofs.lemmas.Bool.{eqb-true, eq-eqb}
use Rattle.gimple_ir.specs.declared.block.Block.{Block}
use Rattle.gimple_core.specs.Run.{block_from, labelled}

abbrev pub first_or : Bool → ℕ → Block → Option (ℕ × Block) → Option (ℕ × Block)
first_or c k b o = if c then Some (k, b) else o

-- ---- it is there where a block has the label

any_of : (to n : ℕ) (b : Block) (o : Option (ℕ × Block)) (rest : Bool) → (rest ≡ true → (k : ℕ) × (c : Block) × (o ≡ Some (k, c))) → (x : Bool) → (b.label == to) ≡ x → (y : Bool) → (to == b.label) ≡ y → y || rest ≡ true →
    (k : ℕ) × (c : Block) × (first_or x n b o ≡ Some (k, c))
any_of to n b o rest more true e y f h = (n, b, refl)
any_of to n b o rest more false e true f h = let there : (b.label == to) ≡ true = eq-eqb b.label to (sym (eqb-true to b.label f)) in cc
any_of to n b o rest more false e false f h = more h

from_there : (to n : ℕ) (bs : List Block) → list_any (λ l. to == l) (map (λ b. b.label) bs) ≡ true → (k : ℕ) × (b : Block) × (block_from to n bs ≡ Some (k, b))
unfolding block_from
from_there to n [] h = cc
from_there to n (b ∷ bs) h =
    any_of to n b (block_from to (n + 1) bs) (list_any (λ l. to == l) (map (λ b. b.label) bs)) (from_there to (n + 1) bs) (b.label == to) refl (to == b.label) refl h

pub label_there : (to : ℕ) (bs : List Block) → list_any (λ l. to == l) (map (λ b. b.label) bs) ≡ true → (k : ℕ) × (b : Block) × (labelled to bs ≡ Some (k, b))
label_there to bs h = from_there to 0 bs h

-- ---- what it has

abbrev pub block_in : ℕ × Block → Block
block_in x = x.1

abbrev pub number_in : ℕ × Block → ℕ
number_in x = x.0

has_of : (P : Block → Type 0) (n k : ℕ) (c b : Block) (o : Option (ℕ × Block)) → P c → (o ≡ Some (k, b) → P b) → (x : Bool) → first_or x n c o ≡ Some (k, b) → P b
has_of P n k c b o h more true e = let pair : (n, c) ≡ (k, b) = cc in subst P (ap block_in pair) h
has_of P n k c b o h more false e = more e

from_has : (P : Block → Type 0) (to n k : ℕ) (bs : List Block) (b : Block) → AllByRecursion P bs → block_from to n bs ≡ Some (k, b) → P b
unfolding block_from
from_has P to n k [] b h e = cc
from_has P to n k (c ∷ bs) b h e = has_of P n k c b (block_from to (n + 1) bs) h.0 (from_has P to (n + 1) k bs b h.1) (c.label == to) e

pub label_has : (P : Block → Type 0) (to k : ℕ) (bs : List Block) (b : Block) → AllByRecursion P bs → labelled to bs ≡ Some (k, b) → P b
label_has P to k bs b h e = from_has P to 0 k bs b h e

-- ---- where it stands

record StandsAt (n k : ℕ) (bs : List Block) (b : Block) : Type 0 where
  place : ℕ
  number : k ≡ n + place
  at : slice_get bs place ≡ Some b

here : (n k : ℕ) → n ≡ k → k ≡ n + 0
here n k same = omega (arith, same)

at_of : (n k : ℕ) (c b : Block) (bs : List Block) (o : Option (ℕ × Block)) → (o ≡ Some (k, b) → StandsAt (n + 1) k bs b) → (x : Bool) → first_or x n c o ≡ Some (k, b) → StandsAt n k (c ∷ bs) b
at_of n k c b bs o more true e =
    let pair : (n, c) ≡ (k, b) = cc in
    record { place = 0; number = here n k (ap number_in pair); at = ap Some (ap block_in pair) }
at_of n k c b bs o more false e =
    let h : StandsAt (n + 1) k bs b = more e in
    let number : k ≡ n + 1 + h.place = h.number in
    record { place = suc h.place; number = omega (arith, number); at = h.at }

from_at : (to n k : ℕ) (bs : List Block) (b : Block) → block_from to n bs ≡ Some (k, b) → StandsAt n k bs b
unfolding block_from
from_at to n k [] b e = cc
from_at to n k (c ∷ bs) b e = at_of n k c b bs (block_from to (n + 1) bs) (from_at to (n + 1) k bs b) (c.label == to) e

pub label_at : (to k : ℕ) (bs : List Block) (b : Block) → labelled to bs ≡ Some (k, b) → slice_get bs k ≡ Some b
label_at to k bs b e =
    let h : StandsAt 0 k bs b = from_at to 0 k bs b e in
    let number : k ≡ 0 + h.place = h.number in
    let same : h.place ≡ k = omega (arith, number) in
    ap (slice_get bs) (sym same) ∙ h.at
