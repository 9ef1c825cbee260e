-- The branches of blocks, one after the other, and how many there are.
use Rattle.std.proofs.Common.{◌≡◌, ℕ, zero, suc, ◌+◌, ◌<◌, ◌≤◌, ◌^◌, ◌==◌, Bool, true, false, not, cond, nat_lt, if◌then◌else◌, List, [], ◌∷◌, ◌++◌, map, sum_by, Option, Some, None, IfSome, length, length-append, append_assoc, drop, get_or, refl, sym, ◌∙◌, ap, arith}
use Rattle.std.specs.List.{position, position_or_len}
use Rattle.std.proofs.lemmas.Bool.{lt-ltb}
use Rattle.std.proofs.lemmas.Option.{slice_get_within}
use Rattle.std.proofs.lemmas.List.Quantifiers.{position-Some}
use Rattle.std.proofs.lemmas.List.{drop_more, length-map}
use Rattle.std.proofs.lemmas.List.Sums.{sum_by-cons}
use Rattle.gimple_ir.specs.declared.block.Case.{Case}
use Rattle.gimple_ir.specs.declared.block.End.{End}
use Rattle.gimple_ir.specs.declared.block.End.TheVariants.{Goto, If, Switch, Return}
use Rattle.gimple_ir.specs.declared.block.Block.{Block}
use Rattle.gimple_ir.specs.declared.program.Function.{Function}
use Rattle.gimple_ir.specs.Size.{branches_of_end, branches_of_function}
use Rattle.gimple_core.specs.Run.{block_from, labelled as block_of}
use Rattle.gimple_claims.proofs.Blocks.{number_in, label_at}
use Rattle.name_tables.proofs.Naming.{position_map}
use Rattle.block_flow.specs.declared.branch.Branch.{Branch}
use Rattle.block_flow.specs.Branches.{block_place, place_or, labels_of, branches_to, branches_from, branches_of}

pub row_count : (all : List Block) (k slot : ℕ) (ls : List ℕ) → length (branches_to all k slot ls) ≡ length ls
row_count all k slot [] = refl
row_count all k slot (x ∷ ls) = ap suc (row_count all k (slot + 1) ls)

label_count : (e : End) → length (labels_of e) ≡ branches_of_end e
label_count (Goto target) = refl
label_count (If left cmp right hit miss) = refl
label_count (Switch on cases other) = length-append (map (λ (c : Case). c.target) cases) (other ∷ []) ∙ ap (λ n. n + 1) (length-map cases (λ (c : Case). c.target))
label_count (Return value) = refl

branch_count : (all : List Block) (k : ℕ) (bs : List Block) → length (branches_from all k bs) ≡ sum_by (λ (b : Block). branches_of_end b.end) bs
branch_count all k [] = refl
branch_count all k (b ∷ bs) =
    let row = row_count all k 0 (labels_of b.end) in
    let rest = branch_count all (k + 1) bs in
    omega (arith, row, rest, label_count b.end, length-append (branches_to all k 0 (labels_of b.end)) (branches_from all (k + 1) bs), sum_by-cons (λ (b : Block). branches_of_end b.end) b bs)

-- a function has as many branches as its ends lead out of blocks
pub function_branches : (f : Function) → length (branches_of f.blocks) ≡ branches_of_function f
unfolding branches_of
function_branches f = branch_count f.blocks 0 f.blocks

-- a block has no more branches than all of them
labels_within : (all : List Block) (k i : ℕ) (bs : List Block) (b : Block) → i < length bs → b ≡ get_or bs i b → length (labels_of b.end) ≤ length (branches_from all k bs)
labels_within all k i [] b l e = absurd (omega (arith, l))
labels_within all k zero (x ∷ bs) b l e =
    let same : length (labels_of b.end) ≡ length (labels_of x.end) = ap (λ (y : Block). length (labels_of y.end)) e in
    omega (arith, same, row_count all k 0 (labels_of x.end), length-append (branches_to all k 0 (labels_of x.end)) (branches_from all (k + 1) bs))
labels_within all k (suc i) (x ∷ bs) b l e =
    let rest : length (labels_of b.end) ≤ length (branches_from all (k + 1) bs) = labels_within all (k + 1) i bs b (omega (arith, l)) e in
    omega (arith, rest, length-append (branches_to all k 0 (labels_of x.end)) (branches_from all (k + 1) bs))

pub labels_few : (bs : List Block) (i : ℕ) (b : Block) → i < length bs → b ≡ get_or bs i b → length (branches_of bs) < 2 ^ 32 → length (labels_of b.end) < 2 ^ 32
unfolding branches_of
labels_few bs i b l e h = let within = labels_within bs 0 i bs b l e in omega (arith, within, h)

-- one branch more
pub next_branch : (all : List Block) (k i : ℕ) (ls : List ℕ) (d : ℕ) (x : Branch) (found new e : List Branch) → i < length ls → x ≡ record { source = k; slot = i; target = place_or (block_place (get_or ls i d) all) } → new ≡ found ++ x ∷ [] →
    found ++ branches_to all k i (drop i ls) ≡ e → new ++ branches_to all k (i + 1) (drop (i + 1) ls) ≡ e
next_branch all k i ls d x found new e l is pushed h =
    let rest : List Branch = branches_to all k (i + 1) (drop (i + 1) ls) in
    ap (λ (ys : List Branch). ys ++ rest) pushed
    ∙ (append_assoc found (x ∷ []) rest
    ∙ (ap (λ (y : Branch). found ++ (y ∷ rest)) is
    ∙ (ap (λ (ys : List ℕ). found ++ branches_to all k i ys) (sym (drop_more ls i d l)) ∙ h)))

-- ---- the blocks by their labels

-- the place of a label among the labels is that of its block
pub labelled : (blocks : List Block) (labels : List ℕ) (label : ℕ) (r : Option ℕ) → labels ≡ map (λ b. b.label) blocks → r ≡ position (λ l. l == label) labels → r ≡ block_place label blocks
labelled blocks labels label r same found =
    found
    ∙ ap (λ (ls : List ℕ). position (λ l. l == label) ls) same
    ∙ position_map (λ (b : Block). b.label) (λ l. l == label) (λ b. b.label == label) (λ b. refl) blocks

-- a block of a label is among the blocks
pub block_within : (blocks : List Block) (label : ℕ) (r : Option ℕ) → r ≡ block_place label blocks → IfSome r (λ k. k < length blocks)
block_within blocks label None e = tt
block_within [] label (Some k) e = cc
block_within (b ∷ blocks) label (Some k) e = (position-Some (λ (b : Block). b.label == label) (b ∷ blocks) k b (sym e)).0

from_here : (n k : ℕ) → n ≡ k → n + 0 ≡ k
from_here n k e = omega (arith, e)

from_place : (label n k : ℕ) (bs : List Block) (b : Block) → block_from label n bs ≡ Some (k, b) → n + position_or_len (λ (c : Block). c.label == label) bs ≡ k
unfolding block_from
from_place label n k [] b e = cc
from_place label n k (c ∷ bs) b e = by (c.label == label) e (from_place label (n + 1) k bs b)
  where
    by : (t : Bool) → (if t then Some (n, c) else block_from label (n + 1) bs) ≡ Some (k, b) → (block_from label (n + 1) bs ≡ Some (k, b) → (n + 1) + position_or_len (λ (c : Block). c.label == label) bs ≡ k) →
        n + cond (not t) (1 + position_or_len (λ (c : Block). c.label == label) bs) 0 ≡ k
    by true f more = let pair : (n, c) ≡ (k, b) = cc in from_here n k (ap number_in pair)
    by false f more = let rest = more f in omega (arith, rest)

-- the block that a run finds by its label has this number
pub label_place : (label k : ℕ) (bs : List Block) (b : Block) → block_of label bs ≡ Some (k, b) → place_or (block_place label bs) ≡ k
label_place label k bs b e =
    let here : 0 + position_or_len (λ (c : Block). c.label == label) bs ≡ k = from_place label 0 k bs b e in
    let within : k < length bs = slice_get_within bs k b (label_at label k bs b e) in
    let among : nat_lt (position_or_len (λ (c : Block). c.label == label) bs) (length bs) ≡ true = lt-ltb _ _ (omega (arith, here, within)) in
    let same : position_or_len (λ (c : Block). c.label == label) bs ≡ k = omega (arith, here) in
    ap (λ t. place_or (cond t (Some (position_or_len (λ (c : Block). c.label == label) bs)) None)) among ∙ same
