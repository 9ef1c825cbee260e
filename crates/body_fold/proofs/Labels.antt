-- The labels of the blocks that are kept.
use Rattle.std.proofs.Common.{◌≡◌, ℕ, ◌+◌, ◌<◌, ◌==◌, Bool, true, false, not, cond, ◌||◌, if◌then◌else◌, List, [], ◌∷◌, ◌++◌, map, length, refl, sym, ◌∙◌, ap, subst, arith, Option, Some, None, Ok}
use Rattle.std.specs.List.{list_any, position_or_len}
use Rattle.std.proofs.lemmas.Bool.{eqb-true, eq-eqb, lt-ltb}
use Rattle.std.proofs.lemmas.Option.{slice_get_within}
use Rattle.gimple_ir.specs.declared.statement.Stmt.{Stmt}
use Rattle.gimple_ir.specs.declared.block.Block.{Block}
use Rattle.gimple_ir.specs.declared.block.End.{End}
use Rattle.gimple_core.specs.Run.{block_from, labelled}
use Rattle.gimple_core.specs.Verdict.{demand}
use Rattle.gimple_core.specs.Declarations as d
use Rattle.gimple_core.proofs.Passed.{first_passed, both_pass, demanded, demand_passes}
use Rattle.gimple_claims.specs.Kept.{new_body, new_blocks}
use Rattle.gimple_claims.proofs.Blocks.{number_in, label_at}
use Rattle.gimple_claims.proofs.Checked.{ok_same}
use Rattle.block_flow.specs.Branches.{block_place, place_or}

abbrev Lists : List ℕ → ℕ → Bool
Lists ls l = list_any (λ m. l == m) ls

-- ---- a block that is found has its label listed

either : (a b : Bool) → b ≡ true → a || b ≡ true
either true b h = refl
either false b h = h

listed_by : (to n : ℕ) (c : Block) (cs : List Block) (x : ℕ × Block) → (block_from to (n + 1) cs ≡ Some x → Lists (map (λ (b : Block). b.label) cs) to ≡ true) → (t : Bool) → (c.label == to) ≡ t →
    (if t then Some (n, c) else block_from to (n + 1) cs) ≡ Some x → (to == c.label) || Lists (map (λ (b : Block). b.label) cs) to ≡ true
listed_by to n c cs x more true t e = rw (eq-eqb to c.label (sym (eqb-true c.label to t))) refl
listed_by to n c cs x more false t e = either (to == c.label) (Lists (map (λ (b : Block). b.label) cs) to) (more e)

from_listed : (to n : ℕ) (bs : List Block) (x : ℕ × Block) → block_from to n bs ≡ Some x → Lists (map (λ (b : Block). b.label) bs) to ≡ true
unfolding block_from
from_listed to n [] x e = cc
from_listed to n (c ∷ cs) x e = listed_by to n c cs x (from_listed to (n + 1) cs x) (c.label == to) refl e

pub block_listed : (to : ℕ) (bs : List Block) (x : ℕ × Block) → labelled to bs ≡ Some x → Lists (map (λ (b : Block). b.label) bs) to ≡ true
block_listed to bs x e = from_listed to 0 bs x e

-- ---- the number of a block that is found is its place

here : (n k : ℕ) → n ≡ k → n + 0 ≡ k
here n k same = omega (arith, same)

place_by : (n k : ℕ) (b c : Block) (o : Option (ℕ × Block)) (m : ℕ) → (o ≡ Some (k, b) → n + 1 + m ≡ k) → (t : Bool) → (if t then Some (n, c) else o) ≡ Some (k, b) → n + cond (not t) (1 + m) 0 ≡ k
place_by n k b c o m more true e = let pair : (n, c) ≡ (k, b) = cc in here n k (ap number_in pair)
place_by n k b c o m more false e = let rest = more e in omega (arith, rest)

from_place : (to n k : ℕ) (bs : List Block) (b : Block) → block_from to n bs ≡ Some (k, b) → n + position_or_len (λ (x : Block). x.label == to) bs ≡ k
unfolding block_from
from_place to n k [] b e = cc
from_place to n k (c ∷ cs) b e = place_by n k b c (block_from to (n + 1) cs) (position_or_len (λ (x : Block). x.label == to) cs) (from_place to (n + 1) k cs b) (c.label == to) e

number_by : (t : Bool) (n k : ℕ) → t ≡ true → n ≡ k → place_or (cond t (Some n) None) ≡ k
number_by true n k e h = h
number_by false n k e h = cc

pub block_number : (to : ℕ) (bs : List Block) (k : ℕ) (b : Block) → labelled to bs ≡ Some (k, b) → place_or (block_place to bs) ≡ k
block_number to bs k b e =
    let from = from_place to 0 k bs b e in
    let place : position_or_len (λ (x : Block). x.label == to) bs ≡ k = omega (arith, from) in
    let within : k < length bs = slice_get_within bs k b (label_at to k bs b e) in
    number_by _ (position_or_len (λ (x : Block). x.label == to) bs) k (lt-ltb (position_or_len (λ (x : Block). x.label == to) bs) (length bs) (omega (arith, place, within))) place

-- ---- kept labels differ where all do

any_append : (l : ℕ) (xs ys : List ℕ) → Lists (xs ++ ys) l ≡ Lists xs l || Lists ys l
any_append l [] ys = refl
any_append l (x ∷ xs) ys = by (l == x) (any_append l xs ys)
  where
    by : (b : Bool) → Lists (xs ++ ys) l ≡ Lists xs l || Lists ys l → b || Lists (xs ++ ys) l ≡ (b || Lists xs l) || Lists ys l
    by true e = refl
    by false e = e

abbrev Within : List ℕ → List ℕ → Type 0
Within some more = (l : ℕ) → Lists some l ≡ true → Lists more l ≡ true

within_more : (some more : List ℕ) (x : ℕ) → Within some more → Within some (more ++ x ∷ [])
within_more some more x w l h = any_append l more (x ∷ []) ∙ rw (w l h) refl

within_both : (some more : List ℕ) (x : ℕ) → Within some more → Within (some ++ x ∷ []) (more ++ x ∷ [])
within_both some more x w l h = any_append l more (x ∷ []) ∙ by (Lists some l) (Lists more l) (Lists (x ∷ []) l) (w l) (sym (any_append l some (x ∷ [])) ∙ h)
  where
    by : (a b c : Bool) → (a ≡ true → b ≡ true) → a || c ≡ true → b || c ≡ true
    by true b c f k = rw (f refl) refl
    by false true c f k = refl
    by false false c f k = k

lacks : (a b : Bool) → (a ≡ true → b ≡ true) → not b ≡ true → not a ≡ true
lacks true b f k = let e = f refl in cc
lacks false b f k = refl

module _ (put : ℕ → ℕ → Stmt → Stmt) (end : ℕ → End → End) (keep : ℕ → Bool) where
  new_label_passes : (some more out : List ℕ) (x : ℕ) → Within some more → d.new_label more x ≡ Ok out → (d.new_label some x ≡ Ok (some ++ x ∷ [])) × (out ≡ more ++ x ∷ [])
  unfolding d.new_label
  new_label_passes some more out x w h =
      let a = first_passed (demand (not (Lists more x)) 9) _ out h in
      (both_pass (demand (not (Lists some x)) 9) _ tt _ (demand_passes _ 9 (lacks (Lists some x) (Lists more x) (w x) (demanded _ 9 a.1))) refl, sym (ok_same a.2))

  pub labels_kept : (k : ℕ) (some more out : List ℕ) (bs : List Block) → Within some more → d.labels more bs ≡ Ok out → (ls : List ℕ) × (d.labels some (new_blocks put end keep k bs) ≡ Ok ls)
  unfolding d.labels
  labels_kept k some more out [] w h = (some, refl)
  labels_kept k some more out (b ∷ bs) w h =
      let a = first_passed (d.new_label more b.label) _ out h in
      let n = new_label_passes some more a.0 b.label w a.1 in
      let rest : d.labels (more ++ b.label ∷ []) bs ≡ Ok out = subst (λ ls. d.labels ls bs ≡ Ok out) n.1 a.2 in
      by (keep k) n.0 (labels_kept (k + 1) (some ++ b.label ∷ []) (more ++ b.label ∷ []) out bs (within_both some more b.label w) rest) (labels_kept (k + 1) some (more ++ b.label ∷ []) out bs (within_more some more b.label w) rest)
    where
      by : (t : Bool) → d.new_label some b.label ≡ Ok (some ++ b.label ∷ []) → (ls : List ℕ) × (d.labels (some ++ b.label ∷ []) (new_blocks put end keep (k + 1) bs) ≡ Ok ls) → (ls : List ℕ) × (d.labels some (new_blocks put end keep (k + 1) bs) ≡ Ok ls) →
          (ls : List ℕ) × (d.labels some (if t then record { label = b.label; body = new_body put k 0 b.body; end = end k b.end } ∷ new_blocks put end keep (k + 1) bs else new_blocks put end keep (k + 1) bs) ≡ Ok ls)
      by true e x y = (x.0, both_pass (d.new_label some b.label) _ (some ++ b.label ∷ []) x.0 e x.1)
      by false e x y = y
