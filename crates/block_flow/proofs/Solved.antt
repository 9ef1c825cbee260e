-- What a solution of the system says of blocks.
use Rattle.std.proofs.Common.{◌≡◌, ℕ, zero, suc, ◌+◌, ◌<◌, Bool, true, List, [], ◌∷◌, ◌++◌, length, refl, sym, ◌∙◌, ap, subst, arith, Some, slice_get}
use Rattle.std.specs.Prelude.{slice_index_or}
use Rattle.std.proofs.lemmas.Option.{slice_get_within}
use Rattle.gimple_ir.specs.declared.block.Block.{Block}
use Rattle.fix_engine.specs.declared.lifted.Lifted.{Lifted}
use Rattle.fix_engine.specs.Lifted.{FitsLifted, lifted_below}
use Rattle.fix_engine.specs.Least.{value_at}
use Rattle.block_flow.specs.declared.branch.Branch.{Branch}
use Rattle.block_flow.specs.Branches.{block_place, place_or, labels_of, branches_to, branches_from, branches_of}
use Rattle.block_flow.specs.Steps.{BodySteps, where_reached, after_statements}
use Rattle.block_flow.specs.System.{along_block, along, source_of, to_of, equations_of, Solves, value_or}
use Rattle.block_flow.specs.Laws.{place_within}

pub value_here : {A : Type 0} (xs : List (Lifted A)) (n : ℕ) (d : Lifted A) → n < length xs → slice_index_or xs n d ≡ value_or (slice_get xs n)
value_here [] n d l = absurd (omega (arith, l))
value_here (x ∷ xs) zero d l = refl
value_here (x ∷ xs) (suc n) d l = value_here xs n d (omega (arith, l))

-- ---- branches

pub record FoundBranch (all bs : List Block) (k j slot label : ℕ) : Type 0 where
  pub number : ℕ
  pub within : number < length (branches_from all k bs)
  pub there : slice_get (branches_from all k bs) number ≡ Some (record { source = k + j; slot = slot; target = place_or (block_place label all) })

append_first : (xs ys : List Branch) (n : ℕ) (x : Branch) → slice_get xs n ≡ Some x → slice_get (xs ++ ys) n ≡ Some x
append_first [] ys n x e = cc
append_first (y ∷ xs) ys zero x e = e
append_first (y ∷ xs) ys (suc n) x e = append_first xs ys n x e

append_next : (xs ys : List Branch) (n : ℕ) → slice_get (xs ++ ys) (length xs + n) ≡ slice_get ys n
append_next [] ys n = ap (slice_get ys) (omega arith)
append_next (x ∷ xs) ys n = let e : length (x ∷ xs) + n ≡ suc (length xs + n) = omega arith in ap (slice_get ((x ∷ xs) ++ ys)) e ∙ append_next xs ys n

get_within : (xs : List Branch) (n : ℕ) (x : Branch) → slice_get xs n ≡ Some x → n < length xs
get_within xs n x e = slice_get_within xs n x e

in_row : (all : List Block) (k first n : ℕ) (ls : List ℕ) (label : ℕ) → slice_get ls n ≡ Some label → slice_get (branches_to all k first ls) n ≡ Some (record { source = k; slot = first + n; target = place_or (block_place label all) })
in_row all k first n [] label e = cc
in_row all k first zero (l ∷ ls) label e =
    let same : l ≡ label = cc in
    let z : first ≡ first + 0 = omega arith in
    λ i. Some (record { source = k; slot = z i; target = place_or (block_place (same i) all) })
in_row all k first (suc n) (l ∷ ls) label e =
    let m : (first + 1) + n ≡ first + suc n = omega arith in
    in_row all k (first + 1) n ls label e ∙ (λ i. Some (record { source = k; slot = m i; target = place_or (block_place label all) }))

find_branch : (all bs : List Block) (k j slot label : ℕ) (b : Block) → slice_get bs j ≡ Some b → slice_get (labels_of b.end) slot ≡ Some label → FoundBranch all bs k j slot label
find_branch all [] k j slot label b e g = cc
find_branch all (c ∷ bs) k zero slot label b e g =
    let same : c ≡ b = cc in
    let mine : slice_get (labels_of c.end) slot ≡ Some label = subst (λ (x : Block). slice_get (labels_of x.end) slot ≡ Some label) (sym same) g in
    let row = in_row all k 0 slot (labels_of c.end) label mine in
    let z : k ≡ k + 0 = omega arith in
    let w : 0 + slot ≡ slot = omega arith in
    let there : slice_get (branches_from all k (c ∷ bs)) slot ≡ Some (record { source = k + 0; slot = slot; target = place_or (block_place label all) }) =
    append_first (branches_to all k 0 (labels_of c.end)) (branches_from all (k + 1) bs) slot _ row ∙ (λ i. Some (record { source = z i; slot = w i; target = place_or (block_place label all) })) in
    record { number = slot; within = get_within _ slot _ there; there = there }
find_branch all (c ∷ bs) k (suc j) slot label b e g =
    let rest : FoundBranch all bs (k + 1) j slot label = find_branch all bs (k + 1) j slot label b e g in
    let m : (k + 1) + j ≡ k + suc j = omega arith in
    let row : List Branch = branches_to all k 0 (labels_of c.end) in
    let there : slice_get (branches_from all k (c ∷ bs)) (length row + rest.number) ≡ Some (record { source = k + suc j; slot = slot; target = place_or (block_place label all) }) =
    append_next row (branches_from all (k + 1) bs) rest.number ∙ (rest.there ∙ (λ i. Some (record { source = m i; slot = slot; target = place_or (block_place label all) }))) in
    record { number = length row + rest.number; within = get_within _ (length row + rest.number) _ there; there = there }

-- ---- a solution

module _ {A : Type 0} (fits : List ℕ → A → Type 0) (below : A → A → Bool) (kind : List ℕ) (T : BodySteps A) (blocks : List Block) (xs : List (Lifted A)) (solves : Solves fits below kind T blocks xs) where
  there : (k : ℕ) → k < length blocks → value_at (equations_of T blocks) xs k ≡ value_or (slice_get xs k)
  there k l = let e = solves.one_each in value_here xs k _ (omega (arith, l, e))

  pub value_fits : (k : ℕ) → k < length blocks → FitsLifted fits kind (value_or (slice_get xs k))
  value_fits k l = subst (FitsLifted fits kind) (there k l) (solves.fit k l)

  -- the first block's value is above the one at entry
  pub first_above : 0 < length blocks → lifted_below below T.begin (value_or (slice_get xs 0)) ≡ true
  first_above l = subst (λ y. lifted_below below T.begin y ≡ true) (there 0 l) (solves.above_start 0 l)

  -- the value at the block that a branch leads to is above what the branch carries
  pub next_above : (k slot label : ℕ) (b : Block) → slice_get blocks k ≡ Some b → slice_get (labels_of b.end) slot ≡ Some label →
      lifted_below below (where_reached (after_statements T.statement k 0 b.body (value_or (slice_get xs k))) (T.branch k b.end slot)) (value_or (slice_get xs (place_or (block_place label blocks)))) ≡ true
  unfolding branches_of along
  next_above k slot label b e g =
      let found : FoundBranch blocks blocks 0 k slot label = find_branch blocks blocks 0 k slot label b e g in
      let branch : Branch = record { source = k; slot = slot; target = place_or (block_place label blocks) } in
      let z : 0 + k ≡ k = omega arith in
      let at : slice_get (branches_of blocks) found.number ≡ Some (record { source = k; slot = slot; target = place_or (block_place label blocks) }) =
      found.there ∙ (λ i. Some (record { source = z i; slot = slot; target = place_or (block_place label blocks) })) in
      let some : k < length blocks = slice_get_within blocks k b e in
      let within : place_or (block_place label blocks) < length blocks = place_within label blocks (omega (arith, some)) in
      let above = solves.above_flows found.number found.within in
      let one : lifted_below below (along T blocks (Some branch) (value_at (equations_of T blocks) xs k)) (value_at (equations_of T blocks) xs (place_or (block_place label blocks))) ≡ true =
      subst (λ o. lifted_below below (along T blocks o (value_at (equations_of T blocks) xs (source_of o))) (value_at (equations_of T blocks) xs (to_of o)) ≡ true) at above in
      subst (λ y. lifted_below below (along_block T branch (Some b) (value_or (slice_get xs k))) y ≡ true) (there (place_or (block_place label blocks)) within)
      (subst (λ x. lifted_below below (along_block T branch (Some b) x) (value_at (equations_of T blocks) xs (place_or (block_place label blocks))) ≡ true) (there k some)
      (subst (λ o. lifted_below below (along_block T branch o (value_at (equations_of T blocks) xs k)) (value_at (equations_of T blocks) xs (place_or (block_place label blocks))) ≡ true) e one))
