-- What the walk marks is what the ends lead to from the first block.
use Rattle.std.proofs.Common.{◌≡◌, ◌↔◌, ◌⊎◌, inl, inr, ℕ, zero, suc, ◌+◌, ◌<◌, ◌==◌, nat_lt, append-nil, Bool, true, false, cond, not, if◌then◌else◌, List, [], ◌∷◌, ◌++◌, length, append_assoc, drop, get_or, refl, sym, ◌∙◌, ap, subst, arith, Some, None, slice_get, Vec}
use Rattle.std.specs.List.{Contains, position_or_len}
use Rattle.std.specs.declared.alloc.Global.{Global}
use Rattle.std.proofs.lemmas.List.{drop_more, map-append}
use Rattle.gimple_ir.specs.declared.statement.Stmt.{Stmt}
use Rattle.gimple_ir.specs.declared.block.Block.{Block}
use Rattle.gimple_ir.specs.declared.block.End.{End}
use Rattle.gimple_claims.specs.Kept.{new_body, new_blocks}
use Rattle.graph_walk.specs.Graph.{Leads, start, along, AreMarks}
use Rattle.graph_walk.specs.Walk.{listed, row_at}
use Rattle.graph_walk.proofs.Walking.{marked_inside}
use Rattle.block_flow.specs.Branches.{block_place, place_or, labels_of}
use Rattle.block_flow.specs.Laws.{place_within}
use Rattle.body_fold.specs.Fold.{IsLinked, first, linked}
use Rattle.body_fold.specs.Links.{places_of, targets_of, all_targets, out_of, unless_dropped, marked_blocks}

-- ---- rows

pub rows_more : (blocks : List Block) (rows news : List (Vec ℕ Global)) (v : Vec ℕ Global) (k : ℕ) (d : Block) (all : List (List ℕ)) → k < length blocks → v.items ≡ targets_of blocks (get_or blocks k d).end → news ≡ rows ++ v ∷ [] →
    listed rows ++ all_targets blocks (drop k blocks) ≡ all → listed news ++ all_targets blocks (drop (k + 1) blocks) ≡ all
rows_more blocks rows news v k d all l same pushed h =
    let rest : List (List ℕ) = all_targets blocks (drop (k + 1) blocks) in
    ap (λ (vs : List (Vec ℕ Global)). listed vs ++ rest) pushed
    ∙ (ap (λ (xs : List (List ℕ)). xs ++ rest) (map-append (λ (x : Vec ℕ Global). x.items) rows (v ∷ []))
    ∙ (append_assoc (listed rows) (v.items ∷ []) rest
    ∙ (ap (λ (xs : List ℕ). listed rows ++ (xs ∷ rest)) same
    ∙ (ap (λ (ys : List Block). listed rows ++ all_targets blocks ys) (sym (drop_more blocks k d l)) ∙ h))))

-- one label more
pub label_more : (blocks : List Block) (labels : List ℕ) (k d : ℕ) (found new : List ℕ) (x : ℕ) (all : List ℕ) → k < length labels → x ≡ place_or (block_place (get_or labels k d) blocks) → new ≡ found ++ x ∷ [] →
    found ++ places_of blocks (drop k labels) ≡ all → new ++ places_of blocks (drop (k + 1) labels) ≡ all
unfolding places_of
label_more blocks labels k d found new x all l same pushed h =
    let rest : List ℕ = places_of blocks (drop (k + 1) labels) in
    ap (λ (xs : List ℕ). xs ++ rest) pushed
    ∙ (append_assoc found (x ∷ []) rest
    ∙ (ap (λ (y : ℕ). found ++ (y ∷ rest)) same
    ∙ (ap (λ (ls : List ℕ). found ++ places_of blocks ls) (sym (drop_more labels k d l)) ∙ h)))

-- ---- targets are blocks

inside_places : (blocks : List Block) (ls : List ℕ) (m j : ℕ) → 0 < length blocks → j < length (places_of blocks ls) → get_or (places_of blocks ls) j m ≡ m → m < length blocks
unfolding places_of
inside_places blocks [] m j some l e = absurd (omega (arith, l))
inside_places blocks (x ∷ ls) m zero some l e = subst (λ z. z < length blocks) e (place_within x blocks some)
inside_places blocks (x ∷ ls) m (suc j) some l e = inside_places blocks ls m j some (omega (arith, l)) e

inside_rows : (blocks bs : List Block) (a m : ℕ) → 0 < length blocks → Contains (get_or (all_targets blocks bs) a []) m → m < length blocks
inside_rows blocks [] a m some h = let l = h.1 in absurd (omega (arith, l))
inside_rows blocks (b ∷ bs) zero m some h = inside_places blocks (labels_of b.end) m h.0 some h.1 h.2
inside_rows blocks (b ∷ bs) (suc a) m some h = inside_rows blocks bs a m some h

pub targets_inside : (blocks : List Block) → 0 < length blocks → (a m : ℕ) → Contains (out_of blocks a) m → m < length blocks
targets_inside blocks some a m h = inside_rows blocks blocks a m some h

-- what is reached is a block
leads_inside : (blocks : List Block) → 0 < length blocks → (m : ℕ) → Leads (out_of blocks) 0 m → m < length blocks
leads_inside blocks some _ start = some
leads_inside blocks some _ (along a m r h) = targets_inside blocks some a m h

-- ---- a target is that of a label

-- the label of a target, and the number of its branch
record Target (blocks : List Block) (ls : List ℕ) (m : ℕ) : Type 0 where
  slot : ℕ
  label : ℕ
  named : slice_get ls slot ≡ Some label
  place : place_or (block_place label blocks) ≡ m

place_listed : (blocks : List Block) (ls : List ℕ) (m j : ℕ) → j < length (places_of blocks ls) → get_or (places_of blocks ls) j m ≡ m → Target blocks ls m
unfolding places_of
place_listed blocks [] m j l e = absurd (omega (arith, l))
place_listed blocks (x ∷ ls) m zero l e = record { slot = 0; label = x; named = refl; place = e }
place_listed blocks (x ∷ ls) m (suc j) l e = let t = place_listed blocks ls m j (omega (arith, l)) e in record { slot = suc t.slot; label = t.label; named = t.named; place = t.place }

listed_place : (blocks : List Block) (ls : List ℕ) (label j : ℕ) → slice_get ls j ≡ Some label → Contains (places_of blocks ls) (place_or (block_place label blocks))
unfolding places_of
listed_place blocks [] label j e = cc
listed_place blocks (x ∷ ls) label zero e = let same : x ≡ label = cc in (0, omega arith, ap (λ l. place_or (block_place l blocks)) same)
listed_place blocks (x ∷ ls) label (suc j) e = let h = listed_place blocks ls label j e in (suc h.0, (let l = h.1 in omega (arith, l)), h.2)

-- a block that leads to a number
record Leading (blocks bs : List Block) (a m : ℕ) : Type 0 where
  block : Block
  stands : slice_get bs a ≡ Some block
  target : Target blocks (labels_of block.end) m

row_at_block : (blocks bs : List Block) (a m : ℕ) → Contains (get_or (all_targets blocks bs) a []) m → Leading blocks bs a m
row_at_block blocks [] a m h = let l = h.1 in absurd (omega (arith, l))
row_at_block blocks (b ∷ bs) zero m h = record { block = b; stands = refl; target = place_listed blocks (labels_of b.end) m h.0 h.1 h.2 }
row_at_block blocks (b ∷ bs) (suc a) m h = let t = row_at_block blocks bs a m h in record { block = t.block; stands = t.stands; target = t.target }

row_of_block : (blocks bs : List Block) (a : ℕ) (b : Block) → slice_get bs a ≡ Some b → get_or (all_targets blocks bs) a [] ≡ targets_of blocks b.end
row_of_block blocks [] a b e = cc
row_of_block blocks (x ∷ bs) zero b e = let same : x ≡ b = cc in ap (λ (z : Block). targets_of blocks z.end) same
row_of_block blocks (x ∷ bs) (suc a) b e = row_of_block blocks bs a b e

-- ---- all new blocks

module _ (put : ℕ → ℕ → Stmt → Stmt) (end : ℕ → End → End) where
  abbrev made : ℕ → Block → Block
  made k b = record { label = b.label; body = new_body put k 0 b.body; end = end k b.end }

  abbrev new : ℕ → List Block → List Block
  new k bs = new_blocks put end (λ k. true) k bs

  pub as_many : (k : ℕ) (bs : List Block) → length (new k bs) ≡ length bs
  as_many k [] = refl
  as_many k (b ∷ bs) = ap suc (as_many (k + 1) bs)

  -- each new block stands at the place of its old one
  new_at : (k m j : ℕ) (bs : List Block) (b : Block) → k + j ≡ m → slice_get bs j ≡ Some b → slice_get (new k bs) j ≡ Some (made m b)
  new_at k m j [] b e h = cc
  new_at k m zero (x ∷ bs) b e h = let same : x ≡ b = cc in let here : k ≡ m = omega (arith, e) in λ i. Some (made (here i) (same i))
  new_at k m (suc j) (x ∷ bs) b e h = new_at (k + 1) m j bs b (omega (arith, e)) h

  -- and each old one at the place of its new one
  record OldAt (m j : ℕ) (bs : List Block) (c : Block) : Type 0 where
    block : Block
    stands : slice_get bs j ≡ Some block
    is : made m block ≡ c

  old_at : (k m j : ℕ) (bs : List Block) (c : Block) → k + j ≡ m → slice_get (new k bs) j ≡ Some c → OldAt m j bs c
  old_at k m j [] c e h = cc
  old_at k m zero (x ∷ bs) c e h = let here : k ≡ m = omega (arith, e) in let same : made k x ≡ c = cc in record { block = x; stands = refl; is = ap (λ z. made z x) (sym here) ∙ same }
  old_at k m (suc j) (x ∷ bs) c e h = let o = old_at (k + 1) m j bs c (omega (arith, e)) h in record { block = o.block; stands = o.stands; is = o.is }

  -- labels stay
  same_place : (label k : ℕ) (bs : List Block) → position_or_len (λ (b : Block). b.label == label) (new k bs) ≡ position_or_len (λ (b : Block). b.label == label) bs
  same_place label k [] = refl
  same_place label k (b ∷ bs) = ap (λ m. cond (not (b.label == label)) (1 + m) 0) (same_place label (k + 1) bs)

  same_target : (label : ℕ) (bs : List Block) → place_or (block_place label (new 0 bs)) ≡ place_or (block_place label bs)
  same_target label bs = λ i. place_or (cond (nat_lt (same_place label 0 bs i) (as_many 0 bs i)) (Some (same_place label 0 bs i)) None)

  -- ---- what is marked

  leads_linked : (bs : List Block) (m : ℕ) → Leads (out_of (new 0 bs)) 0 m → IsLinked bs end m
  leads_linked bs _ start = first
  leads_linked bs _ (along a m r h) =
      let row = row_at_block (new 0 bs) (new 0 bs) a m h in
      let old = old_at 0 a a bs row.block (omega arith) row.stands in
      let labels : labels_of row.block.end ≡ labels_of (end a old.block.end) = ap (λ (z : Block). labels_of z.end) (sym old.is) in
      subst (IsLinked bs end) (sym (same_target row.target.label bs) ∙ row.target.place)
      (linked a old.block row.target.slot row.target.label (leads_linked bs a r) old.stands (subst (λ ls. slice_get ls row.target.slot ≡ Some row.target.label) labels row.target.named))

  linked_leads : (bs : List Block) (m : ℕ) → IsLinked bs end m → Leads (out_of (new 0 bs)) 0 m
  linked_leads bs _ first = start
  linked_leads bs _ (linked k b slot label h e l) =
      let row : out_of (new 0 bs) k ≡ targets_of (new 0 bs) (end k b.end) = row_of_block (new 0 bs) (new 0 bs) k (made k b) (new_at 0 k k bs b (omega arith) e) in
      along k (place_or (block_place label bs)) (linked_leads bs k h)
      (subst (λ xs. Contains xs (place_or (block_place label bs))) (sym row)
      (subst (Contains (targets_of (new 0 bs) (end k b.end))) (same_target label bs) (listed_place (new 0 bs) (labels_of (end k b.end)) label slot l)))

  -- the marks say to which blocks the new ends lead
  pub kept_marks : (bs : List Block) (marks : List Bool) → 0 < length bs → AreMarks (out_of (new 0 bs)) (length (new 0 bs)) 0 marks → (k : ℕ) → (get_or marks k false ≡ true) ↔ IsLinked bs end k
  kept_marks bs marks some are k = (
    λ on. let low = marked_inside marks k on in leads_linked bs k ((are.exact k (omega (arith, low, are.one_each))).0 on),
    λ h. let leads = linked_leads bs k h in let more = as_many 0 bs in (are.exact k (leads_inside (new 0 bs) (omega (arith, some, more)) k leads)).1 leads,
  )

  -- ---- what is dropped

  marked_new : (keep : ℕ → Bool) (marks : List Bool) (k : ℕ) (bs : List Block) → length marks ≡ length bs → ((j m : ℕ) → k + j ≡ m → get_or marks j false ≡ keep m) → marked_blocks marks (new k bs) ≡ new_blocks put end keep k bs
  unfolding marked_blocks
  marked_new keep [] k [] len each = refl
  marked_new keep [] k (b ∷ bs) len each = absurd (omega (arith, len))
  marked_new keep (mark ∷ marks) k [] len each = absurd (omega (arith, len))
  marked_new keep (mark ∷ marks) k (b ∷ bs) len each =
      by mark (keep k) (each 0 k (omega arith)) (marked_new keep marks (k + 1) bs (omega (arith, len)) (λ j m e. each (suc j) m (omega (arith, e))))
    where
      by : (x y : Bool) → x ≡ y → marked_blocks marks (new (k + 1) bs) ≡ new_blocks put end keep (k + 1) bs →
          unless_dropped x (made k b) (marked_blocks marks (new (k + 1) bs)) ≡ (if y then made k b ∷ new_blocks put end keep (k + 1) bs else new_blocks put end keep (k + 1) bs)
      by true true e h = λ i. made k b ∷ h i
      by true false e h = cc
      by false true e h = cc
      by false false e h = h

  pub marked_kept : (marks : List Bool) (bs : List Block) → length marks ≡ length bs → marked_blocks marks (new 0 bs) ≡ new_blocks put end (λ k. get_or marks k false) 0 bs
  marked_kept marks bs len = marked_new (λ k. get_or marks k false) marks 0 bs len (λ j m e. let same : j ≡ m = omega (arith, e) in ap (λ k. get_or marks k false) same)

-- ---- where the blocks or the marks have ended, all is kept

none_left : (marks : List Bool) (bs : List Block) → (length bs ≡ 0) ⊎ (length marks ≡ 0) → marked_blocks marks bs ≡ []
unfolding marked_blocks
none_left [] bs h = refl
none_left (mark ∷ marks) [] h = refl
none_left (mark ∷ marks) (b ∷ bs) (inl h) = absurd (omega (arith, h))
none_left (mark ∷ marks) (b ∷ bs) (inr h) = absurd (omega (arith, h))

pub kept_all : (kept all bs : List Block) (marks : List Bool) → kept ++ marked_blocks marks bs ≡ all → (length bs ≡ 0) ⊎ (length marks ≡ 0) → kept ≡ all
kept_all kept all bs marks h ends = sym (append-nil kept) ∙ ap (λ (xs : List Block). kept ++ xs) (sym (none_left marks bs ends)) ∙ h

-- ---- the rows of the walk

pub ends_inside : (blocks : List Block) (rows : List (Vec ℕ Global)) → 0 < length blocks → listed rows ≡ all_targets blocks blocks → length rows ≡ length blocks → (a m : ℕ) → Contains (row_at rows a) m → m < length rows
ends_inside blocks rows some is len a m h =
    let low = targets_inside blocks some a m (subst (λ (xs : List (List ℕ)). Contains (get_or xs a []) m) is h) in
    omega (arith, low, len)

pub marks_of : (blocks : List Block) (rows : List (Vec ℕ Global)) (marks : List Bool) → listed rows ≡ all_targets blocks blocks → length rows ≡ length blocks → AreMarks (row_at rows) (length rows) 0 marks → AreMarks (out_of blocks) (length blocks) 0 marks
marks_of blocks rows marks is len h =
    subst (λ n. AreMarks (out_of blocks) n 0 marks) len (subst (λ (xs : List (List ℕ)). AreMarks (λ a. get_or xs a []) (length rows) 0 marks) is h)
