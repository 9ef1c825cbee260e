-- Functions that are alike have bodies that are alike, statement by statement.
use Rattle.std.proofs.Common.{◌≡◌, ℕ, zero, suc, Bool, true, false, List, [], ◌∷◌, map, refl, sym, ◌∙◌, ap, Option, Some, None, slice_get, ◌==◌}
use Rattle.std.specs.Option.{is_some, option_map}
use Rattle.gimple_ir.specs.declared.statement.Stmt.{Stmt}
use Rattle.gimple_ir.specs.declared.statement.Stmt.TheVariants.{Copy, Arith, Compare, Convert, Load, Store, Call, Indirect, Get, Put, Abort}
use Rattle.gimple_ir.specs.declared.block.Case.{Case}
use Rattle.gimple_ir.specs.declared.block.End.{End}
use Rattle.gimple_ir.specs.declared.block.End.TheVariants.{Goto, If, Switch, Return}
use Rattle.gimple_ir.specs.declared.block.Block.{Block}
use Rattle.gimple_ir.specs.declared.program.Function.{Function}
use Rattle.gimple_ir.specs.declared.program.Program.{Program}
use Rattle.name_tables.proofs.Naming.{position_map}
use Rattle.icf_classes.specs.Placed as placed
use Rattle.icf_classes.specs.Placed.{number_of, with_callee, callees_in_body, callees_in_blocks, callees_of}
use Rattle.icf_classes.specs.Congruence.{Relation, AreRelated, Alike}
use Rattle.icf_classes.specs.Merged.{sent_stmt, sent_block, sent_function}
use Rattle.icf_classes.proofs.Meaning.{named_callee, block_at, numbered}

-- ---- from lists of callees to statements

abbrev with_named : Program → Option (List ℕ) → List ℕ → List ℕ
with_named p None rest = rest
with_named p (Some name) rest = number_of p name ∷ rest

callee_is : (p : Program) (x : Stmt) (rest : List ℕ) → with_callee p x rest ≡ with_named p (named_callee x) rest
callee_is p (Copy to from) rest = refl
callee_is p (Arith to left op right) rest = refl
callee_is p (Compare to left cmp right) rest = refl
callee_is p (Convert to scalar from) rest = refl
callee_is p (Load to scalar place) rest = refl
callee_is p (Store scalar place from) rest = refl
callee_is p (Call to callee arguments) rest = refl
callee_is p (Indirect to signature callee arguments) rest = refl
callee_is p (Get to) rest = refl
callee_is p (Put from) rest = refl
callee_is p Abort rest = refl

abbrev is_call : placed.PlacedStmt → Bool
is_call (placed.Call to arguments) = true
is_call x = false

call_is : (f : Function) (x : Stmt) → is_call (placed.placed_stmt f x) ≡ is_some (named_callee x)
unfolding placed.placed_stmt
call_is f (Copy to from) = refl
call_is f (Arith to left op right) = refl
call_is f (Compare to left cmp right) = refl
call_is f (Convert to scalar from) = refl
call_is f (Load to scalar place) = refl
call_is f (Store scalar place from) = refl
call_is f (Call to callee arguments) = refl
call_is f (Indirect to signature callee arguments) = refl
call_is f (Get to) = refl
call_is f (Put from) = refl
call_is f Abort = refl

-- ---- alike, statement by statement

module _ (R : Relation) (p : Program) where
  abbrev pub CalleesAlike : Option (List ℕ) → Option (List ℕ) → Type 0
  CalleesAlike None None = Unit {0}
  CalleesAlike None (Some n) = ⊥
  CalleesAlike (Some m) None = ⊥
  CalleesAlike (Some m) (Some n) = R (number_of p m) (number_of p n) ≡ true

  -- the same form, in two functions, and related callees
  abbrev pub BodiesAlike : Function → Function → List Stmt → List Stmt → Type 0
  BodiesAlike f g [] [] = Unit {0}
  BodiesAlike f g [] (y ∷ ys) = ⊥
  BodiesAlike f g (x ∷ xs) [] = ⊥
  BodiesAlike f g (x ∷ xs) (y ∷ ys) = (placed.placed_stmt f x ≡ placed.placed_stmt g y) × CalleesAlike (named_callee x) (named_callee y) × BodiesAlike f g xs ys

  pub record BlockAlike (f g : Function) (b c : Block) : Type 0 where
    pub body : BodiesAlike f g b.body c.body
    pub end : placed.placed_end f b.end ≡ placed.placed_end g c.end

  abbrev pub BlocksAlike : Function → Function → List Block → List Block → Type 0
  BlocksAlike f g [] [] = Unit {0}
  BlocksAlike f g [] (c ∷ cs) = ⊥
  BlocksAlike f g (b ∷ bs) [] = ⊥
  BlocksAlike f g (b ∷ bs) (c ∷ cs) = BlockAlike f g b c × BlocksAlike f g bs cs

  first_callee : (m n : Option (List ℕ)) (rest others : List ℕ) → is_some m ≡ is_some n → AreRelated R (with_named p m rest) (with_named p n others) → CalleesAlike m n × AreRelated R rest others
  first_callee None None rest others e r = (tt, r)
  first_callee None (Some n) rest others e r = cc
  first_callee (Some m) None rest others e r = cc
  first_callee (Some m) (Some n) rest others e r = (r.0, r.1)

  bodies_alike : (f g : Function) (xs ys : List Stmt) (rest others : List ℕ) → map (placed.placed_stmt f) xs ≡ map (placed.placed_stmt g) ys → AreRelated R (callees_in_body p xs rest) (callees_in_body p ys others) →
      (BodiesAlike f g xs ys) × AreRelated R rest others
  bodies_alike f g [] [] rest others e r = (tt, r)
  bodies_alike f g [] (y ∷ ys) rest others e r = cc
  bodies_alike f g (x ∷ xs) [] rest others e r = cc
  bodies_alike f g (x ∷ xs) (y ∷ ys) rest others e r =
      let same : placed.placed_stmt f x ≡ placed.placed_stmt g y = cc in
      let more : map (placed.placed_stmt f) xs ≡ map (placed.placed_stmt g) ys = cc in
      let calls : is_some (named_callee x) ≡ is_some (named_callee y) = sym (call_is f x) ∙ (ap is_call same ∙ call_is g y) in
      let related : AreRelated R (with_named p (named_callee x) (callees_in_body p xs rest)) (with_named p (named_callee y) (callees_in_body p ys others)) = rw (← callee_is p x (callees_in_body p xs rest), ← callee_is p y (callees_in_body p ys others)) r in
      let one = first_callee (named_callee x) (named_callee y) _ _ calls related in
      let later = bodies_alike f g xs ys rest others more one.1 in
      ((same, one.0, later.0), later.1)

  blocks_alike : (f g : Function) (bs cs : List Block) → map (placed.placed_block f) bs ≡ map (placed.placed_block g) cs → AreRelated R (callees_in_blocks p bs) (callees_in_blocks p cs) → BlocksAlike f g bs cs
  blocks_alike f g [] [] e r = tt
  blocks_alike f g [] (c ∷ cs) e r = cc
  blocks_alike f g (b ∷ bs) [] e r = cc
  blocks_alike f g (b ∷ bs) (c ∷ cs) e r =
      let same : placed.placed_block f b ≡ placed.placed_block g c = cc in
      let more : map (placed.placed_block f) bs ≡ map (placed.placed_block g) cs = cc in
      let one = bodies_alike f g b.body c.body (callees_in_blocks p bs) (callees_in_blocks p cs) (ap (λ (z : placed.PlacedBlock). z.body) same) r in
      (record { body = one.0; end = ap (λ (z : placed.PlacedBlock). z.end) same }, blocks_alike f g bs cs more one.1)

  -- functions that are alike have blocks that are alike
  pub functions_alike : (f g : Function) → Alike R p f g → BlocksAlike f g f.blocks g.blocks
  unfolding callees_of
  functions_alike f g a = blocks_alike f g f.blocks g.blocks (ap (λ (z : placed.PlacedFunction). z.blocks) a.form) a.callees

  -- ---- where calls are sent

  module _ (to : List ℕ → List ℕ) where
    -- what a search finds in the one function, and in the other one with its calls sent
    abbrev pub FoundAlike : Function → Function → Option (ℕ × Block) → Option (ℕ × Block) → Type 0
    FoundAlike f g None None = Unit {0}
    FoundAlike f g None (Some c) = ⊥
    FoundAlike f g (Some b) None = ⊥
    FoundAlike f g (Some (k, b)) (Some (m, c)) = (d : Block) × (c ≡ sent_block to d) × BlockAlike f g b d

    pub found_alike : (f g : Function) (n k : ℕ) (bs cs : List Block) → BlocksAlike f g bs cs → FoundAlike f g (numbered k (slice_get bs n)) (numbered k (slice_get (map (sent_block to) cs) n))
    found_alike f g n k [] [] a = tt
    found_alike f g n k [] (c ∷ cs) a = absurd a
    found_alike f g n k (b ∷ bs) [] a = absurd a
    found_alike f g zero k (b ∷ bs) (c ∷ cs) a = (c, refl, a.0)
    found_alike f g (suc n) k (b ∷ bs) (c ∷ cs) a = found_alike f g n k bs cs a.1

    pub at_alike : (f g : Function) (spot : placed.Spot) (bs cs : List Block) → BlocksAlike f g bs cs → FoundAlike f g (block_at bs spot) (block_at (map (sent_block to) cs) spot)
    at_alike f g None bs cs a = tt
    at_alike f g (Some k) bs cs a = found_alike f g k k bs cs a

-- ---- names and labels stay where calls are sent

module _ (to : List ℕ → List ℕ) (f : Function) where
  pub stmt_sent : (x : Stmt) → placed.placed_stmt (sent_function to f) (sent_stmt to x) ≡ placed.placed_stmt f x
  unfolding placed.placed_stmt
  stmt_sent (Copy target from) = refl
  stmt_sent (Arith target left op right) = refl
  stmt_sent (Compare target left cmp right) = refl
  stmt_sent (Convert target scalar from) = refl
  stmt_sent (Load target scalar place) = refl
  stmt_sent (Store scalar place from) = refl
  stmt_sent (Call target callee arguments) = refl
  stmt_sent (Indirect target signature callee arguments) = refl
  stmt_sent (Get target) = refl
  stmt_sent (Put from) = refl
  stmt_sent Abort = refl

  label_sent : (label : ℕ) → placed.label_in (sent_function to f) label ≡ placed.label_in f label
  label_sent label = position_map (sent_block to) (λ (b : Block). b.label == label) (λ (b : Block). b.label == label) (λ b. refl) f.blocks

  cases_sent : (cs : List Case) → map (placed.placed_case (sent_function to f)) cs ≡ map (placed.placed_case f) cs
  cases_sent [] = refl
  cases_sent (c ∷ cs) = λ i. record { value = c.value; target = label_sent c.target i } ∷ cases_sent cs i

  pub end_sent : (e : End) → placed.placed_end (sent_function to f) e ≡ placed.placed_end f e
  unfolding placed.placed_end
  end_sent (Goto target) = λ i. placed.Goto (label_sent target i)
  end_sent (If left cmp right hit miss) = λ i. placed.If (placed.placed_operand f left) cmp (placed.placed_operand f right) (label_sent hit i) (label_sent miss i)
  end_sent (Switch on cases other) = λ i. placed.Switch (placed.placed_operand f on) (cases_sent cases i) (label_sent other i)
  end_sent (Return None) = refl
  end_sent (Return (Some x)) = refl

  pub callee_sent : (x : Stmt) → named_callee (sent_stmt to x) ≡ option_map to (named_callee x)
  callee_sent (Copy target from) = refl
  callee_sent (Arith target left op right) = refl
  callee_sent (Compare target left cmp right) = refl
  callee_sent (Convert target scalar from) = refl
  callee_sent (Load target scalar place) = refl
  callee_sent (Store scalar place from) = refl
  callee_sent (Call target callee arguments) = refl
  callee_sent (Indirect target signature callee arguments) = refl
  callee_sent (Get target) = refl
  callee_sent (Put from) = refl
  callee_sent Abort = refl
