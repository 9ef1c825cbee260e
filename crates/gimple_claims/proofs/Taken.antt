-- What the addresses that blocks take have, each statement and each end of them has.
use Rattle.std.proofs.Common.{ℕ, suc, ◌<◌, List, [], ◌∷◌, length, refl, arith}
use Rattle.std.specs.List.{AllByRecursion, Contains}
use Rattle.gimple_ir.specs.declared.operand.Operand.{Operand}
use Rattle.gimple_ir.specs.declared.statement.Stmt.{Stmt}
use Rattle.gimple_ir.specs.declared.block.Block.{Block}
use Rattle.gimple_core.specs.Reach.{operands_of, operands_of_end, TakesAddress, AddressedIn}

module _ (K : List ℕ → Type 0) where
  -- the names of the addresses among the operands
  abbrev pub Taken : List Operand → Type 0
  Taken xs = (name : List ℕ) → TakesAddress name xs → K name

  abbrev pub BodyTaken : List Stmt → Type 0
  BodyTaken xs = AllByRecursion (λ (x : Stmt). Taken (operands_of x)) xs

  pub record BlockTaken (b : Block) : Type 0 where
    pub body : BodyTaken b.body
    pub end : Taken (operands_of_end b.end)

  body_taken : (xs : List Stmt) → ((x : Stmt) → Contains xs x → Taken (operands_of x)) → BodyTaken xs
  body_taken [] h = tt
  body_taken (x ∷ xs) h = (h x (0, omega arith, refl), body_taken xs (λ y c. h y (suc c.0, (let lt : c.0 < length xs = c.1 in omega (arith, lt)), c.2)))

  pub blocks_taken : (bs : List Block) → ((name : List ℕ) → AddressedIn name bs → K name) → AllByRecursion BlockTaken bs
  blocks_taken [] h = tt
  blocks_taken (b ∷ bs) h = (
    record { body = body_taken b.body (λ x c name t. h name (AddressedIn.body b bs x c t)); end = λ name t. h name (AddressedIn.end b bs t) },
    blocks_taken bs (λ name a. h name (AddressedIn.later b bs a)),
  )
