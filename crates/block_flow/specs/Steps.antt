-- What an analysis of a body is: values, and what statements and branches make of them.
use Rattle.std.specs.Prelude.{◌≡◌, ℕ, ◌+◌, Bool, true, List, [], ◌∷◌}
use Rattle.gimple_ir.specs.declared.statement.Stmt.{Stmt}
use Rattle.gimple_ir.specs.declared.block.End.{End}
use Rattle.fix_engine.specs.declared.lifted.Lifted.{Lifted}
use Rattle.fix_engine.specs.declared.lifted.Lifted.TheVariants.{NotReached, Reached}
use Rattle.fix_engine.specs.Lifted.{FitsLifted, lifted_below}

-- The value at the entry of the body; what a statement makes of one, by its block and its index there; and what a branch
-- makes of one, by its block, the end, and its number there. Where it is not reached, what follows is not reached.
pub record BodySteps (A : Type 0) : Type 0 where
  pub begin : Lifted A
  pub statement : ℕ → ℕ → Stmt → A → Lifted A
  pub branch : ℕ → End → ℕ → A → Lifted A

-- what is made of a value, where there is one
abbrev pub where_reached : {A : Type 0} → Lifted A → (A → Lifted A) → Lifted A
where_reached NotReached f = NotReached
where_reached (Reached a) f = f a

-- the value after statements, of a block from an index on, by what each of them makes of a value
abbrev pub after_statements : {A : Type 0} → (ℕ → ℕ → Stmt → A → Lifted A) → ℕ → ℕ → List Stmt → Lifted A → Lifted A
after_statements step k i [] x = x
after_statements step k i (s ∷ ss) x = after_statements step k (i + 1) ss (where_reached x (step k i s))

-- among the values that fit one kind, all steps give values that fit, and rise with the values before them
pub record StepsLaws {A : Type 0} (fits : List ℕ → A → Type 0) (below : A → A → Bool) (kind : List ℕ) (T : BodySteps A) : Type 0 where
  pub begin_fits : FitsLifted fits kind T.begin
  pub statement_fits : (k i : ℕ) (x : Stmt) (a : A) → fits kind a → FitsLifted fits kind (T.statement k i x a)
  pub statement_rises : (k i : ℕ) (x : Stmt) (a b : A) → fits kind a → fits kind b → below a b ≡ true → lifted_below below (T.statement k i x a) (T.statement k i x b) ≡ true
  pub branch_fits : (k : ℕ) (e : End) (slot : ℕ) (a : A) → fits kind a → FitsLifted fits kind (T.branch k e slot a)
  pub branch_rises : (k : ℕ) (e : End) (slot : ℕ) (a b : A) → fits kind a → fits kind b → below a b ≡ true → lifted_below below (T.branch k e slot a) (T.branch k e slot b) ≡ true
