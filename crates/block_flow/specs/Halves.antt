-- The equations with two nodes a block: its begin and its end. A value flows through the block once, and along each branch from its end.
use Rattle.std.specs.Prelude.{ℕ, ◌+◌, ◌-◌, if◌then◌else◌, nat_lt, List, length, Option, Some, None, slice_get}
use Rattle.gimple_ir.specs.declared.block.Block.{Block}
use Rattle.fix_engine.specs.declared.lifted.Lifted.{Lifted}
use Rattle.fix_engine.specs.declared.lifted.Lifted.TheVariants.{NotReached}
use Rattle.fix_engine.specs.Least.{Equations}
use Rattle.block_flow.specs.declared.branch.Branch.{Branch}
use Rattle.block_flow.specs.Branches.{branches_of}
use Rattle.block_flow.specs.Steps.{BodySteps, where_reached, after_statements}
use Rattle.block_flow.specs.System.{source_of, to_of, start_value}

abbrev pub through_block : {A : Type 0} → BodySteps A → ℕ → Option Block → Lifted A → Lifted A
through_block T k None x = NotReached
through_block T k (Some b) x = after_statements T.statement k 0 b.body x

abbrev pub taken_from : {A : Type 0} → BodySteps A → Branch → Option Block → Lifted A → Lifted A
taken_from T branch None x = NotReached
taken_from T branch (Some b) x = where_reached x (T.branch branch.source b.end branch.slot)

abbrev pub taken : {A : Type 0} → BodySteps A → List Block → Option Branch → Lifted A → Lifted A
taken T blocks None x = NotReached
taken T blocks (Some branch) x = taken_from T branch (slice_get blocks branch.source) x

-- the begin of a block has its number, and its end so many more as there are blocks
abbrev pub halves_of : {A : Type 0} → BodySteps A → List Block → Equations (Lifted A)
halves_of T blocks = record {
  nodes = length blocks + length blocks;
  edges = length blocks + length (branches_of blocks);
  source = λ e. if nat_lt e (length blocks) then e else length blocks + source_of (slice_get (branches_of blocks) (e - length blocks));
  target = λ e. if nat_lt e (length blocks) then length blocks + e else to_of (slice_get (branches_of blocks) (e - length blocks));
  start = start_value T.begin;
  flow = λ e x. if nat_lt e (length blocks) then through_block T e (slice_get blocks e) x else taken T blocks (slice_get (branches_of blocks) (e - length blocks)) x;
}
