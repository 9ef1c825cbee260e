-- What the symbols of a function are made from.
use Rattle.std.specs.Prelude.{◌≡◌, ◌<◌, ◌^◌, List, length}
use Rattle.gimple_ir.specs.declared.block.Block.{Block}
use Rattle.gimple_ir.specs.declared.program.Function.{Function}
use Rattle.fix_engine.specs.declared.lifted.Lifted.{Lifted}
use Rattle.block_flow.specs.Branches.{branches_of}
use Rattle.block_flow.specs.System.{AreFew}
use Rattle.body_symbols.specs.declared.symbol.Symbol.{Symbol}
use Rattle.body_symbols.specs.declared.change.Change.{Change}
use Rattle.body_symbols.specs.Bodies.{Body}
use Rattle.body_symbols.specs.Found.{block_changes, AreLeast}

-- the least solution, and what each statement changes by it
pub record AreParts (B : Body) (blocks : List Block) (begins : List (Lifted (List Symbol))) (changes : List (List Change)) : Type 0 where
  pub least : AreLeast B blocks begins
  pub are : changes ≡ block_changes B begins 0 blocks

-- the parts of a function have numbers
pub record IsNumbered (f : Function) : Type 0 where
  pub formals : length f.params < 2 ^ 32
  pub locals : length f.locals < 2 ^ 32
  pub few : AreFew f.blocks (length (branches_of f.blocks))
