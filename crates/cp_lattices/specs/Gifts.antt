-- What calls give to formals: an argument of a call by name that is reached, with its jump function and with what is known of it there.
use Rattle.std.specs.Prelude.{◌≡◌, ℕ, List, [], length, Contains, Option, Some, position, slice_get, slice_index_or}
use Rattle.std.specs.Str.{bytes_eq}
use Rattle.gimple_ir.specs.declared.block.Block.{Block}
use Rattle.gimple_ir.specs.declared.declarations.Register.{Register}
use Rattle.gimple_ir.specs.declared.operand.Operand.{Operand}
use Rattle.gimple_ir.specs.declared.program.Function.{Function}
use Rattle.gimple_ir.specs.declared.statement.Stmt.TheVariants.{Call}
use Rattle.gimple_core.specs.Sealed.{Sealed}
use Rattle.fix_engine.specs.declared.lifted.Lifted.{Lifted}
use Rattle.fix_engine.specs.declared.lifted.Lifted.TheVariants.{Reached}
use Rattle.value_domain.specs.declared.abs_val.AbsVal.{AbsVal}
use Rattle.value_domain.specs.Thresholds.{thresholds_list}
use Rattle.body_symbols.specs.Found.{Found}
use Rattle.body_symbols.specs.Jumps.{jumps_in}
use Rattle.body_symbols.specs.Tables.{AreTables}
use Rattle.body_values.specs.Bodies.{Body, operand_value}
use Rattle.body_values.specs.Flow.{body_of, AreValues, values_at}
use Rattle.body_values.specs.TopFacts.{top_facts}
use Rattle.cp_lattices.specs.declared.gift.Gift.{Gift}

-- What is known of the bodies of a program: the symbols of each function, and its values from top facts, as those at the
-- begins of its blocks.
pub record Bodies : Type 0 where
  pub symbols : List Found
  pub begins : List (List (Lifted (List AbsVal)))

-- a function where nothing is known of its formals
abbrev pub top_body : Sealed → ℕ → Function → ℕ → Body
top_body p n f most = body_of p n f (top_facts f) most (thresholds_list p.program)

-- they are those of the program's functions, with lists of so many constants
pub record AreBodies (p : Sealed) (most : ℕ) (bodies : Bodies) : Type 0 where
  pub symbols : AreTables p bodies.symbols
  pub count : length bodies.begins ≡ length p.program.functions
  pub values : (n : ℕ) (f : Function) → slice_get p.program.functions n ≡ Some f → AreValues p n f (top_facts f) most (thresholds_list p.program) (slice_index_or bodies.begins n [])

-- What an argument of a reached call by name gives to the formal of its place.
pub record IsGift (p : Sealed) (most : ℕ) (bodies : Bodies) (gift : Gift) : Type 0 where
  pub caller : Function
  pub own : slice_get p.program.functions gift.caller ≡ Some caller
  pub symbols : Found
  pub known : slice_get bodies.symbols gift.caller ≡ Some symbols
  -- the call, by the numbers of its block and of its index there
  pub number : ℕ
  pub block : Block
  pub there : slice_get caller.blocks number ≡ Some block
  pub index : ℕ
  pub to : Option (List ℕ)
  pub name : List ℕ
  pub arguments : List Operand
  pub call : slice_get block.body index ≡ Some (Call to name arguments)
  pub row : List AbsVal
  pub reached : values_at (top_body p gift.caller caller most) caller.blocks (slice_index_or bodies.begins gift.caller []) number index ≡ Reached row
  -- the formal
  pub callee : Function
  pub named : position (λ f. bytes_eq f.name name) p.program.functions ≡ Some gift.callee
  pub called : slice_get p.program.functions gift.callee ≡ Some callee
  pub formal : Register
  pub declared : slice_get callee.params gift.formal ≡ Some formal
  pub scalar : gift.scalar ≡ formal.scalar
  -- the argument
  pub argument : Operand
  pub given : slice_get arguments gift.formal ≡ Some argument
  pub jump : slice_get (jumps_in p.program p.program.globals caller.locals symbols (record { function = gift.caller; block = number; index = index })) gift.formal ≡ Some gift.jump
  pub local : gift.local ≡ operand_value (top_body p gift.caller caller most) row formal.scalar argument

-- these are all of them
pub record AreGifts (p : Sealed) (most : ℕ) (bodies : Bodies) (gifts : List Gift) : Type 0 where
  pub each : (gift : Gift) → Contains gifts gift → IsGift p most bodies gift
  pub every : (gift : Gift) → IsGift p most bodies gift → Contains gifts gift
