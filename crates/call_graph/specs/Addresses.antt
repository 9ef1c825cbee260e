-- The functions whose addresses stand in a program, by number: one number for each address, in file order.
use Rattle.std.specs.Prelude.{ℕ, List, [], ◌∷◌, ◌++◌, Option, Some, None, position, flat_map}
use Rattle.std.specs.Str.{bytes_eq}
use Rattle.gimple_ir.specs.declared.operand.Operand.{Operand}
use Rattle.gimple_ir.specs.declared.operand.Operand.TheVariants.{Reg, Number, Null, Address}
use Rattle.gimple_ir.specs.declared.declarations.Global.{Global}
use Rattle.gimple_ir.specs.declared.statement.Stmt.{Stmt}
use Rattle.gimple_ir.specs.declared.block.Block.{Block}
use Rattle.gimple_ir.specs.declared.program.Function.{Function}
use Rattle.gimple_ir.specs.declared.program.Program.{Program}
use Rattle.gimple_core.specs.Reach.{operands_of, operands_of_end}

abbrev pub number_listed : Option ℕ → List ℕ
number_listed None = []
number_listed (Some k) = k ∷ []

-- the function whose address an operand is, if there is one of this name
abbrev pub operand_address : List Function → Operand → List ℕ
operand_address fs (Reg name) = []
operand_address fs (Number z) = []
operand_address fs Null = []
operand_address fs (Address name offset) = number_listed (position (λ f. bytes_eq f.name name) fs)

unfoldable pub addresses_in : List Function → List Operand → List ℕ
addresses_in fs operands = flat_map (operand_address fs) operands

abbrev pub body_addresses : List Function → List Stmt → List ℕ
body_addresses fs body = flat_map (λ x. addresses_in fs (operands_of x)) body

abbrev pub block_addresses : List Function → Block → List ℕ
block_addresses fs b = body_addresses fs b.body ++ addresses_in fs (operands_of_end b.end)

-- the addresses in the statements and ends of a function
abbrev pub function_addresses : List Function → Function → List ℕ
function_addresses fs f = flat_map (block_addresses fs) f.blocks

-- the addresses in the items of globals
abbrev pub item_addresses : List Function → List Global → List ℕ
item_addresses fs globals = flat_map (λ g. addresses_in fs g.items) globals

-- all addresses of a program's functions
abbrev pub addresses_of : Program → List ℕ
addresses_of p = item_addresses p.functions p.globals ++ flat_map (function_addresses p.functions) p.functions
