-- A program whose one number is 300.
use Rattle.std.specs.Prelude.{[], ◌∷◌, Some, pos}
use Rattle.gimple_ir.specs.declared.block.End.TheVariants.{Return}
use Rattle.gimple_ir.specs.declared.operand.Operand.TheVariants.{Number}
use Rattle.gimple_ir.specs.declared.program.Program.{Program}
use Rattle.gimple_ir.specs.declared.scalar.Scalar.TheVariants.{I32}
use Rattle.gimple_core.specs.Run.{main_name}

abbrev pub sample : Program
sample = record {
  profile = 1;
  structs = [];
  globals = [];
  functions = record {
    name = main_name;
    params = [];
    result = Some I32;
    locals = [];
    registers = [];
    blocks = record { label = 2; body = []; end = Return (Some (Number (pos 300))) } ∷ [];
  } ∷ [];
}
