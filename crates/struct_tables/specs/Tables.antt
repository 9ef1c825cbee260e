-- Structs that have a table.
use Rattle.std.specs.Prelude.{◌≡◌, ◌≤◌, false, List, [], ◌∷◌, ◌++◌}
use Rattle.gimple_ir.specs.declared.declarations.StructDef.{StructDef}
use Rattle.gimple_core.specs.Declarations.{struct_size}
use Rattle.gimple_core.specs.Env.{has, structs_by_name}

-- the struct can stand behind these ones: its name is new, and its size at most 2^24
pub record CanFollow (earlier : List StructDef) (s : StructDef) : Type 0 where
  pub new : has s.name (structs_by_name earlier) ≡ false
  pub small : struct_size earlier s.fields ≤ 16777216

-- each of these structs can stand behind the first ones and those before it
abbrev pub CanAllFollow : List StructDef → List StructDef → Type 0
CanAllFollow earlier [] = Unit {0}
CanAllFollow earlier (s ∷ ss) = CanFollow earlier s × CanAllFollow (earlier ++ s ∷ []) ss

-- each of these structs can stand behind those before it
abbrev pub HaveTable : List StructDef → Type 0
HaveTable structs = CanAllFollow [] structs
