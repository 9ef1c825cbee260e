-- The items of a global, each against the slot of its number.
use Rattle.std.specs.Prelude.{ℕ, ◌+◌, List, [], ◌∷◌, Option, Some, None}
use Rattle.gimple_ir.specs.declared.scalar.Scalar.{Scalar}
use Rattle.gimple_ir.specs.declared.value.LayoutSlot.{LayoutSlot}
use Rattle.gimple_ir.specs.declared.declarations.Global.{Global}
use Rattle.gimple_ir.specs.declared.operand.Operand.{Operand}
use Rattle.gimple_core.specs.Declarations.{item}
use Rattle.gimple_core.specs.Env.{Names, Targets}
use Rattle.gimple_core.specs.Verdict.{Verdict, ◌>>◌, pure}
use Rattle.struct_tables.specs.Sizes.{scalar_at}

-- an item against a slot, if there is one
abbrev pub slot_item : Targets → Names Global → Option Scalar → Operand → Verdict (Unit {0})
slot_item ts all None x = pure tt
slot_item ts all (Some scalar) x = item ts all scalar x

-- each item against the slot of its number
unfoldable pub items_from : Targets → Names Global → List LayoutSlot → ℕ → List Operand → Verdict (Unit {0})
items_from ts all slots i [] = pure tt
items_from ts all slots i (x ∷ xs) = do
  slot_item ts all (scalar_at slots i) x
  items_from ts all slots (i + 1) xs
