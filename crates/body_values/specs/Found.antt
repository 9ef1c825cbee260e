-- The values of a function at each of its points.
use Rattle.std.specs.Prelude.{◌≡◌, ℕ, ◌==◌, nat_le, Bool, false, if◌then◌else◌, List, [], ◌++◌, length, Option, Some, None, IsSomeAnd, slice_get}
use Rattle.gimple_ir.specs.declared.declarations.Register.{Register}
use Rattle.gimple_ir.specs.declared.point.Point.{Point}
use Rattle.gimple_ir.specs.declared.block.Block.{Block}
use Rattle.gimple_ir.specs.declared.program.Function.{Function}
use Rattle.gimple_ir.specs.declared.program.Program.{Program}
use Rattle.gimple_core.specs.Sealed.{Sealed}
use Rattle.fix_engine.specs.declared.lifted.Lifted.{Lifted}
use Rattle.fix_engine.specs.declared.lifted.Lifted.TheVariants.{NotReached, Reached}
use Rattle.value_domain.specs.declared.abs_val.AbsVal.{AbsVal}
use Rattle.value_domain.specs.Thresholds.{Limits}
use Rattle.body_values.specs.declared.facts.Facts.{Facts}
use Rattle.body_values.specs.Bodies.{Body, place_of}
use Rattle.block_flow.specs.System.{value_or}
use Rattle.body_values.specs.Flow.{body_of, AreValues, values_at}

-- of the function of this number
abbrev pub OfFunction : Program → ℕ → (Function → Type 0) → Type 0
OfFunction p n P = IsSomeAnd (slice_get p.functions n) P

-- The number of a function, its registers with the formals first, the limit of constants with the thresholds, and the
-- values at each index of each block.
pub record Found : Type 0 where
  pub function : ℕ
  pub registers : List Register
  pub limits : Limits
  pub rows : List (List (Lifted (List AbsVal)))

-- ---- a register at a point

abbrev pub rows_or : Option (List (Lifted (List AbsVal))) → List (Lifted (List AbsVal))
rows_or None = []
rows_or (Some rows) = rows

-- the values at the point of this block and index; of no point there are none
abbrev pub found_row : List (List (Lifted (List AbsVal))) → ℕ → ℕ → Lifted (List AbsVal)
found_row rows k i = value_or (slice_get (rows_or (slice_get rows k)) i)

-- the value of a register among them
abbrev pub value_of : ℕ → Lifted (List AbsVal) → Option AbsVal
value_of place NotReached = None
value_of place (Reached row) = slice_get row place

-- the value of a register at a point
abbrev pub found_at : Found → Point → List ℕ → Option AbsVal
found_at t at name = if at.function == t.function then value_of (place_of t.registers name) (found_row t.rows at.block at.index) else None

-- ---- what they are

-- the index of a statement of a block, or of its end
abbrev pub is_index : Option Block → ℕ → Bool
is_index None i = false
is_index (Some b) i = nat_le i (length b.body)

-- the values at a point of the body; of no point there are none
abbrev pub point_row : Body → List Block → List (Lifted (List AbsVal)) → ℕ → ℕ → Lifted (List AbsVal)
point_row B blocks xs k i = if is_index (slice_get blocks k) i then values_at B blocks xs k i else NotReached

-- These are the values of a function of a program, from facts: those at the begins of blocks are the least solution of its
-- system, and those at each point follow from them.
pub record AreFound (p : Sealed) (n : ℕ) (f : Function) (facts : Facts) (limits : Limits) (t : Found) : Type 0 where
  pub begins : List (Lifted (List AbsVal))
  pub values : AreValues p n f facts limits.size limits.ends begins
  pub points : (k i : ℕ) → found_row t.rows k i ≡ point_row (body_of p n f facts limits.size limits.ends) f.blocks begins k i
  pub function : t.function ≡ n
  pub registers : t.registers ≡ f.params ++ f.registers
  pub made_with : t.limits ≡ limits
