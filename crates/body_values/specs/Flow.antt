-- The analysis of a body whose values at the begins of blocks are the least solution of its equations.
use Rattle.std.specs.Prelude.{ℕ, ◌==◌, ◌&&◌, ℤ, pos, Bool, if◌then◌else◌, List, ◌∷◌, ◌++◌, map, length, Option, Some, None, find}
use Rattle.std.specs.List.{list_any}
use Rattle.gimple_ir.specs.declared.scalar.Scalar.{Scalar}
use Rattle.gimple_ir.specs.declared.value.Constant.{Constant}
use Rattle.gimple_ir.specs.declared.value.Constant.TheVariants.{Int, Null}
use Rattle.gimple_ir.specs.declared.declarations.Register.{Register}
use Rattle.gimple_ir.specs.declared.point.Point.{Point}
use Rattle.gimple_ir.specs.declared.block.Block.{Block}
use Rattle.gimple_ir.specs.declared.program.Function.{Function}
use Rattle.gimple_core.specs.Sealed.{Sealed}
use Rattle.gimple_core.specs.Statements.{is_pointer}
use Rattle.fix_engine.specs.declared.lifted.Lifted.{Lifted}
use Rattle.fix_engine.specs.declared.lifted.Lifted.TheVariants.{NotReached, Reached}
use Rattle.fix_engine.specs.Rows.{FitsRows, rows_below}
use Rattle.block_flow.specs.Steps.{BodySteps}
use Rattle.block_flow.specs.System.{Solves as SolvesSteps, AreBegins, point_value}
use Rattle.value_domain.specs.declared.abs_val.AbsVal.{AbsVal}
use Rattle.value_domain.specs.Values.{FitsAbsVal, abs_val_below, is_none_val, kind_of}
use Rattle.value_domain.specs.AbsOperators.{exactly_of}
use Rattle.body_values.specs.declared.facts.Facts.{Facts}
use Rattle.body_values.specs.declared.facts.LoadFact.{LoadFact}
use Rattle.body_values.specs.Bodies.{Body, after_stmt, after_end}

-- ---- the facts

abbrev pub is_point : Point → ℕ → ℕ → ℕ → Bool
is_point at n k i = (at.function == n) && ((at.block == k) && (at.index == i))

abbrev pub fact_value : Option LoadFact → Option AbsVal
fact_value None = None
fact_value (Some x) = Some x.value

-- what is given of a load, by the first fact at its point
abbrev pub given_load : List LoadFact → ℕ → ℕ → ℕ → Option AbsVal
given_load loads n k i = fact_value (find (λ x. is_point x.point n k i) loads)

-- the function of this number, with facts, a limit of constants and thresholds
abbrev pub body_of : Sealed → ℕ → Function → Facts → ℕ → List ℤ → Body
body_of p n f facts most ends = record {
  structs = p.program.structs;
  globals = p.program.globals;
  mode = p.mode;
  locals = f.locals;
  registers = f.params ++ f.registers;
  most = most;
  ends = ends;
  loads = given_load facts.loads n;
}

-- ---- the entry

abbrev pub zero_constant : Scalar → Constant
zero_constant scalar = if is_pointer scalar then Null else Int (pos 0)

abbrev pub zero_value : ℕ → List ℤ → Register → AbsVal
zero_value most ends r = exactly_of r.scalar most ends (zero_constant r.scalar)

-- the facts of formals, and zero or null of registers; where a fact is none, no point is reached
abbrev pub entry_row : Function → List AbsVal → ℕ → List ℤ → Lifted (List AbsVal)
entry_row f formals most ends = if list_any is_none_val formals then NotReached else Reached (formals ++ map (zero_value most ends) f.registers)

-- ---- the analysis

-- the values at the entry, after statements and behind branches
abbrev pub steps_of : Body → Lifted (List AbsVal) → BodySteps (List AbsVal)
steps_of B entry = record { begin = entry; statement = after_stmt B; branch = λ k e slot row. after_end B e slot row }

-- those of a function from facts
abbrev pub steps_in : Sealed → ℕ → Function → Facts → ℕ → List ℤ → BodySteps (List AbsVal)
steps_in p n f facts most ends = steps_of (body_of p n f facts most ends) (entry_row f facts.formals most ends)

-- a solution of its equations, as values at the begin of each block
abbrev pub Solves : Sealed → ℕ → Function → Facts → ℕ → List ℤ → List (Lifted (List AbsVal)) → Type 0
Solves p n f facts most ends xs = SolvesSteps (FitsRows FitsAbsVal) (rows_below abs_val_below) (length (f.params ++ f.registers) ∷ kind_of most ends) (steps_in p n f facts most ends) f.blocks xs

-- the values at the begin of each block: the least solution
abbrev pub AreValues : Sealed → ℕ → Function → Facts → ℕ → List ℤ → List (Lifted (List AbsVal)) → Type 0
AreValues p n f facts most ends xs = AreBegins (FitsRows FitsAbsVal) (rows_below abs_val_below) (length (f.params ++ f.registers) ∷ kind_of most ends) (steps_in p n f facts most ends) f.blocks xs

-- the values at the point of this block and index, by those at the begins of blocks
abbrev pub values_at : Body → List Block → List (Lifted (List AbsVal)) → ℕ → ℕ → Lifted (List AbsVal)
values_at B blocks xs k i = point_value (steps_of B NotReached) blocks xs k i
