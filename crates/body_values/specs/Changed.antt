-- The values at the points of a block, by those at its begin and by what each statement changes.
use Rattle.std.specs.Prelude.{ℕ, ◌==◌, not, Bool, true, false, if◌then◌else◌, List, [], ◌∷◌, Option, Some, None, slice_get, slice_set}
use Rattle.std.specs.List.{list_any}
use Rattle.gimple_ir.specs.declared.declarations.Register.{Register}
use Rattle.fix_engine.specs.declared.lifted.Lifted.{Lifted}
use Rattle.fix_engine.specs.declared.lifted.Lifted.TheVariants.{NotReached, Reached}
use Rattle.value_domain.specs.declared.abs_val.AbsVal.{AbsVal}
use Rattle.body_values.specs.declared.block_values.Change.{Change}
use Rattle.body_values.specs.declared.block_values.Change.TheVariants.{Nothing, Sets, Ends}
use Rattle.body_values.specs.Bodies.{place_of}

-- the values after a change; behind a point that is not reached none is
abbrev pub changed : Lifted (List AbsVal) → Change → Lifted (List AbsVal)
changed NotReached c = NotReached
changed (Reached row) Nothing = Reached row
changed (Reached row) (Sets place value) = Reached (slice_set row place value)
changed (Reached row) Ends = NotReached

-- the values before each change, and after the last one
abbrev pub rows_by : Lifted (List AbsVal) → List Change → List (Lifted (List AbsVal))
rows_by x [] = x ∷ []
rows_by x (c ∷ cs) = x ∷ rows_by (changed x c) cs

-- ---- one register

-- the value of the register of this number after a change, if there is one before it
abbrev pub value_after : ℕ → Option AbsVal → Change → Option AbsVal
value_after place None c = None
value_after place (Some a) Nothing = Some a
value_after place (Some a) (Sets other b) = if other == place then Some b else Some a
value_after place (Some a) Ends = None

-- and after all changes
abbrev pub value_through : ℕ → Option AbsVal → List Change → Option AbsVal
value_through place a [] = a
value_through place a (c ∷ cs) = value_through place (value_after place a c) cs

-- ---- whether a point is reached

abbrev pub is_end : Change → Bool
is_end Nothing = false
is_end (Sets place value) = false
is_end Ends = true

-- after all changes
abbrev pub reached_through : Lifted (List AbsVal) → List Change → Bool
reached_through NotReached cs = false
reached_through (Reached row) cs = not (list_any is_end cs)

-- ---- what a statement has changed

abbrev pub set_to : ℕ → Option AbsVal → Change
set_to place None = Nothing
set_to place (Some a) = Sets place a

-- the value that a register has, where a statement assigns one
abbrev pub change_of : List Register → Option (List ℕ) → List AbsVal → Change
change_of rs None row = Nothing
change_of rs (Some to) row = set_to (place_of rs to) (slice_get row (place_of rs to))
