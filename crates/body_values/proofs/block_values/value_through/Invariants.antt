use Rattle.std.proofs.Common.{◌≡◌, drop}
use Rattle.std.specs.Option.{option_copied}
use Rattle.body_values.specs.Changed.{value_through}
use Rattle.body_values.specs.Found.{value_of}
use Rattle.body_values.proofs.block_values.value_through.Given as goal

abbrev pub invariant-loop-change : goal.invariant-loop-change
invariant-loop-change l = value_through l.place (option_copied l.value) (drop l.change-index l.changes) ≡ value_through l.place (value_of l.place l.begin) l.changes
