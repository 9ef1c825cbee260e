use Rattle.std.proofs.Common.{◌≡◌, ◌++◌, drop}
use Rattle.body_symbols.specs.Bodies.{first_symbols}
use Rattle.body_symbols.proofs.scene.Scene.first.Given as goal

abbrev pub invariant-loop-at : goal.invariant-loop-at
invariant-loop-at l = l.row.items ++ first_symbols l.self.formals l.at (drop l.at l.registers) ≡ first_symbols l.self.formals 0 l.registers
