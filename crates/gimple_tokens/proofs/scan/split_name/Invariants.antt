use Rattle.std.proofs.Common.{◌≡◌, ◌-◌, ◌≤◌, ◌++◌, take, drop, length}
use Rattle.gimple_ir.specs.Names.{goes_on_name}
use Rattle.gimple_tokens.specs.Lexing.{front, back}
use Rattle.gimple_tokens.proofs.scan.split_name.Given as goal

abbrev pub invariant-loop-n : goal.invariant-loop-n
invariant-loop-n l = (l.n ≤ length l.bytes) × (front goes_on_name l.bytes ≡ take l.n l.bytes ++ front goes_on_name (drop l.n l.bytes)) × (back goes_on_name l.bytes ≡ back goes_on_name (drop l.n l.bytes))

abbrev pub decreases-loop-n : goal.decreases-loop-n
decreases-loop-n l = length l.bytes - l.n
