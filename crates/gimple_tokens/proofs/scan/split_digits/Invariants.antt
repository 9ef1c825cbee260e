use Rattle.std.proofs.Common.{◌≡◌, ◌-◌, ◌≤◌, ◌++◌, take, drop, length}
use Rattle.gimple_ir.specs.Names.{is_digit}
use Rattle.gimple_tokens.specs.Lexing.{front, back}
use Rattle.gimple_tokens.proofs.scan.split_digits.Given as goal

abbrev pub invariant-loop-n : goal.invariant-loop-n
invariant-loop-n l = (l.n ≤ length l.bytes) × (front is_digit l.bytes ≡ take l.n l.bytes ++ front is_digit (drop l.n l.bytes)) × (back is_digit l.bytes ≡ back is_digit (drop l.n l.bytes))

abbrev pub decreases-loop-n : goal.decreases-loop-n
decreases-loop-n l = length l.bytes - l.n
