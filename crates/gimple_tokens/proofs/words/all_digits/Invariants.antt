use Rattle.std.proofs.Common.{◌≡◌, length}
use Rattle.gimple_ir.specs.Names.{is_digit}
use Rattle.gimple_tokens.specs.Lexing.{all_pass}
use Rattle.gimple_tokens.proofs.words.all_digits.Given as goal

abbrev pub invariant-loop-rest : goal.invariant-loop-rest
invariant-loop-rest l = all_pass is_digit l.bytes ≡ all_pass is_digit l.rest

abbrev pub decreases-loop-rest : goal.decreases-loop-rest
decreases-loop-rest l = length l.rest
