use Rattle.std.proofs.Common.{◌≡◌, length}
use Rattle.gimple_ir.specs.Names.{goes_on_name}
use Rattle.gimple_tokens.specs.Lexing.{all_pass}
use Rattle.gimple_tokens.proofs.words.all_go_on.Given as goal

abbrev pub invariant-loop-rest : goal.invariant-loop-rest
invariant-loop-rest l = all_pass goes_on_name l.bytes ≡ all_pass goes_on_name l.rest

abbrev pub decreases-loop-rest : goal.decreases-loop-rest
decreases-loop-rest l = length l.rest
