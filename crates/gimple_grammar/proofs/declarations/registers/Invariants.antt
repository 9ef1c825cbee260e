use Rattle.std.proofs.Common.{◌≡◌, ◌-◌, length, []}
use Rattle.token_law.specs.Reading.{many_from}
use Rattle.gimple_grammar.specs.Readers.{sees_scalar, declared_register}
use Rattle.gimple_grammar.proofs.declarations.registers.Given as goal

abbrev pub invariant-loop-turn : goal.invariant-loop-turn
invariant-loop-turn l =
    many_from sees_scalar declared_register (length l.fn.tokens) [] l.fn.tokens
    ≡ many_from sees_scalar declared_register (length l.fn.tokens - l._turn) l.found l.tokens
