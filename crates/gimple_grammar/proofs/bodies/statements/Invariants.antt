use Rattle.std.proofs.Common.{◌≡◌, ◌-◌, length, []}
use Rattle.token_law.specs.Reading.{many_from}
use Rattle.gimple_grammar.specs.Readers.{begins_statement, statement}
use Rattle.gimple_grammar.proofs.bodies.statements.Given as goal

abbrev pub invariant-loop-turn : goal.invariant-loop-turn
invariant-loop-turn l =
    many_from (begins_statement l.fn.profile) (statement l.fn.profile) (length l.fn.tokens) [] l.fn.tokens
    ≡ many_from (begins_statement l.fn.profile) (statement l.fn.profile) (length l.fn.tokens - l._turn) l.found l.tokens
