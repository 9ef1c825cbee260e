use Rattle.std.proofs.Common.{◌≡◌, ◌-◌, length, []}
use Rattle.gimple_tokens.specs.declared.token.Symbol.TheVariants.{Case}
use Rattle.token_law.specs.Reading.{sees, many_from}
use Rattle.gimple_grammar.specs.Readers.{case_of}
use Rattle.gimple_grammar.proofs.endings.cases.Given as goal

abbrev pub invariant-loop-turn : goal.invariant-loop-turn
invariant-loop-turn l =
    many_from (sees Case) case_of (length l.fn.tokens) [] l.fn.tokens
    ≡ many_from (sees Case) case_of (length l.fn.tokens - l._turn) l.found l.tokens
