use Rattle.std.proofs.Common.{◌≡◌, ◌-◌, length, []}
use Rattle.gimple_tokens.specs.declared.token.Symbol.TheVariants.{Less}
use Rattle.token_law.specs.Reading.{sees, many_from}
use Rattle.gimple_grammar.specs.Readers.{block}
use Rattle.gimple_grammar.proofs.endings.blocks.Given as goal

abbrev pub invariant-loop-turn : goal.invariant-loop-turn
invariant-loop-turn l =
    many_from (sees Less) (block l.fn.profile) (length l.fn.tokens) [] l.fn.tokens
    ≡ many_from (sees Less) (block l.fn.profile) (length l.fn.tokens - l._turn) l.found l.tokens
