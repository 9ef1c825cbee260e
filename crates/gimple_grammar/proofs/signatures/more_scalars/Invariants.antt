use Rattle.std.proofs.Common.{◌≡◌, ◌-◌, length, [], ◌∷◌}
use Rattle.gimple_tokens.specs.declared.token.Symbol.TheVariants.{Comma}
use Rattle.token_law.specs.Reading.{sees, after_comma, many_from}
use Rattle.gimple_grammar.specs.Readers.{scalar}
use Rattle.gimple_grammar.proofs.signatures.more_scalars.Given as goal

abbrev pub invariant-loop-turn : goal.invariant-loop-turn
invariant-loop-turn l =
    many_from (sees Comma) (after_comma scalar) (length l.fn.tokens) (l.fn.first ∷ []) l.fn.tokens
    ≡ many_from (sees Comma) (after_comma scalar) (length l.fn.tokens - l._turn) l.found l.tokens
