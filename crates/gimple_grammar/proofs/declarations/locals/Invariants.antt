use Rattle.std.proofs.Common.{◌≡◌, ◌-◌, length, []}
use Rattle.gimple_tokens.specs.declared.token.Symbol.TheVariants.{Local}
use Rattle.token_law.specs.Reading.{sees, many_from}
use Rattle.gimple_grammar.specs.Readers.{local_decl}
use Rattle.gimple_grammar.proofs.declarations.locals.Given as goal

abbrev pub invariant-loop-turn : goal.invariant-loop-turn
invariant-loop-turn l =
    many_from (sees Local) local_decl (length l.fn.tokens) [] l.fn.tokens
    ≡ many_from (sees Local) local_decl (length l.fn.tokens - l._turn) l.found l.tokens
