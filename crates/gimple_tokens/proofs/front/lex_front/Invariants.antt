use Rattle.std.proofs.Common.{false, length}
use Rattle.gimple_tokens.specs.Lexing.{skip}
use Rattle.gimple_tokens.specs.Lexing.{LexesUpTo}
use Rattle.gimple_tokens.proofs.front.lex_front.Given as goal

abbrev pub invariant-tokens : goal.invariant-tokens
invariant-tokens l = LexesUpTo (skip false l.bytes) l.found.items l.rest

abbrev pub decreases-tokens : goal.decreases-tokens
decreases-tokens l = length l.rest
