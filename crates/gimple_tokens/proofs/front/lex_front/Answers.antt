use Rattle.std.proofs.Common.{sym}
use Rattle.gimple_tokens.proofs.Runs.{shorter}
use Rattle.gimple_tokens.proofs.front.lex_front.Goals as goal

pub tokens-smaller : goal.tokens-smaller
tokens-smaller c = rw c.skip-rest-in-tokens.ensures (let found = rw c.in-Some.is at c.token.ensures in shorter c.tokens.rest.now c.in-Some.found.0 c.in-Some.found.1.now (sym found))
