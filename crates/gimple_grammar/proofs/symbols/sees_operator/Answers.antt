use Rattle.std.proofs.Common.{◌≡◌, [], ◌∷◌, Some, sym, ap, ◌∙◌}
use Rattle.std.specs.Option.{is_some}
use Rattle.gimple_tokens.specs.declared.token.Symbol.{Symbol}
use Rattle.gimple_tokens.specs.declared.token.Token.TheVariants as tok
use Rattle.token_law.specs.Reading.{Tokens, next_symbol, lookup, sees_one}
use Rattle.gimple_grammar.specs.Grammar.{op_symbol}
use Rattle.gimple_grammar.specs.Readers.{ops, sees_operator}
use Rattle.gimple_grammar.proofs.symbols.sees_operator.Goals as goal

sees_next : (ts : Tokens) (y : Symbol) → Some y ≡ next_symbol ts → sees_one op_symbol ops ts ≡ is_some (lookup op_symbol ops y)
sees_next [] y e = absurd cc
sees_next (tok.Name n ∷ ts) y e = absurd cc
sees_next (tok.Number n ∷ ts) y e = absurd cc
sees_next (tok.Huge ∷ ts) y e = absurd cc
sees_next (tok.Fixed z ∷ ts) y e = let f : z ≡ y = cc in ap (λ u. is_some (lookup op_symbol ops u)) f

pub returns-in-Some : goal.returns-in-Some
unfolding sees_operator
returns-in-Some c = c.is_some.ensures ∙ ap is_some c.operator_of.ensures ∙ sym (sees_next c.args.tokens.now c.in-Some.symbol c.in-Some.ensures)
