use Rattle.std.proofs.Common.{rules, ◌≡◌, ◌++◌, ◌∷◌, []}
use Rattle.body_symbols.proofs.Tabled.{one_more}
use Rattle.body_symbols.proofs.tables.tables_of.Goals as goal

pub loop-function-preserved : goal.loop-function-preserved
loop-function-preserved g c =
    let push : c.push.new.self ≡ c.loop-function.tables ++ c.in_ok-symbols.symbols ∷ [] = search rules in
    one_more c.args.program.now c.loop-function.function c.loop-function.tables c.push.new.self c.in_ok-symbols.symbols c.loop-function.invariant c.in_ok-symbols.ensures push
