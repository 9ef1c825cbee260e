use Rattle.std.proofs.Common.{◌≡◌, drop}
use Rattle.body_symbols.specs.Found.{register_symbol, symbol_through}
use Rattle.body_symbols.proofs.symbols.symbol_through.Given as goal

abbrev pub invariant-loop-change : goal.invariant-loop-change
invariant-loop-change l = symbol_through l.place l.symbol (drop l.change-index l.changes) ≡ symbol_through l.place (register_symbol l.place l.begin) l.changes
