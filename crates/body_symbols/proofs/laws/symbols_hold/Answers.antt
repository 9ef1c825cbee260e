use Rattle.body_symbols.proofs.FoundHolding.{found_hold}
use Rattle.body_symbols.proofs.Holding.{symbols_hold}
use Rattle.body_symbols.proofs.laws.symbols_hold.Goals as goal

pub returns : goal.returns
returns c = record { solutions = symbols_hold; found = found_hold }
