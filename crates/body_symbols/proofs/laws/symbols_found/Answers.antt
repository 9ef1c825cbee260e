use Rattle.body_symbols.proofs.FoundWhere.{symbols_found}
use Rattle.body_symbols.proofs.laws.symbols_found.Goals as goal

pub returns : goal.returns
returns c = symbols_found
