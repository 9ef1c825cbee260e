use Rattle.gimple_text.proofs.Laws.{canon_spells}
use Rattle.gimple_text.proofs.printer.canon_spells.Goals as goal

pub returns : goal.returns
returns c = canon_spells
