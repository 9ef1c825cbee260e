use Rattle.gimple_text.proofs.Laws.{spellable_has_text}
use Rattle.gimple_text.proofs.printer.spellable_has_text.Goals as goal

pub returns : goal.returns
returns c = spellable_has_text
