use Rattle.gimple_text.proofs.Laws.{dropping_keeps_texts}
use Rattle.gimple_text.proofs.printer.dropping_keeps_texts.Goals as goal

pub returns : goal.returns
returns c = dropping_keeps_texts
