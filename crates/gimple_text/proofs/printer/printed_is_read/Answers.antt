use Rattle.gimple_text.proofs.Laws.{printed_is_read}
use Rattle.gimple_text.proofs.printer.printed_is_read.Goals as goal

pub returns : goal.returns
returns c = printed_is_read
