use Rattle.std.proofs.Common.{length}
use Rattle.words.proofs.prefix.+row_begun.Given as goal

abbrev pub decreases-row_begun : goal.decreases-row_begun
decreases-row_begun g l = length l.rows.now
