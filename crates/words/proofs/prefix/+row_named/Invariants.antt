use Rattle.std.proofs.Common.{length}
use Rattle.words.proofs.prefix.+row_named.Given as goal

abbrev pub decreases-row_named : goal.decreases-row_named
decreases-row_named g l = length l.rows.now
