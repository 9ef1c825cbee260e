use Rattle.std.proofs.Common.{slice_index_or}
use Rattle.std.proofs.lemmas.List.Elements.{Contains-get_or}
use Rattle.graph_walk.proofs.search.next_unmarked.Goals as goal

pub bounds-marks-row : goal.bounds-marks-row
bounds-marks-row c = c.requires (slice_index_or c.args.row.now c.loop-at.at 0) (Contains-get_or c.args.row.now c.loop-at.at 0 c.loop-at-test.true)
