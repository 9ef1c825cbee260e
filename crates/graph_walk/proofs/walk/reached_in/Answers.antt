use Rattle.std.proofs.Common.{length}
use Rattle.graph_walk.specs.Walk.{row_at}
use Rattle.graph_walk.proofs.Walking.{walked_marks}
use Rattle.graph_walk.proofs.walk.reached_in.Goals as goal

pub returns : goal.returns
returns c = walked_marks (row_at c.args.rows.now) (length c.args.rows.now) c.args.root c.in_ok-marks.marks.items c.walk_past.new.marks.items c.in_ok-walk_past.field-0.items c.in_ok-marks.ensures.one_each c.in_ok-marks.ensures.each c.in_ok-walk_past.ensures
