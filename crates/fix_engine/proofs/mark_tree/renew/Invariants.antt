use Rattle.std.proofs.Common.{◌≡◌, ◌*◌, ◌/◌, ◌<◌, length}
use Rattle.fix_engine.specs.Marks.{IsRenewed, SameFrom}
use Rattle.fix_engine.proofs.mark_tree.renew.Given as goal

abbrev pub invariant-loop-at : goal.invariant-loop-at
invariant-loop-at l = record {
  low : 0 < l.at;
  high : l.at < 2 * l.count;
  both_each : length l.least.items ≡ 2 * l.count;
  others : IsRenewed l.least.items l.count (l.at / 2);
  leaves : SameFrom l.count l.initial.least.items l.least.items;
}

abbrev pub decreases-loop-at : goal.decreases-loop-at
decreases-loop-at l = l.at
