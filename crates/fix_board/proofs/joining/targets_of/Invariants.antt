use Rattle.std.proofs.Common.{◌≡◌, ℕ, ◌<◌, length, slice_index}
use Rattle.fix_board.proofs.joining.targets_of.Given as goal

abbrev pub invariant-loop-edge : goal.invariant-loop-edge
invariant-loop-edge g l =
    let s = g.F.Flow.equations l.flow in
    record {
      all : l.edge-end ≡ s.edges;
      target_each : length l.targets.items ≡ l.edge;
      target_is : (e : ℕ) → e < l.edge → slice_index l.targets.items e ≡ s.target e;
    }
