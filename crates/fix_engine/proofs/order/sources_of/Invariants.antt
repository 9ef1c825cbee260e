use Rattle.std.proofs.Common.{◌≡◌, ℕ, ◌<◌, length, slice_index}
use Rattle.fix_engine.proofs.order.sources_of.Given as goal

abbrev pub invariant-loop-edge : goal.invariant-loop-edge
invariant-loop-edge g l =
    let s = g.F.Flow.equations l.flow in
    record {
      all : l.edge-end ≡ s.edges;
      source_each : length l.sources.items ≡ l.edge;
      source_is : (e : ℕ) → e < l.edge → slice_index l.sources.items e ≡ s.source e;
    }
