use Rattle.std.proofs.Common.{◌≡◌, ℕ, ◌+◌, ◌<◌, length, slice_index}
use Rattle.bench_engine.proofs.graph.counted.Given as goal

abbrev pub invariant-loop-index : goal.invariant-loop-index
invariant-loop-index l = record {
  len : length l.numbers.items ≡ l.index;
  each : (e : ℕ) → e < l.index → slice_index l.numbers.items e < l.first + l.count;
}
