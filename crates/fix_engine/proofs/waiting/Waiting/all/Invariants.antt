use Rattle.std.proofs.Common.{◌≡◌, ℕ, ◌<◌, true, false, length, slice_index_or}
use Rattle.fix_engine.proofs.waiting.Waiting.all.Given as goal

abbrev pub invariant-loop-node : goal.invariant-loop-node
invariant-loop-node l = record {
  len : length l.waiting ≡ l.nodes;
  waits : (n : ℕ) → n < l.node → slice_index_or l.waiting n false ≡ true;
}
