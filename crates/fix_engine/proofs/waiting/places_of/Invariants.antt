use Rattle.std.proofs.Common.{◌≡◌, ℕ, ◌<◌, length, slice_index}
use Rattle.fix_engine.proofs.waiting.places_of.Given as goal

abbrev pub invariant-loop-place : goal.invariant-loop-place
invariant-loop-place l = record {
  each : length l.places.items ≡ l.nodes;
  in_order : (q : ℕ) → q < l.place → slice_index l.order q < l.nodes → slice_index l.places.items (slice_index l.order q) < l.place;
  node_at : (q : ℕ) → q < l.place → slice_index l.order q < l.nodes → slice_index l.order (slice_index l.places.items (slice_index l.order q)) ≡ slice_index l.order q;
}
