use Rattle.std.proofs.Common.{◌≡◌, ℕ, List, length, map}
use Rattle.partition_refinement.specs.Splitting.{AreKept}
use Rattle.partition_refinement.proofs.splitting.settle.Given as goal

abbrev pub invariant-loop-round : goal.invariant-loop-round
invariant-loop-round l = record {
  count : length l.partition ≡ length l.initial.partition;
  kept : (first : List ℕ) → AreKept first (map (λ row. row.items) l.rows) l.initial.partition → AreKept first (map (λ row. row.items) l.rows) l.partition;
}
