use Rattle.std.proofs.Common.{◌≡◌, ℕ, ◌<◌, length, nat_eq}
use Rattle.indexmap.specs.IndexMap.{get}
use Rattle.partition_refinement.specs.Relations.{class_of}
use Rattle.partition_refinement.specs.Named.{HasFirsts}
use Rattle.partition_refinement.specs.Stages.{IsFirstSame}
use Rattle.partition_refinement.proofs.naming.named.Given as goal

abbrev pub invariant-loop-item : goal.invariant-loop-item
invariant-loop-item l = record {
  firsts : HasFirsts (get nat_eq l.firsts) l.classes l.item;
  count : length l.names.items ≡ l.item;
  each : (k : ℕ) → k < l.item → IsFirstSame ℕ l.classes k (class_of l.names.items k);
}
