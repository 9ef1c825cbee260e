use Rattle.std.proofs.Common.{◌≡◌, ℕ, List, length}
use Rattle.partition_refinement.specs.Splitting.{AreRegarded, IsNext}
use Rattle.partition_refinement.proofs.splitting.move_all.Given as goal

abbrev pub invariant-loop-number : goal.invariant-loop-number
invariant-loop-number l = record {
  count : length l.partition ≡ length l.initial.partition;
  next : (rows : List (List ℕ)) → AreRegarded rows l.initial.partition l.groups → IsNext rows l.initial.partition l.partition;
}
