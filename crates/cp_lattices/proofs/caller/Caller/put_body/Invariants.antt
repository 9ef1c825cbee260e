use Rattle.std.proofs.Common.{◌≡◌, ◌++◌, slice_get}
use Rattle.body_values.specs.Found.{found_row}
use Rattle.cp_lattices.specs.Callers.{giver_in}
use Rattle.cp_lattices.specs.GiftLists.{lists_below, point_gifts}
use Rattle.cp_lattices.proofs.caller.Caller.put_body.Given as goal

abbrev pub invariant-loop-index : goal.invariant-loop-index
invariant-loop-index l =
    (l.row ≡ found_row l.values.rows l.block l.index) × (l.gifts ≡ l.fn.gifts ++ lists_below l.index (λ i. point_gifts (giver_in l.self) (λ k j. found_row l.values.rows k j) l.block i (slice_get l.body i)))
