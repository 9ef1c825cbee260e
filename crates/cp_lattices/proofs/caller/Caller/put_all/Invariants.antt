use Rattle.std.proofs.Common.{◌≡◌, ◌++◌, slice_get}
use Rattle.body_values.specs.Found.{found_row}
use Rattle.cp_lattices.specs.Callers.{giver_in}
use Rattle.cp_lattices.specs.GiftLists.{lists_below, block_gifts}
use Rattle.cp_lattices.proofs.caller.Caller.put_all.Given as goal

abbrev pub invariant-loop-number : goal.invariant-loop-number
invariant-loop-number l =
    l.gifts ≡ l.fn.gifts ++ lists_below l.number (λ k. block_gifts (giver_in l.self) (λ k j. found_row l.values.rows k j) k (slice_get l.self.function.now.blocks k))
