use Rattle.std.proofs.Common.{◌≡◌, ◌++◌, slice_get}
use Rattle.body_values.specs.Scenes.{body_in}
use Rattle.cp_lattices.specs.GiftLists.{lists_below, argument_gifts}
use Rattle.cp_lattices.proofs.caller.Caller.put_arguments.Given as goal

abbrev pub invariant-loop-formal : goal.invariant-loop-formal
invariant-loop-formal l =
    l.gifts ≡ l.fn.gifts ++ lists_below l.formal (λ j. argument_gifts (body_in l.self.scene) l.self.number l.call.number j l.row (slice_get l.call.callee.now.params j) (slice_get l.call.arguments.now j) (slice_get l.call.jumps.now j))
