use Rattle.std.proofs.Common.{◌≡◌}
use Rattle.std.specs.List.{range_with_len, flat_map}
use Rattle.gimple_gen.specs.Generated.{asked}
use Rattle.gimple_gen.proofs.generator.main_body.Given as goal

abbrev pub invariant-loop-number : goal.invariant-loop-number
invariant-loop-number l = l.body ≡ flat_map asked (range_with_len 0 l.number)
