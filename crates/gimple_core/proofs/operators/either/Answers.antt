use Rattle.std.proofs.lemmas.Nat.{or_lt}
use Rattle.gimple_core.specs.Operators.{bits_of}
use Rattle.gimple_core.proofs.operators.either.Goals as goal

pub from_low-requires : goal.from_low-requires
from_low-requires c = or_lt (bits_of c.args.scalar) _ _ c.low.ensures.bound c.low-2.ensures.bound
