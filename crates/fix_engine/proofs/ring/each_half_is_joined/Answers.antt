use Rattle.std.proofs.Common.{[], ◌∷◌}
use Rattle.fix_engine.proofs.ring.each_half_is_joined.Goals as goal

pub leq-requires : goal.leq-requires
leq-requires g c = (0 ∷ [], (tt, tt), (tt, tt))

pub join-requires : goal.join-requires
join-requires g c = (0 ∷ [], (tt, tt), (tt, tt))
