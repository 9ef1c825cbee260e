use Rattle.std.proofs.Common.{◌≡◌, drop}
use Rattle.value_domain.specs.Thresholds.{words_put}
use Rattle.value_domain.proofs.limits.put_all.Given as goal

abbrev pub invariant-loop-at : goal.invariant-loop-at
invariant-loop-at l = words_put (drop l.at l.values) l.ends.items ≡ words_put l.fn.values l.fn.ends.items
