use Rattle.std.proofs.Common.{rules}
use Rattle.std.proofs.lemmas.Fn.{filter_same}
use Rattle.gimple_core.specs.Memory.{is_elsewhere}
use Rattle.gimple_exec.proofs.rows.leave.Goals as goal

pub returns : goal.returns
returns g c = filter_same _ (λ s. is_elsewhere c.args.serial (g.T.Placed.object_of s)) _ (λ x r f k. search rules) _ _ c.retain.ensures.filtered
