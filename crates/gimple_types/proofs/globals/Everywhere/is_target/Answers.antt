use Rattle.std.proofs.Common.{ap, ◌∙◌}
use Rattle.gimple_types.specs.Seen.{Addressable}
use Rattle.gimple_types.proofs.TableLemmas.{has_target}
use Rattle.gimple_types.proofs.globals.Everywhere.is_target.Goals as goal

pub returns-then-self : goal.returns-then-self
returns-then-self c = c.has.ensures ∙ has_target c.args.name.now c.self.inside.function_names _ _ _ c.self.invariant.1 (ap (λ (a : Addressable). a.targets) c.self.view_is) c.if-self.true
