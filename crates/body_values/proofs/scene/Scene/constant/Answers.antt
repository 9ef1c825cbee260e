use Rattle.std.proofs.Common.{rules, ◌≡◌}
use Rattle.gimple_ir.specs.declared.value.Constant.TheVariants.{Int}
use Rattle.value_domain.specs.AbsOperators.{exactly_of}
use Rattle.body_values.proofs.Refined.{case_good}
use Rattle.body_values.proofs.scene.Scene.constant.Goals as goal

pub returns-clause-good : goal.returns-clause-good
returns-clause-good c =
    let value : c.in_ok-value.value ≡ exactly_of c.args.scalar c.args.self.now.limits.now.size c.args.self.now.limits.now.ends (Int c.args.case.now.value) = search rules in
    case_good c.args.self.now c.args.scalar c.args.case.now.value _ c.known.ensures value
