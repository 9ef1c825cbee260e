use Rattle.std.proofs.Common.{◌<◌, ◌∙◌, arith, sym, ap, drop, length}
use Rattle.value_domain.specs.ConstantOperators.{vals_of}
use Rattle.value_domain.specs.Rules.{rule_constant}
use Rattle.value_domain.proofs.ValsLaws.{past_limit}
use Rattle.value_domain.proofs.constant_operators.gather.Goals as goal

-- there are too many already
pub returns-then-len-limit : goal.returns-then-len-limit
returns-then-len-limit c =
    let many : c.args.limit < length c.loop-at.all.items = omega (arith, c.if-len-limit.true, c.len.ensures, c.loop-at.all.ok) in
    sym (past_limit c.args.limit (rule_constant c.args.rule) (drop c.loop-at.at c.args.left.now) c.args.right.now c.loop-at.all.items many) ∙ ap (vals_of c.args.limit) c.loop-at.invariant
