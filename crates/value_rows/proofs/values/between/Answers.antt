use Rattle.std.proofs.Common.{◌≡◌, rules}
use Rattle.gimple_ir.specs.declared.value.Constant.TheVariants.{Int}
use Rattle.value_domain.specs.AbsOperators.{exactly_of}
use Rattle.value_rows.proofs.KeptLemmas.{between_ok}
use Rattle.value_rows.proofs.values.between.Goals as goal

pub returns-clause-value : goal.returns-clause-value
returns-clause-value c =
    let l = c.args.limits.now in
    let least : c.in_ok-least.least ≡ exactly_of c.args.scalar l.size l.ends (Int c.args.range.low) = search rules in
    let greatest : c.in_ok-greatest.greatest ≡ exactly_of c.args.scalar l.size l.ends (Int c.args.range.high) = search rules in
    between_ok c.args.scalar l c.args.range.low c.args.range.high c.whole-all.result c.in_ok-least.least c.in_ok-greatest.greatest c.in_ok-from.from c.left-2.result
    c.whole-all.ensures.value least greatest c.in_ok-from.ensures.value c.left-2.ensures.value
