use Rattle.std.proofs.Common.{rules, ◌≡◌, [], map}
use Rattle.body_values.specs.TopFacts.{top_value}
use Rattle.body_values.proofs.TopFit.{are_top}
use Rattle.body_values.proofs.tops.top_facts.Goals as goal

pub returns-clause-fit : goal.returns-clause-fit
returns-clause-fit c =
    let formals : c.in_ok-formals.formals ≡ map top_value c.args.function.now.params = search rules in
    let loads : c.new.result ≡ [] = search rules in
    are_top c.args.function.now c.in_ok-formals.formals c.new.result formals loads
