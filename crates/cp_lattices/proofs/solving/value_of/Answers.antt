use Rattle.std.proofs.Common.{◌≡◌, ◌<◌, ℕ, length, get_or, IfOk, arith, ◌∙◌, ap, subst}
use Rattle.std.proofs.lemmas.List.{get_or_default}
use Rattle.value_domain.specs.declared.abs_val.AbsVal.{AbsVal}
use Rattle.value_domain.specs.Values.{none_val}
use Rattle.cp_lattices.specs.FormalLaws.{node_within}
use Rattle.cp_lattices.specs.FormalRows.{value_of}
use Rattle.cp_lattices.proofs.solving.value_of.Goals as goal

pub bounds-values-node : goal.bounds-values-node
bounds-values-node c = let l = node_within c.args.numbering.now c.args.function c.args.formal in omega (arith, l)

pub returns : goal.returns
returns c =
    let l = node_within c.args.numbering.now c.args.function c.args.formal in
    let within : c.node_of-node.result < length c.args.values.now = omega (arith, l) in
    let is : c.index-values-node.result ≡ value_of c.args.numbering.now c.args.values.now c.args.function c.args.formal =
    c.index-values-node.is ∙ (get_or_default c.args.values.now c.node_of-node.result c.index-values-node.result none_val within ∙ ap (λ (k : ℕ). get_or c.args.values.now k none_val) c.node_of-node.ensures) in
    subst (λ (x : AbsVal). IfOk c.copy.result (λ a. a ≡ x)) is c.copy.ensures
