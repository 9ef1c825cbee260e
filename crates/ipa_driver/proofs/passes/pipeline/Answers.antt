use Rattle.std.proofs.Common.{◌≡◌, ◌<◌, ◌^◌, rules, refl, subst}
use Rattle.gimple_ir.specs.declared.program.Program.{Program}
use Rattle.gimple_ir.specs.Size.{size_of_program}
use Rattle.ipa_driver.specs.declared.passes.Product.{Product}
use Rattle.ipa_driver.specs.Pipeline.{IsPipeline}
use Rattle.ipa_driver.proofs.MadeLaws.{made, behind_legs, legs_replace, still_countable}
use Rattle.ipa_driver.proofs.FewLaws.{few_reached}
use Rattle.ipa_driver.proofs.passes.pipeline.Goals as goal

pub graph_text-requires-clause-few : goal.graph_text-requires-clause-few
graph_text-requires-clause-few g c = (still_countable c.args.program c.in_ok-reached.reached c.in_ok-reached.ensures.replaces c.requires.countable).functions

pub legs_of-requires-clause-few : goal.legs_of-requires-clause-few
legs_of-requires-clause-few g c = few_reached c.args.program.program c.in_ok-reached.reached.program c.in_ok-reached.ensures.dropped c.requires.few

pub legs_of-requires-clause-countable : goal.legs_of-requires-clause-countable
legs_of-requires-clause-countable g c = still_countable c.args.program c.in_ok-reached.reached c.in_ok-reached.ensures.replaces c.requires.countable

pub drop_unreached-requires-2-clause-few : goal.drop_unreached-requires-2-clause-few
drop_unreached-requires-2-clause-few g c =
    let reached = c.in_ok-reached in
    (behind_legs c.args.program reached.reached c.args.asked.now c.args.passes.now c.args.params.now c.in_ok-legs.legs reached.ensures.replaces c.in_ok-legs.ensures c.requires.countable).functions

pub drop_unreached-requires-2-clause-size : goal.drop_unreached-requires-2-clause-size
drop_unreached-requires-2-clause-size g c =
    let reached = c.in_ok-reached in
    (behind_legs c.args.program reached.reached c.args.asked.now c.args.passes.now c.args.params.now c.in_ok-legs.legs reached.ensures.replaces c.in_ok-legs.ensures c.requires.countable).size

pub measure_of-output-requires : goal.measure_of-output-requires
measure_of-output-requires g c =
    let reached = c.in_ok-reached in
    let legs = behind_legs c.args.program reached.reached c.args.asked.now c.args.passes.now c.args.params.now c.in_ok-legs.legs reached.ensures.replaces c.in_ok-legs.ensures c.requires.countable in
    let last = still_countable c.in_ok-legs.legs.program c.in_ok-program.program c.in_ok-program.ensures.replaces legs in
    let same : c.in_ok-program.program.program ≡ c.program-3.result.now = search rules in
    subst (λ (p : Program). size_of_program p < 2 ^ 32) same last.size

pub returns-clause-made : goal.returns-clause-made
returns-clause-made g c =
    let product : Product = record {
      program = c.in_ok-program.program;
      cgraph = c.in_ok-cgraph.cgraph;
      icf = c.in_ok-legs.legs.icf;
      cp = c.in_ok-legs.legs.cp;
      sra = c.in_ok-legs.legs.sra;
      modref = c.in_ok-legs.legs.modref;
      summary = c.in_ok-summary.summary;
    } in
    let is : IsPipeline c.args.program c.args.asked.now c.args.passes.now c.args.params.now product = record {
      reached = c.in_ok-reached.reached;
      legs = c.in_ok-legs.legs;
      drops = record { functions = c.in_ok-reached.ensures.dropped; mode = c.in_ok-reached.ensures.replaces.mode };
      passed = c.in_ok-legs.ensures;
      drops_again = record { functions = c.in_ok-program.ensures.dropped; mode = c.in_ok-program.ensures.replaces.mode };
      cgraph = search rules;
      icf = refl;
      cp = refl;
      sra = refl;
      modref = refl;
      summary = search rules;
    } in
    made c.args.program c.args.asked.now c.args.passes.now c.args.params.now product (search rules) is

pub returns-clause-spellable : goal.returns-clause-spellable
returns-clause-spellable g c =
    let reached = c.in_ok-reached in
    let legs = legs_replace reached.reached c.args.asked.now c.args.passes.now c.args.params.now c.in_ok-legs.legs reached.ensures.replaces.accepted c.in_ok-legs.ensures in
    λ spellable. c.in_ok-program.ensures.replaces.spellable (legs.spellable (reached.ensures.replaces.spellable spellable))
