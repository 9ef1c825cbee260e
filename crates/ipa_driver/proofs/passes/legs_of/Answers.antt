use Rattle.std.proofs.Common.{rules}
use Rattle.gimple_core.specs.Accepted.{IsAccepted}
use Rattle.ipa_driver.proofs.FewLaws.{few_folded}
use Rattle.ipa_driver.proofs.IcfLaws.{icf_replaces}
use Rattle.ipa_driver.proofs.MadeLaws.{not_built, still_countable}
use Rattle.ipa_driver.proofs.passes.legs_of.Goals as goal

pub cp_leg-requires-clause-countable : goal.cp_leg-requires-clause-countable
cp_leg-requires-clause-countable g c =
    let p = c.args.program in
    let accepted : IsAccepted p.program = search rules in
    let leg = c.in_ok-icf.icf in
    still_countable p leg.program (icf_replaces p c.args.asked.now.icf leg accepted c.args.passes.now.icf c.in_ok-icf.ensures) c.requires.countable

pub cp_leg-requires-clause-few : goal.cp_leg-requires-clause-few
cp_leg-requires-clause-few g c = few_folded c.args.passes.now.icf c.args.program c.args.asked.now.icf c.in_ok-icf.icf c.in_ok-icf.ensures c.requires.few

pub returns : goal.returns
returns g c =
    let p = c.args.program in
    let asked = c.args.asked.now in
    let passes = c.args.passes.now in
    record {
      folded = c.in_ok-icf.icf;
      propagated = c.in_ok-cp.cp;
      split = c.in_ok-sra.sra;
      cleared = c.in_ok-modref.modref;
      icf = c.in_ok-icf.ensures;
      cp = c.in_ok-cp.ensures;
      sra = not_built passes.sra _ _ asked.sra _ c.in_ok-sra.ensures;
      modref = not_built passes.modref _ _ asked.modref _ c.in_ok-modref.ensures;
      kept = search rules;
    }
