use Rattle.std.proofs.Common.{◌≡◌, Some, slice_get}
use Rattle.body_values.proofs.Settled.{numbered}
use Rattle.bench_bodies.proofs.TopFacts.{facts_fit}
use Rattle.bench_bodies.proofs.reached_by.Goals as goal

pub values_of-requires-clause-facts : goal.values_of-requires-clause-facts
values_of-requires-clause-facts g c =
    let there : slice_get c.args.program.now.program.functions 0 ≡ Some c.index-as_slice-0.result =
    numbered c.program-source.result.now c.args.program.now.program c.as_slice.result.now 0 c.index-as_slice-0.result c.program-source.ensures.same c.as_slice.ensures c.requires.some c.index-as_slice-0.is in
    facts_fit c.args.program.now.program 0 c.index-as_slice-0.result c.in_ok-facts.facts 8 there c.in_ok-facts.ensures.fit
