use Rattle.cp_lattices.proofs.FunctionGifts.{facts_fit}
use Rattle.cp_lattices.proofs.gathering.top_values.Goals as goal

pub values_in-requires-clause-facts : goal.values_in-requires-clause-facts
values_in-requires-clause-facts g c = facts_fit c.args.tables.now.program.program c.args.number c.args.function.now c.in_ok-facts.facts c.args.tables.now.size c.requires.own c.in_ok-facts.ensures.are
