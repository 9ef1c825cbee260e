use Rattle.std.proofs.Common.{sym, ◌∙◌}
use Rattle.call_graph.proofs.Naming.{found_number, missing_number}
use Rattle.call_graph.proofs.names.number_of.Goals as goal

pub returns-in-Some : goal.returns-in-Some
returns-in-Some c = found_number c.args.functions.now c.args.name.now c.in-Some.number (sym c.place.ensures ∙ c.in-Some.is)

pub returns-in-None : goal.returns-in-None
returns-in-None c = c.len.ensures ∙ missing_number c.args.functions.now c.args.name.now (sym c.place.ensures ∙ c.in-None.is)
