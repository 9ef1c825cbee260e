use Rattle.body_values.proofs.Settled.{begins_fit}
use Rattle.body_values.proofs.values.rows_of.Goals as goal

pub rows-requires-clause-fit : goal.rows-requires-clause-fit
rows-requires-clause-fit g c = begins_fit c.args.scene c.args.blocks.now c.args.entry.now c.in_ok-begins.begins.items c.requires.carried c.in_ok-begins.ensures
