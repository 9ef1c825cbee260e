use Rattle.value_domain.proofs.CodeLemmas.{words_of}
use Rattle.value_domain.proofs.operators.refine.Goals as goal

pub left_by_order-requires-clause-words : goal.left_by_order-requires-clause-words
left_by_order-requires-clause-words c = words_of _ _ c.args.scalar c.args.against.now c.requires.against_fits c.requires.against_of

pub left_by_order-requires-in-Le-clause-words : goal.left_by_order-requires-in-Le-clause-words
left_by_order-requires-in-Le-clause-words c = words_of _ _ c.args.scalar c.args.against.now c.requires.against_fits c.requires.against_of

pub left_by_order-requires-in-Gt-clause-words : goal.left_by_order-requires-in-Gt-clause-words
left_by_order-requires-in-Gt-clause-words c = words_of _ _ c.args.scalar c.args.against.now c.requires.against_fits c.requires.against_of

pub left_by_order-requires-in-Ge-clause-words : goal.left_by_order-requires-in-Ge-clause-words
left_by_order-requires-in-Ge-clause-words c = words_of _ _ c.args.scalar c.args.against.now c.requires.against_fits c.requires.against_of
