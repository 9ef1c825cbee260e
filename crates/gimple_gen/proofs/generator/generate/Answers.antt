use Rattle.std.proofs.Common.{sym, subst}
use Rattle.gimple_ir.specs.Counts.{IsCountable}
use Rattle.gimple_ir.specs.Spellable.{IsSpellable}
use Rattle.gimple_core.specs.Accepted.{IsAccepted}
use Rattle.gimple_gen.proofs.Acceptance.{generated_accepted}
use Rattle.gimple_gen.proofs.Spelling.{generated_spellable}
use Rattle.gimple_gen.proofs.Counting.{generated_countable}
use Rattle.gimple_gen.proofs.generator.generate.Goals as goal

pub returns-clause-spellable : goal.returns-clause-spellable
returns-clause-spellable c = subst IsSpellable (sym c.in_ok-program.ensures) (generated_spellable c.args.functions c.requires.some c.requires.few)

pub returns-clause-countable : goal.returns-clause-countable
returns-clause-countable c = subst IsCountable (sym c.in_ok-program.ensures) (generated_countable c.args.functions c.requires.few)

pub returns-clause-accepted : goal.returns-clause-accepted
returns-clause-accepted c = subst IsAccepted (sym c.in_ok-program.ensures) (generated_accepted c.args.functions c.requires.some c.requires.few)
