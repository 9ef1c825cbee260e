use Rattle.std.proofs.Common.{◌∙◌, sym}
use Rattle.gimple_core.specs.State.{zero_of}
use Rattle.gimple_lowered.specs.Meaning.{source_value}
use Rattle.gimple_exec.proofs.MadeLemmas.{argument_there, argument_past}
use Rattle.gimple_exec.proofs.entry.argument.Goals as goal

pub returns-in-Some : goal.returns-in-Some
returns-in-Some c = c.source.ensures ∙ argument_there (source_value c.args.serial c.args.registers.now) c.args.sources.now c.args.k _ (zero_of c.args.scalar) (sym c.in-Some.ensures.value)

pub returns-in-None : goal.returns-in-None
returns-in-None c = c.zero.ensures ∙ argument_past (source_value c.args.serial c.args.registers.now) c.args.sources.now c.args.k (zero_of c.args.scalar) (sym c.in-None.ensures.value)
