use Rattle.std.proofs.Common.{arith}
use Rattle.ipa_dumps.proofs.ClassLines.{no_groups}
use Rattle.ipa_dumps.proofs.classes.no_members.Goals as goal

pub returns : goal.returns
returns c = no_groups c.args.functions c.loop.groups.items (omega (arith, c.loop.invariant.0)) c.loop.invariant.1
