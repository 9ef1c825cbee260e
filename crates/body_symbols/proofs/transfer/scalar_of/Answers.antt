use Rattle.std.proofs.Common.{rules, Some, None}
use Rattle.body_symbols.proofs.Written.{scalar_found}
use Rattle.body_symbols.proofs.transfer.scalar_of.Goals as goal

pub returns-in-Some : goal.returns-in-Some
returns-in-Some c = scalar_found c.args.registers.now c.args.name.now (Some c.in-Some.register.now) (search rules)

pub returns-in-None : goal.returns-in-None
returns-in-None c = scalar_found c.args.registers.now c.args.name.now None (search rules)
