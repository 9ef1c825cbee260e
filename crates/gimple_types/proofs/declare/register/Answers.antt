use Rattle.std.proofs.Common.{rules, ◌≡◌, not, Ok}
use Rattle.gimple_core.specs.Declarations as spec
use Rattle.gimple_core.specs.Env.{has}
use Rattle.gimple_core.specs.Verdict.{demand}
use Rattle.gimple_types.specs.Seen.{seen}
use Rattle.gimple_types.proofs.declare.register.Goals as goal

pub returns-in_err-declare : goal.returns-in_err-declare
unfolding spec.register
returns-in_err-declare c =
    let e1 : spec.is_free (seen c.args.known.now c.args.own.now) c.args.known.now.functions c.args.register.now.name ≡ Ok tt = search rules in
    let e2 : demand (not (has c.args.register.now.name c.args.own.now.locals)) 2 ≡ Ok tt = search rules in
    rw e1 (rw e2 (search rules))
