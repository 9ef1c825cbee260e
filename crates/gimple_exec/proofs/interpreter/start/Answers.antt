use Rattle.gimple_exec.proofs.RunLemmas.{start_none, start_empty, first_starts}
use Rattle.gimple_exec.proofs.interpreter.start.Goals as goal

pub returns-in_default : goal.returns-in_default
returns-in_default c = start_none c.args.program.now c.args.input.now c.in_default.ensures

pub returns-then-is_bodiless : goal.returns-then-is_bodiless
returns-then-is_bodiless c =
    start_empty c.args.program.now c.args.input.now c.in-Some.k c.in-Some.ensures (c.is_bodiless.ensures.0 c.if-is_bodiless.true)

pub returns : goal.returns
returns c =
    first_starts c.args.program.now c.args.input.now c.in-Some.k c.in_ok-machine.machine
    (λ e. let t = c.is_bodiless.ensures.1 e in let f = c.if-is_bodiless.false in cc)
    c.in-Some.ensures c.in_ok-machine.ensures
