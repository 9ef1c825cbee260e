use Rattle.std.specs.Prelude.{IfOk}
use Rattle.std.proofs.Common.{subst, sym}
use Rattle.gimple_exec.specs.Machines.{Leads, ArrivesBy}
use Rattle.gimple_exec.proofs.StepLemmas.{step_ends, step_does}
use Rattle.gimple_exec.proofs.machine.Machine.step.Goals as goal

pub returns-in-None-clause-leads : goal.returns-in-None-clause-leads
returns-in-None-clause-leads c =
    subst (λ d. ArrivesBy c.args.program.now c.args.self.now.next c.finish.result d c.finish.new.self)
    (sym (step_ends c.args.program.now c.args.self.now c.args.piece.now c.requires.piece (sym c.in-None.ensures.value)))
    c.finish.ensures

pub returns-in-Some-clause-leads : goal.returns-in-Some-clause-leads
returns-in-Some-clause-leads c =
    subst (λ d. IfOk c.perform.result (λ next. Leads c.args.program.now c.args.self.now.next next d c.perform.new.self))
    (sym (step_does c.args.program.now c.args.self.now c.args.piece.now _ c.requires.piece (sym c.in-Some.ensures.value)))
    c.perform.ensures.leads
