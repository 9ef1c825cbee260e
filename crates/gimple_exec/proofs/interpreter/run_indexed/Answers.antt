use Rattle.std.proofs.Common.{◌≡◌, ◌∙◌, ap, sym, subst, Option}
use Rattle.std.specs.Prelude.{IfOk}
use Rattle.gimple_ir.specs.declared.value.Outcome.{Outcome}
use Rattle.gimple_ir.specs.declared.value.Outcome.TheVariants.{Trapped}
use Rattle.gimple_ir.specs.declared.value.TrapKind.TheVariants.{Abort}
use Rattle.gimple_exec.specs.declared.machine.Machine.{Machine}
use Rattle.gimple_exec.specs.Machines.{Starts}
use Rattle.gimple_exec.proofs.RunLemmas.{run_some, run_none}
use Rattle.gimple_exec.proofs.interpreter.run_indexed.Goals as goal

pub returns-in-Some : goal.returns-in-Some
returns-in-Some c =
    let started = subst (λ (o : Option Machine). Starts c.args.program.now c.args.input.now o) c.in-Some.is c.in_ok-machine.ensures in
    subst (λ (o : Outcome). IfOk c.take_turns.result (λ r. r ≡ o)) (sym (run_some c.args.program.now c.args.input.now c.args.turns _ started.0)) c.take_turns.ensures

pub returns-in-None : goal.returns-in-None
returns-in-None c =
    let started = subst (λ (o : Option Machine). Starts c.args.program.now c.args.input.now o) c.in-None.is c.in_ok-machine.ensures in
    ap (λ o. Trapped o Abort) c.new.ensures ∙ sym (run_none c.args.program.now c.args.input.now c.args.turns started)
