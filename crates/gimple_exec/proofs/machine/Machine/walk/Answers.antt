use Rattle.std.proofs.Common.{◌∙◌, sym, subst, ℕ}
use Rattle.gimple_core.specs.Run.{step, walk, Reached}
use Rattle.gimple_exec.specs.declared.machine.Step.{Step}
use Rattle.gimple_exec.specs.declared.machine.Step.TheVariants.{Goes}
use Rattle.gimple_exec.specs.Machines.{Arrives, Leads, Stays, state_of}
use Rattle.gimple_exec.proofs.StepLemmas.{walk_goes, walk_ends}
use Rattle.gimple_exec.proofs.machine.Machine.walk.Goals as goal

pub returns-in-Reaches : goal.returns-in-Reaches
returns-in-Reaches c =
    subst (λ (n : ℕ). Arrives c.args.program.now n c.in-Reaches.reach (walk c.args.program.now (state_of c.args.program.now c.args.self.now).top.rest (state_of c.args.program.now c.args.self.now)) c.step.new.self) c.loop-reach.invariant.next
    (subst (λ (r : Reached). Arrives c.args.program.now c.loop-reach.self.next c.in-Reaches.reach r c.step.new.self) (sym c.loop-reach.invariant.walk)
    (walk_ends c.args.program.now (state_of c.args.program.now c.loop-reach.self) c.loop-reach.self.next c.in-Reaches.reach c.step.new.self
    (subst (λ (s : Step). Leads c.args.program.now c.loop-reach.self.next s (step c.args.program.now (state_of c.args.program.now c.loop-reach.self)) c.step.new.self) c.in-Reaches.is c.in_ok-step.ensures.leads)))

pub loop-reach-preserved : goal.loop-reach-preserved
loop-reach-preserved c =
    let led : Leads c.args.program.now c.loop-reach.self.next Goes (step c.args.program.now (state_of c.args.program.now c.loop-reach.self)) c.step.new.self =
    subst (λ (s : Step). Leads c.args.program.now c.loop-reach.self.next s (step c.args.program.now (state_of c.args.program.now c.loop-reach.self)) c.step.new.self) c.in-Goes.is c.in_ok-step.ensures.leads in
    let stays : Stays Goes c.loop-reach.self.top c.step.new.self.top = subst (λ (s : Step). Stays s c.loop-reach.self.top c.step.new.self.top) c.in-Goes.is c.in_ok-step.ensures.stays in
    record {
      walk = c.loop-reach.invariant.walk ∙ walk_goes c.args.program.now (state_of c.args.program.now c.loop-reach.self) (state_of c.args.program.now c.step.new.self) led.0;
      sound = led.1;
      next = led.2 ∙ c.loop-reach.invariant.next;
      function = stays.0 ∙ c.loop-reach.invariant.function;
      block = stays.1 ∙ c.loop-reach.invariant.block;
    }
