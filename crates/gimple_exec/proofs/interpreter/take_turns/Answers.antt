use Rattle.std.proofs.Common.{◌∙◌, ap, sym, subst, ℕ, ◌+◌, ◌-◌, ◌≤◌, ◌^◌, List, arith, rules, FitsSigned, w32}
use Rattle.std.proofs.lemmas.Int.{to_z-of_z}
use Rattle.gimple_ir.specs.declared.value.Outcome.TheVariants.{Going, Trapped}
use Rattle.gimple_core.specs.Run.{walk, paused}
use Rattle.gimple_exec.specs.declared.machine.Reach.{Reach}
use Rattle.gimple_exec.specs.declared.machine.Reach.TheVariants.{Moves, Spent}
use Rattle.gimple_exec.specs.Machines.{Arrives, state_of}
use Rattle.gimple_exec.proofs.RunLemmas.{has_ended, has_trapped, moves_on, last_turn, pauses}
use Rattle.gimple_exec.proofs.interpreter.take_turns.Goals as goal

pub returns-in-Stops : goal.returns-in-Stops
returns-in-Stops c =
    let fits : FitsSigned w32 c.in-Stops.status = search rules in
    simp to_z-of_z
    (has_ended c.args.program.now c.loop-turn._turn c.args.turns (state_of c.args.program.now c.loop-turn.machine) (state_of c.args.program.now c.args.machine) _ _ _ c.loop-turn-test.true c.loop-turn.invariant.runs
    (subst (λ (r : Reach). Arrives c.args.program.now c.loop-turn.machine.next r (walk c.args.program.now (state_of c.args.program.now c.loop-turn.machine).top.rest (state_of c.args.program.now c.loop-turn.machine)) c.walk.new.self) c.in-Stops.is c.in_ok-walk.ensures)
    c.into_output.ensures)

pub returns-in-Traps : goal.returns-in-Traps
returns-in-Traps c =
    has_trapped c.args.program.now c.loop-turn._turn c.args.turns (state_of c.args.program.now c.loop-turn.machine) (state_of c.args.program.now c.args.machine) _ _ _ c.loop-turn-test.true c.loop-turn.invariant.runs
    (subst (λ (r : Reach). Arrives c.args.program.now c.loop-turn.machine.next r (walk c.args.program.now (state_of c.args.program.now c.loop-turn.machine).top.rest (state_of c.args.program.now c.loop-turn.machine)) c.walk.new.self) c.in-Traps.is c.in_ok-walk.ensures)
    c.into_output-in-Traps.ensures

pub loop-turn-preserved : goal.loop-turn-preserved
loop-turn-preserved c =
    let led : Arrives c.args.program.now c.loop-turn.machine.next Moves (walk c.args.program.now (state_of c.args.program.now c.loop-turn.machine).top.rest (state_of c.args.program.now c.loop-turn.machine)) c.walk.new.self =
    (subst (λ (r : Reach). Arrives c.args.program.now c.loop-turn.machine.next r (walk c.args.program.now (state_of c.args.program.now c.loop-turn.machine).top.rest (state_of c.args.program.now c.loop-turn.machine)) c.walk.new.self) c.in-Moves.is c.in_ok-walk.ensures) in
    let most : c.walk.new.self.next ≤ c.loop-turn.machine.next + 1 = led.3 in
    let room : c.loop-turn.machine.next + (c.args.turns - c.loop-turn._turn) ≤ 2 ^ 64 = c.loop-turn.invariant.serials in
    record {
      runs = moves_on c.args.program.now c.loop-turn._turn c.args.turns (state_of c.args.program.now c.loop-turn.machine) (state_of c.args.program.now c.args.machine) led.0 (state_of c.args.program.now c.walk.new.self) c.loop-turn-test.true c.loop-turn.invariant.runs led.1;
      sound = led.2;
      serials = omega (arith, most, room);
    }

pub unreachable-requires : goal.unreachable-requires
unreachable-requires c =
    let led : Arrives c.args.program.now c.loop-turn.machine.next Spent (walk c.args.program.now (state_of c.args.program.now c.loop-turn.machine).top.rest (state_of c.args.program.now c.loop-turn.machine)) c.walk.new.self =
    (subst (λ (r : Reach). Arrives c.args.program.now c.loop-turn.machine.next r (walk c.args.program.now (state_of c.args.program.now c.loop-turn.machine).top.rest (state_of c.args.program.now c.loop-turn.machine)) c.walk.new.self) c.in-Spent.is c.in_ok-walk.ensures) in
    let least : 2 ^ 64 ≤ c.loop-turn.machine.next = led.0 in
    let room : c.loop-turn.machine.next + (c.args.turns - c.loop-turn._turn) ≤ 2 ^ 64 = c.loop-turn.invariant.serials in
    omega (arith, least, room)

pub returns-in-Traps-2 : goal.returns-in-Traps-2
returns-in-Traps-2 c =
    ap (λ (o : List ℕ). Trapped o c.in-Traps-2.kind) c.into_output-in-Traps-2.ensures
    ∙ sym (ap paused (subst (λ (r : Reach). Arrives c.args.program.now c.loop-turn.machine.next r (walk c.args.program.now (state_of c.args.program.now c.loop-turn.machine).top.rest (state_of c.args.program.now c.loop-turn.machine)) c.walk-2.new.self) c.in-Traps-2.is c.in_ok-kind.ensures))
    ∙ last_turn c.args.program.now c.loop-turn._turn c.args.turns (state_of c.args.program.now c.loop-turn.machine) (state_of c.args.program.now c.args.machine) c.loop-turn-test.false c.loop-turn.invariant.runs

pub returns-in-Moves-2 : goal.returns-in-Moves-2
returns-in-Moves-2 c =
    ap Going c.into_output-in-Moves-2.ensures
    ∙ sym (pauses c.args.program.now c.loop-turn.machine.next c.in_ok-kind.field-0 _ c.walk-2.new.self c.in-Moves-2.is c.in_ok-kind.ensures)
    ∙ last_turn c.args.program.now c.loop-turn._turn c.args.turns (state_of c.args.program.now c.loop-turn.machine) (state_of c.args.program.now c.args.machine) c.loop-turn-test.false c.loop-turn.invariant.runs
