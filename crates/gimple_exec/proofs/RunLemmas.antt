-- The first machine, and a run turn by turn.
use Rattle.std.proofs.Common.{◌≡◌, ◌⊎◌, inl, inr, ◌∙◌, ap, sym, refl, subst, List, [], ◌∷◌, reverse, map, Some, None, ℕ, suc, ◌+◌, ◌-◌, ◌<◌, ◌≤◌, ℤ, length, arith}
use Rattle.std.specs.List.{find}
use Rattle.gimple_core.specs.Sealed.{Sealed}
use Rattle.gimple_ir.specs.declared.block.Block.{Block}
use Rattle.gimple_ir.specs.declared.value.Outcome.TheVariants.{Going, Ended, Trapped}
use Rattle.gimple_ir.specs.declared.value.TrapKind.{TrapKind}
use Rattle.gimple_ir.specs.declared.value.TrapKind.TheVariants.{Abort as AbortTrap}
use Rattle.std.specs.Str.{bytes_eq}
use Rattle.gimple_core.specs.State as meant
use Rattle.gimple_core.specs.State.{State}
use Rattle.gimple_core.specs.Run.{Run, runs_from, Reached, Transfer, Moves, Stops, Traps, function_named, main_name, start, walk, runs, then_run, paused, no_memory, with_locals, with_globals, registers_made}
use Rattle.gimple_exec.specs.declared.machine.Machine.{Machine}
use Rattle.gimple_exec.specs.declared.machine.Waiting.{Waiting}
use Rattle.gimple_exec.specs.declared.machine.Stand.{Stand}
use Rattle.gimple_exec.specs.declared.machine.Reach.{Reach}
use Rattle.gimple_exec.specs.declared.machine.Reach.TheVariants.{Moves as HasMoved, Spent as HasSpent, Stops as HasStopped, Traps as HasTrapped}
use Rattle.gimple_exec.specs.Machines.{state_of, frame_of, control_of, function_of, no_function, IsPlaced, ArePlaced, IsFirst, Starts, Arrives}
use Rattle.gimple_exec.specs.Places.{IsFirstAt}

-- ---- the start

pub start_none : (p : Sealed) (input : List ℤ) → find (λ f. bytes_eq f.name main_name) p.program.functions ≡ None → start p input ≡ None
unfolding function_named
start_none p input e = rw e refl

pub start_empty : (p : Sealed) (input : List ℤ) (k : ℕ) → IsFirstAt (λ f. bytes_eq f.name main_name) p.program.functions k → (function_of p k).blocks ≡ [] → start p input ≡ None
unfolding function_named
start_empty p input k at e = rw (at.found no_function, e) refl

-- a state by the parts of a machine
abbrev state_by : Sealed → Stand → List Waiting → meant.World → ℕ → State
state_by p stand ws world next = record { top = control_of p stand; below = map (frame_of p) (reverse ws); world = world; next = next }

abbrev first_world : Sealed → ℕ → List ℤ → meant.World
first_world p k input = record {
  registers = registers_made (function_of p k) [];
  memory = with_locals p.program.structs 0 0 (function_of p k).locals (with_globals p.program.structs p.program.globals 0 p.program.globals no_memory);
  input = input;
  taken = 0;
  output = [];
}

start_some : (p : Sealed) (input : List ℤ) (k : ℕ) (b : Block) (bs : List Block) → IsFirstAt (λ f. bytes_eq f.name main_name) p.program.functions k → (function_of p k).blocks ≡ b ∷ bs → start p input ≡ Some (state_by p (record { function = k; block = 0; index = 0; serial = 0; takes = None }) [] (first_world p k input) 1)
unfolding function_named
start_some p input k b bs at e = rw (at.found no_function, e) refl

first_by : (p : Sealed) (input : List ℤ) (k : ℕ) (m : Machine) (bs : List Block) → (function_of p k).blocks ≡ bs → (bs ≡ [] → ⊥) → IsFirstAt (λ f. bytes_eq f.name main_name) p.program.functions k → IsFirst p k input m → Starts p input (Some m)
first_by p input k m [] e some at first = absurd (some refl)
first_by p input k m (b ∷ bs) e some at first =
    let same : state_by p (record { function = k; block = 0; index = 0; serial = 0; takes = None }) [] (first_world p k input) 1 ≡ state_of p m =
    λ i. state_by p (sym first.top i) (sym first.below i) (sym first.world i) (sym first.next i) in
    let there : 0 < length (function_of p k).blocks = rw e (omega arith) in (
      start_some p input k b bs at e ∙ ap Some same,
      record {
        top = subst (λ (x : Stand). IsPlaced p x) (sym first.top) (record { function = at.within; block = there; index = omega arith });
        below = subst (λ ws. ArePlaced p (reverse ws)) (sym first.below) tt;
      },
      first.next,
    )

pub first_starts : (p : Sealed) (input : List ℤ) (k : ℕ) (m : Machine) → ((function_of p k).blocks ≡ [] → ⊥) → IsFirstAt (λ f. bytes_eq f.name main_name) p.program.functions k → IsFirst p k input m → Starts p input (Some m)
first_starts p input k m some = first_by p input k m (function_of p k).blocks refl some

-- ---- turns

-- one turn fewer is left
turn_less : (turn turns : ℕ) → turn < turns → turns - turn ≡ suc (turns - (turn + 1))
turn_less turn turns l = omega arith

-- the run after a turn, where some are left
turned : (p : Sealed) (turn turns : ℕ) (s t : State) (r : Reached) → turn < turns → runs p (turns - turn) s ≡ runs p turns t → walk p s.top.rest s ≡ r → then_run r (runs p (turns - (turn + 1))) ≡ runs p turns t
unfolding runs
turned p turn turns s t r l e w =
    ap (λ x. then_run x (runs p (turns - (turn + 1)))) (sym w) ∙ ap (λ n. runs p n s) (sym (turn_less turn turns l)) ∙ e

pub moves_on : (p : Sealed) (turn turns : ℕ) (s t : State) (k : Transfer) (u : State) → turn < turns → runs p (turns - turn) s ≡ runs p turns t → walk p s.top.rest s ≡ Moves k u → runs p (turns - (turn + 1)) u ≡ runs p turns t
moves_on p turn turns s t k u l e w = turned p turn turns s t (Moves k u) l e w

pub has_ended : (p : Sealed) (turn turns : ℕ) (s t : State) (o printed : List ℕ) (z : ℤ) → turn < turns → runs p (turns - turn) s ≡ runs p turns t → walk p s.top.rest s ≡ Stops o z → printed ≡ o → Ended printed z ≡ runs p turns t
has_ended p turn turns s t o printed z l e w same = ap (λ x. Ended x z) same ∙ turned p turn turns s t (Stops o z) l e w

pub has_trapped : (p : Sealed) (turn turns : ℕ) (s t : State) (o printed : List ℕ) (kind : TrapKind) → turn < turns → runs p (turns - turn) s ≡ runs p turns t → walk p s.top.rest s ≡ Traps o kind → printed ≡ o → Trapped printed kind ≡ runs p turns t
has_trapped p turn turns s t o printed kind l e w same = ap (λ x. Trapped x kind) same ∙ turned p turn turns s t (Traps o kind) l e w

none_left : (turn turns : ℕ) → turns ≤ turn → turns - turn ≡ 0
none_left turn turns l = omega arith

-- the turn that is too many
pub last_turn : (p : Sealed) (turn turns : ℕ) (s t : State) → turns ≤ turn → runs p (turns - turn) s ≡ runs p turns t → paused (walk p s.top.rest s) ≡ runs p turns t
unfolding runs
last_turn p turn turns s t l e = ap (λ n. runs p n s) (sym (none_left turn turns l)) ∙ e

-- a run that neither traps nor may make one more transfer is going
pub pauses : (p : Sealed) (n : ℕ) (reach : Reach) (r : Reached) (m : Machine) → (reach ≡ HasMoved) ⊎ ((reach ≡ HasSpent) ⊎ ((z : ℤ) × (reach ≡ HasStopped z))) → Arrives p n reach r m → paused r ≡ Going m.world.output
pauses p n HasMoved r m which a = ap paused a.1
pauses p n HasSpent r m which a = a.1
pauses p n (HasStopped z) r m which a = ap paused a
pauses p n (HasTrapped kind) r m (inl e) a = cc
pauses p n (HasTrapped kind) r m (inr (inl e)) a = cc
pauses p n (HasTrapped kind) r m (inr (inr e)) a = let same = e.1 in cc

-- ---- from the start

pub run_some : (p : Sealed) (input : List ℤ) (n : ℕ) (s : State) → start p input ≡ Some s → Run p input n ≡ runs p n s
unfolding Run
run_some p input n s e = ap (runs_from p n) e

pub run_none : (p : Sealed) (input : List ℤ) (n : ℕ) → start p input ≡ None → Run p input n ≡ Trapped [] AbortTrap
unfolding Run
run_none p input n e = ap (runs_from p n) e
