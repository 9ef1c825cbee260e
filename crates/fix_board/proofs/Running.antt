-- The invariant holds after every run.
use Rattle.std.proofs.Common.{ℕ, Bool, List, [], ◌∷◌, refl, sym, subst, arith}
use Rattle.fix_engine.specs.Lattice.{LatticeLaws}
use Rattle.fix_engine.specs.Least.{Equations, FlowLaws}
use Rattle.fix_board.specs.Board.{State, IsKept, IsStart}
use Rattle.fix_board.specs.Events.{Event, take, post, back, Leads, Runs}
use Rattle.fix_board.proofs.Keeping.{start_kept, take_kept, back_kept, post_kept}

module _ {V : Type 0} {fits : List ℕ → V → Type 0} {height : List ℕ → ℕ} {rank : List ℕ → V → ℕ} {below : V → V → Bool} {joined : V → V → V}
    (lat : LatticeLaws fits height rank below joined) (k : List ℕ) (s : Equations V) (flow : FlowLaws (fits k) below s) where
  event_keeps : (event : Event V) (b c : State V) → IsKept (fits k) below s b → Leads (fits k) below joined s event b c → IsKept (fits k) below s c
  event_keeps (take e) b c kept leads =
      let P : State V → Type 0 = λ x. IsKept (fits k) below s x in
      subst P (sym leads.1) (take_kept lat k s flow b kept e (let h = leads.0.is_edge in omega (arith, h, kept.dirty_each)))
  event_keeps (post e w) b c kept leads = post_kept lat k s flow b kept e w leads.0 c leads.1
  event_keeps (back e) b c kept leads =
      let P : State V → Type 0 = λ x. IsKept (fits k) below s x in
      subst P (sym leads.2) (back_kept lat k s flow b kept e leads.0)

  run_keeps : (events : List (Event V)) (b d : State V) → IsKept (fits k) below s b → Runs (fits k) below joined s events b d → IsKept (fits k) below s d
  run_keeps [] b d kept runs = let P : State V → Type 0 = λ x. IsKept (fits k) below s x in subst P runs kept
  run_keeps (event ∷ events) b d kept runs = run_keeps events runs.0 d (event_keeps event b runs.0 kept runs.1) runs.2

  pub run_from_start : (events : List (Event V)) (b d : State V) → IsStart s b → Runs (fits k) below joined s events b d → IsKept (fits k) below s d
  run_from_start events b d start runs = run_keeps events b d (start_kept lat k s flow b start) runs
