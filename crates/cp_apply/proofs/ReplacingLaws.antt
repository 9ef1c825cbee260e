-- A program that a plan makes may replace the program that it is made of.
use Rattle.std.proofs.Common.{◌≡◌, ℕ, ◌≤◌, sym, refl, subst, le_trans}
use Rattle.gimple_ir.specs.declared.program.Function.{Function}
use Rattle.gimple_ir.specs.declared.program.Program.{Program}
use Rattle.gimple_ir.specs.Size.{size_of_program}
use Rattle.gimple_core.specs.Replacing.{Replaces}
use Rattle.gimple_core.specs.Sealed.{Sealed, with_functions}
use Rattle.gimple_core.proofs.ReplacingLaws.{replaces_in_turn, reached_replaces, kept_size}
use Rattle.body_fold.specs.Claims.{FactsHold}
use Rattle.body_fold.proofs.Counted.{fold_size}
use Rattle.body_fold.proofs.Replacing.{folds_replace}
use Rattle.cp_apply.specs.declared.plan.Plan.{Plan}
use Rattle.cp_apply.specs.Bases.{base_facts, IsMade}

module _ (p : Sealed) (plan : Plan) (q : Sealed) (made : IsMade p plan q) where
  abbrev folded : Sealed
  folded = with_functions p made.folded

  -- where each context holds in each run
  pub made_replaces : FactsHold p (base_facts plan) → Replaces 1 p q
  made_replaces hold =
      let first : Replaces 1 p folded = folds_replace p (base_facts plan) made.folded made.folds hold in
      replaces_in_turn 1 1 p folded q first (reached_replaces folded q first.accepted made.rest made.mode)

  left_size : size_of_program q.program ≤ size_of_program folded.program
  left_size =
      let keeps = made.rest.keeps in
      subst (λ (r : Program). size_of_program r ≤ size_of_program folded.program) (sym made.rest.program) (kept_size (λ (f : Function). keeps f.name) made.folded)

  pub made_shrinks : size_of_program q.program ≤ size_of_program p.program
  made_shrinks = le_trans left_size (fold_size p (base_facts plan) made.folded made.folds)
