-- What constant propagation makes of a program may replace it.
use Rattle.std.proofs.Common.{◌≡◌, ℕ, zero, suc, ◌≤◌, Bool, true, false, List, [], ◌∷◌, length, map, codes, Some, None, slice_get, slice_index_or, refl, sym, ◌∙◌, subst, arith}
use Rattle.std.proofs.lemmas.List.{length-map}
use Rattle.gimple_ir.specs.declared.options.Passes.{Passes}
use Rattle.gimple_ir.specs.declared.program.Function.{Function}
use Rattle.gimple_ir.specs.Size.{size_of_program}
use Rattle.gimple_core.specs.Accepted.{IsAccepted, first_fault}
use Rattle.gimple_core.specs.Replacing.{Replaces}
use Rattle.gimple_core.specs.Sealed.{Sealed}
use Rattle.gimple_core.proofs.ReplacingLaws.{replaces_itself}
use Rattle.gimple_core.specs.Trace.{InEachRun}
use Rattle.gimple_claims.specs.Bodies.{FactsClaim}
use Rattle.value_domain.specs.declared.abs_val.AbsVal.{AbsVal}
use Rattle.value_domain.specs.Thresholds.{thresholds_list}
use Rattle.body_values.specs.declared.facts.Facts.{Facts}
use Rattle.body_values.specs.Claims.{given_of}
use Rattle.body_values.specs.System.{FactsFit}
use Rattle.body_fold.specs.Claims.{FactsHold}
use Rattle.cp_apply.specs.Bases.{context_facts, base_facts, PlanFits}
use Rattle.cp_apply.proofs.MadeLaws.{given_there}
use Rattle.cp_apply.proofs.ReplacingLaws.{made_replaces, made_shrinks}
use Rattle.cp_lattices.specs.Lattices.{AreLattices}
use Rattle.ipa_dumps.specs.CpTexts.{AreRows as AreDumped}
use Rattle.cp_lattices.specs.LatticeClaims.{row_facts, LatticesHold, LatticesFit}
use Rattle.ipa_driver.specs.declared.legs.Leg.{Leg}
use Rattle.ipa_driver.specs.Legs.{IsLeg}
use Rattle.ipa_driver.specs.Propagated.{Propagates, base_plan}

-- what is given of a function by the plan is what is known of its formals
facts_there : (rows : List (List AbsVal)) (n : ℕ) (x : Facts) → base_facts (base_plan rows) n ≡ Some x → x ≡ row_facts rows n
facts_there [] zero x e = cc
facts_there [] (suc n) x e = cc
facts_there (row ∷ rows) zero x e = cc
facts_there (row ∷ rows) (suc n) x e = facts_there rows n x e

module _ (hold : LatticesHold) (fit : LatticesFit) (p : Sealed) (passes : Passes) (most : ℕ) (rows : List (List AbsVal)) (are : AreLattices p passes most rows) where
  pub plan_fits : PlanFits p.program most (base_plan rows)
  plan_fits = record {
    count = length-map rows (λ (row : List AbsVal). record { formals = row }) ∙ are.least.solves.are_rows.count;
    each = λ n f c own there.
        subst (λ x. FactsFit f x most (thresholds_list p.program)) (sym (facts_there rows n (context_facts c) (given_there (base_plan rows) n c there))) (fit p passes most rows are n f own);
  }

  pub facts_hold : first_fault p.program ≡ None → FactsHold p (base_facts (base_plan rows))
  facts_hold accepted = λ n f x own given.
      subst (λ y. InEachRun p (FactsClaim f (given_of n f y))) (sym (facts_there rows n x given)) (hold p passes most rows accepted are n f own)

-- ---- the leg

module _ (hold : LatticesHold) (fit : LatticesFit) (passes : Passes) (most : ℕ) (p : Sealed) (asked : Bool) (leg : Leg) (accepted : IsAccepted p.program) where
  pub cp_replaces : (on : Bool) → IsLeg on (codes "cp") (Propagates passes most) p asked leg → Replaces 1 p leg.program
  cp_replaces true h = made_replaces p (base_plan h.rows) leg.program h.made (facts_hold hold fit p passes most h.rows h.lattices accepted)
  cp_replaces false h = subst (λ (s : Sealed). Replaces 1 p s) (sym h.program) (replaces_itself p accepted)

  pub cp_shrinks : (on : Bool) → IsLeg on (codes "cp") (Propagates passes most) p asked leg → size_of_program leg.program.program ≤ size_of_program p.program
  cp_shrinks true h = made_shrinks p (base_plan h.rows) leg.program h.made
  cp_shrinks false h = subst (λ (s : Sealed). size_of_program s.program ≤ size_of_program p.program) (sym h.program) (omega arith)

-- ---- the rows of the dump

rows_listed : (fs : List Function) (rows : List (List AbsVal)) → length rows ≡ length fs → ((n : ℕ) (f : Function) → slice_get fs n ≡ Some f → length (slice_index_or rows n []) ≡ length f.params) → map length rows ≡ map (λ (f : Function). length f.params) fs
rows_listed [] [] e h = refl
rows_listed [] (row ∷ rows) e h = absurd (omega (arith, e))
rows_listed (f ∷ fs) [] e h = absurd (omega (arith, e))
rows_listed (f ∷ fs) (row ∷ rows) e h = λ i. h 0 f refl i ∷ rows_listed fs rows (omega (arith, e)) (λ n g at. h (suc n) g at) i

pub dump_rows : (p : Sealed) (passes : Passes) (most : ℕ) (rows : List (List AbsVal)) → AreLattices p passes most rows → AreDumped p.program.functions rows
dump_rows p passes most rows are = rows_listed p.program.functions rows are.least.solves.are_rows.count are.least.solves.are_rows.counts
