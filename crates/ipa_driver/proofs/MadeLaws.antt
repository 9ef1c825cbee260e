-- What the passes make of a program may stand for it.
use Rattle.std.proofs.Common.{◌≡◌, ℕ, ◌*◌, ◌^◌, Bool, true, false, List, ◌≤◌, sym, ap, ◌∙◌, subst, arith, le_trans}
use Rattle.gimple_ir.specs.declared.options.Passes.{Passes}
use Rattle.gimple_ir.specs.declared.options.Params.{Params}
use Rattle.gimple_ir.specs.declared.program.Function.{Function}
use Rattle.gimple_ir.specs.declared.program.Program.{Program}
use Rattle.gimple_ir.specs.Counts.{IsCountable, CountsWithin}
use Rattle.gimple_ir.specs.Size.{size_of_program}
use Rattle.gimple_core.specs.Accepted.{IsAccepted}
use Rattle.gimple_core.specs.Growth.{bound, grown, clone_growth, split_growth}
use Rattle.gimple_core.specs.Replacing.{Replaces}
use Rattle.gimple_core.specs.Sealed.{Sealed}
use Rattle.gimple_core.proofs.ReplacingLaws.{reached_replaces, replaces_in_turn, kept_size}
use Rattle.ipa_driver.specs.declared.legs.Leg.{Leg}
use Rattle.ipa_driver.specs.declared.passes.Asked.{Asked}
use Rattle.ipa_driver.specs.declared.passes.Legs.{Legs}
use Rattle.ipa_driver.specs.declared.passes.Product.{Product}
use Rattle.ipa_driver.specs.Legs.{IsLeg, IsIdle, NotBuilt}
use Rattle.cp_lattices.proofs.Fitting.{lattices_fit}
use Rattle.cp_lattices.proofs.LatticeLaws.{lattices_hold}
use Rattle.ipa_driver.proofs.CpLaws.{cp_replaces, cp_shrinks}
use Rattle.ipa_driver.proofs.IcfLaws.{icf_replaces, icf_shrinks}
use Rattle.ipa_driver.specs.Pipeline.{AreLegs, DropsUnreached, IsPipeline, IsMade}

-- ---- one leg

pub not_built : (on : Bool) (name : List ℕ) (p : Sealed) (asked : Bool) (leg : Leg) → IsIdle name p asked leg → IsLeg on name (NotBuilt name) p asked leg
not_built true name p asked leg h = h
not_built false name p asked leg h = h

idle_program : (on : Bool) (name : List ℕ) (p : Sealed) (asked : Bool) (leg : Leg) → IsLeg on name (NotBuilt name) p asked leg → leg.program ≡ p
idle_program true name p asked leg h = h.program
idle_program false name p asked leg h = h.program

-- ---- the legs

module _ (p : Sealed) (asked : Asked) (passes : Passes) (params : Params) (legs : Legs) (accepted : IsAccepted p.program) (h : AreLegs p asked passes params legs) where
  last_program : h.cleared.program ≡ h.propagated.program
  last_program =
      idle_program passes.modref _ h.split.program asked.modref h.cleared h.modref
      ∙ idle_program passes.sra _ h.propagated.program asked.sra h.split h.sra

  pub legs_program : legs.program ≡ h.propagated.program
  legs_program = ap (λ (l : Legs). l.program) h.kept ∙ last_program

  pub folded_shrinks : size_of_program h.folded.program.program ≤ size_of_program p.program
  folded_shrinks = icf_shrinks p asked.icf h.folded accepted passes.icf h.icf

  folds : Replaces 1 p h.folded.program
  folds = icf_replaces p asked.icf h.folded accepted passes.icf h.icf

  propagates : Replaces 1 h.folded.program h.propagated.program
  propagates = cp_replaces lattices_hold lattices_fit passes params.ipa_cp_value_list_size h.folded.program asked.cp h.propagated folds.accepted passes.cp h.cp

  -- what the legs behind identical code folding make is no larger than what it gives
  pub legs_shrink : size_of_program legs.program.program ≤ size_of_program h.folded.program.program
  legs_shrink =
      subst (λ (s : Sealed). size_of_program s.program ≤ size_of_program h.folded.program.program) (sym legs_program)
      (cp_shrinks lattices_hold lattices_fit passes params.ipa_cp_value_list_size h.folded.program asked.cp h.propagated folds.accepted passes.cp h.cp)

  pub legs_replace : Replaces 1 p legs.program
  legs_replace = subst (λ (s : Sealed). Replaces 1 p s) (sym legs_program) (replaces_in_turn 1 1 p h.folded.program h.propagated.program folds propagates)

-- ---- the pipeline

grows : (size large percent : ℕ) → size ≤ grown size large percent
grows size large percent = omega arith

within_bound : (size : ℕ) (passes : Passes) (params : Params) → size ≤ bound size passes params
within_bound size passes params =
    let large = params.ipa_cp_large_unit_insns in
    let clones = clone_growth passes params in
    let splits = split_growth passes params in
    le_trans (grows size large clones) (grows (grown size large clones) large splits)

dropped_size : (p q : Sealed) → DropsUnreached p q → size_of_program q.program ≤ size_of_program p.program
dropped_size p q h =
    let keeps = h.functions.keeps in
    subst (λ (r : Program). size_of_program r ≤ size_of_program p.program) (sym h.functions.program) (kept_size (λ (f : Function). keeps f.name) p.program.functions)

drop_replaces : (p q : Sealed) → IsAccepted p.program → DropsUnreached p q → Replaces 1 p q
drop_replaces p q a h = reached_replaces p q a h.functions h.mode

counted_once : (n : ℕ) (q : Program) → CountsWithin (1 * n) q → CountsWithin n q
counted_once n q h = let same : 1 * n ≡ n = omega arith in subst (λ m. CountsWithin m q) same h

-- what replaces a program, with a factor of one, can be counted
pub still_countable : (p q : Sealed) → Replaces 1 p q → IsCountable p.program → IsCountable q.program
still_countable p q r n = counted_once (2 ^ 32) q.program (r.counts (2 ^ 32) n)

-- what the legs give can be counted
pub behind_legs : (p reached : Sealed) (asked : Asked) (passes : Passes) (params : Params) (legs : Legs) → Replaces 1 p reached → AreLegs reached asked passes params legs → IsCountable p.program → IsCountable legs.program.program
behind_legs p reached asked passes params legs r h n = still_countable reached legs.program (legs_replace reached asked passes params legs r.accepted h) (still_countable p reached r n)

module _ (p : Sealed) (asked : Asked) (passes : Passes) (params : Params) (product : Product) (accepted : IsAccepted p.program) (h : IsPipeline p asked passes params product) where
  first : Replaces 1 p h.reached
  first = drop_replaces p h.reached accepted h.drops

  between : Replaces 1 h.reached h.legs.program
  between = legs_replace h.reached asked passes params h.legs first.accepted h.passed

  pub replaces : Replaces 1 p product.program
  replaces =
      replaces_in_turn 1 1 p h.legs.program product.program
      (replaces_in_turn 1 1 p h.reached h.legs.program first between)
      (drop_replaces h.legs.program product.program between.accepted h.drops_again)

  entering_size : size_of_program h.passed.folded.program.program ≤ size_of_program p.program
  entering_size = le_trans (folded_shrinks h.reached asked passes params h.legs first.accepted h.passed) (dropped_size p h.reached h.drops)

  last_size : size_of_program product.program.program ≤ size_of_program h.passed.folded.program.program
  last_size = le_trans (dropped_size h.legs.program product.program h.drops_again) (legs_shrink h.reached asked passes params h.legs first.accepted h.passed)

  pub made : IsMade p asked passes params product
  made = record {
    pipeline = h;
    sound = record {
      accepted = replaces.accepted;
      mode = replaces.mode;
      runs = replaces.runs;
      entering_size = entering_size;
      size = le_trans last_size (within_bound (size_of_program h.passed.folded.program.program) passes params);
    };
  }
