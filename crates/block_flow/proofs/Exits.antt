-- An end that leads to a label has a branch that does.
use Rattle.std.proofs.Common.{◌≡◌, ℕ, suc, Bool, true, false, List, [], ◌∷◌, ◌++◌, map, refl, ◌∙◌, ap, Some, None, Option, slice_get, cond, if◌then◌else◌}
use Rattle.std.specs.List.{find}
use Rattle.gimple_ir.specs.declared.block.Case.{Case}
use Rattle.gimple_ir.specs.declared.block.End.{End}
use Rattle.gimple_ir.specs.declared.block.End.TheVariants.{Goto, If, Switch, Return}
use Rattle.gimple_ir.specs.declared.declarations.Global.{Global}
use Rattle.gimple_ir.specs.declared.scalar.Cmp.TheVariants.{Eq}
use Rattle.gimple_core.specs.Operators.{cmp_of}
use Rattle.gimple_core.specs.State.{State, scope_of}
use Rattle.gimple_core.specs.Run.{Exit, ToLabel, Returns, exit_of, case_target, value_of, any_number, compares}
use Rattle.block_flow.specs.Branches.{labels_of}

abbrev label_of : Exit → Option ℕ
label_of (ToLabel label) = Some label
label_of (Returns v) = None

-- a number among the labels of an end with this label
abbrev pub BranchTo : End → ℕ → Type 0
BranchTo e label = (slot : ℕ) × (slice_get (labels_of e) slot ≡ Some label)

of_if : (b : Bool) (hit miss : ℕ) → (slot : ℕ) × (slice_get (hit ∷ miss ∷ []) slot ≡ Some (if b then hit else miss))
of_if true hit miss = (0, refl)
of_if false hit miss = (1, refl)

of_case : (test : Case → Bool) (cs : List Case) (other : ℕ) → (slot : ℕ) × (slice_get (map (λ (c : Case). c.target) cs ++ other ∷ []) slot ≡ Some (case_target (find test cs) other))
of_case test [] other = (0, refl)
of_case test (c ∷ cs) other = by (test c) (of_case test cs other)
  where
    by : (b : Bool) → ((slot : ℕ) × (slice_get (map (λ (c : Case). c.target) cs ++ other ∷ []) slot ≡ Some (case_target (find test cs) other))) →
        (slot : ℕ) × (slice_get (c.target ∷ (map (λ (c : Case). c.target) cs ++ other ∷ [])) slot ≡ Some (case_target (cond b (Some c) (find test cs)) other))
    by true rest = (0, refl)
    by false rest = (suc rest.0, rest.1)

pub branch_to : (globals : List Global) (e : End) (s : State) (label : ℕ) → exit_of globals e s ≡ ToLabel label → BranchTo e label
branch_to globals (Goto to) s label t = (0, ap label_of t)
branch_to globals (If left cmp right hit miss) s label t =
    let b = of_if (compares (value_of globals (scope_of s.top) s.world.registers left) cmp (value_of globals (scope_of s.top) s.world.registers right)) hit miss in
    (b.0, b.1 ∙ ap label_of t)
branch_to globals (Switch on cs other) s label t =
    let b = of_case (λ (c : Case). cmp_of Eq (any_number (value_of globals (scope_of s.top) s.world.registers on)) c.value) cs other in
    (b.0, b.1 ∙ ap label_of t)
branch_to globals (Return None) s label t = cc
branch_to globals (Return (Some x)) s label t = cc
