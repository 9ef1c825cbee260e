use Rattle.std.proofs.Common.{◌≡◌, Bool, List, ℕ, map, length, sym, ◌∙◌, ap, subst, arith}
use Rattle.std.specs.List.{Contains}
use Rattle.gimple_ir.specs.declared.program.Function.{Function}
use Rattle.gimple_ir.specs.declared.program.Program.{Program}
use Rattle.gimple_core.specs.Run.{main_name}
use Rattle.call_graph.specs.Calls.{number_in}
use Rattle.call_graph.specs.Graph.{AreMarks}
use Rattle.call_graph.specs.Walk.{row_at}
use Rattle.call_graph.specs.Reached.{AreReached, mentions_of}
use Rattle.call_graph.proofs.Mentioning.{marks_reached, mention_of}
use Rattle.call_graph.proofs.Callees.{accepted_calls}
use Rattle.call_graph.proofs.reach.reached.Goals as goal

pub reached_in-requires-clause-root : goal.reached_in-requires-clause-root
reached_in-requires-clause-root c =
    let p = c.args.program.now.program in
    let root = c.main_number-root.ensures ∙ ap (λ (fs : List Function). number_in (map (λ f. f.name) fs) main_name) (c.as_slice.ensures ∙ ap (λ (q : Program). q.functions) c.program.ensures.same) in
    let low = (accepted_calls p c.program.ensures.accepted).main in
    omega (arith, low, root, c.in_ok-rows.ensures.one_each, ap length c.as_slice-2.ensures.value)

pub reached_in-requires-clause-root_small : goal.reached_in-requires-clause-root_small
reached_in-requires-clause-root_small c =
    let p = c.args.program.now.program in
    let root = c.main_number-root.ensures ∙ ap (λ (fs : List Function). number_in (map (λ f. f.name) fs) main_name) (c.as_slice.ensures ∙ ap (λ (q : Program). q.functions) c.program.ensures.same) in
    let low = (accepted_calls p c.program.ensures.accepted).main in
    omega (arith, low, root, c.requires.few)

pub reached_in-requires-clause-ends : goal.reached_in-requires-clause-ends
reached_in-requires-clause-ends c = λ a b h.
    let p = c.args.program.now.program in
    let row : row_at c.as_slice-2.result.now a ≡ mentions_of p a = ap (λ rows. row_at rows a) c.as_slice-2.ensures.value ∙ c.in_ok-rows.ensures.rows a in
    let low = (mention_of p (accepted_calls p c.program.ensures.accepted) a b (subst (λ (xs : List ℕ). Contains xs b) row h)).inside in
    omega (arith, low, c.in_ok-rows.ensures.one_each, ap length c.as_slice-2.ensures.value)

pub returns : goal.returns
returns c =
    let p = c.args.program.now.program in
    let each : (a : ℕ) → row_at c.as_slice-2.result.now a ≡ mentions_of p a = λ a. ap (λ rows. row_at rows a) c.as_slice-2.ensures.value ∙ c.in_ok-rows.ensures.rows a in
    let row : row_at c.as_slice-2.result.now ≡ mentions_of p = λ i a. each a i in
    let root = c.main_number-root.ensures ∙ ap (λ (fs : List Function). number_in (map (λ f. f.name) fs) main_name) (c.as_slice.ensures ∙ ap (λ (q : Program). q.functions) c.program.ensures.same) in
    let len : length c.as_slice-2.result.now ≡ length p.functions = ap length c.as_slice-2.ensures.value ∙ c.in_ok-rows.ensures.one_each in
    let P : (ℕ → List ℕ) → Type 0 = λ out. AreMarks out (length c.as_slice-2.result.now) c.main_number-root.result c.in_ok-marks.marks.items in
    let Q : ℕ → Type 0 = λ n. AreMarks (mentions_of p) n c.main_number-root.result c.in_ok-marks.marks.items in
    let R : ℕ → Type 0 = λ a. AreMarks (mentions_of p) (length p.functions) a c.in_ok-marks.marks.items in
    let S : List Bool → Type 0 = λ marks. AreReached p marks in
    subst S (sym c.from_vec.ensures) (marks_reached p (accepted_calls p c.program.ensures.accepted) c.in_ok-marks.marks.items (subst R root (subst Q len (subst P row c.in_ok-marks.ensures))))
