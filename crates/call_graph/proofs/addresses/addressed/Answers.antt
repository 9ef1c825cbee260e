use Rattle.std.proofs.Common.{◌≡◌, ◌∙◌, ℕ, Bool, List, length, sym, ap, subst, arith}
use Rattle.std.specs.List.{Contains}
use Rattle.gimple_ir.specs.declared.program.Program.{Program}
use Rattle.call_graph.specs.Addresses.{addresses_of}
use Rattle.call_graph.specs.Reached.{AreAddressed, marked_too}
use Rattle.call_graph.proofs.Addressing.{addresses_are}
use Rattle.call_graph.proofs.Callees.{accepted_calls}
use Rattle.call_graph.proofs.Mentioning.{marks_addressed}
use Rattle.call_graph.proofs.Naming.{place_inside}
use Rattle.call_graph.proofs.addresses.addressed.Goals as goal

pub mark-requires : goal.mark-requires
mark-requires c = λ k h.
    let p = c.args.program.now.program in
    let (name, is, place) = addresses_are p k (subst (λ (ks : List ℕ). Contains ks k) (c.as_slice.ensures.value ∙ c.in_ok-numbers.ensures) h) in
    let low = place_inside p.functions name k place in
    let same = ap (λ (q : Program). length q.functions) c.program.ensures.same in
    omega (arith, low, same, c.len-functions.ensures, c.in_ok-marks.ensures.one_each)

pub returns : goal.returns
returns c =
    let p = c.args.program.now.program in
    let same = ap (λ (q : Program). length q.functions) c.program.ensures.same in
    let len : length c.in_ok-marks.marks.items ≡ length p.functions = c.in_ok-marks.ensures.one_each ∙ c.len-functions.ensures ∙ same in
    let marks : c.from_vec.result ≡ marked_too (addresses_of p) c.in_ok-marks.marks.items =
    c.from_vec.ensures ∙ c.mark.ensures ∙ ap (λ (ks : List ℕ). marked_too ks c.in_ok-marks.marks.items) (c.as_slice.ensures.value ∙ c.in_ok-numbers.ensures) in
    subst (λ (ms : List Bool). AreAddressed p ms) (sym marks) (marks_addressed p (accepted_calls p c.program.ensures.accepted) c.in_ok-marks.marks.items len c.in_ok-marks.ensures.each)
