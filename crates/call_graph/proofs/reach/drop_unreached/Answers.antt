use Rattle.std.proofs.Common.{◌∙◌, sym, ap, subst}
use Rattle.gimple_core.specs.Reach.{IsWithoutUnreached}
use Rattle.gimple_core.specs.Sealed.{Sealed}
use Rattle.gimple_core.proofs.KeptAccepted.{reached_accepted}
use Rattle.gimple_core.proofs.ReplacingLaws.{reached_replaces}
use Rattle.call_graph.proofs.Callees.{accepted_calls}
use Rattle.call_graph.proofs.Keeping.{parts_dropped, dropped_shrinks}
use Rattle.call_graph.proofs.reach.drop_unreached.Goals as goal

pub seal_as-requires : goal.seal_as-requires
seal_as-requires c =
    let p = c.args.program.program in
    let accepted = c.into_program-profile.ensures.accepted in
    let r = c.into_program-profile.result in
    reached_accepted p (record r { functions = c.from_vec.result }) accepted
    (parts_dropped p (accepted_calls p accepted) c.in_ok-marks.marks c.in_ok-marks.ensures r c.as_slice.result.now c.into_vec.result.items c.from_vec.result c.into_program-profile.ensures.same c.as_slice.ensures c.into_vec.ensures (c.from_vec.ensures ∙ c.in_ok-functions.ensures))

pub returns-clause-dropped : goal.returns-clause-dropped
returns-clause-dropped c =
    let p = c.args.program.program in
    let r = c.into_program-profile.result in
    subst (λ (q : Sealed). IsWithoutUnreached p q.program) (sym c.seal_as.ensures)
    (parts_dropped p (accepted_calls p c.into_program-profile.ensures.accepted) c.in_ok-marks.marks c.in_ok-marks.ensures r c.as_slice.result.now c.into_vec.result.items c.from_vec.result c.into_program-profile.ensures.same c.as_slice.ensures c.into_vec.ensures (c.from_vec.ensures ∙ c.in_ok-functions.ensures))

pub returns-clause-replaces : goal.returns-clause-replaces
returns-clause-replaces c =
    reached_replaces c.args.program c.seal_as.result c.into_program-profile.ensures.accepted (returns-clause-dropped c) (ap (λ (q : Sealed). q.mode) c.seal_as.ensures ∙ c.mode-mode.ensures)

pub returns-clause-shrinks : goal.returns-clause-shrinks
returns-clause-shrinks c = dropped_shrinks c.args.program.program c.seal_as.result.program (returns-clause-dropped c)
