use Rattle.std.proofs.Common.{◌∙◌, sym, inl, inr}
use Rattle.call_graph.proofs.Keeping.{kept_all}
use Rattle.call_graph.proofs.reach.keep_marked.Goals as goal

pub returns : goal.returns
returns c =
    let left = c.loop-function.function-iterator in
    kept_all c.loop-function.kept.items _ left.a.rest.items left.b.rest.now c.loop-function.invariant (elim c.in-None.ensures.steps [
      | inl (x, ends) ↦ inl (sym left.a.rest.ok.0 ∙ ends.0)
      | inr (x, ends) ↦ inr ends.0
    ])
