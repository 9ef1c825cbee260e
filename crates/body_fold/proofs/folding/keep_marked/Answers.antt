use Rattle.std.proofs.Common.{◌∙◌, sym, inl, inr}
use Rattle.body_fold.proofs.Linking.{kept_all}
use Rattle.body_fold.proofs.folding.keep_marked.Goals as goal

pub returns : goal.returns
returns c =
    let left = c.loop-block.block-iterator in
    kept_all c.loop-block.kept.items _ left.a.rest.items left.b.rest.now c.loop-block.invariant (elim c.in-None.ensures.steps [
      | inl (x, ends) ↦ inl (sym left.a.rest.ok.0 ∙ ends.0)
      | inr (x, ends) ↦ inr ends.0
    ])
