-- What the flow of a value along a branch is.
use Rattle.std.proofs.Common.{◌≡◌, ◌+◌, ◌<◌, ◌∷◌, ℕ, List, length, drop, get_or, sym, ◌∙◌, ap, subst, Option, Some, None, Result, IfOk, slice_get}
use Rattle.std.proofs.lemmas.List.{drop_more}
use Rattle.gimple_ir.specs.declared.block.Block.{Block}
use Rattle.gimple_ir.specs.declared.statement.Stmt.{Stmt}
use Rattle.fix_engine.specs.declared.lifted.Lifted.{Lifted}
use Rattle.fix_engine.specs.declared.lifted.Lifted.TheVariants.{NotReached}
use Rattle.block_flow.specs.declared.branch.Branch.{Branch}
use Rattle.block_flow.specs.Steps.{BodySteps, where_reached, after_statements}
use Rattle.block_flow.specs.System.{along, along_block}

-- along a branch of a block that is there
pub along_there : {A : Type 0} (T : BodySteps A) (blocks : List Block) (branch : Branch) (b : Block) (x : Lifted A) → slice_get blocks branch.source ≡ Some b → along T blocks (Some branch) x ≡ where_reached (after_statements T.statement branch.source 0 b.body x) (T.branch branch.source b.end branch.slot)
unfolding along
along_there T blocks branch b x e = ap (λ o. along_block T branch o x) e

pub along_nowhere : {A : Type 0} (T : BodySteps A) (blocks : List Block) (branch : Branch) (x : Lifted A) → slice_get blocks branch.source ≡ None → NotReached ≡ along T blocks (Some branch) x
unfolding along
along_nowhere T blocks branch x e = sym (ap (λ o. along_block T branch o x) e)

pub along_none : {A : Type 0} (T : BodySteps A) (blocks : List Block) (o : Option Branch) (x : Lifted A) → o ≡ None → NotReached ≡ along T blocks o x
unfolding along
along_none T blocks o x e = sym (ap (λ p. along T blocks p x) e)

-- one statement more
pub carried_on : {A : Type 0} (T : BodySteps A) (k i : ℕ) (body : List Stmt) (x : Stmt) (y z e : Lifted A) → i < length body → x ≡ get_or body i x → z ≡ where_reached y (T.statement k i x) → after_statements T.statement k i (drop i body) y ≡ e → after_statements T.statement k (i + 1) (drop (i + 1) body) z ≡ e
carried_on T k i body x y z e l is went h =
    let next : drop i body ≡ x ∷ drop (i + 1) body = drop_more body i x l ∙ ap (λ w. w ∷ drop (i + 1) body) (sym is) in
    ap (after_statements T.statement k (i + 1) (drop (i + 1) body)) went ∙ (sym (ap (λ ys. after_statements T.statement k i ys y) next) ∙ h)

pub left_along : {A : Type 0} {E : Type 0} (T : BodySteps A) (blocks : List Block) (branch : Branch) (b : Block) (body : List Stmt) (x y : Lifted A) (r : Result (Lifted A) E) → slice_get blocks branch.source ≡ Some b → body ≡ b.body → y ≡ after_statements T.statement branch.source 0 body x →
    IfOk r (λ z. z ≡ where_reached y (T.branch branch.source b.end branch.slot)) → IfOk r (λ z. z ≡ along T blocks (Some branch) x)
left_along T blocks branch b body x y r e same went h =
    let there : where_reached y (T.branch branch.source b.end branch.slot) ≡ along T blocks (Some branch) x =
    ap (λ z. where_reached z (T.branch branch.source b.end branch.slot)) (went ∙ ap (λ ss. after_statements T.statement branch.source 0 ss x) same) ∙ sym (along_there T blocks branch b x e) in
    subst (λ w. IfOk r (λ z. z ≡ w)) there h
