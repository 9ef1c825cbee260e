use Rattle.std.proofs.Common.{◌≡◌, ◌∙◌, sym, ap, subst, IfOk, Some, slice_get}
use Rattle.block_flow.specs.System.{along}
use Rattle.block_flow.specs.Branches.{branches_of}
use Rattle.name_tables.proofs.Naming.{item_there}
use Rattle.block_flow.proofs.flow.BlockFlowFlow.flow.Goals as goal

pub returns : goal.returns
returns g c =
    let there : slice_get c.args.self.now.branches.now c.args.edge ≡ Some c.in-Some.branch.now = item_there c.args.self.now.branches.now c.args.edge c.get.result c.in-Some.branch c.get.ensures.lookup c.in-Some.is in
    let branch : slice_get (branches_of c.args.self.now.blocks.now) c.args.edge ≡ Some c.in-Some.branch.now = ap (λ bs. slice_get bs c.args.edge) (sym c.args.self.now.same) ∙ there in
    subst (λ o. IfOk c.along.result (λ v. v ≡ along (g.T.BodyAnalysis.steps c.args.self.now.analysis.now) c.args.self.now.blocks.now o c.args.from.now)) (sym branch) c.along.ensures
