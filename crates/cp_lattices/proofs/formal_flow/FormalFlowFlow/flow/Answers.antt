use Rattle.std.proofs.Common.{◌≡◌, slice_get, Some, IfOk, refl, sym, subst}
use Rattle.std.proofs.lemmas.Option.{slice_get_read}
use Rattle.value_domain.specs.Values.{FitsWith}
use Rattle.cp_lattices.specs.declared.gift.Gift.{Gift}
use Rattle.cp_lattices.specs.Makers.{making}
use Rattle.cp_lattices.specs.Carried.{given}
use Rattle.cp_lattices.specs.FormalLaws.{local_fits}
use Rattle.cp_lattices.proofs.FormalFlows.{along_gift}
use Rattle.cp_lattices.proofs.formal_flow.FormalFlowFlow.flow.Goals as goal

pub given-requires-clause-local : goal.given-requires-clause-local
given-requires-clause-local c =
    let there : slice_get c.args.self.now.gifts.now c.args.edge ≡ Some c.index-self-edge.result = slice_get_read _ _ _ _ refl c.requires.edge c.index-self-edge.is in
    let fits = local_fits (making c.args.self.now.maker) c.args.self.now.passes.now c.args.self.now.numbering.now c.args.self.now.gifts.now c.args.edge c.index-self-edge.result c.args.self.now.lawful there in
    subst (λ (x : Gift). FitsWith c.args.self.now.maker.limits.now.size c.args.self.now.maker.limits.now.ends x.local) c.index-self-edge.is fits

pub returns : goal.returns
returns c =
    let there : slice_get c.args.self.now.gifts.now c.args.edge ≡ Some c.index-self-edge.result = slice_get_read _ _ _ _ refl c.requires.edge c.index-self-edge.is in
    along_gift (making c.args.self.now.maker) c.args.self.now.passes.now (slice_get c.args.self.now.gifts.now c.args.edge) c.index-self-edge.result c.args.from.now c.given.result there
    (subst (λ (x : Gift). IfOk c.given.result (λ v. v ≡ given (making c.args.self.now.maker) c.args.self.now.passes.now x.scalar x.jump x.local c.args.from.now)) (sym c.index-self-edge.is) c.given.ensures)
