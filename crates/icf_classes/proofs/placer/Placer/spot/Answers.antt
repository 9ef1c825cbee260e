use Rattle.std.proofs.Common.{◌∙◌, ap}
use Rattle.gimple_ir.specs.declared.declarations.Register.{Register}
use Rattle.gimple_ir.specs.declared.program.Function.{Function}
use Rattle.gimple_core.specs.State.{registers_of, register_place}
use Rattle.name_tables.proofs.Naming.{place_in}
use Rattle.icf_classes.specs.Placed.{spot_in}
use Rattle.icf_classes.proofs.placer.Placer.spot.Goals as goal

pub returns : goal.returns
unfolding register_place
returns c =
    place_in (λ (r : Register). r.name) (registers_of c.self.inside.function.now) c.self.inside.registers c.as_slice.result.now c.args.name.now c.place.result c.self.invariant.registers c.as_slice.ensures c.place.ensures
    ∙ ap (λ (f : Function). spot_in f c.args.name.now) c.self.view_is
