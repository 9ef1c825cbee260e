use Rattle.std.proofs.Common.{◌∙◌}
use Rattle.body_symbols.specs.Scenes.{body_in}
use Rattle.body_symbols.proofs.Parts.{symbols_are}
use Rattle.body_symbols.proofs.finding.function_symbols.Goals as goal

pub returns : goal.returns
returns g c =
    symbols_are c.args.program.now c.args.number c.args.function.now (body_in c.scene_of-scene.result) c.args.globals.now c.mode.result c.in_ok-locals.locals c.in_ok-registers.registers c.len-formals.result c.as_slice-2.result.now c.in_ok-parts.parts.begins c.in_ok-parts.parts.changes
    c.scene_of-scene.ensures c.requires.named c.mode.ensures (c.in_ok-locals.ensures ∙ c.as_slice.ensures) c.in_ok-registers.ensures c.len-formals.ensures c.as_slice-2.ensures c.in_ok-parts.ensures
