use Rattle.std.proofs.Common.{rules, ◌≡◌, ◌∙◌, ◌&&◌, true, false, ap, List, Some, subst, slice_get}
use Rattle.gimple_ir.specs.declared.declarations.Global.{Global}
use Rattle.gimple_ir.specs.declared.declarations.StructDef.{StructDef}
use Rattle.gimple_core.specs.Layout.{layout_of}
use Rattle.gimple_core.specs.Statements.{has_slot}
use Rattle.body_fold.specs.Putting.{is_store}
use Rattle.body_fold.proofs.Placing.{refused, admitted}
use Rattle.body_fold.proofs.folder.Folder.admits_place.Goals as goal

pub returns-then-is_refused : goal.returns-then-is_refused
returns-then-is_refused c =
    let there = subst (λ (gs : List Global). slice_get gs c.args.number ≡ Some c.args.global.now) c.requires.folder.globals c.requires.there in
    let meant : (is_store c.args.access && c.args.global.now.constant) ≡ true = search rules in
    refused c.args.self.now.scene.program.now.program c.args.self.now.function.now c.requires.folder.mean c.args.number c.args.global.now there c.args.access c.args.scalar c.args.place.now c.requires.base c.requires.fits meant

pub returns : goal.returns
returns c =
    let there = subst (λ (gs : List Global). slice_get gs c.args.number ≡ Some c.args.global.now) c.requires.folder.globals c.requires.there in
    let not_meant : (is_store c.args.access && c.args.global.now.constant) ≡ false = search rules in
    c.slot_in.ensures
    ∙ (ap (λ (ss : List StructDef). has_slot (layout_of ss c.args.global.now.decl).slots c.args.place.now.offset c.args.scalar) c.requires.folder.structs
    ∙ admitted c.args.self.now.scene.program.now.program c.args.self.now.function.now c.requires.folder.mean c.args.number c.args.global.now there c.args.access c.args.scalar c.args.place.now c.requires.base c.requires.fits not_meant)
