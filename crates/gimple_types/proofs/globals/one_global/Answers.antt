use Rattle.std.proofs.Common.{rules, ◌≡◌, ◌∙◌, refl, nat_le, length, Ok}
use Rattle.gimple_ir.specs.declared.declarations.Global.{Global}
use Rattle.gimple_core.specs.Declarations as spec
use Rattle.gimple_core.specs.Env.{declared, structs_by_name}
use Rattle.gimple_core.specs.Layout.{layout_of}
use Rattle.gimple_core.specs.Verdict.{demand}
use Rattle.gimple_types.specs.Items.{items_from}
use Rattle.gimple_types.proofs.ItemLemmas.{all_items_are}
use Rattle.gimple_types.proofs.globals.one_global.Goals as goal

pub returns-in_err-items : goal.returns-in_err-items
unfolding spec.one_global
returns-in_err-items c =
    let g : Global = c.args.global.now in
    let slots = (layout_of c.args.structs.now g.decl).slots in
    let e1 : declared c.args.earlier.now g.decl.name g ≡ Ok c.declare.new.self = search rules in
    let e2 : spec.known_shape (structs_by_name c.args.structs.now) g.decl.shape ≡ Ok tt = search rules in
    let e3 : spec.sized c.args.structs.now g.decl ≡ Ok tt = search rules in
    let e4 : demand (nat_le (length g.items) (length slots)) 11 ≡ Ok tt = search rules in
    let all = all_items_are c.args.all.now.targets c.args.all.now.globals slots g.items in
    rw e1 (rw e2 (rw e3 (rw e4 (rw all (search rules)))))

pub returns : goal.returns
unfolding spec.one_global
returns c =
    let g : Global = c.args.global.now in
    let slots = (layout_of c.args.structs.now g.decl).slots in
    let e1 : declared c.args.earlier.now g.decl.name g ≡ Ok c.declare.new.self = search rules in
    let e2 : spec.known_shape (structs_by_name c.args.structs.now) g.decl.shape ≡ Ok tt = search rules in
    let e3 : spec.sized c.args.structs.now g.decl ≡ Ok tt = search rules in
    let e4 : demand (nat_le (length g.items) (length slots)) 11 ≡ Ok tt = search rules in
    let all = all_items_are c.args.all.now.targets c.args.all.now.globals slots g.items in
    let e5 : items_from c.args.all.now.targets c.args.all.now.globals slots 0 g.items ≡ Ok tt = search rules in
    let e6 : spec.items c.args.all.now.targets c.args.all.now.globals slots g.items ≡ Ok tt = all ∙ e5 in
    rw e1 (rw e2 (rw e3 (rw e4 (rw e6 refl))))
