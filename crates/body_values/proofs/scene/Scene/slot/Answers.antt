use Rattle.std.proofs.Common.{rules, ◌≡◌, ◌∙◌, ap, sym, IfOk, slice_get, subst}
use Rattle.std.specs.Option.{option_copied}
use Rattle.body_values.specs.Bodies.{constant_value, item_constant}
use Rattle.body_values.specs.Scenes.{body_in}
use Rattle.body_values.proofs.Written.{slot_none, slot_some}
use Rattle.body_values.proofs.scene.Scene.slot.Goals as goal

pub returns-in-None : goal.returns-in-None
returns-in-None c =
    slot_none (body_in c.args.self.now) c.args.scalar c.args.place.now.offset c.args.global.now (search rules) (sym c.slot_number.ensures ∙ c.in-None.is)

pub returns-in-Some : goal.returns-in-Some
returns-in-Some c =
    let item : option_copied c.get.result ≡ slice_get c.args.global.now.items c.in-Some.number = search rules in
    subst (λ x. IfOk c.value_of_item.result (λ v. v ≡ x))
    (ap (λ o. constant_value (body_in c.args.self.now) c.args.scalar (item_constant c.args.self.now.globals.now c.args.scalar o)) item
    ∙ slot_some (body_in c.args.self.now) c.args.scalar c.args.place.now.offset c.args.global.now c.in-Some.number (search rules) (sym c.slot_number.ensures ∙ c.in-Some.is))
    c.value_of_item.ensures
