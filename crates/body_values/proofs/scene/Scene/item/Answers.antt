use Rattle.std.proofs.Common.{rules, ◌≡◌, Some, IfOk, sym, subst}
use Rattle.std.specs.List.{find}
use Rattle.std.specs.Str.{bytes_eq}
use Rattle.body_values.specs.Scenes.{body_in}
use Rattle.body_values.proofs.Written.{item_is}
use Rattle.body_values.proofs.scene.Scene.item.Goals as goal

pub slot-requires-clause-small : goal.slot-requires-clause-small
slot-requires-clause-small c = c.requires.ready.small c.in-Variable.name c.in-Some.global.now (search rules)

pub returns-in-Some : goal.returns-in-Some
returns-in-Some c =
    let found : find (λ g. bytes_eq g.decl.name c.in-Variable.name) c.args.self.now.globals.now ≡ Some c.in-Some.global.now = search rules in
    subst (λ x. IfOk c.slot.result (λ v. v ≡ x)) (sym (item_is (body_in c.args.self.now) c.args.scalar c.args.place.now c.in-Variable.name (search rules) (search rules) (Some c.in-Some.global.now) found)) c.slot.ensures
