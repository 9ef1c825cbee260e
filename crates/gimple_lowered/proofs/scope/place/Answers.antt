use Rattle.std.proofs.Common.{◌≡◌, ap, List, length, arith}
use Rattle.gimple_ir.specs.declared.declarations.Register.{Register}
use Rattle.std.specs.Str.{bytes_eq}
use Rattle.gimple_core.specs.State.{register_place}
use Rattle.gimple_lowered.proofs.Naming.{position_here, position_missing}
use Rattle.gimple_lowered.proofs.scope.place.Goals as goal

pub returns-then-at-as_slice : goal.returns-then-at-as_slice
unfolding register_place
returns-then-at-as_slice c =
    let all : length c.as_slice.result.now ≡ length c.args.registers.now = ap (λ (rs : List Register). length rs) c.as_slice.ensures in
    let test = c.if-at-as_slice.true in
    position_here (λ (r : Register). bytes_eq r.name c.args.name.now) c.args.registers.now c.place-at.result c.place-at.ensures (omega (arith, all, test))

pub returns-else-at-as_slice : goal.returns-else-at-as_slice
unfolding register_place
returns-else-at-as_slice c =
    let all : length c.as_slice.result.now ≡ length c.args.registers.now = ap (λ (rs : List Register). length rs) c.as_slice.ensures in
    let test = c.if-at-as_slice.false in
    position_missing (λ (r : Register). bytes_eq r.name c.args.name.now) c.args.registers.now c.place-at.result c.place-at.ensures (omega (arith, all, test))
