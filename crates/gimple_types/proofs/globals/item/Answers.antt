use Rattle.std.proofs.Common.{rules, ◌≡◌, Ok}
use Rattle.gimple_core.specs.Declarations as spec
use Rattle.gimple_core.specs.Statements.{is_pointer}
use Rattle.gimple_core.specs.Verdict.{demand}
use Rattle.gimple_types.specs.Addresses.{item_address}
use Rattle.gimple_types.proofs.globals.item.Goals as goal

pub returns-in_ok-demand-in-Address : goal.returns-in_ok-demand-in-Address
unfolding spec.item
returns-in_ok-demand-in-Address c =
    let e1 : demand (is_pointer c.args.scalar) 4 ≡ Ok tt = search rules in
    let value : c.address.result ≡ item_address c.args.all.now c.in-Address.variable c.in-Address.offset = search rules in
    rw c.in-Address.is (rw e1 value)
