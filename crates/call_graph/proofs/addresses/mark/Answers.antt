use Rattle.std.proofs.Common.{slice_index_or, arith}
use Rattle.std.proofs.lemmas.List.Elements.{Contains-get_or}
use Rattle.call_graph.proofs.addresses.mark.Goals as goal

pub index_mut-requires : goal.index_mut-requires
index_mut-requires c =
    let at = c.loop-number.number-index in
    let low = c.requires (slice_index_or c.args.numbers.now at 0) (Contains-get_or c.args.numbers.now at 0 c.loop-number-test.true) in
    let len = c.loop-number.invariant.len in
    omega (arith, low, len, c.loop-number.marks.ok)
