use Rattle.std.proofs.Common.{◌≡◌, length, drop}
use Rattle.call_graph.specs.Reached.{marked_too}
use Rattle.call_graph.proofs.addresses.mark.Given as goal

abbrev pub invariant-loop-number : goal.invariant-loop-number
invariant-loop-number l = record {
  len : length l.marks.items ≡ length l.initial.marks.items;
  marks : marked_too (drop l.number-index l.numbers) l.marks.items ≡ marked_too l.numbers l.initial.marks.items;
}
