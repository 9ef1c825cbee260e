use Rattle.std.proofs.Common.{◌≡◌, ◌++◌, drop}
use Rattle.std.specs.List.{flat_map}
use Rattle.call_graph.specs.Addresses.{block_addresses}
use Rattle.call_graph.proofs.addresses.push_blocks.Given as goal

abbrev pub invariant-loop-block : goal.invariant-loop-block
invariant-loop-block l = l.numbers.items ++ flat_map (block_addresses l.functions) (drop l.block-index l.blocks) ≡ l.initial.numbers.items ++ flat_map (block_addresses l.functions) l.blocks
