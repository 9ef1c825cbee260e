use Rattle.std.proofs.Common.{◌≡◌, drop}
use Rattle.icf_classes.specs.Codes.{code_items, code_count}
use Rattle.icf_classes.proofs.coding.put_bytes.Given as goal

abbrev pub invariant-loop-byte : goal.invariant-loop-byte
invariant-loop-byte l = code_items code_count (drop l.byte-index l.bytes) l.row ≡ code_items code_count l.bytes l.initial.row
