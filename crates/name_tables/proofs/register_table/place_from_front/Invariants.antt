use Rattle.std.proofs.Common.{◌≡◌, ◌+◌, drop}
use Rattle.std.specs.List.{position_or_len}
use Rattle.std.specs.Str.{bytes_eq}
use Rattle.name_tables.proofs.register_table.place_from_front.Given as goal

abbrev pub invariant-loop-place : goal.invariant-loop-place
invariant-loop-place l = l.place + position_or_len (λ r. bytes_eq r.name l.name) (drop l.place l.registers) ≡ position_or_len (λ r. bytes_eq r.name l.name) l.registers
