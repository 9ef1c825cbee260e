-- Four nodes in a ring, of which the first starts true.
use Rattle.std.specs.Prelude.{◌+◌, ◌%◌, ◌==◌, Bool, []}
use Rattle.std.proofs.Common.{arith}
use Rattle.fix_engine.specs.Least.{Equations, FlowLaws}
use Rattle.fix_engine.specs.Truth.{FitsAny, implies}

abbrev pub ring : Equations Bool
ring = record { nodes = 4; edges = 4; source = λ e. e; target = λ e. (e + 1) % 4; start = λ n. n == 0; flow = λ e v. v }

pub ring_laws : FlowLaws (FitsAny []) implies ring
ring_laws = record {
  sources = λ e h. h;
  targets = λ e h. omega arith;
  starts_fit = λ n h. tt;
  flows_fit = λ e x h p. tt;
  monotone = λ e x y h p q r. r;
}
