-- Node 0, which starts true, with an edge to each of two others.
use Rattle.std.specs.Prelude.{ℕ, ◌+◌, ◌==◌, Bool, []}
use Rattle.std.proofs.Common.{arith}
use Rattle.fix_engine.specs.Least.{Equations, FlowLaws}
use Rattle.fix_engine.specs.Truth.{FitsAny, implies}

abbrev pub fork : Equations Bool
fork = record { nodes = 3; edges = 2; source = λ e. 0; target = λ e. e + 1; start = λ n. n == 0; flow = λ e v. v }

pub fork_laws : FlowLaws (FitsAny []) implies fork
fork_laws = record {
  sources = λ e h. omega arith;
  targets = λ e h. omega arith;
  starts_fit = λ n h. tt;
  flows_fit = λ e x h p. tt;
  monotone = λ e x y h p q r. r;
}
