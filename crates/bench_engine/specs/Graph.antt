-- Truth that flows unchanged along listed edges.
use Rattle.std.specs.Prelude.{ℕ, ◌<◌, ◌==◌, Bool, List, [], slice_index}
use Rattle.fix_engine.specs.Least.{Equations, FlowLaws}
use Rattle.fix_engine.specs.Truth.{FitsAny, implies}

abbrev pub graph : ℕ → ℕ → ℕ → List ℕ → List ℕ → Equations Bool
graph nodes start edges sources targets = record {
  nodes = nodes;
  edges = edges;
  source = λ e. slice_index sources e;
  target = λ e. slice_index targets e;
  start = λ n. n == start;
  flow = λ e v. v;
}

pub graph_laws : (nodes start edges : ℕ) (sources targets : List ℕ) → ((e : ℕ) → e < edges → slice_index sources e < nodes) → ((e : ℕ) → e < edges → slice_index targets e < nodes)
    → FlowLaws (FitsAny []) implies (graph nodes start edges sources targets)
graph_laws nodes start edges sources targets sources_in targets_in = record {
  sources = sources_in;
  targets = targets_in;
  starts_fit = λ n h. tt;
  flows_fit = λ e x h p. tt;
  monotone = λ e x y h p q r. r;
}
