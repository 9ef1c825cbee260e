use Rattle.std.proofs.Common.{◌≡◌, ◌+◌, drop, map}
use Rattle.gimple_core.specs.Run.{main_name}
use Rattle.call_graph.specs.Calls.{number_in}
use Rattle.call_graph.proofs.names.main_number.Given as goal

abbrev pub invariant-loop-number : goal.invariant-loop-number
invariant-loop-number l = l.number + number_in (map (λ f. f.name) (drop l.number l.functions)) main_name ≡ number_in (map (λ f. f.name) l.functions) main_name
