use Rattle.std.proofs.Common.{◌≡◌, ◌++◌, drop}
use Rattle.ipa_dumps.specs.Dumps.{components_text}
use Rattle.ipa_dumps.proofs.cgraph.push_components.Given as goal

abbrev pub invariant-loop-component : goal.invariant-loop-component
invariant-loop-component g l =
    l.text ++ components_text l.program l.component (drop l.component (g.V.GraphView.graph l.view).components)
    ≡ l.fn.text ++ components_text l.program 0 (g.V.GraphView.graph l.view).components
