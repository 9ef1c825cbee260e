use Rattle.std.proofs.Common.{◌≡◌, drop}
use Rattle.body_values.specs.Bodies.{without_cases}
use Rattle.body_values.specs.Scenes.{body_in, IsGoodIn}
use Rattle.body_values.proofs.scene.Scene.without.Given as goal

abbrev pub invariant-loop-at : goal.invariant-loop-at
invariant-loop-at l = IsGoodIn l.self l.scalar l.left × (without_cases (body_in l.self) l.scalar (drop l.at l.cases) l.left ≡ without_cases (body_in l.self) l.scalar l.cases l.value)
