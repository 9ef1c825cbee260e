use Rattle.std.proofs.Common.{◌∙◌, ap}
use Rattle.std.specs.Option.{option_copied}
use Rattle.body_values.specs.Flow.{given_load}
use Rattle.body_values.specs.GivenLoads.{GivenLoads}
use Rattle.body_values.proofs.load_table.LoadTable.at.Goals as goal

pub returns : goal.returns
returns c =
    ap option_copied (c.copied.ensures ∙ c.get.ensures.value)
    ∙ c.self.invariant c.args.block c.args.index
    ∙ ap (λ (given : GivenLoads). given_load given.facts given.function c.args.block c.args.index) c.self.view_is
