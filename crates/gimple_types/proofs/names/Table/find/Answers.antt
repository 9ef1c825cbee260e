use Rattle.std.proofs.Common.{ap, sym, ◌∙◌}
use Rattle.std.specs.Option.{option_copied}
use Rattle.gimple_types.proofs.TableLemmas.{named_plain}
use Rattle.gimple_core.specs.Env.{named}
use Rattle.gimple_types.proofs.names.Table.find.Goals as goal

pub returns : goal.returns
returns g c = ap option_copied (c.copied.ensures ∙ c.get.ensures.value) ∙ sym (named_plain c.args.name.now c.self.inside.map.entries) ∙ ap (named c.args.name.now) c.self.view_is
