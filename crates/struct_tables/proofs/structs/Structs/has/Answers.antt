use Rattle.std.proofs.Common.{◌∙◌, [], ap}
use Rattle.gimple_core.specs.Env.{has, structs_by_name}
use Rattle.struct_tables.proofs.KeptLemmas.{has_is}
use Rattle.struct_tables.proofs.structs.Structs.has.Goals as goal

pub returns : goal.returns
returns c = c.contains_key.ensures ∙ has_is c.args.name.now [] c.self.inside.map.entries c.self.invariant ∙ ap (λ ss. has c.args.name.now (structs_by_name ss)) c.self.view_is
