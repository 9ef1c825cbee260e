use Rattle.gimple_core.proofs.NameLemmas.{is_same_name}
use Rattle.gimple_core.proofs.names.same_name.Goals as goal

pub returns : goal.returns
returns c = is_same_name _ _ _ c.same.ensures.0 c.same.ensures.1
