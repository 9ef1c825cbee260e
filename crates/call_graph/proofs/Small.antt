-- The small programs have no type fault.
use Rattle.std.proofs.Common.{◌≡◌, None, refl}
use Rattle.gimple_core.specs.Layout as layout
use Rattle.gimple_core.specs.Env as e
use Rattle.gimple_core.specs.Statements as s
use Rattle.gimple_core.specs.Declarations as d
use Rattle.gimple_core.specs.Accepted.{checked, first_fault}
use Rattle.call_graph.specs.Sample.{sample, addressing}

pub sample_accepted : first_fault sample ≡ None
unfolding first_fault checked d.structs d.globals d.heads d.head d.main d.functions d.one_function d.own d.registers d.register d.is_free d.locals d.labels d.new_label s.blocks s.body s.statement s.called s.arguments s.label s.ending s.returned s.operand e.scalar_of
sample_accepted = refl

pub addressing_accepted : first_fault addressing ≡ None
unfolding first_fault checked layout.layout_of d.structs d.globals d.one_global d.sized d.item d.items d.heads d.head d.main d.functions d.one_function d.own d.registers d.register d.is_free d.locals d.labels d.new_label s.blocks s.body s.statement s.compared s.common_scalar s.label s.ending s.returned s.operand e.scalar_of
addressing_accepted = refl
