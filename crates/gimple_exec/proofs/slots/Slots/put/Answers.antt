use Rattle.std.proofs.Common.{◌∙◌, ap}
use Rattle.gimple_core.specs.Memory.{put_slot}
use Rattle.gimple_exec.proofs.SeekLemmas.{put_is}
use Rattle.gimple_exec.proofs.slots.Slots.put.Goals as goal

pub returns : goal.returns
returns c =
    c.replace.ensures ∙ put_is c.self.inside.rows c.args.slot.object c.args.slot.offset c.args.slot.scalar c.args.slot.value
    ∙ ap (λ slots. put_slot slots c.args.slot.object c.args.slot.offset c.args.slot.scalar c.args.slot.value) c.self.view_is
