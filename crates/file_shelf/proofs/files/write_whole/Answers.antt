use Rattle.std.proofs.Common.{subst, sym}
use Rattle.file_shelf.proofs.Known.{Written, written_more}
use Rattle.file_shelf.proofs.files.write_whole.Goals as goal

pub loop-rest-preserved : goal.loop-rest-preserved
loop-rest-preserved g c =
    subst (Written _ _ _) (sym c.behind-rest.ensures) (written_more _ _ _ _ _ c.in-Ok.n c.loop-rest.invariant c.in-Ok.ensures.bytes)
