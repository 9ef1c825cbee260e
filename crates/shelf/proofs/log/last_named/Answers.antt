use Rattle.std.proofs.Common.{arith, sym}
use Rattle.shelf.specs.declared.log.Span.{Span}
use Rattle.shelf.proofs.SpanLaws.{stored-step}
use Rattle.shelf.proofs.log.last_named.Goals as goal
use Rattle.shelf.proofs.log.last_named.Goals.{then-eq, else-eq}

pub loop-span-preserved : goal.loop-span-preserved
loop-span-preserved c =
    let d : Span = record { from = 0; middle = 0; to = 0 } in
    let s = stored-step c.args.bytes.now c.args.spans.now c.args.name.now c.loop-span.span-index d (omega arith) in
    elim c.if-eq.branch [
      | then-eq w ↦ rw (w.found-is, s, sym c.eq.ensures, w.if-eq.true)
      | else-eq w ↦ rw (w.found-is, s, sym c.eq.ensures, w.if-eq.false) c.loop-span.invariant
    ]
