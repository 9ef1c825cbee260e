use Rattle.std.proofs.Common.{◌≡◌, length}
use Rattle.fix_board.specs.Board.{IsMarking, marks_left}
use Rattle.fix_board.proofs.joining.mark_from.Given as goal

abbrev pub invariant-loop-next : goal.invariant-loop-next
invariant-loop-next l = record {
  marking : IsMarking l.outgoing l.node l.initial.edges.dirty l.edges.dirty l.next;
  out : l.edges.out ≡ l.initial.edges.out;
}

abbrev pub decreases-loop-next : goal.decreases-loop-next
decreases-loop-next l = marks_left (length l.initial.edges.dirty) l.next
