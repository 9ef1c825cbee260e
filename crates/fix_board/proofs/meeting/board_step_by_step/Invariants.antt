use Rattle.std.proofs.Common.{Some, []}
use Rattle.fix_board.specs.Fork.{fork}
use Rattle.fix_board.proofs.meeting.board_step_by_step.Given as goal

abbrev pub ghosts-stepped : goal.ghosts-stepped
ghosts-stepped g a = record { equations = Some fork; kind = [] }
