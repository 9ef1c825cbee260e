use Rattle.fix_board.proofs.Keeping.{step_home, step_falls}
use Rattle.fix_board.proofs.board.Board.step.Goals as goal

pub returns-in-Ok-flow-clause-home : goal.returns-in-Ok-flow-clause-home
returns-in-Ok-flow-clause-home g c =
    let s = g.F.Flow.equations c.args.flow.now in
    let k = g.K.System.kind in
    let lat = g.met.V.Lattice.laws in
    let laws = rw (← c.requires.kind) at (g.met.F.Flow.laws c.args.flow.now) in
    let b = c.args.self.now in
    let e = c.in-Some.edge in
    let taken = c.in-Some.ensures.taken in
    let kept = rw c.requires.named at c.known.ensures in
    let is_edge = rw c.requires.named at c.in-Some.ensures.edge in
    let from_is = rw (c.requires.named, taken) at c.in-Ok.ensures.value in
    let posts = rw (c.requires.named, taken) at c.in_ok-post-in-Ok-flow.ensures.ok in
    step_home lat k s laws b kept c.requires.home e is_edge c.in-Some.ensures.next.ready c.in-Ok.from from_is c.post.new.self posts

pub returns-in-Ok-flow-clause-more : goal.returns-in-Ok-flow-clause-more
returns-in-Ok-flow-clause-more g c =
    let s = g.F.Flow.equations c.args.flow.now in
    let k = g.K.System.kind in
    let lat = g.met.V.Lattice.laws in
    let laws = rw (← c.requires.kind) at (g.met.F.Flow.laws c.args.flow.now) in
    let b = c.args.self.now in
    let e = c.in-Some.edge in
    let taken = c.in-Some.ensures.taken in
    let kept = rw c.requires.named at c.known.ensures in
    let is_edge = rw c.requires.named at c.in-Some.ensures.edge in
    let from_is = rw (c.requires.named, taken) at c.in-Ok.ensures.value in
    let posts = rw (c.requires.named, taken) at c.in_ok-post-in-Ok-flow.ensures.ok in
    step_falls lat k s laws b kept c.requires.home e is_edge c.in-Some.ensures.next.ready c.in-Ok.from from_is c.post.new.self posts
