use Rattle.std.proofs.Common.{rules, ◌≡◌, ◌==◌, refl, true}
use Rattle.body_values.proofs.GivenFirst.{put_in}
use Rattle.body_values.proofs.load_table.put.Goals as goal

pub returns-in_ok-insert : goal.returns-in_ok-insert
returns-in_ok-insert c =
    let own : (c.args.fact.now.point.function == c.args.function) ≡ true = search rules in
    λ facts h. put_in c.args.fact.now _ facts c.args.function _ _ refl own (λ q. c.in_ok-insert.ensures.updates.0 q) h
