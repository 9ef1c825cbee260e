use Rattle.std.proofs.Common.{◌≡◌, nat_eq, rules, Some, None}
use Rattle.indexmap.specs.IndexMap.{get}
use Rattle.partition_refinement.proofs.FirstLemmas.{keep_firsts, first_before, first_here, add_firsts}
use Rattle.partition_refinement.proofs.naming.first_of.Goals as goal

pub returns-in-Some : goal.returns-in-Some
returns-in-Some c = λ classes here has.
    let known : get nat_eq c.args.firsts.now c.args.class ≡ Some c.in-Some.first = search rules in
    (keep_firsts (get nat_eq c.args.firsts.now) classes c.args.item c.args.class has here c.in-Some.first known, first_before (get nat_eq c.args.firsts.now) classes c.args.item c.args.class has here c.in-Some.first known)

pub returns-in_ok-insert-in-None : goal.returns-in_ok-insert-in-None
returns-in_ok-insert-in-None c = λ classes here has.
    let none : get nat_eq c.args.firsts.now c.args.class ≡ None = search rules in
    (add_firsts (get nat_eq c.args.firsts.now) classes c.args.item c.args.class has here (get nat_eq c.insert.new.self) c.in_ok-insert-in-None.ensures.updates.0 none, first_here (get nat_eq c.args.firsts.now) classes c.args.item c.args.class has here none)
