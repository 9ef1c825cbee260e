use Rattle.std.proofs.Common.{Vec, Global, ℕ}
use Rattle.partition_refinement.proofs.Steps.{bucket_put}
use Rattle.partition_refinement.proofs.buckets.Buckets.push.Goals as goal

pub returns : goal.returns
returns c = bucket_put (λ (list : Vec ℕ Global). list.items) c.self.inside.lists.items c.args.number c.index_mut.result.now c.push.new.self c.args.item c.args.self.now c.self.view_is c.requires c.index_mut.ensures.value c.in_ok-push.ensures.items
