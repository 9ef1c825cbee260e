use Rattle.gimple_ir.specs.declared.scalar.Scalar.TheVariants.{I32}
use Rattle.body_fold.proofs.Goods.{compared_of}
use Rattle.body_fold.proofs.folder.Folder.known_comparison.Goals as goal

pub known-requires-2 : goal.known-requires-2
known-requires-2 c = record { of = compared_of c.args.self.now.scene c.args.row.now c.known.ensures c.requires.fit I32 c.args.left.now c.args.cmp c.args.right.now _ c.in_ok-value.ensures }
