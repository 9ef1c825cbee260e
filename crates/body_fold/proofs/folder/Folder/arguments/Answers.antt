use Rattle.std.proofs.Common.{rules, ◌≡◌, ◌∙◌, ◌<◌, ◌++◌, ◌∷◌, [], ◌+◌, length, drop, sym, ap, subst, slice_get}
use Rattle.std.specs.Option.{option_copied}
use Rattle.body_fold.specs.Fold.{folded_arguments}
use Rattle.body_fold.specs.Folders.{folding_in}
use Rattle.body_fold.specs.Putting.{argument_of}
use Rattle.name_tables.proofs.Naming.{lent}
use Rattle.body_fold.proofs.PutIn.{next_argument}
use Rattle.body_fold.proofs.folder.Folder.arguments.Goals as goal

pub loop-place-preserved : goal.loop-place-preserved
loop-place-preserved c =
    let within : c.loop-place.place < length c.args.arguments.now = search rules in
    let formal : option_copied c.get.result ≡ slice_get c.args.formals.now c.loop-place.place = lent c.args.formals.now c.loop-place.place c.get.result c.get.ensures.lookup in
    let put : c.in_ok-known.known ≡ argument_of (folding_in c.args.self.now) c.args.row.now (slice_get c.args.formals.now c.loop-place.place) c.index-arguments-place.result =
    c.in_ok-known.ensures ∙ ap (λ o. argument_of (folding_in c.args.self.now) c.args.row.now o c.index-arguments-place.result) formal in
    let pushed : c.push.new.self ≡ c.loop-place.folded ++ c.in_ok-known.known ∷ [] = search rules in
    subst (λ ys. ys ++ folded_arguments (folding_in c.args.self.now) c.args.row.now (drop (c.loop-place.place + 1) c.args.formals.now) (drop (c.loop-place.place + 1) c.args.arguments.now) ≡ folded_arguments (folding_in c.args.self.now) c.args.row.now c.args.formals.now c.args.arguments.now) (sym pushed)
    (next_argument (folding_in c.args.self.now) c.args.row.now c.args.formals.now c.args.arguments.now c.loop-place.folded _ c.loop-place.place c.index-arguments-place.result c.in_ok-known.known within c.index-arguments-place.is put c.loop-place.invariant)
