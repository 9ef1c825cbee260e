use Rattle.std.proofs.Common.{◌≡◌, ◌<◌, length, Option, None, drop, [], sym, ap, ◌∙◌, arith}
use Rattle.std.proofs.lemmas.Grind.{common_steps}
use Rattle.words.specs.declared.options.Name.{Name}
use Rattle.words.specs.Twins.{lesser, least_twin}
use Rattle.words.proofs.Twins.{least_twin-more, lesser-none}
use Rattle.words.proofs.read.least_twin.Goals as goal

pub loop-name-preserved : goal.loop-name-preserved
loop-name-preserved c =
    let lt : c.loop-name.name-index < length c.args.names.now = c.loop-name-test.true in
    let d : Option Name = None in
    rw (c.lesser-least.ensures, c.twin_word.ensures) (least_twin-more c.args.words.now c.args.names.now c.args.names.now c.loop-name.name-index d c.loop-name.least lt ∙ c.loop-name.invariant)

pub returns : goal.returns
returns c =
    let e : drop c.loop-name.name-index c.args.names.now ≡ [] = grind (arith, common_steps) in
    sym (lesser-none c.loop-name.least) ∙ (ap (λ ns. lesser c.loop-name.least (least_twin c.args.words.now c.args.names.now ns)) (sym e) ∙ c.loop-name.invariant)
