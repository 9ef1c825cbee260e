use Rattle.std.proofs.Common.{◌≡◌, ◌<◌, ◌+◌, ◌∷◌, ◌++◌, [], Ok, eqb, length, false, refl, ap, sym, subst, ◌∙◌, arith}
use Rattle.words.specs.Items.{item_of}
use Rattle.words.specs.Sequence.{repeats}
use Rattle.words.specs.Gathered.{gather, gathered_words, repeats_in}
use Rattle.words.specs.Limits.{HaveLimits}
use Rattle.words.proofs.Bounds.{all_more, limits_of}
use Rattle.words.proofs.Gathering.{gathered_of-push, repeats-gathered_of, gathered-step}
use Rattle.words.proofs.read.gather_words.Goals as goal

pub loop-i-init : goal.loop-i-init
unfolding gathered_words
loop-i-init c = ([], c.new-gathered.ensures, refl, tt)

pub loop-i-preserved : goal.loop-i-preserved
loop-i-preserved c =
    let seen = c.loop-i.invariant.0 in
    let i = c.loop-i.i in
    let words = c.args.words.now in
    let item = c.in-Ok.item in
    let w = c.index-words-i.result in
    let lt : i < length words = omega arith in
    let said : Ok item ≡ item_of (i + 1) c.loop-i.pending w (eqb (i + 1) (length words)) = rw (← c.as_slice.ensures) c.in-Ok.ensures.value in
    let new : repeats seen item ≡ false = sym (repeats-gathered_of seen item) ∙ (ap (λ g. repeats_in g item) (sym c.loop-i.invariant.1) ∙ (sym c.repeats.ensures ∙ c.if-repeats.false)) in (
      seen ++ item ∷ [],
      c.with-gathered.ensures ∙ (ap (λ g. gather g item) c.loop-i.invariant.1 ∙ sym (gathered_of-push seen item)),
      rw c.pending-pending.ensures (gathered-step words i seen c.loop-i.pending w item (gathered_words words) lt c.index-words-i.is said new c.loop-i.invariant.2),
      all_more seen item c.loop-i.invariant.3 c.in-Ok.ensures.limits,
    )

pub returns-clause-limits : goal.returns-clause-limits
returns-clause-limits c = subst HaveLimits (sym c.loop-i.invariant.1) (limits_of c.loop-i.invariant.0 c.loop-i.invariant.3)
