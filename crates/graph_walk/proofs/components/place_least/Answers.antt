use Rattle.std.proofs.Common.{◌≡◌, ℕ, ◌<◌, ◌≤◌, inl, inr, length, get_or, set, sym, ◌∙◌, ap, subst, arith}
use Rattle.std.specs.List.{Contains}
use Rattle.std.proofs.lemmas.Bool.{cases_lt}
use Rattle.std.proofs.lemmas.Bool.Decides.{eqb_tells}
use Rattle.std.proofs.lemmas.List.{get_or-set_same, get_or-set_other, get_or_default}
use Rattle.std.proofs.lemmas.List.Elements.{Contains-get_or}
use Rattle.std.proofs.Math.ListN.{length-set}
use Rattle.graph_walk.proofs.components.place_least.Goals as goal

pub index_mut-requires : goal.index_mut-requires
index_mut-requires c =
    let low = c.requires (get_or c.args.nodes.now c.loop-node.node-index 0) (Contains-get_or c.args.nodes.now c.loop-node.node-index 0 c.loop-node-test.true) in
    omega (arith, low, c.loop-node.invariant.same)

pub loop-node-preserved : goal.loop-node-preserved
loop-node-preserved c =
    let nodes = c.args.nodes.now in
    let i = c.loop-node.node-index in
    let olds = c.loop-node.firsts.items in
    let first = c.in-Some.first in
    let at = get_or nodes i 0 in
    let is : Contains nodes at = Contains-get_or nodes i 0 c.loop-node-test.true in
    let fits = c.requires at is in
    let low : at < length olds = omega (arith, fits, c.loop-node.invariant.same) in
    record {
      same = length-set olds at first ∙ c.loop-node.invariant.same;
      done = λ k less.
          let P : ℕ → Type 0 = λ j. get_or (set olds at first) j 0 ≡ first in
          elim (eqb_tells (get_or nodes k 0) at) [
            | inl same ↦ subst P (sym same.1) (get_or-set_same olds at first 0 low)
            | inr other ↦ elim (cases_lt k i) [
              | inl before ↦ get_or-set_other olds at (get_or nodes k 0) first 0 other.1 ∙ c.loop-node.invariant.done k before
              | inr after ↦ let here_it_is : k ≡ i = omega (arith, less, after) in absurd (other.1 (ap (λ (j : ℕ). get_or nodes j 0) here_it_is))
            ]
          ];
      others = λ a away.
          let P : ℕ → Type 0 = λ j. Contains nodes j in
          get_or-set_other olds at a first 0 (λ e. away (subst P (sym e) is)) ∙ c.loop-node.invariant.others a away;
    }

pub returns : goal.returns
returns c =
    let nodes = c.args.nodes.now in
    let news = c.loop-node.firsts.items in
    let each : (a : ℕ) → Contains nodes a → get_or news a 0 ≡ c.in-Some.first = λ a (k, low, is).
    let P : ℕ → Type 0 = λ j. get_or news j 0 ≡ c.in-Some.first in
    subst P (get_or_default nodes k 0 a low ∙ is) (c.loop-node.invariant.done k (omega (arith, low, c.loop-node-test.false))) in
    record {
      one_each = c.loop-node.invariant.same;
      of_nodes = λ a h. let P : ℕ → Type 0 = λ j. Contains nodes j in subst P (sym (each a h)) c.in-Some.ensures.some;
      least = λ a b h k. let P : ℕ → Type 0 = λ j. j ≤ b in subst P (sym (each a h)) (c.in-Some.ensures.least b k);
      others = c.loop-node.invariant.others;
    }
