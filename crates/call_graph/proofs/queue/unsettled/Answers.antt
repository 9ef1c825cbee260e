use Rattle.std.proofs.Common.{◌≡◌, ℕ, Bool, List, false, length, get_or, ap, sym, ◌∙◌, subst, arith}
use Rattle.std.specs.List.{Contains}
use Rattle.std.proofs.Math.ListN.{length-replicate}
use Rattle.gimple_ir.specs.declared.point.Edge.{Edge}
use Rattle.call_graph.specs.Calls.{callees_in}
use Rattle.call_graph.specs.Firsts.{edges_between}
use Rattle.call_graph.specs.Walk.{row_at}
use Rattle.graph_walk.proofs.Parting.{nothing}
use Rattle.call_graph.proofs.Edging.{between_begins, ends_between}
use Rattle.call_graph.proofs.Queueing.{none_marked}
use Rattle.call_graph.proofs.queue.unsettled.Goals as goal

pub rows_of-requires : goal.rows_of-requires
rows_of-requires c = λ e h.
    let P : List Edge → Type 0 = λ xs. Contains xs e in
    between_begins c.args.firsts.now (length c.args.firsts.now) c.args.edges.now c.requires.callers c.requires.low e (subst P (c.as_slice.ensures.value ∙ c.in_ok-between.ensures) h)

pub returns : goal.returns
returns c =
    let n = length c.args.firsts.now in
    let es = c.args.edges.now in
    let firsts = c.args.firsts.now in
    let left : (r : ℕ) → row_at c.in_ok-leaving.leaving.items r ≡ callees_in (edges_between firsts es) r = λ r.
    c.in_ok-leaving.ensures.rows r ∙ ap (λ (xs : List Edge). callees_in xs r) (c.as_slice.ensures.value ∙ c.in_ok-between.ensures) in
    let ready : length c.in_ok-ready.ready ≡ n = ap length c.in_ok-ready.ensures ∙ length-replicate n false in
    record {
      one_each = c.in_ok-standing.ensures.one_each;
      nodes = record {
        ready_each = ready ∙ sym c.in_ok-standing.ensures.one_each;
        waiting_each = c.in_ok-waiting.ensures.one_each ∙ sym c.in_ok-standing.ensures.one_each;
        leaving_each = c.in_ok-leaving.ensures.one_each ∙ sym c.in_ok-standing.ensures.one_each;
        ends = λ r t h.
            let P : List ℕ → Type 0 = λ xs. Contains xs t in
            let low = ends_between firsts n es c.requires.callees c.requires.low r t (subst P (left r) h) in
            omega (arith, low, c.in_ok-standing.ensures.one_each);
        waits = λ t r h. let P : List ℕ → Type 0 = λ xs. Contains xs r in absurd (nothing r (subst P (c.in_ok-waiting.ensures.rows t) h));
      };
      none_stands = c.in_ok-standing.ensures.each;
      none_ready = λ a. ap (λ (ms : List Bool). get_or ms a false) c.in_ok-ready.ensures ∙ none_marked n a;
      none_waits = c.in_ok-waiting.ensures.rows;
      all_left = left;
    }
