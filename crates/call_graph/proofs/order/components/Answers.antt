use Rattle.std.proofs.Common.{◌≡◌, ◌∙◌, ◌<◌, ℕ, List, length, sym, ap, subst, arith}
use Rattle.std.specs.List.{Contains}
use Rattle.gimple_ir.specs.declared.point.Edge.{Edge}
use Rattle.gimple_ir.specs.declared.program.Program.{Program}
use Rattle.call_graph.specs.Calls.{callees_in, callees_of, edges_of}
use Rattle.call_graph.specs.Firsts.{AreFirsts}
use Rattle.call_graph.specs.Graph.{IsOrder}
use Rattle.call_graph.proofs.Bridge.{edge_begins, edge_ends}
use Rattle.call_graph.proofs.Callees.{accepted_calls}
use Rattle.call_graph.proofs.Edging.{callee_of}
use Rattle.call_graph.proofs.order.components.Goals as goal

begins : (p : Program) (es : List Edge) → es ≡ edges_of p → (e : Edge) → Contains es e → e.caller < length p.functions
begins p es is e h = let P : List Edge → Type 0 = λ xs. Contains xs e in edge_begins p e (subst P is h)

pub firsts_in-requires-clause-callers : goal.firsts_in-requires-clause-callers
firsts_in-requires-clause-callers c = λ e h.
    let p = c.args.program.now.program in
    let low = begins p c.as_slice.result.now (c.as_slice.ensures ∙ c.in_ok-edges.ensures) e h in
    let same = ap (λ (q : Program). length q.functions) c.program.ensures.same in
    omega (arith, low, same, c.len-functions.ensures)

ends : (p : Program) (es : List Edge) → es ≡ edges_of p → ((a b : ℕ) → Contains (callees_of p a) b → b < length p.functions) → (e : Edge) → Contains es e → e.callee < length p.functions
ends p es is inside e h =
    let P : List Edge → Type 0 = λ xs. Contains (callees_in xs e.caller) e.callee in
    inside e.caller e.callee (subst P is (callee_of es e h))

pub firsts_in-requires-clause-callees : goal.firsts_in-requires-clause-callees
firsts_in-requires-clause-callees c = λ e h.
    let p = c.args.program.now.program in
    let low = ends p c.as_slice.result.now (c.as_slice.ensures ∙ c.in_ok-edges.ensures) (λ a b. edge_ends p (accepted_calls p c.program.ensures.accepted) a b) e h in
    let same = ap (λ (q : Program). length q.functions) c.program.ensures.same in
    omega (arith, low, same, c.len-functions.ensures)

pub order_of-requires-clause-few : goal.order_of-requires-clause-few
order_of-requires-clause-few c =
    let same = ap (λ (q : Program). length q.functions) c.program.ensures.same in
    let few = c.requires.few in
    omega (arith, few, same, c.len-functions.ensures, ap length c.as_slice-3.ensures.value, c.in_ok-firsts.ensures.one_each)

pub order_of-requires-clause-callers : goal.order_of-requires-clause-callers
order_of-requires-clause-callers c = λ e h.
    let p = c.args.program.now.program in
    let low = begins p c.as_slice-2.result.now (c.as_slice-2.ensures ∙ c.in_ok-edges.ensures) e h in
    let same = ap (λ (q : Program). length q.functions) c.program.ensures.same in
    omega (arith, low, same, c.len-functions.ensures, ap length c.as_slice-3.ensures.value, c.in_ok-firsts.ensures.one_each)

pub order_of-requires-clause-callees : goal.order_of-requires-clause-callees
order_of-requires-clause-callees c = λ e h.
    let p = c.args.program.now.program in
    let low = ends p c.as_slice-2.result.now (c.as_slice-2.ensures ∙ c.in_ok-edges.ensures) (λ a b. edge_ends p (accepted_calls p c.program.ensures.accepted) a b) e h in
    let same = ap (λ (q : Program). length q.functions) c.program.ensures.same in
    omega (arith, low, same, c.len-functions.ensures, ap length c.as_slice-3.ensures.value, c.in_ok-firsts.ensures.one_each)

pub order_of-requires-clause-firsts : goal.order_of-requires-clause-firsts
order_of-requires-clause-firsts c =
    let es = c.as_slice.result.now in
    let len : c.len-functions.result ≡ length c.as_slice-3.result.now = sym (ap length c.as_slice-3.ensures.value ∙ c.in_ok-firsts.ensures.one_each) in
    let P : List ℕ → Type 0 = λ xs. AreFirsts (callees_in es) c.len-functions.result xs in
    let Q : ℕ → Type 0 = λ n. AreFirsts (callees_in es) n c.as_slice-3.result.now in
    let R : List Edge → Type 0 = λ xs. AreFirsts (callees_in xs) (length c.as_slice-3.result.now) c.as_slice-3.result.now in
    subst R (c.as_slice.ensures ∙ sym c.as_slice-2.ensures) (subst Q len (subst P (sym c.as_slice-3.ensures.value) c.in_ok-firsts.ensures))

pub returns : goal.returns
returns c =
    let p = c.args.program.now.program in
    let same = ap (λ (q : Program). length q.functions) c.program.ensures.same in
    let len : length c.as_slice-3.result.now ≡ length p.functions = omega (arith, same, c.len-functions.ensures, ap length c.as_slice-3.ensures.value, c.in_ok-firsts.ensures.one_each) in
    let P : List Edge → Type 0 = λ xs. IsOrder (callees_in xs) (length c.as_slice-3.result.now) c.in_ok-order.order in
    let Q : ℕ → Type 0 = λ n. IsOrder (callees_in (edges_of p)) n c.in_ok-order.order in
    subst Q len (subst P (c.as_slice-2.ensures ∙ c.in_ok-edges.ensures) c.in_ok-order.ensures)
