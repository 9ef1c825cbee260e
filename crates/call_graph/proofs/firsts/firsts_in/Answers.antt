use Rattle.std.proofs.Common.{◌≡◌, ◌∙◌, ℕ, List, length, ap, sym, subst, arith}
use Rattle.std.specs.List.{Contains}
use Rattle.gimple_ir.specs.declared.point.Edge.{Edge}
use Rattle.call_graph.specs.Calls.{callees_in}
use Rattle.call_graph.specs.Firsts.{AreFirsts, turned}
use Rattle.call_graph.specs.Walk.{row_at}
use Rattle.call_graph.proofs.Edging.{edge_of, turned_to, turned_from, turned_begins}
use Rattle.call_graph.proofs.firsts.firsts_in.Goals as goal

pub rows_of-requires-2 : goal.rows_of-requires-2
rows_of-requires-2 c = λ e h.
    let P : List Edge → Type 0 = λ xs. Contains xs e in
    turned_begins c.args.nodes c.args.edges.now c.requires.callees e (subst P (c.as_slice.ensures.value ∙ c.in_ok-around.ensures) h)

pub firsts_of-requires-clause-ends : goal.firsts_of-requires-clause-ends
firsts_of-requires-clause-ends c = λ a b h.
    let row : row_at c.as_slice-2.result.now a ≡ callees_in c.args.edges.now a = ap (λ rows. row_at rows a) c.as_slice-2.ensures.value ∙ c.in_ok-rows.ensures.rows a in
    let P : List ℕ → Type 0 = λ xs. Contains xs b in
    let found = edge_of c.args.edges.now a b (subst P row h) in
    let low = c.requires.callees found.0 found.1 in
    let to = found.3 in
    omega (arith, low, to, ap length c.as_slice-2.ensures.value, c.in_ok-rows.ensures.one_each)

pub firsts_of-requires-clause-back_ends : goal.firsts_of-requires-clause-back_ends
firsts_of-requires-clause-back_ends c = λ b a h.
    let es : List Edge = c.args.edges.now in
    let row : row_at c.as_slice-3.result.now b ≡ callees_in (turned es) b =
    ap (λ rows. row_at rows b) c.as_slice-3.ensures.value ∙ c.in_ok-back.ensures.rows b ∙ ap (λ (xs : List Edge). callees_in xs b) (c.as_slice.ensures.value ∙ c.in_ok-around.ensures) in
    let P : List ℕ → Type 0 = λ xs. Contains xs a in
    let found = edge_of es a b (turned_from es a b (subst P row h)) in
    let low = c.requires.callers found.0 found.1 in
    let from = found.2 in
    omega (arith, low, from, ap length c.as_slice-2.ensures.value, c.in_ok-rows.ensures.one_each)

pub firsts_of-requires-clause-turned : goal.firsts_of-requires-clause-turned
firsts_of-requires-clause-turned c = λ a b.
    let es : List Edge = c.args.edges.now in
    let back : row_at c.as_slice-3.result.now b ≡ callees_in (turned es) b =
    ap (λ rows. row_at rows b) c.as_slice-3.ensures.value ∙ c.in_ok-back.ensures.rows b ∙ ap (λ (xs : List Edge). callees_in xs b) (c.as_slice.ensures.value ∙ c.in_ok-around.ensures) in
    let row : row_at c.as_slice-2.result.now a ≡ callees_in es a = ap (λ rows. row_at rows a) c.as_slice-2.ensures.value ∙ c.in_ok-rows.ensures.rows a in
    let P : List ℕ → Type 0 = λ xs. Contains xs a in
    let Q : List ℕ → Type 0 = λ xs. Contains xs b in
    (λ h. subst Q (sym row) (turned_from es a b (subst P back h)), λ h. subst P (sym back) (turned_to es a b (subst Q row h)))

pub returns : goal.returns
returns c =
    let each : (a : ℕ) → row_at c.as_slice-2.result.now a ≡ callees_in c.args.edges.now a = λ a. ap (λ rows. row_at rows a) c.as_slice-2.ensures.value ∙ c.in_ok-rows.ensures.rows a in
    let row : row_at c.as_slice-2.result.now ≡ callees_in c.args.edges.now = λ i a. each a i in
    let len : length c.as_slice-2.result.now ≡ c.args.nodes = ap length c.as_slice-2.ensures.value ∙ c.in_ok-rows.ensures.one_each in
    let P : (ℕ → List ℕ) → Type 0 = λ out. AreFirsts out (length c.as_slice-2.result.now) c.in_ok-firsts.firsts.items in
    let Q : ℕ → Type 0 = λ n. AreFirsts (callees_in c.args.edges.now) n c.in_ok-firsts.firsts.items in
    subst Q len (subst P row c.in_ok-firsts.ensures)
