use Rattle.std.proofs.Common.{◌≡◌, ℕ, List, set, false, get_or, sym, ◌∙◌, ap, subst, IfSome, IfNone, []}
use Rattle.std.specs.List.{Contains}
use Rattle.call_graph.specs.Walk.{listed, row_at}
use Rattle.call_graph.specs.Queue.{AreTrimmed}
use Rattle.call_graph.proofs.Filling.{row_is}
use Rattle.call_graph.proofs.Filling.{row_set}
use Rattle.call_graph.proofs.Queueing.{row_replaced}
use Rattle.call_graph.proofs.queue.trim_row.Goals as goal

pub trim-requires : goal.trim-requires
trim-requires c = λ t h.
    let P : List ℕ → Type 0 = λ xs. Contains xs t in
    c.requires.ends c.args.node t (subst P (row_is c.args.leaving.now.items c.args.node c.index_mut.result.now c.requires.node c.index_mut.ensures.value) h)

pub returns-clause-row : goal.returns-clause-row
returns-clause-row c =
    let rows = c.args.leaving.now.items in
    let new = c.trim.new.targets in
    let is = row_replaced rows c.args.node new in
    is ∙ ap (λ (r : List ℕ). set (listed rows) c.args.node r) (sym (row_set rows (set rows c.args.node new) c.args.node new.items c.requires.node is))

pub returns-clause-trimmed : goal.returns-clause-trimmed
returns-clause-trimmed c =
    let rows = c.args.leaving.now.items in
    let new = c.trim.new.targets in
    let is = row_set rows (set rows c.args.node new) c.args.node new.items c.requires.node (row_replaced rows c.args.node new) in
    let old = row_is rows c.args.node c.index_mut.result.now c.requires.node c.index_mut.ensures.value in
    let P : List ℕ → Type 0 = λ xs. AreTrimmed c.args.standing.now xs new.items in
    let Q : List ℕ → Type 0 = λ xs. AreTrimmed c.args.standing.now (row_at rows c.args.node) xs in
    subst Q (sym is) (subst P old c.trim.ensures.trimmed)

pub returns-clause-some : goal.returns-clause-some
returns-clause-some c =
    let rows = c.args.leaving.now.items in
    let new = c.trim.new.targets in
    let is = row_set rows (set rows c.args.node new) c.args.node new.items c.requires.node (row_replaced rows c.args.node new) in
    let P : List ℕ → Type 0 = λ xs. IfSome c.trim.result (λ t. Contains xs t × (get_or c.args.standing.now t false ≡ false)) in
    subst P (sym is) c.trim.ensures.some

pub returns-clause-none : goal.returns-clause-none
returns-clause-none c =
    let rows = c.args.leaving.now.items in
    let new = c.trim.new.targets in
    let is = row_set rows (set rows c.args.node new) c.args.node new.items c.requires.node (row_replaced rows c.args.node new) in
    let P : List ℕ → Type 0 = λ xs. IfNone c.trim.result (xs ≡ []) in
    subst P (sym is) c.trim.ensures.none
