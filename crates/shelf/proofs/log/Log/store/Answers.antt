use Rattle.std.proofs.Common.{◌≡◌, ◌∷◌, ◌++◌, ◌+◌, ◌-◌, [], ap, sym, arith, length, List, ℕ}
use Rattle.std.proofs.lemmas.Grind.{common_steps}
use Rattle.shelf.specs.declared.log.Span.{Span}
use Rattle.shelf.specs.Kept.{Kept}
use Rattle.shelf.specs.Spans.{entries_of}
use Rattle.shelf.proofs.SpanLaws.{log-push}
use Rattle.shelf.proofs.log.Log.store.Goals as goal

pub returns : goal.returns
returns c =
    let i = c.self.inside in
    let name : List ℕ = c.args.name.now in
    let more : List ℕ = c.args.bytes.now in
    let s : Span = record { from = c.len-from.result; middle = c.len-middle.result; to = c.len-to.result } in
    let b : c.extend_from_slice-2.new.self.items ≡ (i.bytes.items ++ name) ++ more = grind (arith, common_steps) in
    let p : c.push.new.self.items ≡ i.spans.items ++ s ∷ [] = grind (arith, common_steps) in
    let e : entries_of c.extend_from_slice-2.new.self.items c.push.new.self.items ≡ entries_of i.bytes.items i.spans.items ++ (name, more) ∷ [] =
    rw (b, p) (log-push i.bytes.items name more i.spans.items s c.self.invariant.within (grind (arith, common_steps)) (grind (arith, common_steps)) (grind (arith, common_steps))) in
    let n = c.self.view_is in
    rw (sym n) (ap (λ (es : List (List ℕ × List ℕ)). let k : Kept = record { entries = es; told = i.told.items; room = i.room - (1 + length name + length more) } in k) e)
