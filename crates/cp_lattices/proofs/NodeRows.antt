-- Nodes of formals, and rows of the values of nodes.
use Rattle.std.proofs.Common.{◌≡◌, ◌↔◌, ℕ, zero, suc, ◌+◌, ◌≤◌, eqb, Bool, true, false, cond, List, [], ◌∷◌, length, get_or, map, refl, sym, ◌∙◌, ap, subst, arith, Option, Some, None, slice_get}
use Rattle.std.proofs.lemmas.Bool.{eqb-true, and_parts}
use Rattle.std.proofs.lemmas.List.{get_or-map, get_or_past}
use Rattle.std.proofs.lemmas.Option.{slice_get_within, get_or_from_slice_get}
use Rattle.gimple_ir.specs.declared.declarations.Register.{Register}
use Rattle.gimple_ir.specs.declared.program.Function.{Function}
use Rattle.gimple_core.specs.Reach.{IsAddressed}
use Rattle.gimple_core.specs.Sealed.{Sealed}
use Rattle.value_domain.specs.declared.abs_val.AbsVal.{AbsVal}
use Rattle.value_domain.specs.Values.{none_val}
use Rattle.cp_lattices.specs.declared.numbering.Node.{Node}
use Rattle.cp_lattices.specs.declared.numbering.Numbering.{Numbering}
use Rattle.cp_lattices.specs.FormalRows.{value_of, row_from, rows_from}
use Rattle.cp_lattices.specs.Lattices.{row_value, IsFormal, AreRows}
use Rattle.cp_lattices.specs.Numbered.{node_at, is_node, place_of, node_of, IsNode, AreNumbered, IsNumbering}

-- ---- the node of a formal

pub record FoundNode (p : Sealed) (g : Numbering) (n i : ℕ) (f : Function) (r : Register) : Type 0 where
  pub node : Node
  pub there : node_at g.nodes (node_of g n i) ≡ Some node
  pub function : node.function ≡ n
  pub formal : node.formal ≡ i
  pub scalar : node.scalar ≡ r.scalar
  pub addressed : (node.addressed ≡ true) ↔ IsAddressed p.program f.name

pub node_is : (p : Sealed) (g : Numbering) → AreNumbered p g → (k : ℕ) (x : Node) → node_at g.nodes k ≡ Some x → IsNode p x
node_is p g h zero x e = cc
node_is p g h (suc k) x e = h.nodes k x e

node_stands : (g : Numbering) (n i : ℕ) → is_node n i (node_at g.nodes (place_of g n i)) ≡ true → node_of g n i ≡ place_of g n i
unfolding node_of
node_stands g n i h = ap (λ b. cond b (place_of g n i) 0) h

node_lacks : (g : Numbering) (n i : ℕ) → is_node n i (node_at g.nodes (place_of g n i)) ≡ false → node_of g n i ≡ 0
unfolding node_of
node_lacks g n i h = ap (λ b. cond b (place_of g n i) 0) h

same_some : {A : Type 0} (x y : A) → Some x ≡ Some y → x ≡ y
same_some x y e = cc

is_found : (p : Sealed) (g : Numbering) → IsNumbering p g → (n i : ℕ) (f : Function) (r : Register) → IsFormal p n i f r → is_node n i (node_at g.nodes (place_of g n i)) ≡ true
is_found p g h n i f r formal = h.are.found n i f r formal (h.all n (slice_get_within p.program.functions n f formal.own))

pub found_node : (p : Sealed) (g : Numbering) → IsNumbering p g → (n i : ℕ) (f : Function) (r : Register) → IsFormal p n i f r → FoundNode p g n i f r
found_node p g h n i f r formal = by (node_at g.nodes (place_of g n i)) refl (is_found p g h n i f r formal)
  where
    by : (o : Option Node) → node_at g.nodes (place_of g n i) ≡ o → is_node n i o ≡ true → FoundNode p g n i f r
    by None e t = let clash : false ≡ true = t in cc
    by (Some x) e t =
        let parts = and_parts (eqb x.function n) (eqb x.formal i) t in
        let function = eqb-true x.function n parts.0 in
        let place = eqb-true x.formal i parts.1 in
        let q : IsNode p x = node_is p g h.are (place_of g n i) x e in
        let owner : q.owner ≡ f = same_some q.owner f (sym q.formal.own ∙ (ap (slice_get p.program.functions) function ∙ formal.own)) in
        let register : q.register ≡ r = same_some q.register r (sym q.formal.declared ∙ ((λ j. slice_get (owner j).params (place j)) ∙ formal.declared)) in
        record {
          node = x;
          there = ap (node_at g.nodes) (node_stands g n i (is_found p g h n i f r formal)) ∙ e;
          function = function;
          formal = place;
          scalar = q.scalar ∙ ap (λ (y : Register). y.scalar) register;
          addressed = subst (λ (y : Function). (x.addressed ≡ true) ↔ IsAddressed p.program y.name) owner q.addressed;
        }

-- ---- lists

pub none_past : {A : Type 0} (xs : List A) (k : ℕ) → slice_get xs k ≡ None → length xs ≤ k
none_past [] k e = omega arith
none_past (x ∷ xs) zero e = cc
none_past (x ∷ xs) (suc k) e = let l = none_past xs k e in omega (arith, l)

mapped_at : {A B : Type 0} (f : A → B) (xs : List A) (k : ℕ) (x : A) (d : B) → slice_get xs k ≡ Some x → get_or (map f xs) k d ≡ f x
mapped_at f xs k x d e = get_or-map f xs k x d (slice_get_within xs k x e) ∙ ap f (get_or_from_slice_get xs k x x e)

-- ---- the values of nodes by rows

abbrev pub values_by : Numbering → List (List AbsVal) → List AbsVal
values_by g rows = none_val ∷ map (λ (x : Node). row_value rows x.function x.formal) g.nodes

pub value_by : (g : Numbering) (rows : List (List AbsVal)) (k : ℕ) (x : Node) (d : AbsVal) → node_at g.nodes k ≡ Some x → get_or (values_by g rows) k d ≡ row_value rows x.function x.formal
value_by g rows zero x d e = cc
value_by g rows (suc k) x d e = mapped_at (λ (x : Node). row_value rows x.function x.formal) g.nodes k x d e

-- what is no formal has no value
pub no_formal : (p : Sealed) (rows : List (List AbsVal)) → AreRows p rows → (n i : ℕ) (f : Function) → slice_get p.program.functions n ≡ Some f → slice_get f.params i ≡ None → row_value rows n i ≡ none_val
no_formal p rows h n i f own e = let l = none_past f.params i e in let c = h.counts n f own in get_or_past (get_or rows n []) i none_val (omega (arith, l, c))

pub value_there : (p : Sealed) (g : Numbering) → IsNumbering p g → (rows : List (List AbsVal)) → AreRows p rows → (n i : ℕ) (f : Function) (d : AbsVal) → slice_get p.program.functions n ≡ Some f → get_or (values_by g rows) (node_of g n i) d ≡ row_value rows n i
value_there p g h rows are n i f d own = by (slice_get f.params i) refl
  where
    nowhere : slice_get f.params i ≡ None → (o : Option Node) → node_at g.nodes (place_of g n i) ≡ o → is_node n i o ≡ false
    nowhere e None at = refl
    nowhere e (Some x) at = step (is_node n i (Some x)) refl
      where
        step : (b : Bool) → is_node n i (Some x) ≡ b → b ≡ false
        step false t = refl
        step true t =
            let parts = and_parts (eqb x.function n) (eqb x.formal i) t in
            let function = eqb-true x.function n parts.0 in
            let place = eqb-true x.formal i parts.1 in
            let q : IsNode p x = node_is p g h.are (place_of g n i) x at in
            let owner : q.owner ≡ f = same_some q.owner f (sym q.formal.own ∙ (ap (slice_get p.program.functions) function ∙ own)) in
            let clash : Some q.register ≡ None = sym q.formal.declared ∙ ((λ j. slice_get (owner j).params (place j)) ∙ e) in
            cc

    by : (o : Option Register) → slice_get f.params i ≡ o → get_or (values_by g rows) (node_of g n i) d ≡ row_value rows n i
    by (Some r) e = let x = found_node p g h n i f r (record { own = own; declared = e }) in value_by g rows (node_of g n i) x.node d x.there ∙ (λ j. row_value rows (x.function j) (x.formal j))
    by None e = ap (λ k. get_or (values_by g rows) k d) (node_lacks g n i (nowhere e (node_at g.nodes (place_of g n i)) refl)) ∙ sym (no_formal p rows are n i f own e)

-- ---- the rows of values of nodes

row_length : (g : Numbering) (xs : List AbsVal) (n i : ℕ) (rs : List Register) → length (row_from g xs n i rs) ≡ length rs
unfolding row_from
row_length g xs n i [] = refl
row_length g xs n i (r ∷ rs) = let e = row_length g xs n (i + 1) rs in omega (arith, e)

row_at : (g : Numbering) (xs : List AbsVal) (n first : ℕ) (rs : List Register) (i : ℕ) (r : Register) → slice_get rs i ≡ Some r → get_or (row_from g xs n first rs) i none_val ≡ value_of g xs n (first + i)
unfolding row_from
row_at g xs n first [] i r e = cc
row_at g xs n first (s ∷ rs) zero r e = ap (λ k. value_of g xs n k) (omega arith)
row_at g xs n first (s ∷ rs) (suc i) r e = let z : (first + 1) + i ≡ first + suc i = omega arith in row_at g xs n (first + 1) rs i r e ∙ ap (λ k. value_of g xs n k) z

rows_length : (g : Numbering) (xs : List AbsVal) (n : ℕ) (fs : List Function) → length (rows_from g xs n fs) ≡ length fs
unfolding rows_from
rows_length g xs n [] = refl
rows_length g xs n (f ∷ fs) = let e = rows_length g xs (n + 1) fs in omega (arith, e)

rows_at : (g : Numbering) (xs : List AbsVal) (first : ℕ) (fs : List Function) (n : ℕ) (f : Function) → slice_get fs n ≡ Some f → get_or (rows_from g xs first fs) n [] ≡ row_from g xs (first + n) 0 f.params
unfolding rows_from
rows_at g xs first [] n f e = cc
rows_at g xs first (h ∷ fs) zero f e =
    let same : h ≡ f = cc in
    let z : first ≡ first + 0 = omega arith in
    λ j. row_from g xs (z j) 0 (same j).params
rows_at g xs first (h ∷ fs) (suc n) f e = let z : (first + 1) + n ≡ first + suc n = omega arith in rows_at g xs (first + 1) fs n f e ∙ ap (λ k. row_from g xs k 0 f.params) z

row_is : (g : Numbering) (xs : List AbsVal) (fs : List Function) (n : ℕ) (f : Function) → slice_get fs n ≡ Some f → get_or (rows_from g xs 0 fs) n [] ≡ row_from g xs n 0 f.params
row_is g xs fs n f e = let z : 0 + n ≡ n = omega arith in rows_at g xs 0 fs n f e ∙ ap (λ k. row_from g xs k 0 f.params) z

pub made_rows : (p : Sealed) (g : Numbering) (xs : List AbsVal) → AreRows p (rows_from g xs 0 p.program.functions)
made_rows p g xs = record {
  count = rows_length g xs 0 p.program.functions;
  counts = λ n f own. ap (λ (row : List AbsVal). length row) (row_is g xs p.program.functions n f own) ∙ row_length g xs n 0 f.params;
}

pub made_value : (p : Sealed) (g : Numbering) (xs : List AbsVal) (n i : ℕ) (f : Function) (r : Register) → IsFormal p n i f r → row_value (rows_from g xs 0 p.program.functions) n i ≡ value_of g xs n i
made_value p g xs n i f r formal =
    let z : 0 + i ≡ i = omega arith in
    ap (λ (row : List AbsVal). get_or row i none_val) (row_is g xs p.program.functions n f formal.own) ∙ (row_at g xs n 0 f.params i r formal.declared ∙ ap (λ k. value_of g xs n k) z)
