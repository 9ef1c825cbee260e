-- A number put behind a row.
use Rattle.std.proofs.Common.{◌≡◌, ◌≢◌, ℕ, ◌+◌, ◌<◌, ◌==◌, inl, inr, Bool, true, List, [], ◌∷◌, ◌++◌, length, set, get_or, drop, sym, ◌∙◌, ap, subst, arith, Vec}
use Rattle.std.specs.declared.alloc.Global.{Global}
use Rattle.std.proofs.lemmas.List.{get_or-set_same, get_or-set_other, map-set, length-map, drop_more}
use Rattle.std.proofs.Math.ListN.{length-set}
use Rattle.std.proofs.lemmas.Bool.Decides.{eqb_tells}
use Rattle.call_graph.specs.Firsts.{pushed_if}
use Rattle.gimple_ir.specs.declared.point.Edge.{Edge}
use Rattle.call_graph.specs.Walk.{listed, row_at}
use Rattle.graph_walk.proofs.Parting.{push_then}
pub use Rattle.graph_walk.proofs.WalkRows.{row_is, listed_length, row_before, row_last}
use Rattle.call_graph.specs.Calls.{callees_in, with_callee}

row_added : (rows : List (List ℕ)) (e : Edge) (rest : List Edge) (a : ℕ) → e.caller < length rows
    → get_or (set rows e.caller (get_or rows e.caller [] ++ e.callee ∷ [])) a [] ++ callees_in rest a ≡ get_or rows a [] ++ callees_in (e ∷ rest) a
unfolding callees_in
row_added rows e rest a low =
    let new = get_or rows e.caller [] ++ e.callee ∷ [] in
    let P : ℕ → Type 0 = λ i. get_or (set rows e.caller new) i [] ++ callees_in rest a ≡ get_or rows i [] ++ callees_in (e ∷ rest) a in
    let Q : ℕ → Bool → Type 0 = λ i is. get_or (set rows e.caller new) i [] ++ callees_in rest a ≡ get_or rows i [] ++ with_callee is e.callee (callees_in rest a) in
    elim (eqb_tells a e.caller) [
      | inl same ↦ subst P (sym same.1) (subst (Q e.caller) (sym same.0) (ap (λ (r : List ℕ). r ++ callees_in rest a) (get_or-set_same rows e.caller new [] low) ∙ push_then (get_or rows e.caller []) (callees_in rest a) e.callee))
      | inr other ↦ subst (Q a) (sym other.0) (ap (λ (r : List ℕ). r ++ callees_in rest a) (get_or-set_other rows e.caller a new [] other.1))
    ]

pub rows_step : (rows news : List (Vec ℕ Global)) (es : List Edge) (i : ℕ) (d : Edge) → i < length es → (get_or es i d).caller < length rows
    → listed news ≡ set (listed rows) (get_or es i d).caller (row_at rows (get_or es i d).caller ++ (get_or es i d).callee ∷ [])
    → (a : ℕ) → row_at news a ++ callees_in (drop (i + 1) es) a ≡ row_at rows a ++ callees_in (drop i es) a
rows_step rows news es i d inside low is a =
    let e = get_or es i d in
    let fits : e.caller < length (listed rows) = omega (arith, low, length-map rows (λ v. v.items)) in
    let P : List (List ℕ) → Type 0 = λ xs. get_or xs a [] ++ callees_in (drop (i + 1) es) a ≡ row_at rows a ++ callees_in (e ∷ drop (i + 1) es) a in
    let Q : List Edge → Type 0 = λ xs. row_at news a ++ callees_in (drop (i + 1) es) a ≡ row_at rows a ++ callees_in xs a in
    subst Q (sym (drop_more es i d inside)) (subst P (sym is) (row_added (listed rows) e (drop (i + 1) es) a fits))

-- a row after some numbers were put behind it
pub row_longer : (rows : List (Vec ℕ Global)) (i : ℕ) (more : List ℕ) (old new : Vec ℕ Global) → i < length rows → old ≡ get_or rows i old → new.items ≡ old.items ++ more → listed (set rows i new) ≡ set (listed rows) i (row_at rows i ++ more)
row_longer rows i more old new low is longer =
    let items = λ (x : Vec ℕ Global). x.items in
    map-set items rows i new ∙ ap (λ (r : List ℕ). set (listed rows) i r) (longer ∙ ap (λ (r : List ℕ). r ++ more) (row_is rows i old low is))

-- a row after a number was put behind it, and the others
module _ (olds news : List (Vec ℕ Global)) (r : ℕ) (row : List ℕ) (inside : r < length olds) (is : listed news ≡ set (listed olds) r row) where
  pub row_set : row_at news r ≡ row
  row_set = ap (λ (rows : List (List ℕ)). get_or rows r []) is ∙ get_or-set_same (listed olds) r row [] (omega (arith, inside, listed_length olds))

  pub row_not_set : (a : ℕ) → a ≢ r → row_at news a ≡ row_at olds a
  row_not_set a other = ap (λ (rows : List (List ℕ)). get_or rows a []) is ∙ get_or-set_other (listed olds) r a row [] other

  pub set_one_each : length news ≡ length olds
  set_one_each = sym (listed_length news) ∙ ap length is ∙ length-set (listed olds) r row ∙ listed_length olds

pub member_row : (olds news : List (Vec ℕ Global)) (r m : ℕ) → r < length olds → listed news ≡ set (listed olds) r (row_at olds r ++ m ∷ []) → (a : ℕ) → row_at news a ≡ pushed_if (a == r) m (row_at olds a)
member_row olds news r m low is a =
    let P : Bool → ℕ → Type 0 = λ b i. row_at news i ≡ pushed_if b m (row_at olds i) in
    elim (eqb_tells a r) [
      | inl same ↦
          let Q : ℕ → Type 0 = λ i. row_at news i ≡ pushed_if true m (row_at olds i) in
          let R : Bool → Type 0 = λ b. P b a in
          subst R (sym same.0) (subst Q (sym same.1) (row_set olds news r (row_at olds r ++ m ∷ []) low is))
      | inr other ↦ let R : Bool → Type 0 = λ b. P b a in subst R (sym other.0) (row_not_set olds news r (row_at olds r ++ m ∷ []) low is a other.1)
    ]
