-- Rows of targets by their numbers.
use Rattle.std.proofs.Common.{◌≡◌, ℕ, ◌<◌, List, [], ◌∷◌, ◌++◌, length, get_or, sym, ◌∙◌, ap, arith, Vec}
use Rattle.std.specs.declared.alloc.Global.{Global}
use Rattle.std.proofs.lemmas.List.{get_or-map, get_or_append_left, get_or_at, map-append, length-map}
use Rattle.graph_walk.specs.Walk.{listed, row_at}

pub row_is : (rows : List (Vec ℕ Global)) (i : ℕ) (v : Vec ℕ Global) → i < length rows → v ≡ get_or rows i v → v.items ≡ row_at rows i
row_is rows i v low is =
    let items = λ (x : Vec ℕ Global). x.items in
    ap items is ∙ sym (get_or-map items rows i v [] low)

pub listed_length : (rows : List (Vec ℕ Global)) → length (listed rows) ≡ length rows
listed_length rows = length-map rows (λ v. v.items)

-- the rows after one more
pub row_before : (rows : List (Vec ℕ Global)) (v : Vec ℕ Global) (b : ℕ) → b < length rows → row_at (rows ++ v ∷ []) b ≡ row_at rows b
row_before rows v b low =
    ap (λ (xs : List (List ℕ)). get_or xs b []) (map-append (λ (x : Vec ℕ Global). x.items) rows (v ∷ []))
    ∙ get_or_append_left (listed rows) (v.items ∷ []) [] b (omega (arith, low, listed_length rows))

pub row_last : (rows : List (Vec ℕ Global)) (v : Vec ℕ Global) → row_at (rows ++ v ∷ []) (length rows) ≡ v.items
row_last rows v =
    ap (λ (xs : List (List ℕ)). get_or xs (length rows) []) (map-append (λ (x : Vec ℕ Global). x.items) rows (v ∷ []))
    ∙ get_or_at (listed rows) v.items [] [] (length rows) (listed_length rows)
