-- Which calls make the edges of a function.
use Rattle.std.proofs.Common.{◌≡◌, ℕ, zero, suc, ◌+◌, ◌==◌, ◌⊎◌, inl, inr, Bool, true, false, List, [], ◌∷◌, ◌++◌, Option, Some, None, refl, sym, ap, ◌∙◌, subst, arith, slice_get}
use Rattle.std.specs.List.{Contains}
use Rattle.std.proofs.lemmas.Bool.Decides.{eqb_tells}
use Rattle.std.proofs.lemmas.List.Elements.{Contains-append_cases, Contains-append_left, Contains-append_right}
use Rattle.gimple_ir.specs.declared.block.Block.{Block}
use Rattle.gimple_ir.specs.declared.point.Edge.{Edge}
use Rattle.gimple_ir.specs.declared.point.Point.{Point}
use Rattle.gimple_ir.specs.declared.program.Function.{Function}
use Rattle.gimple_ir.specs.declared.statement.Stmt.{Stmt}
use Rattle.gimple_core.specs.Run.{Callee, Named, Through, Calling, call_of}
use Rattle.call_graph.specs.Calls.{number_in, callee_edges, call_edges, body_edges, block_edges, function_edges, callees_in, with_callee}
use Rattle.graph_walk.proofs.Parting.{nothing, single, here}
use Rattle.call_graph.proofs.Called.{CalledIn, CalledInBlocks}

-- the callees in two lists of edges
callees_append : (a : ℕ) (xs ys : List Edge) → callees_in (xs ++ ys) a ≡ callees_in xs a ++ callees_in ys a
unfolding callees_in
callees_append a [] ys = refl
callees_append a (e ∷ xs) ys = by (a == e.caller) (callees_append a xs ys)
  where
    by : (b : Bool) → callees_in (xs ++ ys) a ≡ callees_in xs a ++ callees_in ys a → with_callee b e.callee (callees_in (xs ++ ys) a) ≡ with_callee b e.callee (callees_in xs a) ++ callees_in ys a
    by true h = λ i. e.callee ∷ h i
    by false h = h

in_left : (a b : ℕ) (xs ys : List Edge) → Contains (callees_in xs a) b → Contains (callees_in (xs ++ ys) a) b
in_left a b xs ys h = let P : List ℕ → Type 0 = λ l. Contains l b in subst P (sym (callees_append a xs ys)) (Contains-append_left (callees_in xs a) (callees_in ys a) b h)

in_right : (a b : ℕ) (xs ys : List Edge) → Contains (callees_in ys a) b → Contains (callees_in (xs ++ ys) a) b
in_right a b xs ys h = let P : List ℕ → Type 0 = λ l. Contains l b in subst P (sym (callees_append a xs ys)) (Contains-append_right (callees_in xs a) (callees_in ys a) b h)

in_one : (a b : ℕ) (xs ys : List Edge) → Contains (callees_in (xs ++ ys) a) b → Contains (callees_in xs a) b ⊎ Contains (callees_in ys a) b
in_one a b xs ys h = let P : List ℕ → Type 0 = λ l. Contains l b in Contains-append_cases (callees_in xs a) (callees_in ys a) b (subst P (callees_append a xs ys) h)

-- ---- from edges to calls

-- a call of function f whose callee has the number b
pub record IsCallAt (names : List (List ℕ)) (a b f : ℕ) (Calls : List ℕ → Type 0) : Type 0 where
  pub caller : a ≡ f
  pub name : List ℕ
  pub calls : Calls name
  pub callee : number_in names name ≡ b

callee_made : (names : List (List ℕ)) (a b : ℕ) (point : Point) (o : Callee) → Contains (callees_in (callee_edges names point o) a) b → (a ≡ point.function) × ((name : List ℕ) × (o ≡ Named name) × (number_in names name ≡ b))
unfolding callees_in
callee_made names a b point (Through name signature) h = absurd (nothing b h)
callee_made names a b point (Named name) h = by (a == point.function) (eqb_tells a point.function) h
  where
    by : (t : Bool) → ((t ≡ true) × (a ≡ point.function)) ⊎ ((t ≡ false) × (a ≡ point.function → ⊥)) → Contains (with_callee t (number_in names name) []) b → (a ≡ point.function) × ((other : List ℕ) × (Named name ≡ Named other) × (number_in names other ≡ b))
    by true (inl same) k = (same.1, (name, refl, single (number_in names name) b k))
    by true (inr other) k = cc other.0
    by false t k = absurd (nothing b k)

call_made : (names : List (List ℕ)) (a b : ℕ) (point : Point) (x : Stmt) (xs : List Stmt) (o : Option Calling) → call_of x ≡ o → Contains (callees_in (call_edges names point o) a) b → IsCallAt names a b point.function (λ name. CalledIn name (x ∷ xs))
unfolding callees_in
call_made names a b point x xs None e h = absurd (nothing b h)
call_made names a b point x xs (Some c) e h =
    let (caller, (name, is, number)) = callee_made names a b point c.callee h in
    record { caller = caller; name = name; calls = CalledIn.here x xs c e is; callee = number }

pub body_made : (names : List (List ℕ)) (a b f block index : ℕ) (xs : List Stmt) → Contains (callees_in (body_edges names f block index xs) a) b → IsCallAt names a b f (λ name. CalledIn name xs)
unfolding body_edges callees_in
body_made names a b f block index [] h = let none = nothing b h in elim none [ ]
body_made names a b f block index (x ∷ xs) h =
    let point : Point = record { function = f; block = block; index = index } in
    elim (in_one a b (call_edges names point (call_of x)) (body_edges names f block (index + 1) xs) h) [
      | inl first ↦ call_made names a b point x xs (call_of x) refl first
      | inr rest ↦
          let r = body_made names a b f block (index + 1) xs rest in
          record { caller = r.caller; name = r.name; calls = CalledIn.later x xs r.calls; callee = r.callee }
    ]

pub blocks_made : (names : List (List ℕ)) (a b f block : ℕ) (bs : List Block) → Contains (callees_in (block_edges names f block bs) a) b → IsCallAt names a b f (λ name. CalledInBlocks name bs)
unfolding block_edges callees_in
blocks_made names a b f block [] h = let none = nothing b h in elim none [ ]
blocks_made names a b f block (x ∷ xs) h =
    elim (in_one a b (body_edges names f block 0 x.body) (block_edges names f (block + 1) xs) h) [
      | inl first ↦
          let r = body_made names a b f block 0 x.body first in
          record { caller = r.caller; name = r.name; calls = CalledInBlocks.here x xs r.calls; callee = r.callee }
      | inr rest ↦
          let r = blocks_made names a b f (block + 1) xs rest in
          record { caller = r.caller; name = r.name; calls = CalledInBlocks.later x xs r.calls; callee = r.callee }
    ]

-- a call in the function with the number a, which is the k-th of these
pub record IsCallOf (names : List (List ℕ)) (first a b : ℕ) (fs : List Function) : Type 0 where
  pub place : ℕ
  pub function : Function
  pub stands : slice_get fs place ≡ Some function
  pub call : IsCallAt names a b (first + place) (λ name. CalledInBlocks name function.blocks)

pub functions_made : (names : List (List ℕ)) (a b first : ℕ) (fs : List Function) → Contains (callees_in (function_edges names first fs) a) b → IsCallOf names first a b fs
unfolding function_edges callees_in
functions_made names a b first [] h = let none = nothing b h in elim none [ ]
functions_made names a b first (f ∷ fs) h =
    elim (in_one a b (block_edges names first 0 f.blocks) (function_edges names (first + 1) fs) h) [
      | inl now ↦
          let r = blocks_made names a b first 0 f.blocks now in
          record { place = 0; function = f; stands = refl; call = record { caller = omega (arith, r.caller); name = r.name; calls = r.calls; callee = r.callee } }
      | inr rest ↦
          let r = functions_made names a b (first + 1) fs rest in
          record { place = suc r.place; function = r.function; stands = r.stands; call = record { caller = omega (arith, r.call.caller); name = r.call.name; calls = r.call.calls; callee = r.call.callee } }
    ]

-- ---- from calls to edges

callee_makes : (names : List (List ℕ)) (point : Point) (name : List ℕ) → Contains (callees_in (callee_edges names point (Named name)) point.function) (number_in names name)
unfolding callees_in
callee_makes names point name = by (point.function == point.function) (eqb_tells point.function point.function)
  where
    by : (t : Bool) → ((t ≡ true) × (point.function ≡ point.function)) ⊎ ((t ≡ false) × (point.function ≡ point.function → ⊥)) → Contains (with_callee t (number_in names name) []) (number_in names name)
    by true t = here (number_in names name) []
    by false (inl same) = cc same.0
    by false (inr other) = absurd (other.1 refl)

call_makes : (names : List (List ℕ)) (point : Point) (name : List ℕ) (x : Stmt) (c : Calling) → call_of x ≡ Some c → c.callee ≡ Named name → Contains (callees_in (call_edges names point (call_of x)) point.function) (number_in names name)
call_makes names point name x c e is =
    let named : call_edges names point (call_of x) ≡ callee_edges names point (Named name) = ap (call_edges names point) e ∙ ap (callee_edges names point) is in
    subst (λ es. Contains (callees_in es point.function) (number_in names name)) (sym named) (callee_makes names point name)

pub body_makes : (names : List (List ℕ)) (name : List ℕ) (f block index : ℕ) (xs : List Stmt) → CalledIn name xs → Contains (callees_in (body_edges names f block index xs) f) (number_in names name)
unfolding body_edges
body_makes names name f block index _ (CalledIn.here x xs c e is) =
    let point : Point = record { function = f; block = block; index = index } in
    in_left f (number_in names name) (call_edges names point (call_of x)) (body_edges names f block (index + 1) xs) (call_makes names point name x c e is)
body_makes names name f block index _ (CalledIn.later x xs r) =
    let point : Point = record { function = f; block = block; index = index } in
    in_right f (number_in names name) (call_edges names point (call_of x)) (body_edges names f block (index + 1) xs) (body_makes names name f block (index + 1) xs r)

pub blocks_make : (names : List (List ℕ)) (name : List ℕ) (f block : ℕ) (bs : List Block) → CalledInBlocks name bs → Contains (callees_in (block_edges names f block bs) f) (number_in names name)
unfolding block_edges
blocks_make names name f block _ (CalledInBlocks.here x xs r) = in_left f (number_in names name) (body_edges names f block 0 x.body) (block_edges names f (block + 1) xs) (body_makes names name f block 0 x.body r)
blocks_make names name f block _ (CalledInBlocks.later x xs r) = in_right f (number_in names name) (body_edges names f block 0 x.body) (block_edges names f (block + 1) xs) (blocks_make names name f (block + 1) xs r)

pub functions_make : (names : List (List ℕ)) (first place : ℕ) (name : List ℕ) (fs : List Function) (f : Function) → slice_get fs place ≡ Some f → CalledInBlocks name f.blocks → Contains (callees_in (function_edges names first fs) (first + place)) (number_in names name)
unfolding function_edges
functions_make names first place name [] f e r = cc
functions_make names first zero name (g ∷ fs) f e r =
    let same : g ≡ f = cc in
    let P : ℕ → Type 0 = λ k. Contains (callees_in (function_edges names first (g ∷ fs)) k) (number_in names name) in
    let Q : Function → Type 0 = λ h. CalledInBlocks name h.blocks in
    let sum : first ≡ first + 0 = omega arith in
    subst P sum (in_left first (number_in names name) (block_edges names first 0 g.blocks) (function_edges names (first + 1) fs) (blocks_make names name first 0 g.blocks (subst Q (sym same) r)))
functions_make names first (suc place) name (g ∷ fs) f e r =
    let P : ℕ → Type 0 = λ k. Contains (callees_in (function_edges names first (g ∷ fs)) k) (number_in names name) in
    let sum : first + 1 + place ≡ first + suc place = omega arith in
    subst P sum (in_right (first + 1 + place) (number_in names name) (block_edges names first 0 g.blocks) (function_edges names (first + 1) fs) (functions_make names (first + 1) place name fs f e r))
