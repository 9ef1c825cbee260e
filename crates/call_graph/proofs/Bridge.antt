-- The edges of a program are of its calls by name.
use Rattle.std.proofs.Common.{◌≡◌, ℕ, ◌+◌, ◌<◌, ◌==◌, ◌⊎◌, inl, inr, Bool, true, false, List, [], ◌∷◌, map, length, get_or, Some, sym, ◌∙◌, ap, subst, arith, slice_get, option_map}
use Rattle.std.specs.List.{Contains}
use Rattle.std.proofs.lemmas.Option.{slice_get_within, slice_get-map}
use Rattle.gimple_ir.specs.declared.point.Edge.{Edge}
use Rattle.gimple_ir.specs.declared.program.Function.{Function}
use Rattle.gimple_ir.specs.declared.program.Program.{Program}
use Rattle.call_graph.specs.Calls.{names_of, number_in, edges_of, callees_in, with_callee, callees_of, function_edges}
use Rattle.std.proofs.lemmas.Bool.Decides.{eqb_tells}
use Rattle.std.proofs.lemmas.List.Elements.{Contains-append_cases}
use Rattle.graph_walk.proofs.Parting.{here, later}
use Rattle.call_graph.proofs.Called.{CalledInBlocks}
use Rattle.call_graph.proofs.Callees.{CallsStand}
use Rattle.call_graph.proofs.Calling.{IsCallOf, functions_made, functions_make}

pub name_of : (fs : List Function) (k : ℕ) (f : Function) → slice_get fs k ≡ Some f → slice_get (map (λ g. g.name) fs) k ≡ Some f.name
name_of fs k f h = slice_get-map (λ g. g.name) fs k ∙ ap (option_map (λ g. g.name)) h

module _ (p : Program) where
  -- the call that an edge comes from
  pub edge_from : (a b : ℕ) → Contains (callees_of p a) b → IsCallOf (names_of p) 0 a b p.functions
  unfolding edges_of
  edge_from a b h = functions_made (names_of p) a b 0 p.functions h

  -- a call makes an edge
  pub edge_to : (a : ℕ) (f : Function) (name : List ℕ) → slice_get p.functions a ≡ Some f → CalledInBlocks name f.blocks → Contains (callees_of p a) (number_in (names_of p) name)
  unfolding edges_of
  edge_to a f name h r =
      let P : ℕ → Type 0 = λ k. Contains (callees_in (function_edges (names_of p) 0 p.functions) k) (number_in (names_of p) name) in
      let sum : 0 + a ≡ a = omega arith in
      subst P sum (functions_make (names_of p) 0 a name p.functions f h r)

  -- edges lead to functions
  pub edge_ends : CallsStand p → (a b : ℕ) → Contains (callees_of p a) b → b < length p.functions
  edge_ends stand a b h =
      let call = edge_from a b h in
      let low = stand.callees call.place call.function call.call.name call.stands call.call.calls in
      omega (arith, low, call.call.callee)

edge_listed : (es : List Edge) (e : Edge) → Contains es e → Contains (callees_in es e.caller) e.callee
unfolding callees_in
edge_listed [] e (k, low, _) = let none : ⊥ = omega (arith, low) in elim none [ ]
edge_listed (d ∷ es) e h = elim (Contains-append_cases (d ∷ []) es e h) [
  | inl (k, low, is) ↦ first k (omega (arith, low)) is
  | inr rest ↦ more (e.caller == d.caller) (edge_listed es e rest)
]
  where
    more : (b : Bool) → Contains (callees_in es e.caller) e.callee → Contains (with_callee b d.callee (callees_in es e.caller)) e.callee
    more true r = later d.callee (callees_in es e.caller) e.callee r
    more false r = r

    same_first : (b : Bool) → ((b ≡ true) × (e.caller ≡ d.caller)) ⊎ ((b ≡ false) × (e.caller ≡ d.caller → ⊥)) → d ≡ e → Contains (with_callee b d.callee (callees_in es e.caller)) e.callee
    same_first true t is = let P : Edge → Type 0 = λ x. Contains (d.callee ∷ callees_in es e.caller) x.callee in subst P is (here d.callee (callees_in es e.caller))
    same_first false (inl t) is = cc t.0
    same_first false (inr t) is = let none = t.1 (ap (λ (x : Edge). x.caller) (sym is)) in elim none [ ]

    first : (k : ℕ) → k ≡ 0 → get_or (d ∷ []) k e ≡ e → Contains (with_callee (e.caller == d.caller) d.callee (callees_in es e.caller)) e.callee
    first k zero_is is = let P : ℕ → Type 0 = λ i. get_or (d ∷ []) i e ≡ e in same_first (e.caller == d.caller) (eqb_tells e.caller d.caller) (subst P zero_is is)

-- each edge is of a function
pub edge_begins : (p : Program) (e : Edge) → Contains (edges_of p) e → e.caller < length p.functions
edge_begins p e h =
    let call = edge_from p e.caller e.callee (edge_listed (edges_of p) e h) in
    let low = slice_get_within p.functions call.place call.function call.stands in
    omega (arith, low, call.call.caller)

pub edges_are : (p : Program) (fs callees : List Function) (es : List Edge) → fs ≡ p.functions → callees ≡ fs → es ≡ function_edges (map (λ f. f.name) callees) 0 fs → es ≡ edges_of p
unfolding edges_of
edges_are p fs callees es f n e =
    let named : map (λ g. g.name) callees ≡ names_of p = ap (map (λ (g : Function). g.name)) (n ∙ f) in
    e ∙ (λ i. function_edges (named i) 0 (f i))
