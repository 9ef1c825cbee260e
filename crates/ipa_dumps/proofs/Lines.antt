-- Lines, one after another.
use Rattle.std.proofs.Common.{◌≡◌, ℕ, ◌+◌, ◌<◌, List, [], ◌∷◌, ◌++◌, length, get_or, take, drop, drop-cons, add-one, append_assoc, append-nil, refl}
use Rattle.std.specs.List.{flat_map}
use Rattle.gimple_ir.specs.declared.point.Edge.{Edge}
use Rattle.gimple_ir.specs.declared.point.Point.{Point}
use Rattle.gimple_ir.specs.declared.program.Program.{Program}
use Rattle.ipa_dumps.specs.Dumps.{component_text, components_text, call_text, indirect_text, edges_before, calls_text}

first_component : (p : Program) (k : ℕ) (c : List ℕ) (cs : List (List ℕ)) → components_text p k (c ∷ cs) ≡ component_text p k c ++ components_text p (k + 1) cs
unfolding components_text
first_component p k c cs = refl

pub one_more : (p : Program) (k : ℕ) (cs : List (List ℕ)) (text : List ℕ) → k < length cs → (text ++ component_text p k (get_or cs k [])) ++ components_text p (k + 1) (drop (k + 1) cs) ≡ text ++ components_text p k (drop k cs)
one_more p k cs text h =
    let c : List ℕ = get_or cs k [] in
    let d : drop k cs ≡ c ∷ drop (k + 1) cs = rw add-one (drop-cons cs k [] h) in
    rw (d, first_component p k c (drop (k + 1) cs)) (append_assoc text (component_text p k c) (components_text p (k + 1) (drop (k + 1) cs)))

no_component : (p : Program) (k : ℕ) → components_text p k [] ≡ []
unfolding components_text
no_component p k = refl

pub no_more : (p : Program) (k : ℕ) (cs : List (List ℕ)) (text : List ℕ) → drop k cs ≡ [] → text ++ components_text p k (drop k cs) ≡ text
no_more p k cs text e = rw (e, no_component p k) (append-nil text)

-- the first of the places of indirect calls
first_place : (p : Program) (at : Point) (places : List Point) (edges : List Edge) → calls_text p (at ∷ places) edges
    ≡ flat_map (call_text p) (take (edges_before at edges) edges) ++ (indirect_text p at ++ calls_text p places (drop (edges_before at edges) edges))
unfolding calls_text
first_place p at places edges = refl

pub one_more_place : (p : Program) (places : List Point) (k : ℕ) (d : Point) (edges : List Edge) (text : List ℕ) → k < length places
    → ((text ++ flat_map (call_text p) (take (edges_before (get_or places k d) edges) edges)) ++ indirect_text p (get_or places k d)) ++ calls_text p (drop (k + 1) places) (drop (edges_before (get_or places k d) edges) edges)
    ≡ text ++ calls_text p (drop k places) edges
one_more_place p places k d edges text h =
    let at = get_or places k d in
    let n = edges_before at edges in
    let front = flat_map (call_text p) (take n edges) in
    let rest = calls_text p (drop (k + 1) places) (drop n edges) in
    let e : drop k places ≡ at ∷ drop (k + 1) places = rw add-one (drop-cons places k d h) in
    rw (e, first_place p at (drop (k + 1) places) edges) (rw (append_assoc (text ++ front) (indirect_text p at) rest) (append_assoc text front (indirect_text p at ++ rest)))

pub no_more_places : (p : Program) (places : List Point) (k : ℕ) (edges : List Edge) (text : List ℕ) → drop k places ≡ [] → text ++ calls_text p (drop k places) edges ≡ text ++ flat_map (call_text p) edges
unfolding calls_text
no_more_places p places k edges text e = rw e refl
