-- The texts of dumps. Each line ends with a line feed. A number of no function has the name of no bytes.
use Rattle.std.specs.Prelude.{ℕ, ◌+◌, List, [], ◌∷◌, ◌++◌, length, take, drop, position, unwrap_or, not, codes, Option, None, Some, slice_get}
use Rattle.std.specs.List.{flat_map}
use Rattle.std.specs.Fmt.{decimal}
use Rattle.gimple_ir.specs.declared.block.Block.{Block}
use Rattle.gimple_ir.specs.declared.point.Edge.{Edge}
use Rattle.gimple_ir.specs.declared.point.Point.{Point}
use Rattle.gimple_ir.specs.declared.program.Function.{Function}
use Rattle.gimple_ir.specs.declared.program.Program.{Program}
use Rattle.ipa_dumps.specs.IndirectCalls.{is_before, indirect_calls}

-- the line that a dump begins with, and the whole dump of a pass that is off
unfoldable pub header_text : List ℕ → List ℕ
header_text pass = codes ";; pass " ++ pass ++ codes "\n"

-- ---- names and places

abbrev pub function_name : Option Function → List ℕ
function_name None = []
function_name (Some f) = f.name

abbrev pub name_at : Program → ℕ → List ℕ
name_at p k = function_name (slice_get p.functions k)

abbrev pub label_text : Option Block → List ℕ
label_text None = []
label_text (Some b) = decimal b.label

abbrev pub label_in : Option Function → ℕ → List ℕ
label_in None block = []
label_in (Some f) block = label_text (slice_get f.blocks block)

-- the function's name, the block's label, and the number of the statement in its block, from 1
unfoldable pub place_text : Program → Point → List ℕ
place_text p point =
    name_at p point.function ++ (codes ":" ++ (label_in (slice_get p.functions point.function) point.block ++ (codes "." ++ decimal (point.index + 1))))

-- ---- the call graph

-- the components in their order, each as its members, and the direct calls in file order
pub record Graph : Type 0 where
  pub components : List (List ℕ)
  pub edges : List Edge

abbrev pub member_text : Program → ℕ → List ℕ
member_text p k = codes " " ++ name_at p k

unfoldable pub component_text : Program → ℕ → List ℕ → List ℕ
component_text p k members = codes "component " ++ (decimal k ++ (codes ":" ++ (flat_map (member_text p) members ++ codes "\n")))

-- the components from this number on
unfoldable pub components_text : Program → ℕ → List (List ℕ) → List ℕ
components_text p k [] = []
components_text p k (c ∷ cs) = component_text p k c ++ components_text p (k + 1) cs

unfoldable pub call_text : Program → Edge → List ℕ
call_text p e = codes "call " ++ (place_text p e.point ++ (codes " -> " ++ (name_at p e.callee ++ codes "\n")))

unfoldable pub indirect_text : Program → Point → List ℕ
indirect_text p at = codes "indirect " ++ (place_text p at ++ codes "\n")

-- how many of the edges come before a place
abbrev pub edges_before : Point → List Edge → ℕ
edges_before at edges = unwrap_or (position (λ e. not (is_before e.point at)) edges) (length edges)

-- the places of indirect calls and the direct calls, each in file order, put together in file order
unfoldable pub calls_text : Program → List Point → List Edge → List ℕ
calls_text p [] edges = flat_map (call_text p) edges
calls_text p (at ∷ places) edges =
    let n = edges_before at edges in
    flat_map (call_text p) (take n edges) ++ (indirect_text p at ++ calls_text p places (drop n edges))

unfoldable pub cgraph_text : Program → Graph → List ℕ
cgraph_text p graph = header_text (codes "cgraph") ++ (components_text p 0 graph.components ++ calls_text p (indirect_calls p) graph.edges)
