-- The dump of a program's call graph.
use Rattle.std.specs.Prelude.{◌≡◌, ℕ, Bool, true, false, List, [], length}
use Rattle.gimple_ir.specs.declared.program.Program.{Program}
use Rattle.call_graph.specs.Calls.{callees_of, edges_of}
use Rattle.call_graph.specs.Graph.{IsOrder}
use Rattle.ipa_dumps.specs.Dumps.{cgraph_text}

-- The strong components in their order, of which there is one, and the calls in file order.
pub record IsGraphDump (p : Program) (text : List ℕ) : Type 0 where
  pub components : List (List ℕ)
  pub order : IsOrder (callees_of p) (length p.functions) components
  pub lines : text ≡ cgraph_text p (record { components = components; edges = edges_of p })

-- the dump where it is asked for; else no text is made
abbrev pub IsGraphText : Bool → Program → List ℕ → Type 0
IsGraphText true p text = IsGraphDump p text
IsGraphText false p text = text ≡ []
