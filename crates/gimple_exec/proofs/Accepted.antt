-- An accepted program with fewer than 2^32 globals, and locals in each function, is within the limits of the machine.
use Rattle.std.proofs.Common.{ℕ, zero, suc, ◌<◌, ◌≤◌, ◌^◌, length, get_or, List, [], ◌∷◌, arith}
use Rattle.std.specs.List.{All}
use Rattle.std.proofs.lemmas.List.Elements.{All-nil, All-head, All-tail, All-weaker}
use Rattle.gimple_ir.specs.declared.declarations.Decl.{Decl}
use Rattle.gimple_ir.specs.declared.declarations.StructDef.{StructDef}
use Rattle.gimple_core.specs.Sealed.{Sealed}
use Rattle.gimple_core.specs.Layout.{layout_of, HasLayout}
use Rattle.gimple_core.specs.Accepted.{IsAccepted}
use Rattle.gimple_core.proofs.AcceptedLayouts as layouts
use Rattle.struct_tables.proofs.AcceptedStructs.{accepted_structs}
use Rattle.gimple_exec.specs.Machines.{IsLimited, no_function}

at_any : {X : Type 0} (P : X → Type 0) (xs : List X) (k : ℕ) (none : X) → All P xs → P none → P (get_or xs k none)
at_any P [] zero none h e = e
at_any P [] (suc k) none h e = e
at_any P (x ∷ xs) zero none h e = All-head P x xs h
at_any P (x ∷ xs) (suc k) none h e = at_any P xs k none (All-tail P x xs h) e

abbrev IsSmall : List StructDef → Decl → Type 0
IsSmall structs d = (layout_of structs d).size ≤ 2 ^ 24

pub limited : (p : Sealed) → IsAccepted p.program → length p.program.globals < 2 ^ 32 → All (λ f. length f.locals < 2 ^ 32) p.program.functions → IsLimited p
limited p accepted globals locals = record {
  globals = globals;
  locals = λ k. at_any (λ f. length f.locals < 2 ^ 32) p.program.functions k no_function locals (omega arith);
  structs = accepted_structs p.program accepted;
  global_sizes = All-weaker (λ g. HasLayout p.program.structs g.decl) (λ g. IsSmall p.program.structs g.decl) (λ g h. h.size) p.program.globals (layouts.global_layouts p.program accepted);
  local_sizes = λ k. at_any (λ f. All (IsSmall p.program.structs) f.locals) p.program.functions k no_function
      (All-weaker (λ f. All (HasLayout p.program.structs) f.locals) (λ f. All (IsSmall p.program.structs) f.locals) (λ f h. All-weaker (HasLayout p.program.structs) (IsSmall p.program.structs) (λ d l. l.size) f.locals h) p.program.functions (layouts.local_layouts p.program accepted))
      (All-nil (IsSmall p.program.structs));
}
