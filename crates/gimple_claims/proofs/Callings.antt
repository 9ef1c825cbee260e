-- Calls in a program and in one made of instances: alike where the names of what they call are.
use Rattle.std.proofs.Common.{◌≡◌, ℕ, Bool, true, false, List, refl, ◌∙◌, ap, Option, Some, None}
use Rattle.gimple_ir.specs.declared.value.Value.{Value}
use Rattle.gimple_ir.specs.declared.value.Value.TheVariants.{Int, Null, At, Code}
use Rattle.gimple_ir.specs.declared.statement.Signature.{Signature}
use Rattle.gimple_ir.specs.declared.program.Function.{Function}
use Rattle.gimple_core.specs.Sealed.{Sealed}
use Rattle.gimple_core.specs.State.{State, scope_of, value_in}
use Rattle.gimple_core.specs.Run.{Callee, Named, Through, function_named, has_signature, called_by_name, called_with, called_through, called_function, step, Moves, Reaches, CallEntry}
use Rattle.gimple_core.specs.Trace.{Event, told, after}
use Rattle.gimple_claims.proofs.Specialised.{Instances, instance, CalleesAlike}
use Rattle.gimple_claims.proofs.Callees.{called_if}

module _ (I : Instances) (Fits : List Event → ℕ → ℕ → Type 0) (p : Sealed) (past : List Event) (s : State) where
  -- what a name means in each program: nothing, or a function and an instance of it whose facts an entry meets
  abbrev pub NamesAlike : Option Function → Option Function → Type 0
  NamesAlike None o = o ≡ None
  NamesAlike (Some f) o = (j : ℕ) × (I.source j ≡ f) × (o ≡ Some (instance I j)) × ((t : State) → step p s ≡ Reaches (Moves CallEntry t) → Fits (after past (told p s)) s.next j)

  -- calls by name
  pub named_alike : (o r : Option Function) → NamesAlike o r → CalleesAlike I Fits p past s (called_by_name o) (called_by_name r)
  named_alike None r h = ap called_by_name h
  named_alike (Some f) r h = record { number = h.0; source = h.1; callee = ap called_by_name h.2; fits = h.3 }

  signed_alike : (signature : Signature) (f : Function) (r : Option Function) → NamesAlike (Some f) r → (b : Bool) → has_signature signature f ≡ b → CalleesAlike I Fits p past s (called_if b f) (called_with signature r)
  signed_alike signature f r h true e =
      let fits : has_signature signature (I.source h.0) ≡ true = ap (has_signature signature) h.1 ∙ e in
      record { number = h.0; source = h.1; callee = ap (called_with signature) h.2 ∙ rw fits refl; fits = h.3 }
  signed_alike signature f r h false e =
      let differs : has_signature signature (I.source h.0) ≡ false = ap (has_signature signature) h.1 ∙ e in
      ap (called_with signature) h.2 ∙ rw differs refl

  with_alike : (signature : Signature) (o r : Option Function) → NamesAlike o r → CalleesAlike I Fits p past s (called_with signature o) (called_with signature r)
  with_alike signature None r h = ap (called_with signature) h
  with_alike signature (Some f) r h = signed_alike signature f r h (has_signature signature f) refl

  -- calls through a register, where the name of the function that it holds means alike
  pub through_alike : (gs : List Function) (signature : Signature) (v : Value) → ((name : List ℕ) → v ≡ Code name → NamesAlike (function_named name p.program.functions) (function_named name gs)) →
      CalleesAlike I Fits p past s (called_through p.program.functions signature v) (called_through gs signature v)
  through_alike gs signature (Int z) h = refl
  through_alike gs signature Null h = refl
  through_alike gs signature (At object offset) h = refl
  through_alike gs signature (Code name) h = with_alike signature (function_named name p.program.functions) (function_named name gs) (h name refl)

  -- calls of one callee, where each name means alike
  pub callees_alike : (gs : List Function) → ((name : List ℕ) → NamesAlike (function_named name p.program.functions) (function_named name gs)) → (c : Callee) →
      CalleesAlike I Fits p past s (called_function p.program.functions (scope_of s.top) s.world.registers c) (called_function gs (scope_of s.top) s.world.registers c)
  callees_alike gs h (Named name) = named_alike (function_named name p.program.functions) (function_named name gs) (h name)
  callees_alike gs h (Through name signature) = through_alike gs signature (value_in (scope_of s.top) s.world.registers name) (λ other e. h other)
