-- Each frame has the registers of its function.
use Rattle.std.proofs.Common.{◌≡◌, ℕ, suc, ◌+◌, ℤ, List, [], ◌∷◌, length, length-append, refl, sym, ◌∙◌, ap, subst, Option, Some, None}
use Rattle.std.specs.List.{AllByRecursion}
use Rattle.std.proofs.lemmas.List.{length-set}
use Rattle.gimple_ir.specs.declared.declarations.Register.{Register}
use Rattle.gimple_ir.specs.declared.value.Value.{Value}
use Rattle.gimple_ir.specs.declared.block.Block.{Block}
use Rattle.gimple_ir.specs.declared.program.Function.{Function}
use Rattle.gimple_core.specs.Sealed.{Sealed}
use Rattle.gimple_core.specs.State.{Frame, World, State, put_at, registers_of, scope_of, setting_of}
use Rattle.gimple_core.specs.Run.{Did, step, given, values_made, registers_made, function_named, main_name, begun, begun_by}
use Rattle.gimple_core.specs.Trace.{Event, told, after}
use Rattle.gimple_claims.specs.Laws.{HasRegisters, StateHasRegisters, RegistersAreDeclared}
use Rattle.gimple_claims.proofs.Comes.{InDid, holds}
use Rattle.gimple_claims.proofs.Steps.{Steps, acts, calls, jumps, leaves, stops, traps, step_is}
use Rattle.gimple_claims.proofs.Acts.{Acts, assigns, takes, prints, stores, acts_is}

pub put_length : (values : List Value) (to : Option ℕ) (v : Value) → length (put_at values to v) ≡ length values
put_length values None v = refl
put_length values (Some k) v = length-set values k v

acted_length : (m w : World) → Acts m w → length w.registers ≡ length m.registers
acted_length m _ (assigns to v) = put_length m.registers to v
acted_length m _ (takes to v) = put_length m.registers to v
acted_length m _ (prints output) = refl
acted_length m _ (stores at scalar v f e c) = refl

given_length : (values : List Value) (to : Option ℕ) (v : Option Value) → length (given values to v) ≡ length values
given_length values to None = refl
given_length values to (Some v) = put_length values to v

made_length : (rs : List Register) (vs : List Value) (k : ℕ) → length (values_made rs vs k) ≡ length rs
unfolding values_made
made_length [] vs k = refl
made_length (r ∷ rs) vs k = ap suc (made_length rs vs (k + 1))

entered_length : (f : Function) (vs : List Value) → length (registers_made f vs) ≡ length (registers_of f)
entered_length f vs =
    length-append (values_made f.params vs 0) (values_made f.registers [] 0)
    ∙ ((λ i. made_length f.params vs 0 i + made_length f.registers [] 0 i) ∙ sym (length-append f.params f.registers))

abbrev FramesHave : List Frame → Type 0
FramesHave fs = AllByRecursion (λ (f : Frame). HasRegisters f.control f.registers) fs

abbrev Has : List Event → State → Type 0
Has past s = StateHasRegisters s

has_did : (p : Sealed) (past : List Event) (s : State) → Has past s → (d : Did) → Steps p s d → InDid (Has (after past (told p s))) d
has_did p past s h _ (acts x xs w e n r) = record { top = acted_length s.world w (acts_is (setting_of p) (scope_of s.top) x s.world w r) ∙ h.top; below = h.below }
has_did p past s h _ (calls x xs c g b bs e n f y) = record { top = entered_length g _; below = (h.top, h.below) }
has_did p past s h _ (jumps label k b e x f) = record { top = h.top; below = h.below }
has_did p past s h _ (leaves v f fs e x y) =
    let rest : FramesHave (f ∷ fs) = subst FramesHave y h.below in
    record { top = given_length f.registers s.top.takes v ∙ rest.0; below = rest.1 }
has_did p past s h _ (stops o z) = tt
has_did p past s h _ (traps o k) = tt

abbrev HasFirst : Option State → Type 0
HasFirst None = Unit {0}
HasFirst (Some s) = StateHasRegisters s

begun_has : (p : Sealed) (input : List ℤ) (f : Function) (bs : List Block) → HasFirst (begun p.program input f bs)
begun_has p input f [] = tt
begun_has p input f (b ∷ bs) = record { top = entered_length f []; below = tt }

start_has : (p : Sealed) (input : List ℤ) (o : Option Function) → HasFirst (begun_by p.program input o)
start_has p input None = tt
start_has p input (Some f) = begun_has p input f f.blocks

pub registers_are_declared : RegistersAreDeclared
registers_are_declared p input past s c =
    holds p input Has (record {
      begin = λ s e. subst HasFirst e (start_has p input (function_named main_name p.program.functions));
      keep = λ past s h. has_did p past s h (step p s) (step_is p s);
    }) past s c
