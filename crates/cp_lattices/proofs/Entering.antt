-- A running frame has begun with an entry, and what holds of each entry of a run holds of its arguments.
use Rattle.std.proofs.Common.{◌≡◌, ℕ, ℤ, List, [], ◌∷◌, ◌++◌, ◌⊎◌, inl, inr, refl, subst}
use Rattle.std.specs.List.{AllByRecursion}
use Rattle.gimple_ir.specs.declared.value.Value.{Value}
use Rattle.gimple_ir.specs.declared.program.Function.{Function}
use Rattle.gimple_core.specs.Sealed.{Sealed}
use Rattle.gimple_core.specs.State.{State}
use Rattle.gimple_core.specs.Run.{step}
use Rattle.gimple_core.specs.Trace.{Event, Entry, At, Load, Store, Leave, told, after}
use Rattle.gimple_claims.proofs.Activation.{Activation, here}
use Rattle.gimple_claims.proofs.Comes.{Comes}
use Rattle.gimple_claims.proofs.Points.{in_did_always}
use Rattle.body_symbols.specs.Claims.{BeginsWith}

-- the entry of the activation of this serial, of the function
abbrev IsEntryOf : Function → ℕ → Event → Type 0
IsEntryOf f n (Entry s g arguments m caller) = (s ≡ n) × (g ≡ f)
IsEntryOf f n (At c w) = ⊥
IsEntryOf f n (Load c scalar object offset v) = ⊥
IsEntryOf f n (Store c scalar object offset v) = ⊥
IsEntryOf f n (Leave s) = ⊥

-- it has begun
abbrev pub IsEntered : Function → ℕ → List Event → Type 0
IsEntered f n [] = ⊥
IsEntered f n (e ∷ past) = IsEntryOf f n e ⊎ IsEntered f n past

entered_later : (f : Function) (n : ℕ) (past es : List Event) → IsEntered f n past → IsEntered f n (after past es)
entered_later f n past [] h = h
entered_later f n past (e ∷ es) h = entered_later f n (e ∷ past) es (inr h)

frames_enter : (p : Sealed) (input : List ℤ) (f : Function) → Activation p input f (λ past c w. IsEntered f c.serial past) (λ past c registers takes m. IsEntered f c.serial past)
frames_enter p input f = record {
  enters = λ past g serial arguments m caller takes b bs w same own be registers memory. inl (refl, same);
  stmt = λ past s x xs w comes same h e n did. entered_later f s.top.serial past (told p s) h;
  calls = λ past s x xs c t comes same h e n did. entered_later f s.top.serial past (told p s) h;
  jumps = λ past s label k b comes same h e l be. entered_later f s.top.serial past (told p s) h;
  others = λ past s c registers takes comes h. in_did_always _ (λ t. entered_later f c.serial past (told p s) h) (step p s);
  back = λ past s c registers v comes same h e x. entered_later f c.serial past (told p s) h;
}

-- the running frame has
pub top_entered : (p : Sealed) (input : List ℤ) (past : List Event) (s : State) → Comes p input past s → IsEntered s.top.function s.top.serial past
top_entered p input past s c =
    here p input s.top.function (λ past c w. IsEntered s.top.function c.serial past) (λ past c registers takes m. IsEntered s.top.function c.serial past) (frames_enter p input s.top.function) past s c refl

-- ---- what holds of each entry

abbrev pub EntryHas : (Function → List Value → Type 0) → Event → Type 0
EntryHas Q (Entry s g arguments m caller) = Q g arguments
EntryHas Q (At c w) = Unit {0}
EntryHas Q (Load c scalar object offset v) = Unit {0}
EntryHas Q (Store c scalar object offset v) = Unit {0}
EntryHas Q (Leave s) = Unit {0}

-- holds of that of an activation
pub entry_has : (Q : Function → List Value → Type 0) (f : Function) (n : ℕ) (arguments : List Value) (past : List Event) → IsEntered f n past → AllByRecursion (BeginsWith n arguments) past → AllByRecursion (EntryHas Q) past → Q f arguments
entry_has Q f n arguments [] h begins all = absurd h
entry_has Q f n arguments (Entry s g given m caller ∷ past) (inl is) begins all = subst (λ vs. Q f vs) (begins.0 is.0) (subst (λ (x : Function). Q x given) is.1 all.0)
entry_has Q f n arguments (Entry s g given m caller ∷ past) (inr h) begins all = entry_has Q f n arguments past h begins.1 all.1
entry_has Q f n arguments (At c w ∷ past) (inl is) begins all = absurd is
entry_has Q f n arguments (At c w ∷ past) (inr h) begins all = entry_has Q f n arguments past h begins.1 all.1
entry_has Q f n arguments (Load c scalar object offset v ∷ past) (inl is) begins all = absurd is
entry_has Q f n arguments (Load c scalar object offset v ∷ past) (inr h) begins all = entry_has Q f n arguments past h begins.1 all.1
entry_has Q f n arguments (Store c scalar object offset v ∷ past) (inl is) begins all = absurd is
entry_has Q f n arguments (Store c scalar object offset v ∷ past) (inr h) begins all = entry_has Q f n arguments past h begins.1 all.1
entry_has Q f n arguments (Leave s ∷ past) (inl is) begins all = absurd is
entry_has Q f n arguments (Leave s ∷ past) (inr h) begins all = entry_has Q f n arguments past h begins.1 all.1

-- ---- lists of events

pub all_appended : (P : Event → Type 0) (es fs : List Event) → AllByRecursion P es → AllByRecursion P fs → AllByRecursion P (es ++ fs)
all_appended P [] fs a b = b
all_appended P (e ∷ es) fs a b = (a.0, all_appended P es fs a.1 b)

pub all_after : (P : Event → Type 0) (past es : List Event) → AllByRecursion P past → AllByRecursion P es → AllByRecursion P (after past es)
all_after P past [] h g = h
all_after P past (e ∷ es) h g = all_after P (e ∷ past) es (g.0, h) g.1
