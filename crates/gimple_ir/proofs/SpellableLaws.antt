-- Programs without some of their functions.
use Rattle.std.proofs.Common.{◌≡◌, Bool, true, false, List, [], ◌∷◌, filter, refl, inl, inr, ◌⊎◌}
use Rattle.gimple_ir.specs.declared.program.Function.{Function}
use Rattle.gimple_ir.specs.declared.program.Program.{Program}
use Rattle.gimple_ir.specs.Spellable.{AllOf, IsSpellableFunction, IsSpellable}

test : (b : Bool) → (b ≡ true) ⊎ (b ≡ false)
test true = inl refl
test false = inr refl

pub filtered_all : {A : Type 0} (P : A → Type 0) (keeps : A → Bool) (xs : List A) → AllOf P xs → AllOf P (filter keeps xs)
filtered_all P keeps [] h = tt
filtered_all P keeps (x ∷ xs) h = elim (test (keeps x)) [ inl e ↦ rw e (h.0, filtered_all P keeps xs h.1) | inr e ↦ rw e (filtered_all P keeps xs h.1) ]

-- dropping functions keeps a program spellable
pub filtered_spellable : (p : Program) (keeps : Function → Bool) → IsSpellable p → IsSpellable (record p { functions = filter keeps p.functions })
filtered_spellable p keeps h = record { profile = h.profile; structs = h.structs; globals = h.globals; functions = filtered_all (IsSpellableFunction p.profile) keeps p.functions h.functions }
