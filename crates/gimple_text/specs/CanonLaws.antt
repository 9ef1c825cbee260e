-- Laws of the canonical text.
use Rattle.std.specs.Prelude.{◌≡◌, ◌↔◌, Bool, filter}
use Rattle.gimple_ir.specs.declared.program.Function.{Function}
use Rattle.gimple_ir.specs.declared.program.Program.{Program}
use Rattle.gimple_ir.specs.Names.{Bytes}
use Rattle.gimple_text.specs.Parse.{Spells}
use Rattle.gimple_ir.specs.Spellable.{IsSpellable}
use Rattle.gimple_text.specs.Canon.{canon}

-- the canonical text spells the program
abbrev pub CanonSpells : Type 0
CanonSpells = (p : Program) → IsSpellable p → Spells (canon p) p

-- and no other: a program that was printed is read as itself
abbrev pub PrintedIsRead : Type 0
PrintedIsRead = (p q : Program) → IsSpellable p → Spells (canon p) q ↔ (q ≡ p)

-- some text spells the program
abbrev pub HasText : Program → Type 0
HasText p = (bs : Bytes) × Spells bs p

abbrev pub SpellableHasText : Type 0
SpellableHasText = (p : Program) → IsSpellable p ↔ HasText p

-- a program that some text spells has a text without any of its functions
abbrev pub DroppingKeepsTexts : Type 0
DroppingKeepsTexts = (p : Program) (keeps : Function → Bool) → HasText p → HasText (record p { functions = filter keeps p.functions })
