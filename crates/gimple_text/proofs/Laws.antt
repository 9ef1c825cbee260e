-- Which programs have a text.
use Rattle.std.proofs.Common.{◌≡◌, false, filter, sym, subst}
use Rattle.gimple_ir.specs.declared.program.Program.{Program}
use Rattle.gimple_ir.specs.Names.{Bytes}
use Rattle.gimple_ir.specs.Spellable.{IsSpellable}
use Rattle.gimple_ir.proofs.SpellableLaws.{filtered_spellable}
use Rattle.gimple_tokens.specs.Lexing.{skip}
use Rattle.gimple_tokens.proofs.Real.{lexed_real}
use Rattle.gimple_text.specs.Parse.{Spells}
use Rattle.gimple_text.specs.Canon.{canon}
use Rattle.gimple_text.specs.CanonLaws.{PrintedIsRead, SpellableHasText, DroppingKeepsTexts}
use Rattle.gimple_text.proofs.CanonTokens.{program_tokens}
use Rattle.gimple_text.proofs.CanonLexes.{canon_lexes}
use Rattle.gimple_text.proofs.CanonSpelled.{program_spelled}
use Rattle.gimple_text.proofs.FaultLaws.{one_program}
use Rattle.gimple_text.proofs.Spelled.{program_ok}

pub canon_spells : (p : Program) → IsSpellable p → Spells (canon p) p
canon_spells p h = record { tokens = program_tokens p; lexed = canon_lexes p h; spelled = program_spelled p h }

pub printed_is_read : PrintedIsRead
printed_is_read p q h = (λ k. one_program (canon p) q p k (canon_spells p h), λ e. subst (Spells (canon p)) (sym e) (canon_spells p h))

pub spelled_spellable : (bs : Bytes) (p : Program) → Spells bs p → IsSpellable p
spelled_spellable bs p h = program_ok p h.tokens h.spelled (lexed_real (skip false bs) h.tokens h.lexed)

pub spellable_has_text : SpellableHasText
spellable_has_text p = (λ h. (canon p, canon_spells p h), λ h. spelled_spellable h.0 p h.1)

pub dropping_keeps_texts : DroppingKeepsTexts
dropping_keeps_texts p keeps h =
    let q = record p { functions = filter keeps p.functions } in
    (canon q, canon_spells q (filtered_spellable p keeps (spelled_spellable h.0 p h.1)))
