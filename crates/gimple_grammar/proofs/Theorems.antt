-- What the exact reader of programs says of whole lists of tokens.
use Rattle.std.proofs.Common.{◌≡◌, ℕ, [], ◌∷◌, ◌++◌, length, Result, Ok, Err, refl, sym, ap, ◌∙◌, append_assoc}
use Rattle.std.specs.Prelude.{IfOk, IfErr}
use Rattle.std.proofs.lemmas.List.{append-nil}
use Rattle.gimple_ir.specs.declared.program.Program.{Program}
use Rattle.gimple_tokens.specs.declared.token.Token.{Token}
use Rattle.token_law.specs.declared.cursor.Fault.{Fault}
use Rattle.token_law.specs.declared.cursor.Fault.TheVariants.{Memory, At}
use Rattle.token_law.specs.Reading.{Tokens, Reads}
use Rattle.gimple_grammar.specs.Readers.{program}
use Rattle.gimple_grammar.specs.Grammar.{IsProgram}
use Rattle.gimple_grammar.specs.TokenFaults.{IsOver, IsFault, FaultOf, ReadsAs}
use Rattle.token_law.proofs.ReadsExactly.{ok_parts}
use Rattle.gimple_grammar.proofs.ProgramLaws.{program_exact, program_ends}

-- a spelled program is read to its end
reads : (p : Program) (ts : Tokens) → IsProgram p ts → program ts ≡ Ok (p, [])
reads p ts h = ap program (sym (append-nil ts)) ∙ program_exact.complete p ts [] h refl

-- tokens spell at most one program
pub one : (ts : Tokens) (p q : Program) → IsProgram p ts → IsProgram q ts → p ≡ q
one ts p q h k = (ok_parts p q [] [] (sym (reads p ts h) ∙ reads q ts k)).0

pub is_found : (ts new : Tokens) (r : Result Program Fault) → Reads (program ts) r new → IfOk r (λ p. IsProgram p ts)
is_found ts new (Ok p) given =
    let o = program_exact.sound ts p new given in
    let e : new ≡ [] = program_ends ts p new given in
    let f : ts ≡ o.pre = o.parts ∙ ap (λ y. o.pre ++ y) e ∙ append-nil o.pre in
    rw f o.spelled
is_found ts new (Err e) given = tt

pub is_only : (ts new : Tokens) (r : Result Program Fault) → Reads (program ts) r new → (p : Program) → IsProgram p ts → ReadsAs p r
is_only ts new (Ok q) given p h = (ok_parts q p new [] (sym given ∙ reads p ts h)).0
is_only ts new (Err (Memory want)) given p h = tt
is_only ts new (Err (At left)) given p h = let e = reads p ts h in absurd cc

over : (front back : Tokens) → ((t : Token) (m m' : Tokens) → back ≡ t ∷ m → program (front ++ t ∷ m') ≡ Err (length (t ∷ m'))) → (n : ℕ) → program (front ++ back) ≡ Err n → IsOver front back
over front [] stays n e = λ p h. let f = reads p front h in let g : program front ≡ Err n = ap program (sym (append-nil front)) ∙ e in absurd cc
over front (t ∷ m) stays n e = λ b.
    let more = b.1 in
    let f : program ((front ++ t ∷ []) ++ more) ≡ Ok (b.0, []) = reads b.0 ((front ++ t ∷ []) ++ more) b.3 in
    let g : program ((front ++ t ∷ []) ++ more) ≡ Err (length (t ∷ more)) = ap program (append_assoc front (t ∷ []) more) ∙ stays t m more refl in
    absurd cc

is_fault : (ts new : Tokens) (left : ℕ) → program ts ≡ Err left → IsFault ts left
is_fault ts new left e =
    let o = program_exact.stuck ts left e in
    record {
      front = o.pre;
      back = o.at;
      parts = o.parts;
      count = o.count;
      begins = (o.begins.value, o.begins.more, o.begins.real, o.begins.spelled);
      over = over o.pre o.at o.stays left (ap program (sym o.parts) ∙ e);
    }

pub fault_of : (ts new : Tokens) (r : Result Program Fault) → Reads (program ts) r new → IfErr r (FaultOf ts)
fault_of ts new (Ok p) given = tt
fault_of ts new (Err (Memory want)) given = tt
fault_of ts new (Err (At left)) given = is_fault ts new left given
