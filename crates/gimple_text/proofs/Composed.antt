-- From the front of the bytes and the reading of its tokens to the whole.
use Rattle.std.proofs.Common.{◌≡◌, ◌≢◌, ℕ, zero, suc, ◌+◌, ◌-◌, List, [], ◌∷◌, ◌++◌, length, false, Result, Ok, Err, refl, sym, ap, subst, ◌∙◌, arith, length-append}
use Rattle.std.specs.Prelude.{IfOk, IfErr}
use Rattle.std.proofs.lemmas.List.{append-nil, nil_from_length}
use Rattle.gimple_ir.specs.declared.program.Program.{Program}
use Rattle.gimple_tokens.specs.declared.token.Token.{Token}
use Rattle.gimple_ir.specs.Names.{Bytes}
use Rattle.gimple_tokens.specs.Lexing.{Lexes, LexesUpTo, skip}
use Rattle.gimple_tokens.specs.Front.{Front, walk}
use Rattle.gimple_tokens.specs.Spots.{spot_at}
use Rattle.gimple_tokens.proofs.Runs.{ended, walked}
use Rattle.gimple_tokens.proofs.OneList.{same_tokens}
use Rattle.token_law.specs.declared.cursor.Fault.{Fault}
use Rattle.token_law.specs.declared.cursor.Fault.TheVariants as read
use Rattle.gimple_grammar.specs.Grammar.{IsProgram}
use Rattle.gimple_grammar.specs.TokenFaults.{BeginsProgram, IsOver, IsFault, FaultOf, ReadsAs}
use Rattle.gimple_text.specs.Parse.{Spells, IsBadByte, IsBadToken, FaultOrMemory, ParsesAs, Judged}
use Rattle.gimple_text.specs.declared.fault.TextFault.{TextFault}

whole : (bs : Bytes) (ts : List Token) (left : ℕ) → Front bs ts left → left ≡ 0 → Lexes bs ts
whole bs ts left f e = ended (skip false bs) ts f.rest f.lexed (nil_from_length f.rest (f.count ∙ e))

some_rest : (rest : Bytes) (n : ℕ) → length rest ≡ suc n → rest ≢ []
some_rest rest n e = λ h. let f : length rest ≡ 0 = ap length h in absurd (omega arith)

pub is_found : (bs : Bytes) (ts : List Token) (left count : ℕ) (r : Result Program Fault) (out : Result Program TextFault) → Front bs ts left → IfOk r (λ p. IsProgram p ts) → Judged bs left count r out → IfOk out (λ p. Spells bs p)
is_found bs ts zero count (Ok p) out f h j = rw j (record { tokens = ts; lexed = whole bs ts zero f refl; spelled = h })
is_found bs ts (suc n) count (Ok p) out f h j = rw j tt
is_found bs ts left count (Err (read.Memory want)) out f h j = rw j tt
is_found bs ts zero count (Err (read.At zero)) out f h j = rw j tt
is_found bs ts (suc n) count (Err (read.At zero)) out f h j = rw j tt
is_found bs ts left count (Err (read.At (suc k))) out f h j = rw j tt

-- what a spelled program makes of the front
spelled_front : (bs : Bytes) (ts : List Token) (left : ℕ) (p : Program) → Front bs ts left → Spells bs p → IsProgram p ts × (left ≡ 0)
spelled_front bs ts left p f h =
    let q = same_tokens (skip false bs) ts h.tokens f.rest f.lexed f.refused h.lexed in
    (rw (← q.0) h.spelled, sym f.count ∙ ap length q.1)

pub is_only : (bs : Bytes) (ts : List Token) (left count : ℕ) (r : Result Program Fault) (out : Result Program TextFault) → Front bs ts left → ((p : Program) → IsProgram p ts → ReadsAs p r) → Judged bs left count r out → (p : Program) → Spells bs p → ParsesAs p out
is_only bs ts zero count (Ok q) out f h j p s = rw j (h p (spelled_front bs ts zero p f s).0)
is_only bs ts (suc n) count (Ok q) out f h j p s = let e = (spelled_front bs ts (suc n) p f s).1 in absurd (omega arith)
is_only bs ts left count (Err (read.Memory want)) out f h j p s = rw j tt
is_only bs ts zero count (Err (read.At zero)) out f h j p s = absurd (h p (spelled_front bs ts zero p f s).0)
is_only bs ts (suc n) count (Err (read.At zero)) out f h j p s = absurd (h p (spelled_front bs ts (suc n) p f s).0)
is_only bs ts left count (Err (read.At (suc k))) out f h j p s = absurd (h p (spelled_front bs ts left p f s).0)

pub begun : (ts : List Token) (p : Program) → IsProgram p ts → BeginsProgram ts
begun ts p h = (p, [], tt, rw (append-nil ts) h)

-- no token is left at the fault
all_front : (ts : List Token) → IsFault ts 0 → BeginsProgram ts × ((p : Program) → IsProgram p ts → ⊥)
all_front ts f =
    let e : f.back ≡ [] = nil_from_length f.back f.count in
    let g : ts ≡ f.front = f.parts ∙ ap (λ y. f.front ++ y) e ∙ append-nil f.front in
    let o : IsOver f.front [] = subst (λ b. IsOver f.front b) e f.over in
    (rw g f.begins, rw g o)

bad_byte : (bs : Bytes) (ts : List Token) (n : ℕ) → Front bs ts (suc n) → BeginsProgram ts → IsBadByte bs (spot_at bs (length bs - suc n))
bad_byte bs ts n f b = record { tokens = ts; rest = f.rest; lexed = f.lexed; some = some_rest f.rest n f.count; refused = f.refused; begins = b; there = ap (λ k. spot_at bs (length bs - k)) (sym f.count) }

bad_token : (bs : Bytes) (ts : List Token) (left k : ℕ) → Front bs ts left → (f : IsFault ts (suc k)) → (back : List Token) → f.back ≡ back → IsBadToken bs (spot_at bs (length bs - length (walk (length ts - suc k) (skip false bs))))
bad_token bs ts left k f g [] e = let h = g.count in let l : length g.back ≡ 0 = ap length e in absurd (omega arith)
bad_token bs ts left k f g (t ∷ m) e =
    let parts : ts ≡ g.front ++ t ∷ m = g.parts ∙ ap (λ y. g.front ++ y) e in
    let size : length (t ∷ m) ≡ suc k = sym (ap length e) ∙ g.count in
    let total : length ts ≡ length g.front + length (t ∷ m) = ap length parts ∙ length-append g.front (t ∷ m) in
    let before : length ts - suc k ≡ length g.front = omega arith in
    let w = walked (skip false bs) g.front (t ∷ m) f.rest (subst (λ z. LexesUpTo (skip false bs) z f.rest) parts f.lexed) in
    record {
      tokens = g.front;
      token = t;
      at = walk (length g.front) (skip false bs);
      behind = w.1.0;
      lexed = w.0;
      next = w.1.1;
      begins = g.begins;
      over = let o : IsOver g.front (t ∷ m) = subst (λ b. IsOver g.front b) e g.over in o;
      there = ap (λ z. spot_at bs (length bs - length (walk z (skip false bs)))) before;
    }

pub fault_of : (bs : Bytes) (ts : List Token) (left count : ℕ) (r : Result Program Fault) (out : Result Program TextFault) → Front bs ts left → count ≡ length ts → IfOk r (λ p. IsProgram p ts) → IfErr r (FaultOf ts) → Judged bs left count r out → IfErr out (FaultOrMemory bs)
fault_of bs ts zero count (Ok p) out f c h g j = rw j tt
fault_of bs ts (suc n) count (Ok p) out f c h g j = rw j (bad_byte bs ts n f (begun ts p h))
fault_of bs ts left count (Err (read.Memory want)) out f c h g j = rw j tt
fault_of bs ts zero count (Err (read.At zero)) out f c h g j = let a = all_front ts g in rw j (record { tokens = ts; lexed = whole bs ts zero f refl; begins = a.0; none = a.1; there = ap (λ z. spot_at bs z) (omega arith) })
fault_of bs ts (suc n) count (Err (read.At zero)) out f c h g j = rw j (bad_byte bs ts n f (all_front ts g).0)
fault_of bs ts left count (Err (read.At (suc k))) out f c h g j = rw (j, c) (bad_token bs ts left k f g g.back refl)
