-- The next token, from what comes behind it.
use Rattle.std.specs.Prelude.{option_map}
use Rattle.std.proofs.Common.{◌≡◌, ℕ, ◌+◌, ◌-◌, ◌≤◌, ◌==◌, false, [], ◌∷◌, length, take, drop, Option, Some, None, refl, sym, ap, ◌∙◌, arith, length-drop}
use Rattle.std.proofs.Math.Seq.{take-length}
use Rattle.gimple_tokens.specs.declared.token.Token.{Token}
use Rattle.gimple_tokens.specs.declared.next.Cursor.{Cursor}
use Rattle.gimple_tokens.specs.declared.next.Next.TheVariants as next
use Rattle.gimple_ir.specs.Names.{Bytes}
use Rattle.gimple_tokens.specs.Lexing.{skip, token_at}
use Rattle.gimple_tokens.specs.Next.{cursor_left, next_by, next_from, next_at}
use Rattle.gimple_tokens.proofs.Runs.{takes, skip_length}

abbrev pub behind_of : Option (Token × Bytes) → Option Bytes
behind_of o = option_map (λ x. x.1) o

behind_is : (o : Option (Token × Bytes)) (behind : Bytes) → Some behind ≡ behind_of o → (t : Token) × (o ≡ Some (t, behind))
behind_is None behind e = absurd cc
behind_is (Some x) behind e = let f : behind ≡ x.1 = cc in (x.0, rw f refl)

none_behind : (o : Option (Token × Bytes)) → None ≡ behind_of o → o ≡ None
none_behind None e = refl
none_behind (Some x) e = absurd cc

-- all bytes from a place on
pub from_place : (bs : Bytes) (p : ℕ) (rest : Bytes) → rest ≡ skip false (take (length bs - p) (drop p bs)) → rest ≡ skip false (drop p bs)
from_place bs p rest e = e ∙ ap (skip false) (ap (λ n. take n (drop p bs)) (sym (length-drop p bs)) ∙ take-length (drop p bs))

pub skipped : (bs : Bytes) (p : ℕ) (rest : Bytes) → p ≤ length bs → rest ≡ skip false (drop p bs) → p + length rest ≤ length bs
skipped bs p rest h e = rw e (omega (arith, skip_length false (drop p bs), length-drop p bs))

pub behind_short : (rest behind : Bytes) → Some behind ≡ behind_of (token_at rest) → length behind ≤ length rest
behind_short rest behind e = let t = behind_is (token_at rest) behind e in takes rest t.0 behind t.1

pub behind_within : (bs : Bytes) (p : ℕ) (rest behind : Bytes) (a : Cursor) → p ≤ length bs → rest ≡ skip false (drop p bs) → Some behind ≡ behind_of (token_at rest) → a ≡ cursor_left bs (length rest) → a.place + length behind ≤ length bs
behind_within bs p rest behind a h e f g = rw g (omega (arith, skipped bs p rest h e, behind_short rest behind f))

pub next_some : (bs : Bytes) (p : ℕ) (rest behind : Bytes) (a b : Cursor) → rest ≡ skip false (drop p bs) → Some behind ≡ behind_of (token_at rest) → a ≡ cursor_left bs (length rest) → b ≡ cursor_left bs (length behind) → next.Token a.place b.place a.spot b ≡ next_at bs p
next_some bs p rest behind a b e f g h =
    let t = behind_is (token_at rest) behind f in
    let k : next_from bs rest ≡ next.Token a.place b.place a.spot b = rw (t.1, g, h) refl in
    sym k ∙ ap (next_from bs) e

by_none : (bs rest : Bytes) → (length rest == 0) ≡ false → next_by bs rest None ≡ next.BadByte (cursor_left bs (length rest)).spot
by_none bs [] e = absurd cc
by_none bs (b ∷ rest) e = refl

pub next_bad : (bs : Bytes) (p : ℕ) (rest : Bytes) (a : Cursor) → rest ≡ skip false (drop p bs) → None ≡ behind_of (token_at rest) → (length rest == 0) ≡ false → a ≡ cursor_left bs (length rest) → next.BadByte a.spot ≡ next_at bs p
next_bad bs p rest a e f some g =
    let n = none_behind (token_at rest) f in
    let k : next_from bs rest ≡ next.BadByte (cursor_left bs (length rest)).spot = ap (next_by bs rest) n ∙ by_none bs rest some in
    rw g (sym k ∙ ap (next_from bs) e)
