-- Names and bytes in a buffer that grows at its end.
use Rattle.std.proofs.Common.{◌≡◌, ℕ, suc, ◌+◌, ◌-◌, ◌≤◌, ◌<◌, List, [], ◌∷◌, ◌++◌, length, take, drop, get_or, Option, Some, None, refl, ap, ◌∙◌, arith, cond, Bool, true, false, length-append, append_assoc}
use Rattle.std.specs.Option.{option_or}
use Rattle.std.specs.Str.{bytes_eq}
use Rattle.std.proofs.lemmas.List.{take-append-le, drop-append-le, take_more}
use Rattle.std.proofs.lemmas.Grind.{common_steps}
use Rattle.std.proofs.Math.Seq.{drop-append_seam, take-length}
use Rattle.shelf.specs.declared.log.Span.{Span}
use Rattle.shelf.specs.Kept.{stored_in}
use Rattle.shelf.specs.Spans.{entry_at, entries_of, IsWithin, AreWithin}

part-more : (bytes more : List ℕ) (i j : ℕ) → i ≤ j → j ≤ length bytes → take (j - i) (drop i (bytes ++ more)) ≡ take (j - i) (drop i bytes)
part-more bytes more i j h k = grind (arith, common_steps, take-append-le, drop-append-le)

entry_at-more : (bytes more : List ℕ) (s : Span) → IsWithin (length bytes) s → entry_at (bytes ++ more) s ≡ entry_at bytes s
entry_at-more bytes more s h =
    let a = part-more bytes more s.from s.middle h.starts (omega arith) in
    let b = part-more bytes more s.middle s.to h.ends h.inside in
    λ i. (a i, b i)

pub entries_of-more : (bytes more : List ℕ) (ss : List Span) → AreWithin bytes ss → entries_of (bytes ++ more) ss ≡ entries_of bytes ss
entries_of-more bytes more [] h = refl
entries_of-more bytes more (s ∷ ss) h =
    let a = entry_at-more bytes more s (h 0 s (omega arith)) in
    let b = entries_of-more bytes more ss (λ k d lt. h (suc k) d (omega arith)) in
    λ i. a i ∷ b i

pub entries_of-push : (bytes : List ℕ) (ss : List Span) (s : Span) → entries_of bytes (ss ++ s ∷ []) ≡ entries_of bytes ss ++ entry_at bytes s ∷ []
entries_of-push bytes [] s = refl
entries_of-push bytes (x ∷ ss) s = ap (λ es. entry_at bytes x ∷ es) (entries_of-push bytes ss s)

take_seam : (xs ys : List ℕ) (n : ℕ) → n ≡ length xs → take n (xs ++ ys) ≡ xs
take_seam xs ys n e = let le : length xs ≤ length xs = omega arith in rw (e, take-append-le (length xs) xs ys le) (take-length xs)

take_whole : (xs : List ℕ) (n : ℕ) → n ≡ length xs → take n xs ≡ xs
take_whole xs n e = rw e (take-length xs)

-- the span of what was just put at the end
pub entry_at-end : (bytes name more : List ℕ) (s : Span) → s.from ≡ length bytes → s.middle ≡ length (bytes ++ name) → s.to ≡ length ((bytes ++ name) ++ more) → entry_at ((bytes ++ name) ++ more) s ≡ (name, more)
entry_at-end bytes name more s f m t =
    let n : s.middle - s.from ≡ length name = omega (arith, length-append bytes name) in
    let k : s.to - s.middle ≡ length more = omega (arith, length-append (bytes ++ name) more) in
    let a : drop s.from ((bytes ++ name) ++ more) ≡ name ++ more = rw (f, append_assoc) (drop-append_seam bytes (name ++ more)) in
    let b : drop s.middle ((bytes ++ name) ++ more) ≡ more = rw m (drop-append_seam (bytes ++ name) more) in
    let p : take (s.middle - s.from) (drop s.from ((bytes ++ name) ++ more)) ≡ name = rw a (take_seam name more _ n) in
    let q : take (s.to - s.middle) (drop s.middle ((bytes ++ name) ++ more)) ≡ more = rw b (take_whole more _ k) in
    λ i. (p i, q i)

or-cond : (b : Bool) (x : List ℕ) (y z : Option (List ℕ)) → option_or (cond b (Some x) y) z ≡ cond b (Some x) (option_or y z)
or-cond true x y z = refl
or-cond false x y z = refl

pub stored_in-push : (es : List (List ℕ × List ℕ)) (e : List ℕ × List ℕ) (name : List ℕ) → stored_in (es ++ e ∷ []) name ≡ cond (bytes_eq e.0 name) (Some e.1) (stored_in es name)
stored_in-push [] e name = refl
stored_in-push (x ∷ es) e name = rw (stored_in-push es e name) (or-cond (bytes_eq e.0 name) e.1 (stored_in es name) (cond (bytes_eq x.0 name) (Some x.1) None))

pub log-push : (bytes name more : List ℕ) (ss : List Span) (s : Span) → AreWithin bytes ss → s.from ≡ length bytes → s.middle ≡ length (bytes ++ name) → s.to ≡ length ((bytes ++ name) ++ more) → entries_of ((bytes ++ name) ++ more) (ss ++ s ∷ []) ≡ entries_of bytes ss ++ (name, more) ∷ []
log-push bytes name more ss s h f m t =
    let a = entries_of-push ((bytes ++ name) ++ more) ss s in
    let b : entries_of ((bytes ++ name) ++ more) ss ≡ entries_of bytes ss = rw append_assoc (entries_of-more bytes (name ++ more) ss h) in
    let e = entry_at-end bytes name more s f m t in
    a ∙ (ap (λ es. es ++ entry_at ((bytes ++ name) ++ more) s ∷ []) b ∙ ap (λ p. entries_of bytes ss ++ p ∷ []) e)

pub stored-step : (bytes : List ℕ) (ss : List Span) (name : List ℕ) (i : ℕ) (d : Span) → i < length ss → stored_in (entries_of bytes (take (i + 1) ss)) name ≡ cond (bytes_eq (entry_at bytes (get_or ss i d)).0 name) (Some (entry_at bytes (get_or ss i d)).1) (stored_in (entries_of bytes (take i ss)) name)
stored-step bytes ss name i d h = rw (take_more ss i d h, entries_of-push) (stored_in-push (entries_of bytes (take i ss)) (entry_at bytes (get_or ss i d)) name)
