-- Known bytes over several reads and writes.
use Rattle.std.proofs.Common.{◌≡◌, ℕ, ◌<◌, Bool, true, false, List, [], ◌∷◌, ◌++◌, length, take, drop, refl, sym, ◌∙◌, ap, subst, Option, Some, None, append_assoc, append-nil}
use Rattle.std.proofs.lemmas.List.{take-append-drop}
use Rattle.std.specs.Io.KnownBytes.{Keeps, Appends, Consumes, IsAtEnd}
use Rattle.file_shelf.specs.Files.{TakesAll}

-- ---- writes

pub appends_none : (a : Option (List ℕ)) → Appends a a []
appends_none None = tt
appends_none (Some xs) = sym (append-nil xs)

pub appends_more : (a b c : Option (List ℕ)) (xs ys : List ℕ) → Appends a b xs → Appends b c ys → Appends a c (xs ++ ys)
appends_more None b c xs ys h k = tt
appends_more (Some old) None c xs ys h k = absurd h
appends_more (Some old) (Some bs) None xs ys h k = absurd k
appends_more (Some old) (Some bs) (Some cs) xs ys h k = k ∙ ap (λ zs. zs ++ ys) h ∙ append_assoc old xs ys

pub appends_kept : (a b c : Option (List ℕ)) (xs : List ℕ) → Appends a b xs → Keeps b c → Appends a c xs
appends_kept None b c xs h k = tt
appends_kept (Some old) None c xs h k = absurd h
appends_kept (Some old) (Some bs) None xs h k = absurd k
appends_kept (Some old) (Some bs) (Some cs) xs h k = k ∙ h

-- the bytes that are written so far, and what is left
abbrev pub Written : Option (List ℕ) → Option (List ℕ) → List ℕ → List ℕ → Type 0
Written old new bytes rest = (front : List ℕ) × (bytes ≡ front ++ rest) × Appends old new front

pub written_none : (a : Option (List ℕ)) (bytes : List ℕ) → Written a a bytes bytes
written_none a bytes = ([], refl, appends_none a)

pub written_more : (a b c : Option (List ℕ)) (bytes rest : List ℕ) (n : ℕ) → Written a b bytes rest → Appends b c (take n rest) → Written a c bytes (drop n rest)
written_more a b c bytes rest n w k =
    (w.0 ++ take n rest, w.1 ∙ ap (λ zs. w.0 ++ zs) (sym (take-append-drop n rest)) ∙ sym (append_assoc w.0 (take n rest) (drop n rest)), appends_more a b c w.0 (take n rest) w.2 k)

pub written_all : (a b c : Option (List ℕ)) (bytes rest : List ℕ) (done : Bool) → Written a b bytes rest → rest ≡ [] → Keeps b c → TakesAll a c bytes done
written_all a b c bytes rest true w e k =
    subst (Appends a c) (sym (w.1 ∙ ap (λ zs. w.0 ++ zs) e ∙ append-nil w.0)) (appends_kept a b c w.0 w.2 k)
written_all a b c bytes rest false w e k = tt

-- ---- reads

pub consumes_none : (a : Option (List ℕ)) → Consumes a a []
consumes_none None = tt
consumes_none (Some xs) = refl

pub consumes_more : (a b c : Option (List ℕ)) (xs ys : List ℕ) → Consumes a b xs → Consumes b c ys → Consumes a c (xs ++ ys)
consumes_more None b c xs ys h k = tt
consumes_more (Some old) None c xs ys h k = absurd h
consumes_more (Some old) (Some bs) None xs ys h k = absurd k
consumes_more (Some old) (Some bs) (Some cs) xs ys h k = h ∙ ap (λ zs. xs ++ zs) k ∙ sym (append_assoc xs ys cs)

pub consumes_end : (a b c : Option (List ℕ)) (xs : List ℕ) → Consumes a b xs → Consumes b c [] → Consumes a c xs
consumes_end a b c xs h k = subst (Consumes a c) (append-nil xs) (consumes_more a b c xs [] h k)
