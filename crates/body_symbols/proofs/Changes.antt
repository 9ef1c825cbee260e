-- What changes make of the symbols of registers.
use Rattle.std.proofs.Common.{◌≡◌, ℕ, zero, suc, ◌+◌, ◌<◌, ◌≤◌, ◌==◌, nat_le, true, false, cond, List, [], ◌∷◌, take, length, Option, Some, None, slice_get, slice_set, inl, inr, refl, sym, ◌∙◌, ap, arith}
use Rattle.std.proofs.lemmas.Bool.{cases_Bool, eqb-true, eq-eqb}
use Rattle.std.proofs.lemmas.Option.{slice_get_within}
use Rattle.fix_engine.specs.declared.lifted.Lifted.{Lifted}
use Rattle.fix_engine.specs.declared.lifted.Lifted.TheVariants.{NotReached, Reached}
use Rattle.body_symbols.specs.declared.symbol.Symbol.{Symbol}
use Rattle.body_symbols.specs.declared.change.Change.{Change}
use Rattle.body_symbols.specs.declared.change.Change.TheVariants.{Nothing, Sets, Ends}
use Rattle.body_symbols.specs.Found.{changed_row, changed_by, row_after, row_in, register_symbol, is_reached, symbol_after, symbol_through, reached_through}

not_past : (i n : ℕ) → n < i → nat_le i n ≡ false
not_past i n h = grind (arith, h)

within : (i n : ℕ) → i ≤ n → nat_le i n ≡ true
within i n h = grind (arith, h)

row_there : (x : Lifted (List Symbol)) (cs : List Change) (i : ℕ) → i ≤ length cs → row_after x cs i ≡ changed_by x (take i cs)
row_there x cs i h = ap (λ b. cond b (changed_by x (take i cs)) NotReached) (within i (length cs) h)

row_past : (x : Lifted (List Symbol)) (cs : List Change) (i : ℕ) → length cs < i → row_after x cs i ≡ NotReached
row_past x cs i h = ap (λ b. cond b (changed_by x (take i cs)) NotReached) (not_past i (length cs) h)

-- ---- one register

other_kept : (o : Option Symbol) (place other : ℕ) (b : Symbol) → (other == place) ≡ false → o ≡ symbol_after place o (Sets other b)
other_kept None place other b e = refl
other_kept (Some a) place other b e = sym (ap (λ t. cond t (Some b) (Some a)) e)

unequal : (m n : ℕ) → (m ≡ n → ⊥) → (m == n) ≡ false
unequal m n f = elim (cases_Bool (m == n)) [
  | inl y ↦ absurd (f (eqb-true m n y))
  | inr y ↦ y
]

-- a test on the numbers that follow is the same one
shifted : (o : Option Symbol) (place other : ℕ) (b : Symbol) → symbol_after place o (Sets other b) ≡ symbol_after (suc place) o (Sets (suc other) b)
shifted None place other b = refl
shifted (Some a) place other b = ap (λ t. cond t (Some b) (Some a)) same
  where
    same : (other == place) ≡ (suc other == suc place)
    same = elim (cases_Bool (other == place)) [
      | inl y ↦ y ∙ sym (eq-eqb (suc other) (suc place) (ap suc (eqb-true other place y)))
      | inr y ↦ y ∙ sym (unequal (suc other) (suc place) (λ e. let e' : other ≡ place = omega (arith, e) in let t : true ≡ false = sym (eq-eqb other place e') ∙ y in cc))
    ]

set_get : (row : List Symbol) (other place : ℕ) (b : Symbol) → slice_get (slice_set row other b) place ≡ symbol_after place (slice_get row place) (Sets other b)
set_get [] other place b = refl
set_get (a ∷ row) zero zero b = refl
set_get (a ∷ row) zero (suc place) b = other_kept (slice_get row place) (suc place) zero b (unequal zero (suc place) (λ e. absurd (omega (arith, e))))
set_get (a ∷ row) (suc other) zero b = other_kept (Some a) zero (suc other) b (unequal (suc other) zero (λ e. absurd (omega (arith, e))))
set_get (a ∷ row) (suc other) (suc place) b = set_get row other place b ∙ shifted (slice_get row place) place other b

kept : (o : Option Symbol) (place : ℕ) → o ≡ symbol_after place o Nothing
kept None place = refl
kept (Some a) place = refl

lost : (o : Option Symbol) (place : ℕ) → None ≡ symbol_after place o Ends
lost None place = refl
lost (Some a) place = refl

symbol_changed : (place : ℕ) (x : Lifted (List Symbol)) (c : Change) → register_symbol place (changed_row x c) ≡ symbol_after place (register_symbol place x) c
symbol_changed place NotReached c = refl
symbol_changed place (Reached row) Nothing = kept (slice_get row place) place
symbol_changed place (Reached row) (Sets other b) = set_get row other place b
symbol_changed place (Reached row) Ends = lost (slice_get row place) place

symbol_changed_by : (place : ℕ) (x : Lifted (List Symbol)) (cs : List Change) → register_symbol place (changed_by x cs) ≡ symbol_through place (register_symbol place x) cs
symbol_changed_by place x [] = refl
symbol_changed_by place x (c ∷ cs) = symbol_changed_by place (changed_row x c) cs ∙ ap (λ o. symbol_through place o cs) (symbol_changed place x c)

pub symbol_there : (x : Lifted (List Symbol)) (cs : List Change) (i place : ℕ) → i ≤ length cs → symbol_through place (register_symbol place x) (take i cs) ≡ register_symbol place (row_after x cs i)
symbol_there x cs i place h = sym (symbol_changed_by place x (take i cs)) ∙ ap (register_symbol place) (sym (row_there x cs i h))

pub symbol_past : (x : Lifted (List Symbol)) (cs : List Change) (i place : ℕ) → length cs < i → None ≡ register_symbol place (row_after x cs i)
symbol_past x cs i place h = ap (register_symbol place) (sym (row_past x cs i h))

-- ---- whether a point is reached

gone : (cs : List Change) → changed_by NotReached cs ≡ NotReached
gone [] = refl
gone (c ∷ cs) = gone cs

reached_by : (x : Lifted (List Symbol)) (cs : List Change) → is_reached (changed_by x cs) ≡ reached_through x cs
reached_by NotReached cs = ap is_reached (gone cs)
reached_by (Reached row) [] = refl
reached_by (Reached row) (Nothing ∷ cs) = reached_by (Reached row) cs
reached_by (Reached row) (Sets place a ∷ cs) = reached_by (Reached (slice_set row place a)) cs
reached_by (Reached row) (Ends ∷ cs) = ap is_reached (gone cs)

pub reached_there : (x : Lifted (List Symbol)) (cs : List Change) (i : ℕ) → i ≤ length cs → reached_through x (take i cs) ≡ is_reached (row_after x cs i)
reached_there x cs i h = sym (reached_by x (take i cs)) ∙ ap is_reached (sym (row_there x cs i h))

pub reached_past : (x : Lifted (List Symbol)) (cs : List Change) (i : ℕ) → length cs < i → false ≡ is_reached (row_after x cs i)
reached_past x cs i h = ap is_reached (sym (row_past x cs i h))

-- ---- one point on

take_none : (cs : List Change) → take 0 cs ≡ []
take_none [] = refl
take_none (c ∷ cs) = refl

pub first_row : (x : Lifted (List Symbol)) (cs : List Change) → x ≡ row_after x cs 0
first_row x cs = sym (row_there x cs 0 (omega arith) ∙ ap (changed_by x) (take_none cs))

one_on : (x : Lifted (List Symbol)) (cs : List Change) (i : ℕ) (c : Change) → slice_get cs i ≡ Some c → changed_by x (take (suc i) cs) ≡ changed_row (changed_by x (take i cs)) c
one_on x [] i c e = cc
one_on x (d ∷ cs) zero c e =
    let same : d ≡ c = cc in
    ap (changed_by (changed_row x d)) (take_none cs) ∙ ap (changed_row x) same
one_on x (d ∷ cs) (suc i) c e = one_on (changed_row x d) cs i c e

no_more : (cs : List Change) (i : ℕ) → slice_get cs i ≡ None → length cs ≤ i
no_more [] i e = omega arith
no_more (c ∷ cs) zero e = cc
no_more (c ∷ cs) (suc i) e = let rest = no_more cs i e in omega (arith, rest)

row_on : (x : Lifted (List Symbol)) (cs : List Change) (i : ℕ) (c : Change) → slice_get cs i ≡ Some c → changed_row (row_after x cs i) c ≡ row_after x cs (i + 1)
row_on x cs i c e =
    let within : i < length cs = slice_get_within cs i c e in
    let next : i + 1 ≡ suc i = omega arith in
    ap (λ y. changed_row y c) (row_there x cs i (omega (arith, within))) ∙ (sym (one_on x cs i c e) ∙ (sym (row_there x cs (suc i) (omega (arith, within))) ∙ ap (row_after x cs) (sym next)))

pub passed : (o : Option (Lifted (List Symbol))) (cs : List Change) (i : ℕ) (c : Change) → slice_get cs i ≡ Some c → changed_row (row_in o (Some cs) i) c ≡ row_in o (Some cs) (i + 1)
passed None cs i c e = refl
passed (Some x) cs i c e = row_on x cs i c e

pub passed_end : (o : Option (Lifted (List Symbol))) (cs : List Change) (i : ℕ) → slice_get cs i ≡ None → NotReached ≡ row_in o (Some cs) (i + 1)
passed_end None cs i e = refl
passed_end (Some x) cs i e = let past = no_more cs i e in sym (row_past x cs (i + 1) (omega (arith, past)))

pub passed_none : (o : Option (Lifted (List Symbol))) (i : ℕ) → NotReached ≡ row_in o None i
passed_none None i = refl
passed_none (Some x) i = refl
