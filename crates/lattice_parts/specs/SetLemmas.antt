-- Ascending lists are sets.
use Rattle.std.proofs.Common.{cond, ◌≡◌, suc, ◌<◌, ◌≤◌, ◌⊎◌, inl, inr, Bool, true, false, not, ◌&&◌, ◌||◌, refl, sym, ◌∙◌, ap, subst, arith, List, [], ◌∷◌, length, Option, Some, None}
use Rattle.lattice_parts.specs.Sets.{IsOrder, Has, Above, Ascending, Subset, same_by, has_by, subset_by, placed, placed_some, united, mapped, gathered, IsPair, kept_members}

above_has : {X : Type 0} (lt : X → X → Bool) (x c : X) (xs : List X) → Above lt x xs → Has c xs → lt x c ≡ true
above_has lt x c [] h k = absurd k
above_has lt x c (y ∷ ys) h (inl e) = cc (h.0)
above_has lt x c (y ∷ ys) h (inr k) = above_has lt x c ys h.1 k

-- a head that is the same drops out of both sides
tails : {X : Type 0} (lt : X → X → Bool) → IsOrder lt → (x : X) (xs ys : List X) → Above lt x xs → Subset (x ∷ xs) (x ∷ ys) → Subset xs ys
tails lt o x xs ys a s c h = elim (s c (inr h)) [ inl e ↦ absurd (let p : lt x c ≡ true = above_has lt x c xs a h in let q : lt x x ≡ false = o.apart x in cc) | inr k ↦ k ]

-- the whole left side lies beyond the first of the right
beyond : {X : Type 0} (lt : X → X → Bool) → IsOrder lt → (x y : X) (xs ys : List X) → Above lt x xs → lt y x ≡ true → Subset (x ∷ xs) (y ∷ ys) → Subset (x ∷ xs) ys
beyond lt o x y xs ys a b s c h = elim (s c h) [ inl e ↦ absurd (later h e) | inr k ↦ k ]
  where
    later : Has c (x ∷ xs) → c ≡ y → ⊥
    later (inl e) f = let q : lt y y ≡ false = o.apart y in cc
    later (inr k) f = let p : lt y c ≡ true = o.transitive y x c b (above_has lt x c xs a k) in let q : lt y y ≡ false = o.apart y in cc

equal_heads : {X : Type 0} (x y : X) (xs ys : List X) → x ≡ y → (xs ≡ ys) ⊎ (length xs < length ys) → ((x ∷ xs) ≡ (y ∷ ys)) ⊎ (length (x ∷ xs) < length (y ∷ ys))
equal_heads x y xs ys e (inl f) = inl cc
equal_heads x y xs ys e (inr f) = inr (omega arith)

less : {X : Type 0} (y : X) (xs ys : List X) → (xs ≡ ys) ⊎ (length xs < length ys) → (xs ≡ (y ∷ ys)) ⊎ (length xs < length (y ∷ ys))
less y xs ys (inl e) = inr (let f : length xs ≡ length ys = ap length e in omega (arith, f))
less y xs ys (inr f) = inr (omega arith)

pub same_or_shorter : {X : Type 0} (lt : X → X → Bool) → IsOrder lt → (xs ys : List X) → Ascending lt xs → Ascending lt ys → Subset xs ys → (xs ≡ ys) ⊎ (length xs < length ys)
same_or_shorter lt o [] [] a b s = inl refl
same_or_shorter lt o [] (y ∷ ys) a b s = inr (omega arith)
same_or_shorter lt o (x ∷ xs) [] a b s = absurd (s x (inl refl))
same_or_shorter lt o (x ∷ xs) (y ∷ ys) a b s = elim (s x (inl refl)) [
  | inl e ↦ equal_heads x y xs ys e (same_or_shorter lt o xs ys a.1 b.1 (tails lt o x xs ys a.0 (subst (λ z. Subset (x ∷ xs) (z ∷ ys)) (sym e) s)))
  | inr k ↦ less y (x ∷ xs) ys (same_or_shorter lt o (x ∷ xs) ys a b.1 (beyond lt o x y xs ys a.0 (above_has lt y x ys b.0 k) s))
]

pub same_set : {X : Type 0} (lt : X → X → Bool) → IsOrder lt → (xs ys : List X) → Ascending lt xs → Ascending lt ys → Subset xs ys → Subset ys xs → xs ≡ ys
same_set lt o xs ys a b s t = by (same_or_shorter lt o xs ys a b s) (same_or_shorter lt o ys xs b a t)
  where
    by : (xs ≡ ys) ⊎ (length xs < length ys) → (ys ≡ xs) ⊎ (length ys < length xs) → xs ≡ ys
    by (inl e) _ = e
    by (inr h) (inl e) = sym e
    by (inr h) (inr k) = absurd (omega arith)

-- ---- placing
choice : {X : Type 0} (b : Bool) (P : List X → Type 0) (x y : List X) → (b ≡ true → P x) → (b ≡ false → P y) → P (cond b x y)
choice true P x y h k = h refl
choice false P x y h k = k refl

abbrev Holding : {X : Type 0} → X → List X → List X → Type 0
Holding {X} c xs ys = ((d : X) → Has d ys → (d ≡ c) ⊎ Has d xs) × ((d : X) → (d ≡ c) ⊎ Has d xs → Has d ys)

pub placed_holds : {X : Type 0} (lt : X → X → Bool) → IsOrder lt → (c : X) (xs : List X) → Holding c xs (placed lt c xs)
placed_holds lt o c [] = (λ d h. h, λ d h. h)
placed_holds lt o c (x ∷ xs) =
    choice (lt c x) (Holding c (x ∷ xs)) _ _ (λ _. (λ d h. h, λ d h. h))
    (λ e. choice (lt x c) (Holding c (x ∷ xs)) _ _
    (λ _. let r = placed_holds lt o c xs in (λ d h. turn d (placed lt c xs) (r.0 d) h, λ d h. back d (placed lt c xs) (r.1 d) h))
    (λ f. let same : c ≡ x = o.total c x e f in (λ d h. inr h, λ d h. merge d same h)))
  where
    turn : (d : _) (ys : List _) → (Has d ys → (d ≡ c) ⊎ Has d xs) → (d ≡ x) ⊎ Has d ys → (d ≡ c) ⊎ ((d ≡ x) ⊎ Has d xs)
    turn d ys r (inl e) = inr (inl e)
    turn d ys r (inr h) = elim (r h) [ inl e ↦ inl e | inr k ↦ inr (inr k) ]

    back : (d : _) (ys : List _) → ((d ≡ c) ⊎ Has d xs → Has d ys) → (d ≡ c) ⊎ ((d ≡ x) ⊎ Has d xs) → (d ≡ x) ⊎ Has d ys
    back d ys r (inl e) = inr (r (inl e))
    back d ys r (inr (inl e)) = inl e
    back d ys r (inr (inr h)) = inr (r (inr h))

    merge : (d : _) → c ≡ x → (d ≡ c) ⊎ ((d ≡ x) ⊎ Has d xs) → (d ≡ x) ⊎ Has d xs
    merge d e (inl f) = inl (f ∙ e)
    merge d e (inr h) = h

above_placed : {X : Type 0} (lt : X → X → Bool) (b c : X) (xs : List X) → lt b c ≡ true → Above lt b xs → Above lt b (placed lt c xs)
above_placed lt b c [] h a = (h, tt)
above_placed lt b c (x ∷ xs) h a =
    choice (lt c x) (Above lt b) _ _ (λ _. (h, (a.0, a.1))) (λ _. choice (lt x c) (Above lt b) _ _ (λ _. (a.0, above_placed lt b c xs h a.1)) (λ _. a))

above_before : {X : Type 0} (lt : X → X → Bool) → IsOrder lt → (c x : X) (xs : List X) → lt c x ≡ true → Above lt x xs → Above lt c xs
above_before lt o c x [] h a = tt
above_before lt o c x (y ∷ ys) h a = (o.transitive c x y h a.0, above_before lt o c x ys h a.1)

pub placed_ascends : {X : Type 0} (lt : X → X → Bool) → IsOrder lt → (c : X) (xs : List X) → Ascending lt xs → Ascending lt (placed lt c xs)
placed_ascends lt o c [] a = (tt, tt)
placed_ascends lt o c (x ∷ xs) a =
    choice (lt c x) (Ascending lt) _ _ (λ e. ((e, above_before lt o c x xs e a.0), (a.0, a.1)))
    (λ _. choice (lt x c) (Ascending lt) _ _ (λ e. (above_placed lt x c xs e a.0, placed_ascends lt o c xs a.1)) (λ _. a))

-- ---- tests
either : (a b : Bool) → (a || b) ≡ true → (a ≡ true) ⊎ (b ≡ true)
either true b h = inl refl
either false b h = inr h

two : (a b : Bool) → (a && b) ≡ true → (a ≡ true) × (b ≡ true)
two true true h = (refl, refl)
two true false h = cc
two false b h = cc

not_true : (a : Bool) → not a ≡ true → a ≡ false
not_true true h = cc
not_true false h = refl

pub same_is : {X : Type 0} (lt : X → X → Bool) → IsOrder lt → (c x : X) → same_by lt c x ≡ true → c ≡ x
same_is lt o c x h = let e = two _ _ h in o.total c x (not_true _ e.0) (not_true _ e.1)

pub has_is : {X : Type 0} (lt : X → X → Bool) → IsOrder lt → (c : X) (xs : List X) → has_by lt c xs ≡ true → Has c xs
has_is lt o c [] h = cc
has_is lt o c (x ∷ xs) h = elim (either _ _ h) [ inl e ↦ inl (same_is lt o c x e) | inr k ↦ inr (has_is lt o c xs k) ]

pub is_has : {X : Type 0} (lt : X → X → Bool) → IsOrder lt → (c : X) (xs : List X) → Has c xs → has_by lt c xs ≡ true
is_has lt o c [] h = absurd h
is_has lt o c (x ∷ xs) (inl e) = subst (λ y. (same_by lt c y || has_by lt c xs) ≡ true) e (rw (o.apart c) refl)
is_has lt o c (x ∷ xs) (inr h) = or_right (same_by lt c x) (has_by lt c xs) (is_has lt o c xs h)
  where
    or_right : (a b : Bool) → b ≡ true → (a || b) ≡ true
    or_right true b h = refl
    or_right false b h = h

pub subset_is : {X : Type 0} (lt : X → X → Bool) → IsOrder lt → (xs ys : List X) → subset_by lt xs ys ≡ true → Subset xs ys
subset_is lt o [] ys h c k = absurd k
subset_is lt o (x ∷ xs) ys h c (inl e) = subst (λ y. Has y ys) (sym e) (has_is lt o x ys (two _ _ h).0)
subset_is lt o (x ∷ xs) ys h c (inr k) = subset_is lt o xs ys (two _ _ h).1 c k

pub is_subset : {X : Type 0} (lt : X → X → Bool) → IsOrder lt → (xs ys : List X) → Subset xs ys → subset_by lt xs ys ≡ true
is_subset lt o [] ys s = refl
is_subset lt o (x ∷ xs) ys s = both _ _ (is_has lt o x ys (s x (inl refl))) (is_subset lt o xs ys (λ c h. s c (inr h)))
  where
    both : (a b : Bool) → a ≡ true → b ≡ true → (a && b) ≡ true
    both a b h k = cc

pub united_ascends : {X : Type 0} (lt : X → X → Bool) → IsOrder lt → (xs ys : List X) → Ascending lt ys → Ascending lt (united lt xs ys)
united_ascends lt o [] ys a = a
united_ascends lt o (x ∷ xs) ys a = united_ascends lt o xs (placed lt x ys) (placed_ascends lt o x ys a)

pub united_right : {X : Type 0} (lt : X → X → Bool) → IsOrder lt → (xs ys : List X) → Subset ys (united lt xs ys)
united_right lt o [] ys c h = h
united_right lt o (x ∷ xs) ys c h = united_right lt o xs (placed lt x ys) c ((placed_holds lt o x ys).1 c (inr h))

pub united_left : {X : Type 0} (lt : X → X → Bool) → IsOrder lt → (xs ys : List X) → Subset xs (united lt xs ys)
united_left lt o [] ys c h = absurd h
united_left lt o (x ∷ xs) ys c (inl e) = united_right lt o xs (placed lt x ys) c ((placed_holds lt o x ys).1 c (inl e))
united_left lt o (x ∷ xs) ys c (inr h) = united_left lt o xs (placed lt x ys) c h

pub united_least : {X : Type 0} (lt : X → X → Bool) → IsOrder lt → (xs ys zs : List X) → Subset xs zs → Subset ys zs → Subset (united lt xs ys) zs
united_least lt o [] ys zs s t c h = t c h
united_least lt o (x ∷ xs) ys zs s t c h = united_least lt o xs (placed lt x ys) zs (λ d m. s d (inr m)) (λ d m. one d ((placed_holds lt o x ys).0 d m)) c h
  where
    one : (d : _) → (d ≡ x) ⊎ Has d ys → Has d zs
    one d (inl e) = subst (λ y. Has y zs) (sym e) (s x (inl refl))
    one d (inr k) = t d k

-- ---- gathering
some_ascends : {X : Type 0} (lt : X → X → Bool) → IsOrder lt → (c : Option X) (xs : List X) → Ascending lt xs → Ascending lt (placed_some lt c xs)
some_ascends lt o None xs a = a
some_ascends lt o (Some c) xs a = placed_ascends lt o c xs a

pub mapped_ascends : {X : Type 0} (lt : X → X → Bool) → IsOrder lt → (g : X → Option X) (ys acc : List X) → Ascending lt acc → Ascending lt (mapped lt g ys acc)
mapped_ascends lt o g [] acc a = a
mapped_ascends lt o g (y ∷ ys) acc a = mapped_ascends lt o g ys (placed_some lt (g y) acc) (some_ascends lt o (g y) acc a)

pub gathered_ascends : {X : Type 0} (lt : X → X → Bool) → IsOrder lt → (f : X → X → Option X) (xs ys acc : List X) → Ascending lt acc → Ascending lt (gathered lt f xs ys acc)
gathered_ascends lt o f [] ys acc a = a
gathered_ascends lt o f (x ∷ xs) ys acc a = gathered_ascends lt o f xs ys (mapped lt (f x) ys acc) (mapped_ascends lt o (f x) ys acc a)

some_keeps : {X : Type 0} (lt : X → X → Bool) → IsOrder lt → (c : Option X) (xs : List X) (d : X) → Has d xs → Has d (placed_some lt c xs)
some_keeps lt o None xs d h = h
some_keeps lt o (Some c) xs d h = (placed_holds lt o c xs).1 d (inr h)

some_adds : {X : Type 0} (lt : X → X → Bool) → IsOrder lt → (c : Option X) (xs : List X) (d : X) → c ≡ Some d → Has d (placed_some lt c xs)
some_adds lt o None xs d e = cc
some_adds lt o (Some c) xs d e = (placed_holds lt o c xs).1 d (inl cc)

some_from : {X : Type 0} (lt : X → X → Bool) → IsOrder lt → (c : Option X) (xs : List X) (d : X) → Has d (placed_some lt c xs) → (c ≡ Some d) ⊎ Has d xs
some_from lt o None xs d h = inr h
some_from lt o (Some c) xs d h = elim ((placed_holds lt o c xs).0 d h) [ inl e ↦ inl (ap Some (sym e)) | inr k ↦ inr k ]

pub mapped_keeps : {X : Type 0} (lt : X → X → Bool) → IsOrder lt → (g : X → Option X) (ys acc : List X) → Subset acc (mapped lt g ys acc)
mapped_keeps lt o g [] acc d h = h
mapped_keeps lt o g (y ∷ ys) acc d h = mapped_keeps lt o g ys (placed_some lt (g y) acc) d (some_keeps lt o (g y) acc d h)

pub mapped_holds : {X : Type 0} (lt : X → X → Bool) → IsOrder lt → (g : X → Option X) (ys acc : List X) (y d : X) → Has y ys → g y ≡ Some d → Has d (mapped lt g ys acc)
mapped_holds lt o g [] acc y d h e = absurd h
mapped_holds lt o g (z ∷ ys) acc y d (inl same) e = mapped_keeps lt o g ys (placed_some lt (g z) acc) d (some_adds lt o (g z) acc d (ap g (sym same) ∙ e))
mapped_holds lt o g (z ∷ ys) acc y d (inr h) e = mapped_holds lt o g ys (placed_some lt (g z) acc) y d h e

pub gathered_keeps : {X : Type 0} (lt : X → X → Bool) → IsOrder lt → (f : X → X → Option X) (xs ys acc : List X) → Subset acc (gathered lt f xs ys acc)
gathered_keeps lt o f [] ys acc d h = h
gathered_keeps lt o f (x ∷ xs) ys acc d h = gathered_keeps lt o f xs ys (mapped lt (f x) ys acc) d (mapped_keeps lt o (f x) ys acc d h)

-- each pair's result is in the list
pub gathered_holds : {X : Type 0} (lt : X → X → Bool) → IsOrder lt → (f : X → X → Option X) (xs ys acc : List X) (x y d : X) → Has x xs → Has y ys → f x y ≡ Some d → Has d (gathered lt f xs ys acc)
gathered_holds lt o f [] ys acc x y d h k e = absurd h
gathered_holds lt o f (z ∷ xs) ys acc x y d (inl same) k e = gathered_keeps lt o f xs ys (mapped lt (f z) ys acc) d (mapped_holds lt o (f z) ys acc y d k (ap (λ w. f w y) (sym same) ∙ e))
gathered_holds lt o f (z ∷ xs) ys acc x y d (inr h) k e = gathered_holds lt o f xs ys (mapped lt (f z) ys acc) x y d h k e

pub mapped_from : {X : Type 0} (lt : X → X → Bool) → IsOrder lt → (g : X → Option X) (ys acc : List X) (d : X) → Has d (mapped lt g ys acc) → ((y : X) × Has y ys × (g y ≡ Some d)) ⊎ Has d acc
mapped_from lt o g [] acc d h = inr h
mapped_from lt o g (y ∷ ys) acc d h = elim (mapped_from lt o g ys (placed_some lt (g y) acc) d h) [
  | inl p ↦ inl (p.0, inr p.1, p.2)
  | inr k ↦ elim (some_from lt o (g y) acc d k) [ inl e ↦ inl (y, inl refl, e) | inr m ↦ inr m ]
]

-- nothing else is in it
pub gathered_from : {X : Type 0} (lt : X → X → Bool) → IsOrder lt → (f : X → X → Option X) (xs ys acc : List X) (d : X) → Has d (gathered lt f xs ys acc) → IsPair f xs ys d ⊎ Has d acc
gathered_from lt o f [] ys acc d h = inr h
gathered_from lt o f (x ∷ xs) ys acc d h = elim (gathered_from lt o f xs ys (mapped lt (f x) ys acc) d h) [
  | inl q ↦ inl (record { left = q.left; right = q.right; in_left = inr q.in_left; in_right = q.in_right; is = q.is })
  | inr k ↦ elim (mapped_from lt o (f x) ys acc d k) [ inl p ↦ inl (record { left = x; right = p.0; in_left = inl refl; in_right = p.1; is = p.2 }) | inr m ↦ inr m ]
]

pub gathered_monotone : {X : Type 0} (lt : X → X → Bool) → IsOrder lt → (f : X → X → Option X) (xs ys us vs : List X) → Subset xs us → Subset ys vs → Subset (gathered lt f xs ys []) (gathered lt f us vs [])
gathered_monotone lt o f xs ys us vs s t d h = elim (gathered_from lt o f xs ys [] d h) [
  | inl p ↦ gathered_holds lt o f us vs [] p.left p.right d (s p.left p.in_left) (t p.right p.in_right) p.is
  | inr m ↦ absurd m
]

pub mapped_monotone : {X : Type 0} (lt : X → X → Bool) → IsOrder lt → (g : X → Option X) (ys vs : List X) → Subset ys vs → Subset (mapped lt g ys []) (mapped lt g vs [])
mapped_monotone lt o g ys vs t d h = elim (mapped_from lt o g ys [] d h) [
  | inl p ↦ mapped_holds lt o g vs [] p.0 d (t p.0 p.1) p.2
  | inr m ↦ absurd m
]

-- ---- members that pass a test
pub kept_holds : {X : Type 0} (p : X → Bool) (xs : List X) (c : X) → Has c xs → p c ≡ true → Has c (kept_members p xs)
kept_holds p [] c h e = absurd h
kept_holds p (x ∷ xs) c (inl same) e = rw (ap p (sym same) ∙ e) (inl same)
kept_holds p (x ∷ xs) c (inr h) e = by (p x) (kept_holds p xs c h e)
  where
    by : (b : Bool) → Has c (kept_members p xs) → Has c (cond b (x ∷ kept_members p xs) (kept_members p xs))
    by true rest = inr rest
    by false rest = rest

pub kept_from : {X : Type 0} (p : X → Bool) (xs : List X) (c : X) → Has c (kept_members p xs) → Has c xs × (p c ≡ true)
kept_from p [] c h = absurd h
kept_from p (x ∷ xs) c h = by (p x) refl h (kept_from p xs c)
  where
    by : (b : Bool) → p x ≡ b → Has c (cond b (x ∷ kept_members p xs) (kept_members p xs)) → (Has c (kept_members p xs) → Has c xs × (p c ≡ true)) → ((c ≡ x) ⊎ Has c xs) × (p c ≡ true)
    by true e (inl same) rest = (inl same, ap p same ∙ e)
    by true e (inr k) rest = (inr (rest k).0, (rest k).1)
    by false e k rest = (inr (rest k).0, (rest k).1)

pub kept_monotone : {X : Type 0} (p q : X → Bool) (xs ys : List X) → ((c : X) → p c ≡ true → q c ≡ true) → Subset xs ys → Subset (kept_members p xs) (kept_members q ys)
kept_monotone p q xs ys le s c h = let k = kept_from p xs c h in kept_holds q ys c (s c k.0) (le c k.1)

kept_above : {X : Type 0} (lt : X → X → Bool) (p : X → Bool) (x : X) (xs : List X) → Above lt x xs → Above lt x (kept_members p xs)
kept_above lt p x [] a = tt
kept_above lt p x (y ∷ ys) a = choice (p y) (Above lt x) _ _ (λ _. (a.0, kept_above lt p x ys a.1)) (λ _. kept_above lt p x ys a.1)

pub kept_ascends : {X : Type 0} (lt : X → X → Bool) (p : X → Bool) (xs : List X) → Ascending lt xs → Ascending lt (kept_members p xs)
kept_ascends lt p [] a = tt
kept_ascends lt p (x ∷ xs) a = choice (p x) (Ascending lt) _ _ (λ _. (kept_above lt p x xs a.0, kept_ascends lt p xs a.1)) (λ _. kept_ascends lt p xs a.1)

pub kept_shorter : {X : Type 0} (p : X → Bool) (xs : List X) → length (kept_members p xs) ≤ length xs
kept_shorter p [] = omega arith
kept_shorter p (x ∷ xs) = let rest = kept_shorter p xs in by (p x) rest
  where
    by : (b : Bool) → length (kept_members p xs) ≤ length xs → length (cond b (x ∷ kept_members p xs) (kept_members p xs)) ≤ suc (length xs)
    by true h = omega arith
    by false h = omega arith
