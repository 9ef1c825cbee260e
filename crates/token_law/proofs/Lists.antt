-- Readers of lists with commas.
use Rattle.std.proofs.Common.{◌≡◌, Bool, true, false, List, [], ◌∷◌, ◌++◌, refl, ap, ◌∙◌, append_assoc, inl, inr}
use denote.Enum.Bare.{sameb}
use Rattle.gimple_tokens.specs.contracts.token.Symbol.{the_type}
use Rattle.gimple_tokens.specs.declared.token.Symbol.{Symbol}
use Rattle.gimple_tokens.specs.declared.token.Symbol.TheVariants as s
use Rattle.gimple_tokens.specs.declared.token.Token.TheVariants as tok
use Rattle.token_law.specs.Reading.{Tokens, Parser, ◌>>=◌, pure, sees, not_before, fixed, one_of, after_comma, one_or_more, separated}
use Rattle.token_law.specs.Languages.{IsMany, IsAfterComma, IsSeparated}
use Rattle.token_law.proofs.ReadsExactly.{ReadsExactly, IsThen, IsEither, IsPure, Avoids, never, pure_exact, then_exact, choose_exact, recast, widen}
use Rattle.token_law.proofs.Many.{many_exact}
use Rattle.token_law.proofs.Leaves.{IsFixed, IsKey, sees_head, sees_self, before_sees, before_other, fixed_exact}

-- one reader after another that looks at no token past its own
pub after : {A B : Type 0} {p : Parser A} {q : A → Parser B} {S : A → Tokens → Type 0} {T : A → B → Tokens → Type 0} {n : Tokens → Bool} → ReadsExactly p S never → ((a : A) → ReadsExactly (q a) (T a) n) → ReadsExactly (p >>= q) (IsThen S T) n
after {p = p} {q = q} {S = S} {T = T} {n = n} ep eq = then_exact p q S T never n ep eq (λ a b y rest h stop. refl)

-- a reader, and then a symbol that it does not go on with
pub then_symbol : {A B : Type 0} {p : Parser A} {q : A → Parser B} {S : A → Tokens → Type 0} {T : A → B → Tokens → Type 0} {m n : Tokens → Bool} (x : Symbol) → ReadsExactly p S m → ((rest : Tokens) → sees x rest ≡ true → m rest ≡ false) → ((a : A) → ReadsExactly (q a) (T a) n)
    → ReadsExactly (p >>= λ a. fixed x >>= λ _. q a) (IsThen S (λ a. IsThen (IsFixed x) (λ _. T a))) n
then_symbol {p = p} {q = q} {S = S} {T = T} {m = m} {n = n} x ep apart eq = then_exact p _ S _ m n ep (λ a. after (fixed_exact x) (λ _. eq a))
    (λ a b y rest h stop. let e : y ++ rest ≡ tok.Fixed x ∷ (h.2 ++ rest) = rw h.5 (rw h.3 refl) in rw e (apart (tok.Fixed x ∷ (h.2 ++ rest)) (sees_self x (h.2 ++ rest))))

module _ {A : Type 0} (item : Parser A) (S : A → Tokens → Type 0) (mi : Tokens → Bool) (ei : ReadsExactly item S mi) (apart : (ts : Tokens) → sees s.Comma ts ≡ true → mi ts ≡ false) where
  pub after_comma_exact : ReadsExactly (after_comma item) (IsAfterComma S) mi
  unfolding after_comma
  after_comma_exact = recast (after (fixed_exact s.Comma) (λ _. ei))
      (λ a ts h. (h.2, h.4, cc))
      (λ a ts h. (tt, tok.Fixed s.Comma ∷ [], h.0, refl, h.1, h.2))

  abbrev pub IsSome : List A → Tokens → Type 0
  IsSome xs ts = (x : A) × (ys : List A) × (a : Tokens) × (b : Tokens) × (xs ≡ x ∷ ys) × S x a × IsMany (IsAfterComma S) ys b × (ts ≡ a ++ b)

  -- items with commas before them keep an item from going on
  follows : (ys : List A) (b rest : Tokens) → IsMany (IsAfterComma S) ys b → mi rest ≡ false → mi (b ++ rest) ≡ false
  follows [] b rest h stop = let e : b ≡ [] = h in rw e stop
  follows (y ∷ ys) b rest h stop =
      let e : b ++ rest ≡ tok.Fixed s.Comma ∷ (h.2.0 ++ (h.1 ++ rest)) = rw h.4 (rw h.2.2 (append_assoc (tok.Fixed s.Comma ∷ h.2.0) h.1 rest)) in
      rw e (apart (tok.Fixed s.Comma ∷ (h.2.0 ++ (h.1 ++ rest))) (sees_self s.Comma (h.2.0 ++ (h.1 ++ rest))))

  module _ (close : Symbol) (other : sameb the_type close s.Comma ≡ false) (ends : (rest : Tokens) → sees close rest ≡ true → mi rest ≡ false) where
    ends_before : (rest : Tokens) → not_before close rest ≡ false → mi rest ≡ false
    ends_before rest e = ends rest (before_sees close rest e)

    pub some_exact : ReadsExactly (one_or_more item) IsSome (not_before close)
    unfolding one_or_more
    some_exact = recast (then_exact item _ _ _ mi (not_before close) ei (λ x. many_exact (sees s.Comma) (sees_head s.Comma) (after_comma item) (IsAfterComma S) mi (not_before close) after_comma_exact
        (λ a pre rest h. rw h.2 (sees_self s.Comma (h.0 ++ rest)))
        apart (λ rest e. before_other close s.Comma rest other e) ends_before (x ∷ []))
        (λ a b y rest h stop. follows h.0 y rest h.2 (ends_before rest stop)))
        (λ xs ts h. (h.0, h.4.0, h.1, h.2, h.4.1, h.3, h.4.2, h.5))
        (λ xs ts h. (h.0, h.2, h.3, h.5, (h.1, h.4, h.6), h.7))

  separated_to : (xs : List A) (ts : Tokens) → IsEither (IsPure []) IsSome xs ts → IsSeparated S xs ts
  separated_to xs ts h = elim h [ inl a ↦ rw a.0 a.1 | inr b ↦ rw b.4 (b.2, b.3, b.5, b.6, b.7) ]

  separated_from : (xs : List A) (ts : Tokens) → IsSeparated S xs ts → IsEither (IsPure []) IsSome xs ts
  separated_from [] ts h = inl (refl, h)
  separated_from (x ∷ xs) ts h = inr (x, xs, h.0, h.1, refl, h.2, h.3, h.4)

  -- an item does not begin with a closing parenthesis
  pub separated_exact : ((rest : Tokens) → sees s.Close rest ≡ true → mi rest ≡ false) → ((a : A) (pre rest : Tokens) → S a pre → sees s.Close (pre ++ rest) ≡ false) → ReadsExactly (separated item) (IsSeparated S) (not_before s.Close)
  unfolding separated
  separated_exact ends other = recast (choose_exact (sees s.Close) (sees_head s.Close) _ _ (IsPure []) IsSome (not_before s.Close)
      (widen (pure_exact []) (λ rest e. refl))
      (some_exact s.Close refl ends)
      (λ xs pre rest h stop. rw h.1 (before_sees s.Close rest stop))
      (λ xs pre rest h stop. let e : pre ++ rest ≡ h.2 ++ (h.3 ++ rest) = rw h.7 (append_assoc h.2 h.3 rest) in rw e (other h.0 h.2 (h.3 ++ rest) h.5)))
      separated_to separated_from

-- ---- what follows a reader

-- a reader, and then a symbol that stands for a value
pub then_key : {A B C : Type 0} {p : Parser A} {q : A → C → Parser B} {S : A → Tokens → Type 0} {T : A → C → B → Tokens → Type 0} {m n : Tokens → Bool} (key : C → Symbol) (all : List C) → ReadsExactly p S m → ReadsExactly (one_of key all) (IsKey key) never → ((c : C) (rest : Tokens) → m (tok.Fixed (key c) ∷ rest) ≡ false) → ((a : A) (c : C) → ReadsExactly (q a c) (T a c) n)
    → ReadsExactly (p >>= λ a. one_of key all >>= λ c. q a c) (IsThen S (λ a. IsThen (IsKey key) (λ c. T a c))) n
then_key {p = p} {m = m} {n = n} key all ep ek apart eq = then_exact p _ _ _ m n ep (λ a. after ek (λ c. eq a c))
    (λ a b y rest h stop. let e : y ++ rest ≡ tok.Fixed (key h.0) ∷ (h.2 ++ rest) = rw h.5 (rw h.3 refl) in rw e (apart h.0 (h.2 ++ rest)))

-- the last reader, and its value
pub ends_with : {A B : Type 0} {p : Parser A} {S : A → Tokens → Type 0} {m : Tokens → Bool} (f : A → B) → ReadsExactly p S m → ReadsExactly (p >>= λ a. pure (f a)) (IsThen S (λ a. IsPure (f a))) m
ends_with {p = p} {m = m} f ep = then_exact p _ _ _ m m ep (λ a. widen (pure_exact (f a)) (λ rest e. refl)) (λ a b y rest h stop. rw h.1 stop)

-- what does not begin so, and then what does not
pub many_then : {A : Type 0} (test : Tokens → Bool) (S : A → Tokens → Type 0) → Avoids test S → (xs : List A) (x y rest : Tokens) → IsMany S xs x → test (y ++ rest) ≡ false → test ((x ++ y) ++ rest) ≡ false
many_then test S avoids [] x y rest h e = let g : x ≡ [] = h in rw g e
many_then test S avoids (a ∷ more) x y rest h e =
    let g : (x ++ y) ++ rest ≡ h.0 ++ ((h.1 ++ y) ++ rest) = rw h.4 (ap (λ z. z ++ rest) (append_assoc h.0 h.1 y) ∙ append_assoc h.0 (h.1 ++ y) rest) in
    rw g (avoids a h.0 ((h.1 ++ y) ++ rest) h.2)
