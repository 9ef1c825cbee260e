-- Readers of one token.
use Rattle.std.proofs.Common.{◌≡◌, ℕ, ◌==◌, Bool, true, false, not, ◌||◌, cond, List, [], ◌∷◌, length, Option, Some, None, Ok, Err, refl, sym, ap, subst, ◌∙◌, lit<, rules, inl, inr, ◌⊎◌}
use Rattle.std.proofs.lemmas.Bool.{eqb-true}
use Rattle.std.specs.Option.{is_some}
use denote.Enum.Bare.{sameb, same_true, true_same}
use Rattle.gimple_tokens.specs.declared.token.Symbol.{Symbol}
use Rattle.gimple_tokens.specs.declared.token.Token.{Token}
use Rattle.gimple_tokens.specs.declared.token.Token.TheVariants as tok
use Rattle.gimple_tokens.specs.contracts.token.Symbol.{the_type}
use Rattle.std.specs.Prelude.{codes}
use Rattle.gimple_ir.specs.Spellable.{IsProfile}
use Rattle.gimple_ir.specs.Names.{is_keyword, IsNameText}
use Rattle.gimple_tokens.specs.Lexing.{IsReal}
use Rattle.token_law.specs.Reading.{Tokens, Outcome, Parser, pure, choose, keyed, sees, sees_name, not_before, leaf_at, leaf, of_symbol, lookup, one_of, sees_one, fixed, name, number, is_profile, profile_number, end_of_text}
use Rattle.token_law.proofs.ReadsExactly.{ReadsExactly, IsHeadTest, IsEither, IsPure, Avoids, pure_exact, then_exact, choose_exact, never, ok_parts, test_cases, recast}

-- ---- tests of the next token

pub sees_head : (x : Symbol) → IsHeadTest (sees x)
unfolding sees
sees_head x = record { none = refl; same = λ t m m'. elim t as (λ t. sees x (t ∷ m) ≡ sees x (t ∷ m')) [ tok.Name n ↦ refl | tok.Number n ↦ refl | tok.Huge ↦ refl | tok.Fixed y ↦ refl ] }

pub sees_name_head : IsHeadTest sees_name
unfolding sees_name
sees_name_head = record { none = refl; same = λ t m m'. elim t as (λ t. sees_name (t ∷ m) ≡ sees_name (t ∷ m')) [ tok.Name n ↦ refl | tok.Number n ↦ refl | tok.Huge ↦ refl | tok.Fixed y ↦ refl ] }

pub sees_self : (x : Symbol) (m : Tokens) → sees x (tok.Fixed x ∷ m) ≡ true
unfolding sees
sees_self x m = true_same the_type x x refl

sees_is : (x : Symbol) (ts : Tokens) → sees x ts ≡ true → (m : Tokens) × (ts ≡ tok.Fixed x ∷ m)
unfolding sees
sees_is x [] e = absurd cc
sees_is x (tok.Name n ∷ m) e = absurd cc
sees_is x (tok.Number n ∷ m) e = absurd cc
sees_is x (tok.Huge ∷ m) e = absurd cc
sees_is x (tok.Fixed y ∷ m) e = (m, ap (λ u. tok.Fixed u ∷ m) (same_true the_type (search rules) y x e))

not_false : (b : Bool) → not b ≡ false → b ≡ true
not_false true e = refl
not_false false e = absurd cc

pub before_sees : (x : Symbol) (rest : Tokens) → not_before x rest ≡ false → sees x rest ≡ true
before_sees x rest e = not_false (sees x rest) e

pub before_self : (x : Symbol) (m : Tokens) → not_before x (tok.Fixed x ∷ m) ≡ false
before_self x m = ap not (sees_self x m)

pub before_other : (x y : Symbol) (rest : Tokens) → sameb the_type x y ≡ false → not_before x rest ≡ false → sees y rest ≡ false
unfolding sees
before_other x y rest differ e = let h = sees_is x rest (before_sees x rest e) in ap (sees y) h.1 ∙ differ

pub before_no_name : (x : Symbol) (rest : Tokens) → not_before x rest ≡ false → sees_name rest ≡ false
unfolding sees_name
before_no_name x rest e = let h = sees_is x rest (before_sees x rest e) in ap sees_name h.1

-- ---- one token

abbrev pub IsLeaf : {A : Type 0} → (Token → Option A) → A → Tokens → Type 0
IsLeaf f a ts = (t : Token) × (f t ≡ Some a) × (ts ≡ t ∷ [])

leaf_ok : {A : Type 0} (o : Option A) (t : Token) (m : Tokens) (a : A) (rest : Tokens) → leaf_at o t m ≡ Ok (a, rest) → (o ≡ Some a) × (m ≡ rest)
leaf_ok (Some b) t m a rest e = let v = ok_parts b a m rest e in (ap Some v.0, v.1)
leaf_ok None t m a rest e = absurd cc

leaf_err : {A : Type 0} (o : Option A) (t : Token) (m : Tokens) (n : ℕ) → leaf_at o t m ≡ Err n → (o ≡ None) × (length (t ∷ m) ≡ n)
leaf_err (Some b) t m n e = absurd cc
leaf_err None t m n e = (refl, cc)

module _ {A : Type 0} (p : Parser A) (f : Token → Option A) (is : (ts : Tokens) → p ts ≡ leaf f ts) where
  leaf_sound : (ts : Tokens) (a : A) (rest : Tokens) → p ts ≡ Ok (a, rest) → (t : Token) × (ts ≡ t ∷ rest) × (f t ≡ Some a)
  leaf_sound [] a rest e = let h = is [] in absurd cc
  leaf_sound (t ∷ m) a rest e = let v = leaf_ok (f t) t m a rest (sym (is (t ∷ m)) ∙ e) in (t, ap (λ z. t ∷ z) v.1, v.0)

  leaf_reads : (t : Token) (a : A) (m : Tokens) → f t ≡ Some a → p (t ∷ m) ≡ Ok (a, m)
  leaf_reads t a m e = is (t ∷ m) ∙ rw e refl

  leaf_refuses : (ts : Tokens) (n : ℕ) → p ts ≡ Err n → (length ts ≡ n) × ((t : Token) (m m' : Tokens) → ts ≡ t ∷ m → p (t ∷ m') ≡ Err (length (t ∷ m')))
  leaf_refuses [] n e = let h = is [] in (cc, λ t m m' h. absurd cc)
  leaf_refuses (t ∷ m) n e =
      let v = leaf_err (f t) t m n (sym (is (t ∷ m)) ∙ e) in
      (v.1, λ u k k' h. let same : t ≡ u = cc in let none : f u ≡ None = sym (ap f same) ∙ v.0 in is (u ∷ k') ∙ rw none refl)

  pub leaf_exact : (a : A) (t : Token) → f t ≡ Some a → IsReal t → ReadsExactly p (IsLeaf f) never
  leaf_exact b u member real = record {
    sound = λ ts a rest e.
        let v = leaf_sound ts a rest e in
        record { pre = v.0 ∷ []; parts = v.1; spelled = (v.0, v.2, refl); steady = λ t m m' h. leaf_reads v.0 a (t ∷ m') v.2 };
    complete = λ a pre rest h stop. let e : pre ≡ h.0 ∷ [] = h.2 in rw e (leaf_reads h.0 a rest h.1);
    stuck = λ ts left e.
        let v = leaf_refuses ts left e in
        record { pre = []; at = ts; parts = refl; count = v.0; begins = record { value = b; more = u ∷ []; real = (real, tt); spelled = (u, member, refl) }; stays = v.1 };
    member = record { value = b; more = u ∷ []; real = (real, tt); spelled = (u, member, refl) };
  }

-- ---- a symbol

abbrev pub IsFixed : Symbol → Unit {0} → Tokens → Type 0
IsFixed x a ts = ts ≡ tok.Fixed x ∷ []

abbrev if_true : Bool → Option (Unit {0})
if_true b = cond b (Some tt) None

abbrev read_if : Bool → Token → Tokens → Outcome (Unit {0})
read_if b t m = cond b (Ok (tt, m)) (Err (length (t ∷ m)))

abbrev fixed_of : Symbol → Token → Option (Unit {0})
fixed_of x (tok.Name n) = None
fixed_of x (tok.Number n) = None
fixed_of x tok.Huge = None
fixed_of x (tok.Fixed y) = if_true (sameb the_type y x)

fixed_by : (b : Bool) (t : Token) (m : Tokens) → read_if b t m ≡ leaf_at (if_true b) t m
fixed_by true t m = refl
fixed_by false t m = refl

fixed_leaf : (x : Symbol) (ts : Tokens) → fixed x ts ≡ leaf (fixed_of x) ts
unfolding fixed sees
fixed_leaf x [] = refl
fixed_leaf x (tok.Name n ∷ m) = refl
fixed_leaf x (tok.Number n ∷ m) = refl
fixed_leaf x (tok.Huge ∷ m) = refl
fixed_leaf x (tok.Fixed y ∷ m) = fixed_by (sameb the_type y x) (tok.Fixed y) m

fixed_self : (x : Symbol) → fixed_of x (tok.Fixed x) ≡ Some tt
fixed_self x = rw (true_same the_type x x refl) refl

some_if : (b : Bool) (a : Unit {0}) → if_true b ≡ Some a → b ≡ true
some_if true a e = refl
some_if false a e = absurd cc

fixed_is : (x : Symbol) (t : Token) (a : Unit {0}) → fixed_of x t ≡ Some a → t ≡ tok.Fixed x
fixed_is x (tok.Name n) a e = absurd cc
fixed_is x (tok.Number n) a e = absurd cc
fixed_is x tok.Huge a e = absurd cc
fixed_is x (tok.Fixed y) a e = ap tok.Fixed (same_true the_type (search rules) y x (some_if (sameb the_type y x) a e))

pub fixed_exact : (x : Symbol) → ReadsExactly (fixed x) (IsFixed x) never
fixed_exact x = recast (leaf_exact (fixed x) (fixed_of x) (fixed_leaf x) tt (tok.Fixed x) (fixed_self x) tt)
    (λ a ts h. h.2 ∙ ap (λ u. u ∷ []) (fixed_is x h.0 a h.1))
    (λ a ts h. (tok.Fixed x, fixed_self x, h))

-- ---- names and numbers

abbrev pub IsName : List ℕ → Tokens → Type 0
IsName x ts = ts ≡ tok.Name x ∷ []

abbrev name_of : Token → Option (List ℕ)
name_of (tok.Name n) = Some n
name_of (tok.Number n) = None
name_of tok.Huge = None
name_of (tok.Fixed y) = None

name_leaf : (ts : Tokens) → name ts ≡ leaf name_of ts
unfolding name
name_leaf [] = refl
name_leaf (tok.Name n ∷ m) = refl
name_leaf (tok.Number n ∷ m) = refl
name_leaf (tok.Huge ∷ m) = refl
name_leaf (tok.Fixed y ∷ m) = refl

name_is : (u : Token) (x : List ℕ) → name_of u ≡ Some x → u ≡ tok.Name x
name_is (tok.Name n) x e = cc
name_is (tok.Number n) x e = absurd cc
name_is tok.Huge x e = absurd cc
name_is (tok.Fixed y) x e = absurd cc

letter : IsNameText (codes "a")
unfolding is_keyword
letter = (refl, tt, refl)

pub name_exact : ReadsExactly name IsName never
name_exact = recast (leaf_exact name name_of name_leaf (codes "a") (tok.Name (codes "a")) refl letter) (λ x ts h. h.2 ∙ ap (λ u. u ∷ []) (name_is h.0 x h.1)) (λ x ts h. (tok.Name x, refl, h))

abbrev pub IsNumber : ℕ → Tokens → Type 0
IsNumber n ts = ts ≡ tok.Number n ∷ []

abbrev number_of : Token → Option ℕ
number_of (tok.Name n) = None
number_of (tok.Number n) = Some n
number_of tok.Huge = None
number_of (tok.Fixed y) = None

number_leaf : (ts : Tokens) → number ts ≡ leaf number_of ts
unfolding number
number_leaf [] = refl
number_leaf (tok.Name n ∷ m) = refl
number_leaf (tok.Number n ∷ m) = refl
number_leaf (tok.Huge ∷ m) = refl
number_leaf (tok.Fixed y ∷ m) = refl

number_is : (u : Token) (x : ℕ) → number_of u ≡ Some x → u ≡ tok.Number x
number_is (tok.Name n) x e = absurd cc
number_is (tok.Number n) x e = cc
number_is tok.Huge x e = absurd cc
number_is (tok.Fixed y) x e = absurd cc

pub number_exact : ReadsExactly number IsNumber never
number_exact = recast (leaf_exact number number_of number_leaf 0 (tok.Number 0) refl (lit< tt)) (λ x ts h. h.2 ∙ ap (λ u. u ∷ []) (number_is h.0 x h.1)) (λ x ts h. (tok.Number x, refl, h))

-- ---- the number of the header, and the end

abbrev pub IsHeader : ℕ → Tokens → Type 0
IsHeader n ts = IsProfile n × (ts ≡ tok.Number n ∷ [])

abbrev number_if : Bool → ℕ → Option ℕ
number_if b n = cond b (Some n) None

abbrev read_number_if : Bool → ℕ → Tokens → Outcome ℕ
read_number_if b n m = cond b (Ok (n, m)) (Err (length (tok.Number n ∷ m)))

abbrev profile_of : Token → Option ℕ
profile_of (tok.Name n) = None
profile_of (tok.Number n) = number_if (is_profile n) n
profile_of tok.Huge = None
profile_of (tok.Fixed y) = None

profile_by : (b : Bool) (n : ℕ) (m : Tokens) → read_number_if b n m ≡ leaf_at (number_if b n) (tok.Number n) m
profile_by true n m = refl
profile_by false n m = refl

profile_leaf : (ts : Tokens) → profile_number ts ≡ leaf profile_of ts
unfolding profile_number
profile_leaf [] = refl
profile_leaf (tok.Name n ∷ m) = refl
profile_leaf (tok.Number n ∷ m) = profile_by (is_profile n) n m
profile_leaf (tok.Huge ∷ m) = refl
profile_leaf (tok.Fixed y ∷ m) = refl

number_was : (b : Bool) (n x : ℕ) → number_if b n ≡ Some x → (b ≡ true) × (n ≡ x)
number_was true n x e = (refl, cc)
number_was false n x e = absurd cc

or_cases : (a b : Bool) → (a || b) ≡ true → (a ≡ true) ⊎ (b ≡ true)
or_cases true b e = inl refl
or_cases false b e = inr e

tested : (n : ℕ) → is_profile n ≡ true → IsProfile n
tested n e = elim (or_cases (n == 1) (n == 2) e) [ inl h ↦ inl (eqb-true n 1 h) | inr h ↦ inr (eqb-true n 2 h) ]

tests : (n : ℕ) → IsProfile n → is_profile n ≡ true
tests n h = elim h [ inl e ↦ rw e refl | inr e ↦ rw e refl ]

profile_is : (u : Token) (x : ℕ) → profile_of u ≡ Some x → IsProfile x × (u ≡ tok.Number x)
profile_is (tok.Name n) x e = absurd cc
profile_is (tok.Number n) x e = let h = number_was (is_profile n) n x e in (subst IsProfile h.1 (tested n h.0), ap tok.Number h.1)
profile_is tok.Huge x e = absurd cc
profile_is (tok.Fixed y) x e = absurd cc

profile_found : (n : ℕ) → IsProfile n → profile_of (tok.Number n) ≡ Some n
profile_found n h = rw (tests n h) refl

pub profile_exact : ReadsExactly profile_number IsHeader never
profile_exact = recast (leaf_exact profile_number profile_of profile_leaf 1 (tok.Number 1) refl (lit< tt))
    (λ x ts h. let v = profile_is h.0 x h.1 in (v.0, h.2 ∙ ap (λ u. u ∷ []) v.1))
    (λ x ts h. (tok.Number x, profile_found x h.0, h.1))

abbrev pub is_more : Tokens → Bool
is_more [] = false
is_more (t ∷ ts) = true

pub end_sound : (ts : Tokens) (a : Unit {0}) (rest : Tokens) → end_of_text ts ≡ Ok (a, rest) → (ts ≡ []) × (rest ≡ [])
unfolding end_of_text
end_sound [] a rest e = let v = ok_parts tt a [] rest e in (refl, sym v.1)
end_sound (t ∷ ts) a rest e = absurd cc

end_complete : (rest : Tokens) → is_more rest ≡ false → end_of_text rest ≡ Ok (tt, rest)
unfolding end_of_text
end_complete [] e = refl
end_complete (t ∷ ts) e = absurd cc

end_stuck : (ts : Tokens) (left : ℕ) → end_of_text ts ≡ Err left → (length ts ≡ left) × ((t : Token) (m : Tokens) → end_of_text (t ∷ m) ≡ Err (length (t ∷ m)))
unfolding end_of_text
end_stuck [] left e = absurd cc
end_stuck (t ∷ ts) left e = (cc, λ t m. refl)

pub end_exact : ReadsExactly end_of_text (IsPure tt) is_more
end_exact = record {
  sound = λ ts a rest e.
      let v = end_sound ts a rest e in
      record { pre = []; parts = v.0 ∙ sym v.1; spelled = (refl, refl); steady = λ t m m' h. let g = v.1 in absurd cc };
  complete = λ a pre rest h stop. let e : pre ≡ [] = h.1 in rw e (end_complete rest stop);
  stuck = λ ts left e.
      let v = end_stuck ts left e in
      record { pre = []; at = ts; parts = refl; count = v.0; begins = record { value = tt; more = []; real = tt; spelled = (refl, refl) }; stays = λ t m m' h. v.1 t m' };
  member = record { value = tt; more = []; real = tt; spelled = (refl, refl) };
}

-- ---- a value that a symbol stands for

abbrev pub IsKeyed : {A : Type 0} → Symbol → A → A → Tokens → Type 0
IsKeyed x v a ts = (a ≡ v) × (ts ≡ tok.Fixed x ∷ [])

pub keyed_exact : {A : Type 0} (x : Symbol) (v : A) → ReadsExactly (keyed x v) (IsKeyed x v) never
keyed_exact x v = recast (then_exact (fixed x) (λ _. pure v) (IsFixed x) (λ _. IsPure v) never never (fixed_exact x) (λ _. pure_exact v) (λ a b y rest h stop. refl))
    (λ a ts h. (h.4.0, cc))
    (λ a ts h. (tt, tok.Fixed x ∷ [], [], refl, (h.0, refl), h.1))

pub fixed_avoids : (x y : Symbol) → sameb the_type x y ≡ false → Avoids (sees y) (IsFixed x)
unfolding sees
fixed_avoids x y differ a pre rest h = rw h differ

pub keyed_avoids : {A : Type 0} (x y : Symbol) (v : A) → sameb the_type x y ≡ false → Avoids (sees y) (IsKeyed x v)
unfolding sees
keyed_avoids x y v differ a pre rest h = rw h.1 differ

-- the value of a symbol, or something else
pub by_symbol : {A : Type 0} {q : Parser A} {T : A → Tokens → Type 0} (x : Symbol) (v : A) → ReadsExactly q T never → Avoids (sees x) T → ReadsExactly (choose (sees x) (keyed x v) q) (IsEither (IsKeyed x v) T) never
by_symbol {q = q} {T = T} x v eq other = choose_exact (sees x) (sees_head x) (keyed x v) q (IsKeyed x v) T never (keyed_exact x v) eq
    (λ a pre rest h stop. rw h.1 (sees_self x rest))
    (λ a pre rest h stop. other a pre rest h)

-- ---- a value that one of several symbols stands for

abbrev pub IsKey : {A : Type 0} → (A → Symbol) → A → Tokens → Type 0
IsKey key a ts = ts ≡ tok.Fixed (key a) ∷ []

looked_up : {A : Type 0} (key : A → Symbol) (all : List A) (y : Symbol) (a : A) → lookup key all y ≡ Some a → y ≡ key a
looked_up key [] y a e = absurd cc
looked_up key (b ∷ more) y a e =
    elim (test_cases (sameb the_type y (key b))) [
      | inl h ↦ let f : Some b ≡ Some a = rw h at e in let g : b ≡ a = cc in same_true the_type (search rules) y (key b) h ∙ ap key g
      | inr h ↦ looked_up key more y a (rw h at e)
    ]

key_is : {A : Type 0} (key : A → Symbol) (all : List A) (t : Token) (a : A) → of_symbol (lookup key all) t ≡ Some a → t ≡ tok.Fixed (key a)
key_is key all (tok.Name n) a e = absurd cc
key_is key all (tok.Number n) a e = absurd cc
key_is key all tok.Huge a e = absurd cc
key_is key all (tok.Fixed y) a e = ap tok.Fixed (looked_up key all y a e)

pub one_of_exact : {A : Type 0} (key : A → Symbol) (all : List A) → ((a : A) → lookup key all (key a) ≡ Some a) → A → ReadsExactly (one_of key all) (IsKey key) never
one_of_exact key all found b = recast (leaf_exact (one_of key all) (of_symbol (lookup key all)) (λ ts. refl) b (tok.Fixed (key b)) (found b) tt)
    (λ a ts h. h.2 ∙ ap (λ u. u ∷ []) (key_is key all h.0 a h.1))
    (λ a ts h. (tok.Fixed (key a), found a, h))

pub sees_one_head : {A : Type 0} (key : A → Symbol) (all : List A) → IsHeadTest (sees_one key all)
sees_one_head key all = record { none = refl; same = λ t m m'. refl }

pub sees_one_self : {A : Type 0} (key : A → Symbol) (all : List A) → ((a : A) → lookup key all (key a) ≡ Some a) → (a : A) (m : Tokens) → sees_one key all (tok.Fixed (key a) ∷ m) ≡ true
sees_one_self key all found a m = ap is_some (found a)

-- ---- what a symbol that comes next keeps from being next

pub seen_one : {A : Type 0} (key : A → Symbol) (all : List A) (x : Symbol) (rest : Tokens) → is_some (lookup key all x) ≡ false → sees x rest ≡ true → sees_one key all rest ≡ false
seen_one key all x rest differ e = let h = sees_is x rest e in ap (sees_one key all) h.1 ∙ differ

pub seen_other : (x y : Symbol) (rest : Tokens) → sameb the_type x y ≡ false → sees x rest ≡ true → sees y rest ≡ false
unfolding sees
seen_other x y rest differ e = let h = sees_is x rest e in ap (sees y) h.1 ∙ differ

pub seen_no_name : (x : Symbol) (rest : Tokens) → sees x rest ≡ true → sees_name rest ≡ false
unfolding sees_name
seen_no_name x rest e = let h = sees_is x rest e in ap sees_name h.1

pub seen_test : (test : Tokens → Bool) (x : Symbol) (rest : Tokens) → ((m : Tokens) → test (tok.Fixed x ∷ m) ≡ false) → sees x rest ≡ true → test rest ≡ false
seen_test test x rest differ e = let h = sees_is x rest e in ap test h.1 ∙ differ h.0
