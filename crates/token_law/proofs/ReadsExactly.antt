-- Readers that read a language exactly: what they read is in it, what is in it they read, and where they fail the
-- tokens so far begin something of it, and no longer do with the next one.
use Rattle.std.proofs.Common.{◌≡◌, ℕ, Bool, true, false, cond, ◌&&◌, [], ◌∷◌, ◌++◌, length, Ok, Err, refl, sym, ap, subst, ◌∙◌, append_assoc, inl, inr, ◌⊎◌}
use Rattle.gimple_tokens.specs.declared.token.Token.{Token}
use Rattle.gimple_tokens.specs.Lexing.{AllReal}
use Rattle.token_law.specs.Reading.{Tokens, Outcome, Parser, and_then, ◌>>=◌, pure, choose}

abbrev pub Lang : Type 0 → Type 1
Lang A = A → Tokens → Type 0

-- some tokens that bytes can have go on to spell a value
pub record Begins {A : Type 0} (S : A → Tokens → Type 0) (pre : Tokens) : Type 0 where
  pub value : A
  pub more : Tokens
  pub real : AllReal more
  pub spelled : S value (pre ++ more)

-- R ts o: reading ts gives o
pub record TookBy {A : Type 0} (R : Tokens → Outcome A → Type 0) (S : A → Tokens → Type 0) (ts : Tokens) (a : A) (rest : Tokens) : Type 0 where
  pub pre : Tokens
  pub parts : ts ≡ pre ++ rest
  pub spelled : S a pre
  -- it looks at no token past the next one
  pub steady : (t : Token) (m m' : Tokens) → rest ≡ t ∷ m → R (pre ++ t ∷ m') (Ok (a, t ∷ m'))

pub record StuckBy {A : Type 0} (R : Tokens → Outcome A → Type 0) (S : A → Tokens → Type 0) (ts : Tokens) (left : ℕ) : Type 0 where
  pub pre : Tokens
  pub at : Tokens
  pub parts : ts ≡ pre ++ at
  pub count : length at ≡ left
  pub begins : Begins S pre
  pub stays : (t : Token) (m m' : Tokens) → at ≡ t ∷ m → R (pre ++ t ∷ m') (Err (length (t ∷ m')))

abbrev pub Took : {A : Type 0} → Parser A → (A → Tokens → Type 0) → Tokens → A → Tokens → Type 0
Took p S ts a rest = TookBy (λ z o. p z ≡ o) S ts a rest

abbrev pub Stuck : {A : Type 0} → Parser A → (A → Tokens → Type 0) → Tokens → ℕ → Type 0
Stuck p S ts left = StuckBy (λ z o. p z ≡ o) S ts left

-- more says which tokens it would go on with
pub record ReadsExactly {A : Type 0} (p : Parser A) (S : A → Tokens → Type 0) (more : Tokens → Bool) : Type 0 where
  pub sound : (ts : Tokens) (a : A) (rest : Tokens) → p ts ≡ Ok (a, rest) → Took p S ts a rest
  pub complete : (a : A) (pre rest : Tokens) → S a pre → more rest ≡ false → p (pre ++ rest) ≡ Ok (a, rest)
  pub stuck : (ts : Tokens) (left : ℕ) → p ts ≡ Err left → Stuck p S ts left
  pub member : Begins S []

-- a test of the next token alone
pub record IsHeadTest (test : Tokens → Bool) : Type 0 where
  pub none : test [] ≡ false
  pub same : (t : Token) (m m' : Tokens) → test (t ∷ m) ≡ test (t ∷ m')

pub both_real : (ts us : Tokens) → AllReal ts → AllReal us → AllReal (ts ++ us)
both_real [] us h k = k
both_real (t ∷ ts) us h k = (h.0, both_real ts us h.1 k)

abbrev pub never : Tokens → Bool
never ts = false

-- ---- steps

pub bind_ok : {A B : Type 0} (r : Outcome A) (f : A → Parser B) (b : B) (rest : Tokens) → and_then r f ≡ Ok (b, rest) → (a : A) × (mid : Tokens) × (r ≡ Ok (a, mid)) × (f a mid ≡ Ok (b, rest))
bind_ok (Ok x) f b rest e = (x.0, x.1, refl, e)
bind_ok (Err n) f b rest e = absurd cc

pub bind_err : {A B : Type 0} (r : Outcome A) (f : A → Parser B) (n : ℕ) → and_then r f ≡ Err n → (r ≡ Err n) ⊎ ((a : A) × (mid : Tokens) × (r ≡ Ok (a, mid)) × (f a mid ≡ Err n))
bind_err (Ok x) f n e = inr (x.0, x.1, refl, e)
bind_err (Err k) f n e = inl cc

abbrev pub done : {A : Type 0} → A → Tokens → Outcome A
done a ts = Ok (a, ts)

pub ok_parts : {A : Type 0} (a c : A) (b d : Tokens) → done a b ≡ done c d → (a ≡ c) × (b ≡ d)
ok_parts a c b d e = let h : (a, b) ≡ (c, d) = cc in (ap (λ (x : _ × Tokens). x.0) h, ap (λ (x : _ × Tokens). x.1) h)

-- two lists with one front and one next token look alike to a test
pub same_head : (test : Tokens → Bool) → IsHeadTest test → (pre : Tokens) (t : Token) (m m' : Tokens) → test (pre ++ t ∷ m) ≡ test (pre ++ t ∷ m')
same_head test h [] t m m' = h.same t m m'
same_head test h (u ∷ us) t m m' = h.same u (us ++ t ∷ m) (us ++ t ∷ m')

-- ---- nothing

abbrev pub IsPure : {A : Type 0} → A → A → Tokens → Type 0
IsPure x a ts = (a ≡ x) × (ts ≡ [])

pub pure_exact : {A : Type 0} (x : A) → ReadsExactly (pure x) (IsPure x) never
pure_exact x = record {
  sound = λ ts a rest e.
      let v = ok_parts x a ts rest e in
      record { pre = []; parts = v.1; spelled = (sym v.0, refl); steady = λ t m m' h. ap (λ y. done y (t ∷ m')) v.0 };
  complete = λ a pre rest h stop. let e : pre ≡ [] = h.1 in let f : a ≡ x = h.0 in rw (e, f) refl;
  stuck = λ ts left e. absurd cc;
  member = record { value = x; more = []; real = tt; spelled = (refl, refl) };
}

-- ---- one after the other

abbrev pub IsThen : {A B : Type 0} → (A → Tokens → Type 0) → (A → B → Tokens → Type 0) → B → Tokens → Type 0
IsThen {A = A} S T b ts = (a : A) × (x : Tokens) × (y : Tokens) × S a x × T a b y × (ts ≡ x ++ y)

module _ {A : Type 0} (p : Parser A) (S : A → Tokens → Type 0) where
  -- from what p read on, it reads the same whatever comes after the next token
  pub steady_on : (a : A) (ts y : Tokens) (t : Token) (k k' mid : Tokens) → mid ≡ y ++ t ∷ k → (o : Took p S ts a mid) → p (o.pre ++ (y ++ t ∷ k')) ≡ Ok (a, y ++ t ∷ k')
  steady_on a ts [] t k k' mid e o = o.steady t k k' e
  steady_on a ts (u ∷ us) t k k' mid e o = o.steady u (us ++ t ∷ k) (us ++ t ∷ k') e

module _ {A B : Type 0} (p : Parser A) (q : A → Parser B) (S : A → Tokens → Type 0) (T : A → B → Tokens → Type 0) (m n : Tokens → Bool) where
  then_sound : ReadsExactly p S m → ((a : A) → ReadsExactly (q a) (T a) n) → (ts : Tokens) (b : B) (rest : Tokens) → (p >>= q) ts ≡ Ok (b, rest) → Took (p >>= q) (IsThen S T) ts b rest
  then_sound ep eq ts b rest e =
      let r = bind_ok (p ts) q b rest e in
      let a = r.0 in
      let mid = r.1 in
      let first = ep.sound ts a mid r.2 in
      let second = (eq a).sound mid b rest r.3 in
      record {
        pre = first.pre ++ second.pre;
        parts = first.parts ∙ ap (λ z. first.pre ++ z) second.parts ∙ sym (append_assoc first.pre second.pre rest);
        spelled = (a, first.pre, second.pre, first.spelled, second.spelled, refl);
        steady = λ t k k' h.
            let e1 : mid ≡ second.pre ++ t ∷ k = second.parts ∙ ap (λ z. second.pre ++ z) h in
            let e2 = steady_on p S a ts second.pre t k k' mid e1 first in
            let e3 = second.steady t k k' h in
            rw (append_assoc first.pre second.pre (t ∷ k'), e2) e3;
      }

  then_complete : ReadsExactly p S m → ((a : A) → ReadsExactly (q a) (T a) n) → ((a : A) (b : B) (y rest : Tokens) → T a b y → n rest ≡ false → m (y ++ rest) ≡ false)
      → (b : B) (pre rest : Tokens) → IsThen S T b pre → n rest ≡ false → (p >>= q) (pre ++ rest) ≡ Ok (b, rest)
  then_complete ep eq follows b pre rest h stop =
      let a = h.0 in
      let x = h.1 in
      let y = h.2 in
      let e1 : pre ++ rest ≡ x ++ (y ++ rest) = rw h.5 (append_assoc x y rest) in
      let e2 = ep.complete a x (y ++ rest) h.3 (follows a b y rest h.4 stop) in
      let e3 = (eq a).complete b y rest h.4 stop in
      ap (p >>= q) e1 ∙ rw e2 e3

  then_stuck : ReadsExactly p S m → ((a : A) → ReadsExactly (q a) (T a) n) → (ts : Tokens) (left : ℕ) → (p >>= q) ts ≡ Err left → Stuck (p >>= q) (IsThen S T) ts left
  then_stuck ep eq ts left e =
      elim (bind_err (p ts) q left e) [
        | inl e1 ↦
            let first = ep.stuck ts left e1 in
            let more = (eq first.begins.value).member in
            record {
              pre = first.pre;
              at = first.at;
              parts = first.parts;
              count = first.count;
              begins = record { value = more.value; more = first.begins.more ++ more.more; real = both_real first.begins.more more.more first.begins.real more.real; spelled = (first.begins.value, first.pre ++ first.begins.more, more.more, first.begins.spelled, more.spelled, sym (append_assoc first.pre first.begins.more more.more)) };
              stays = λ t k k' h. rw (first.stays t k k' h) refl;
            }
        | inr r ↦
            let a = r.0 in
            let mid = r.1 in
            let first = ep.sound ts a mid r.2 in
            let second = (eq a).stuck mid left r.3 in
            record {
              pre = first.pre ++ second.pre;
              at = second.at;
              parts = first.parts ∙ ap (λ z. first.pre ++ z) second.parts ∙ sym (append_assoc first.pre second.pre second.at);
              count = second.count;
              begins = record { value = second.begins.value; more = second.begins.more; real = second.begins.real; spelled = (a, first.pre, second.pre ++ second.begins.more, first.spelled, second.begins.spelled, append_assoc first.pre second.pre second.begins.more) };
              stays = λ t k k' h.
                  let e1 : mid ≡ second.pre ++ t ∷ k = second.parts ∙ ap (λ z. second.pre ++ z) h in
                  let e2 = steady_on p S a ts second.pre t k k' mid e1 first in
                  rw (append_assoc first.pre second.pre (t ∷ k'), e2) (second.stays t k k' h);
            }
      ]

  pub then_exact : ReadsExactly p S m → ((a : A) → ReadsExactly (q a) (T a) n) → ((a : A) (b : B) (y rest : Tokens) → T a b y → n rest ≡ false → m (y ++ rest) ≡ false)
      → ReadsExactly (p >>= q) (IsThen S T) n
  then_exact ep eq follows = record {
    sound = then_sound ep eq;
    complete = then_complete ep eq follows;
    stuck = then_stuck ep eq;
    member =
        let first = ep.member in
        let second = (eq first.value).member in
        record { value = second.value; more = first.more ++ second.more; real = both_real first.more second.more first.real second.real; spelled = (first.value, first.more, second.more, first.spelled, second.spelled, refl) };
  }

-- ---- the same language, said otherwise

pub recast : {A : Type 0} {p : Parser A} {S T : A → Tokens → Type 0} {m : Tokens → Bool} → ReadsExactly p S m → ((a : A) (ts : Tokens) → S a ts → T a ts) → ((a : A) (ts : Tokens) → T a ts → S a ts) → ReadsExactly p T m
recast e to from = record {
  sound = λ ts a rest h. let o = e.sound ts a rest h in record { pre = o.pre; parts = o.parts; spelled = to a o.pre o.spelled; steady = o.steady };
  complete = λ a pre rest h stop. e.complete a pre rest (from a pre h) stop;
  stuck = λ ts left h. let o = e.stuck ts left h in record { pre = o.pre; at = o.at; parts = o.parts; count = o.count; begins = record { value = o.begins.value; more = o.begins.more; real = o.begins.real; spelled = to _ _ o.begins.spelled }; stays = o.stays };
  member = record { value = e.member.value; more = e.member.more; real = e.member.real; spelled = to _ _ e.member.spelled };
}

-- a reader that would go on with fewer tokens
pub widen : {A : Type 0} {p : Parser A} {S : A → Tokens → Type 0} {m n : Tokens → Bool} → ReadsExactly p S m → ((rest : Tokens) → n rest ≡ false → m rest ≡ false) → ReadsExactly p S n
widen e h = record { sound = e.sound; complete = λ a pre rest s stop. e.complete a pre rest s (h rest stop); stuck = e.stuck; member = e.member }

-- ---- one or the other

abbrev pub IsEither : {A : Type 0} → (A → Tokens → Type 0) → (A → Tokens → Type 0) → A → Tokens → Type 0
IsEither S T a ts = S a ts ⊎ T a ts

pub test_cases : (b : Bool) → (b ≡ true) ⊎ (b ≡ false)
test_cases true = inl refl
test_cases false = inr refl

module _ {A : Type 0} (starts : Tokens → Bool) (head : IsHeadTest starts) (p q : Parser A) (S T : A → Tokens → Type 0) (m : Tokens → Bool) where
  goes_left : (ts : Tokens) → starts ts ≡ true → choose starts p q ts ≡ p ts
  goes_left ts e = rw e refl

  goes_right : (ts : Tokens) → starts ts ≡ false → choose starts p q ts ≡ q ts
  goes_right ts e = rw e refl

  -- the test is the same where the front and the next token are
  still : (b : Bool) (ts pre at : Tokens) (t : Token) (k k' : Tokens) → starts ts ≡ b → ts ≡ pre ++ at → at ≡ t ∷ k → starts (pre ++ t ∷ k') ≡ b
  still b ts pre at t k k' e parts h =
      let e1 : ts ≡ pre ++ t ∷ k = parts ∙ ap (λ z. pre ++ z) h in
      same_head starts head pre t k' k ∙ (sym (ap starts e1) ∙ e)

  left_took : (ts : Tokens) (a : A) (rest : Tokens) → starts ts ≡ true → Took p S ts a rest → Took (choose starts p q) (IsEither S T) ts a rest
  left_took ts a rest e o = record { pre = o.pre; parts = o.parts; spelled = inl o.spelled; steady = λ t k k' h. goes_left (o.pre ++ t ∷ k') (still true ts o.pre rest t k k' e o.parts h) ∙ o.steady t k k' h }

  right_took : (ts : Tokens) (a : A) (rest : Tokens) → starts ts ≡ false → Took q T ts a rest → Took (choose starts p q) (IsEither S T) ts a rest
  right_took ts a rest e o = record { pre = o.pre; parts = o.parts; spelled = inr o.spelled; steady = λ t k k' h. goes_right (o.pre ++ t ∷ k') (still false ts o.pre rest t k k' e o.parts h) ∙ o.steady t k k' h }

  left_stuck : (ts : Tokens) (left : ℕ) → starts ts ≡ true → Stuck p S ts left → Stuck (choose starts p q) (IsEither S T) ts left
  left_stuck ts left e o = record { pre = o.pre; at = o.at; parts = o.parts; count = o.count; begins = record { value = o.begins.value; more = o.begins.more; real = o.begins.real; spelled = inl o.begins.spelled }; stays = λ t k k' h. goes_left (o.pre ++ t ∷ k') (still true ts o.pre o.at t k k' e o.parts h) ∙ o.stays t k k' h }

  right_stuck : (ts : Tokens) (left : ℕ) → starts ts ≡ false → Stuck q T ts left → Stuck (choose starts p q) (IsEither S T) ts left
  right_stuck ts left e o = record { pre = o.pre; at = o.at; parts = o.parts; count = o.count; begins = record { value = o.begins.value; more = o.begins.more; real = o.begins.real; spelled = inr o.begins.spelled }; stays = λ t k k' h. goes_right (o.pre ++ t ∷ k') (still false ts o.pre o.at t k k' e o.parts h) ∙ o.stays t k k' h }

  pub choose_exact : ReadsExactly p S m → ReadsExactly q T m → ((a : A) (pre rest : Tokens) → S a pre → m rest ≡ false → starts (pre ++ rest) ≡ true) → ((a : A) (pre rest : Tokens) → T a pre → m rest ≡ false → starts (pre ++ rest) ≡ false)
      → ReadsExactly (choose starts p q) (IsEither S T) m
  choose_exact ep eq first second = record {
    sound = λ ts a rest e.
        elim (test_cases (starts ts)) [
          | inl h ↦ left_took ts a rest h (ep.sound ts a rest (sym (goes_left ts h) ∙ e))
          | inr h ↦ right_took ts a rest h (eq.sound ts a rest (sym (goes_right ts h) ∙ e))
        ];
    complete = λ a pre rest h stop.
        elim h [
          | inl s ↦ goes_left (pre ++ rest) (first a pre rest s stop) ∙ ep.complete a pre rest s stop
          | inr t ↦ goes_right (pre ++ rest) (second a pre rest t stop) ∙ eq.complete a pre rest t stop
        ];
    stuck = λ ts left e.
        elim (test_cases (starts ts)) [
          | inl h ↦ left_stuck ts left h (ep.stuck ts left (sym (goes_left ts h) ∙ e))
          | inr h ↦ right_stuck ts left h (eq.stuck ts left (sym (goes_right ts h) ∙ e))
        ];
    member = record { value = ep.member.value; more = ep.member.more; real = ep.member.real; spelled = inl ep.member.spelled };
  }

-- ---- a form that is read where it is allowed

abbrev pub IsAllowed : {A : Type 0} → Bool → (A → Tokens → Type 0) → A → Tokens → Type 0
IsAllowed b S a ts = (b ≡ true) × S a ts

and_true : (b : Bool) → b ≡ (b && true)
and_true true = refl
and_true false = refl

and_false : (b : Bool) → false ≡ (b && false)
and_false true = refl
and_false false = refl

module _ {A : Type 0} (starts : Tokens → Bool) (head : IsHeadTest starts) (p q : Parser A) (S T : A → Tokens → Type 0) (m : Tokens → Bool) where
  pub allowed_exact : (b : Bool) → ReadsExactly p S m → ReadsExactly q T m → ((a : A) (pre rest : Tokens) → S a pre → m rest ≡ false → starts (pre ++ rest) ≡ true) → ((a : A) (pre rest : Tokens) → T a pre → m rest ≡ false → starts (pre ++ rest) ≡ false)
      → ReadsExactly (choose (λ ts. starts ts && b) p q) (IsEither (IsAllowed b S) T) m
  allowed_exact true ep eq first second =
      let e : choose starts p q ≡ choose (λ ts. starts ts && true) p q = λ i ts. cond (and_true (starts ts) i) (p ts) (q ts) in
      subst (λ r. ReadsExactly r (IsEither (IsAllowed true S) T) m) e (recast (choose_exact starts head p q S T m ep eq first second)
      (λ a ts h. elim h [ inl s ↦ inl (refl, s) | inr t ↦ inr t ])
      (λ a ts h. elim h [ inl s ↦ inl s.1 | inr t ↦ inr t ]))
  allowed_exact false ep eq first second =
      let e : q ≡ choose (λ ts. starts ts && false) p q = λ i ts. cond (and_false (starts ts) i) (p ts) (q ts) in
      subst (λ r. ReadsExactly r (IsEither (IsAllowed false S) T) m) e (recast eq
      (λ a ts t. inr t)
      (λ a ts h. elim h [ inl s ↦ let f : false ≡ true = s.0 in absurd cc | inr t ↦ t ]))

-- ---- what a language does not begin with

abbrev pub Avoids : {A : Type 0} → (Tokens → Bool) → (A → Tokens → Type 0) → Type 0
Avoids {A = A} test S = (a : A) (pre rest : Tokens) → S a pre → test (pre ++ rest) ≡ false

pub then_avoids : {A B : Type 0} (test : Tokens → Bool) (S : A → Tokens → Type 0) (T : A → B → Tokens → Type 0) → Avoids test S → Avoids test (IsThen S T)
then_avoids test S T f b pre rest h = let e : pre ++ rest ≡ h.1 ++ (h.2 ++ rest) = rw h.5 (append_assoc h.1 h.2 rest) in rw e (f h.0 h.1 (h.2 ++ rest) h.3)

pub either_avoids : {A : Type 0} (test : Tokens → Bool) (S T : A → Tokens → Type 0) → Avoids test S → Avoids test T → Avoids test (IsEither S T)
either_avoids test S T f g a pre rest h = elim h [ inl s ↦ f a pre rest s | inr t ↦ g a pre rest t ]

-- what is in front decides
pub front_avoids : {A : Type 0} (test : Tokens → Bool) (S : A → Tokens → Type 0) → Avoids test S → (a : A) (x y whole rest : Tokens) → S a x → whole ≡ x ++ y → test (whole ++ rest) ≡ false
front_avoids test S f a x y whole rest s e = let e1 : whole ++ rest ≡ x ++ (y ++ rest) = rw e (append_assoc x y rest) in rw e1 (f a x (y ++ rest) s)
