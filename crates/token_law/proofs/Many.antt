-- A reader of many items reads exactly the lists of them.
use Rattle.std.proofs.Common.{◌≡◌, ℕ, zero, suc, ◌+◌, ◌<◌, ◌≤◌, Bool, true, false, List, [], ◌∷◌, ◌++◌, length, Ok, Err, refl, sym, ap, ◌∙◌, append_assoc, length-append, arith, inl, inr}
use Rattle.std.proofs.lemmas.List.{append-nil}
use Rattle.token_law.specs.Reading.{Tokens, Outcome, Parser, and_then, many_from, many}
use Rattle.token_law.specs.Languages.{IsMany}
use Rattle.token_law.proofs.ReadsExactly.{TookBy, StuckBy, Took, ReadsExactly, IsHeadTest, same_head, steady_on, test_cases, bind_ok, bind_err, done, ok_parts}

-- those that were found, and then more
abbrev pub IsMore : {A : Type 0} → (A → Tokens → Type 0) → List A → List A → Tokens → Type 0
IsMore {A = A} S found xs ts = (ys : List A) × (xs ≡ found ++ ys) × IsMany S ys ts

module _ {A : Type 0} (starts : Tokens → Bool) (head : IsHeadTest starts) (p : Parser A) (S : A → Tokens → Type 0) (mp m : Tokens → Bool) (ep : ReadsExactly p S mp)
    (first : (a : A) (pre rest : Tokens) → S a pre → starts (pre ++ rest) ≡ true)
    (apart : (ts : Tokens) → starts ts ≡ true → mp ts ≡ false)
    (stop_starts : (rest : Tokens) → m rest ≡ false → starts rest ≡ false)
    (stop_more : (rest : Tokens) → m rest ≡ false → mp rest ≡ false) where
  -- the result for any number of turns that is enough
  abbrev Runs : List A → Tokens → Outcome (List A) → Type 0
  Runs found ts o = (k : ℕ) → length ts ≤ k → many_from starts p k found ts ≡ o

  turn_stop : (k : ℕ) (found : List A) (ts : Tokens) → starts ts ≡ false → many_from starts p k found ts ≡ Ok (found, ts)
  unfolding many_from
  turn_stop zero found ts e = refl
  turn_stop (suc k) found ts e = rw e refl

  turn_on : (k : ℕ) (found : List A) (ts : Tokens) (x : A) (rest : Tokens) → starts ts ≡ true → p ts ≡ Ok (x, rest) → many_from starts p (suc k) found ts ≡ many_from starts p k (found ++ x ∷ []) rest
  unfolding many_from
  turn_on k found ts x rest e h = rw (e, h) refl

  turn_fail : (k : ℕ) (found : List A) (ts : Tokens) (n : ℕ) → starts ts ≡ true → p ts ≡ Err n → many_from starts p (suc k) found ts ≡ Err n
  unfolding many_from
  turn_fail k found ts n e h = rw (e, h) refl

  some_tokens : (ts : Tokens) → starts ts ≡ true → 0 < length ts
  some_tokens [] e = let h = head.none in absurd cc
  some_tokens (t ∷ ts) e = omega arith

  -- an item takes a token
  some : (a : A) (pre : Tokens) → S a pre → 0 < length pre
  some a [] s = let e = first a [] [] s in let h = head.none in absurd cc
  some a (t ∷ ts) s = omega arith

  after : (ys : List A) (b rest : Tokens) → IsMany S ys b → m rest ≡ false → mp (b ++ rest) ≡ false
  after [] b rest h stop = let e : b ≡ [] = h in rw e (stop_more rest stop)
  after (y ∷ ys) b rest h stop =
      let e : b ++ rest ≡ h.0 ++ (h.1 ++ rest) = rw h.4 (append_assoc h.0 h.1 rest) in
      apart (b ++ rest) (rw e (first y h.0 (h.1 ++ rest) h.2))

  complete_from : (ys found : List A) (pre rest : Tokens) (k : ℕ) → IsMany S ys pre → m rest ≡ false → length (pre ++ rest) ≤ k → many_from starts p k found (pre ++ rest) ≡ Ok (found ++ ys, rest)
  complete_from [] found pre rest k h stop le =
      let e : pre ≡ [] = h in
      let f : found ++ [] ≡ found = append-nil found in
      rw (e, f) (turn_stop k found rest (stop_starts rest stop))
  complete_from (y ∷ ys) found pre rest zero h stop le =
      let e : length (pre ++ rest) ≡ length h.0 + (length h.1 + length rest) = rw h.4 (omega (arith, length-append (h.0 ++ h.1) rest, length-append h.0 h.1)) in
      absurd (omega (arith, some y h.0 h.2))
  complete_from (y ∷ ys) found pre rest (suc k) h stop le =
      let a = h.0 in
      let b = h.1 in
      let e1 : pre ++ rest ≡ a ++ (b ++ rest) = rw h.4 (append_assoc a b rest) in
      let e2 = ep.complete y a (b ++ rest) h.2 (after ys b rest h.3 stop) in
      let e3 = turn_on k found (a ++ (b ++ rest)) y (b ++ rest) (first y a (b ++ rest) h.2) e2 in
      let len : length (pre ++ rest) ≡ length a + length (b ++ rest) = rw e1 (length-append a (b ++ rest)) in
      let e4 = complete_from ys (found ++ y ∷ []) b rest k h.3 stop (omega (arith, some y a h.2)) in
      let e5 : (found ++ y ∷ []) ++ ys ≡ found ++ y ∷ ys = append_assoc found (y ∷ []) ys in
      ap (many_from starts p (suc k) found) e1 ∙ e3 ∙ e4 ∙ ap (λ z. done z rest) e5

  run_on : (found : List A) (a z : Tokens) (x : A) (o : Outcome (List A)) → S x a → p (a ++ z) ≡ Ok (x, z) → Runs (found ++ x ∷ []) z o → Runs found (a ++ z) o
  run_on found a z x o s e r zero le = absurd (omega (arith, some x a s, length-append a z))
  run_on found a z x o s e r (suc j) le = turn_on j found (a ++ z) x z (first x a z s) e ∙ r j (omega (arith, some x a s, length-append a z))

  run_fail : (found : List A) (z : Tokens) (n : ℕ) → starts z ≡ true → p z ≡ Err n → Runs found z (Err n)
  run_fail found z n s e zero le = absurd (omega (arith, some_tokens z s))
  run_fail found z n s e (suc j) le = turn_fail j found z n s e

  nothing_took : (found : List A) (ts : Tokens) (xs : List A) (rest : Tokens) → starts ts ≡ false → done found ts ≡ done xs rest → TookBy (Runs found) (IsMore S found) ts xs rest
  nothing_took found ts xs rest s e =
      let v = ok_parts found xs ts rest e in
      record {
        pre = [];
        parts = v.1;
        spelled = ([], sym v.0 ∙ sym (append-nil found), refl);
        steady = λ t k k' h j le.
            let e1 : ts ≡ t ∷ k = v.1 ∙ h in
            let e2 : starts (t ∷ k') ≡ false = head.same t k' k ∙ (sym (ap starts e1) ∙ s) in
            turn_stop j found (t ∷ k') e2 ∙ ap (λ z. done z (t ∷ k')) v.0;
      }

  more_took : (found : List A) (ts : Tokens) (x : A) (mid : Tokens) (xs : List A) (rest : Tokens) → Took p S ts x mid → TookBy (Runs (found ++ x ∷ [])) (IsMore S (found ++ x ∷ [])) mid xs rest → TookBy (Runs found) (IsMore S found) ts xs rest
  more_took found ts x mid xs rest o q =
      let ys = q.spelled.0 in
      record {
        pre = o.pre ++ q.pre;
        parts = o.parts ∙ ap (λ z. o.pre ++ z) q.parts ∙ sym (append_assoc o.pre q.pre rest);
        spelled = (x ∷ ys, q.spelled.1 ∙ append_assoc found (x ∷ []) ys, (o.pre, q.pre, o.spelled, q.spelled.2, refl));
        steady = λ t k k' h.
            let e1 : mid ≡ q.pre ++ t ∷ k = q.parts ∙ ap (λ z. q.pre ++ z) h in
            let e2 = steady_on p S x ts q.pre t k k' mid e1 o in
            rw (append_assoc o.pre q.pre (t ∷ k')) (run_on found o.pre (q.pre ++ t ∷ k') x _ o.spelled e2 (q.steady t k k' h));
      }

  sound_from : (n : ℕ) (found : List A) (ts : Tokens) (xs : List A) (rest : Tokens) → length ts ≤ n → many_from starts p n found ts ≡ Ok (xs, rest) → TookBy (Runs found) (IsMore S found) ts xs rest
  unfolding many_from
  sound_from zero found [] xs rest le e = nothing_took found [] xs rest head.none e
  sound_from zero found (t ∷ ts) xs rest le e = absurd (omega arith)
  sound_from (suc n) found ts xs rest le e =
      elim (test_cases (starts ts)) [
        | inl s ↦
            let e1 : and_then (p ts) (λ x. many_from starts p n (found ++ x ∷ [])) ≡ Ok (xs, rest) = rw s at e in
            let r = bind_ok (p ts) (λ x. many_from starts p n (found ++ x ∷ [])) xs rest e1 in
            let o = ep.sound ts r.0 r.1 r.2 in
            let len : length ts ≡ length o.pre + length r.1 = ap length o.parts ∙ length-append o.pre r.1 in
            more_took found ts r.0 r.1 xs rest o (sound_from n (found ++ r.0 ∷ []) r.1 xs rest (omega (arith, some r.0 o.pre o.spelled)) r.3)
        | inr s ↦ nothing_took found ts xs rest s (rw s at e)
      ]

  stuck_from : (n : ℕ) (found : List A) (ts : Tokens) (left : ℕ) → length ts ≤ n → many_from starts p n found ts ≡ Err left → StuckBy (Runs found) (IsMore S found) ts left
  unfolding many_from
  stuck_from zero found ts left le e = absurd cc
  stuck_from (suc n) found ts left le e =
      elim (test_cases (starts ts)) [
        | inr s ↦ let e1 : done found ts ≡ Err left = rw s at e in absurd cc
        | inl s ↦
            let e1 : and_then (p ts) (λ x. many_from starts p n (found ++ x ∷ [])) ≡ Err left = rw s at e in
            elim (bind_err (p ts) (λ x. many_from starts p n (found ++ x ∷ [])) left e1) [
              | inl r ↦
                  let o = ep.stuck ts left r in
                  let v = o.begins.value in
                  record {
                    pre = o.pre;
                    at = o.at;
                    parts = o.parts;
                    count = o.count;
                    begins = record { value = found ++ v ∷ []; more = o.begins.more; real = o.begins.real; spelled = (v ∷ [], refl, (o.pre ++ o.begins.more, [], o.begins.spelled, refl, sym (append-nil (o.pre ++ o.begins.more)))) };
                    stays = λ t k k' h.
                        let e2 : ts ≡ o.pre ++ t ∷ k = o.parts ∙ ap (λ z. o.pre ++ z) h in
                        let s' : starts (o.pre ++ t ∷ k') ≡ true = same_head starts head o.pre t k' k ∙ (sym (ap starts e2) ∙ s) in
                        run_fail found (o.pre ++ t ∷ k') (length (t ∷ k')) s' (o.stays t k k' h);
                  }
              | inr r ↦
                  let x = r.0 in
                  let mid = r.1 in
                  let o = ep.sound ts x mid r.2 in
                  let len : length ts ≡ length o.pre + length mid = ap length o.parts ∙ length-append o.pre mid in
                  let q = stuck_from n (found ++ x ∷ []) mid left (omega (arith, some x o.pre o.spelled)) r.3 in
                  let ys = q.begins.spelled.0 in
                  record {
                    pre = o.pre ++ q.pre;
                    at = q.at;
                    parts = o.parts ∙ ap (λ z. o.pre ++ z) q.parts ∙ sym (append_assoc o.pre q.pre q.at);
                    count = q.count;
                    begins = record { value = q.begins.value; more = q.begins.more; real = q.begins.real; spelled = (x ∷ ys, q.begins.spelled.1 ∙ append_assoc found (x ∷ []) ys, (o.pre, q.pre ++ q.begins.more, o.spelled, q.begins.spelled.2, append_assoc o.pre q.pre q.begins.more)) };
                    stays = λ t k k' h.
                        let e2 : mid ≡ q.pre ++ t ∷ k = q.parts ∙ ap (λ z. q.pre ++ z) h in
                        let e3 = steady_on p S x ts q.pre t k k' mid e2 o in
                        rw (append_assoc o.pre q.pre (t ∷ k')) (run_on found o.pre (q.pre ++ t ∷ k') x _ o.spelled e3 (q.stays t k k' h));
                  }
            ]
      ]

  pub many_exact : (found : List A) → ReadsExactly (many starts p found) (IsMore S found) m
  many_exact found = record {
    sound = λ ts xs rest e.
        let o = sound_from (length ts) found ts xs rest (omega arith) e in
        record { pre = o.pre; parts = o.parts; spelled = o.spelled; steady = λ t k k' h. o.steady t k k' h (length (o.pre ++ t ∷ k')) (omega arith) };
    complete = λ xs pre rest h stop. complete_from h.0 found pre rest (length (pre ++ rest)) h.2 stop (omega arith) ∙ ap (λ z. done z rest) (sym h.1);
    stuck = λ ts left e.
        let o = stuck_from (length ts) found ts left (omega arith) e in
        record { pre = o.pre; at = o.at; parts = o.parts; count = o.count; begins = o.begins; stays = λ t k k' h. o.stays t k k' h (length (o.pre ++ t ∷ k')) (omega arith) };
    member = record { value = found; more = []; real = tt; spelled = ([], sym (append-nil found), refl) };
  }
