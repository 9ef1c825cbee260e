-- Where no trap is left open, an operator does not trap.
use Rattle.std.proofs.Common.{cond, ◌≡◌, ℕ, zero, suc, ◌+◌, ◌-◌, ◌/◌, ◌*◌, ◌%◌, ◌^◌, ◌<◌, ◌≤◌, ◌==◌, ℤ, pos, negsuc, ◌+ℤ◌, ◌-ℤ◌, ◌*ℤ◌, ◌≤ℤ◌, ◌<ℤ◌, ◌⊎◌, inl, inr, Bool, true, false, not, ◌&&◌, ◌||◌, refl, sym, ◌∙◌, ap, subst, int_le, int_lt, int_div, int_rem, arith, unsigned_abs, bit_and, bit_or, bit_xor, List, [], ◌∷◌, Option, Some, None, Result, Ok, Err}
use Rattle.std.specs.Int.{int_shr}
use Rattle.std.proofs.lemmas.Int.{ints}
use Rattle.std.proofs.Math.Nat.{div-le_self, div-mul-le_self}
use Rattle.std.proofs.Math.Dec.{eqb-suc-zero}
use Rattle.std.proofs.lemmas.Nat.{mul-le}
use Rattle.std.proofs.lemmas.Bool.{cases_lt}
use Rattle.gimple_ir.specs.declared.scalar.Scalar.{Scalar}
use Rattle.gimple_ir.specs.declared.scalar.Scalar.TheVariants.{Ptr}
use Rattle.gimple_ir.specs.declared.scalar.Mode.{Mode}
use Rattle.gimple_ir.specs.declared.scalar.Op.{Op}
use Rattle.gimple_ir.specs.declared.scalar.Op.TheVariants.{Add, Sub, Mul, Div, Rem, And, Or, Xor, Shl, Shr}
use Rattle.gimple_ir.specs.declared.value.TrapKind.{TrapKind}
use Rattle.gimple_ir.specs.declared.value.TrapKind.TheVariants.{Overflow, Divide, Shift}
use Rattle.gimple_ir.specs.declared.value.Value.{Value}
use Rattle.gimple_ir.specs.declared.value.Value.TheVariants.{Int as Number}
use Rattle.gimple_ir.specs.declared.value.Constant.{Constant}
use Rattle.gimple_ir.specs.declared.value.Constant.TheVariants.{Int}
use Rattle.gimple_core.specs.Operators.{is_signed, in_scalar, within, kept, wrapped, of_bits, low_bits, bits_of, modulus_of, half_of, least_of, greatest_of, is_count, op_of, unless_not}
use Rattle.gimple_core.specs.Memory.{moved_by}
use Rattle.gimple_core.specs.Run.{arith_of, any_number}
use Rattle.gimple_core.specs.Statements.{is_pointer}
use Rattle.gimple_core.proofs.ScalarLemmas.{pointer_is}
use Rattle.lattice_parts.specs.Sets.{Has}
use Rattle.value_domain.specs.declared.range.Range.{Range}
use Rattle.value_domain.specs.declared.vals.Vals.{Vals}
use Rattle.value_domain.specs.declared.vals.Vals.TheVariants.{Any, Nothing, Among}
use Rattle.value_domain.specs.Ranges.{InRange, InEach, sum_range, difference_range, product_range}
use Rattle.value_domain.specs.RangeOperators.{type_range, traps_outside}
use Rattle.value_domain.specs.FitLemmas.{le_tells}
use Rattle.value_domain.specs.ConstantOperators.{may_stand_right}
use Rattle.value_domain.specs.AbsOperators.{is_trap, pair_traps, row_traps_of, some_traps, vals_trap, lies_outside, has_number, division_traps, count_traps, range_traps, may_trap_of}
use Rattle.value_domain.specs.Values.{is_none_val}
use Rattle.value_domain.specs.Holding.{Holds, IsAmong, IsRight}
use Rattle.value_domain.specs.Laws.{NoTrap, done}
use Rattle.value_domain.proofs.ScalarLemmas.{okay, two, both, in_type, in_type_is, signed_ends, pos_below, neg_below, type_zero}
use Rattle.value_domain.proofs.RangeLemmas.{sum_hull, difference_hull, product_hull}
use Rattle.value_domain.proofs.RangeSoundness.{is_lt, lt_is}
use Rattle.value_domain.proofs.FitSoundness.{kept_is}
use Rattle.value_domain.proofs.WholeLemmas.{number_value}
use Rattle.value_domain.proofs.OperatorLaws.{stands, arith_back}
use Rattle.value_domain.proofs.CodeLemmas.{right_int}
use Rattle.value_domain.proofs.AbsLaws.{none_or_not, proper_by}

abbrev IsDone : Result ℤ TrapKind → Type 0
IsDone r = (x : ℤ) × (r ≡ okay x)

or_false : (a b : Bool) → (a || b) ≡ false → (a ≡ false) × (b ≡ false)
or_false true b h = cc
or_false false b h = (refl, h)

and_false : (a b : Bool) → (a && b) ≡ false → (a ≡ false) ⊎ (b ≡ false)
and_false true b h = inr h
and_false false b h = inl refl

not_false : (a : Bool) → not a ≡ false → a ≡ true
not_false true h = refl
not_false false h = cc

-- ---- pairs of constants
row_none : (mode : Mode) (op : Op) (scalar : Scalar) (c d : Constant) (ds : List Constant) → row_traps_of mode op scalar c ds ≡ false → Has d ds → pair_traps mode op scalar c d ≡ false
row_none mode op scalar c d [] h m = absurd m
row_none mode op scalar c d (e ∷ ds) h (inl s) = subst (λ x. pair_traps mode op scalar c x ≡ false) (sym s) (or_false _ _ h).0
row_none mode op scalar c d (e ∷ ds) h (inr m) = row_none mode op scalar c d ds (or_false _ _ h).1 m

some_none : (mode : Mode) (op : Op) (scalar : Scalar) (c d : Constant) (cs ds : List Constant) → some_traps mode op scalar cs ds ≡ false → Has c cs → Has d ds → pair_traps mode op scalar c d ≡ false
some_none mode op scalar c d [] ds h m n = absurd m
some_none mode op scalar c d (e ∷ cs) ds h (inl s) n = subst (λ x. pair_traps mode op scalar x d ≡ false) (sym s) (row_none mode op scalar e d ds (or_false _ _ h).0 n)
some_none mode op scalar c d (e ∷ cs) ds h (inr m) n = some_none mode op scalar c d cs ds (or_false _ _ h).1 m n

vals_none : (mode : Mode) (op : Op) (scalar : Scalar) (c d : Constant) (a b : Vals) → vals_trap mode op scalar a b ≡ false → IsAmong (Some c) a → IsAmong (Some d) b → pair_traps mode op scalar c d ≡ false
vals_none mode op scalar c d Any b h m n = cc
vals_none mode op scalar c d Nothing b h m n = absurd m
vals_none mode op scalar c d (Among l cs) Any h m n = cc
vals_none mode op scalar c d (Among l cs) Nothing h m n = absurd n
vals_none mode op scalar c d (Among l cs) (Among k ds) h m n = some_none mode op scalar c d cs ds h m n

result_done : (r : Result ℤ TrapKind) → is_trap r ≡ false → IsDone r
result_done (Ok x) h = (x, refl)
result_done (Err k) h = cc

pair_done : (mode : Mode) (op : Op) (scalar : Scalar) (z w : ℤ) → is_pointer scalar ≡ false → in_scalar scalar z ≡ true → may_stand_right op scalar w ≡ true → pair_traps mode op scalar (Int z) (Int w) ≡ false → IsDone (op_of mode op scalar z w)
pair_done mode op scalar z w p e f h = result_done (op_of mode op scalar z w) (plain (is_pointer scalar) (in_scalar scalar z) (may_stand_right op scalar w) (is_trap (op_of mode op scalar z w)) p e f h)
  where
    plain : (a b c t : Bool) → a ≡ false → b ≡ true → c ≡ true → (not a && ((b && c) && t)) ≡ false → t ≡ false
    plain true b c t p e f h = cc
    plain false false c t p e f h = cc
    plain false true false t p e f h = cc
    plain false true true t p e f h = h

-- ---- intervals
within_done : (scalar : Scalar) (y : ℤ) → InRange y (type_range scalar) → IsDone (within scalar y)
within_done scalar y h = (y, rw (in_type_is scalar y h) refl)

kept_done : (mode : Mode) (scalar : Scalar) (y : ℤ) → (traps_outside mode scalar ≡ false) ⊎ InRange y (type_range scalar) → IsDone (kept mode scalar y)
kept_done mode scalar y h = subst IsDone (sym (kept_is mode scalar y)) (by (traps_outside mode scalar) h)
  where
    by : (b : Bool) → (b ≡ false) ⊎ InRange y (type_range scalar) → IsDone (cond b (within scalar y) (okay (wrapped scalar y)))
    by false h = (wrapped scalar y, refl)
    by true (inl s) = cc
    by true (inr h) = within_done scalar y h

inside_each : (t : Range) (o : Option Range) (y : ℤ) → lies_outside t o ≡ false → InEach y o → InRange y t
inside_each t None y h i = absurd i
inside_each t (Some r) y h i =
    let e : (int_le t.low r.low ≡ true) × (int_le r.high t.high ≡ true) = two _ _ (not_false _ h) in
    let a : t.low ≤ℤ r.low = (le_tells t.low r.low).is_so e.0 in
    let b : r.high ≤ℤ t.high = (le_tells r.high t.high).is_so e.1 in
    record { from = omega (arith, ints, i.from); to = omega (arith, ints, i.to) }

exact_done : (mode : Mode) (scalar : Scalar) (o : Option Range) (y : ℤ) → (traps_outside mode scalar && lies_outside (type_range scalar) o) ≡ false → InEach y o → IsDone (kept mode scalar y)
exact_done mode scalar o y h i = elim (and_false _ _ h) [ inl s ↦ kept_done mode scalar y (inl s) | inr l ↦ kept_done mode scalar y (inr (inside_each (type_range scalar) o y l i)) ]

not_number : (z w : ℤ) (s : Range) → has_number z s ≡ false → InRange w s → w ≡ z → ⊥
not_number z w s h i e =
    let a : int_le s.low z ≡ true = (le_tells s.low z).so_is (subst (λ (x : ℤ). s.low ≤ℤ x) e i.from) in
    let b : int_le z s.high ≡ true = (le_tells z s.high).so_is (subst (λ (x : ℤ). x ≤ℤ s.high) e i.to) in
    clash (int_le s.low z) (int_le z s.high) a b h
  where
    clash : (a b : Bool) → a ≡ true → b ≡ true → (a && b) ≡ false → ⊥
    clash true true e f h = cc
    clash true false e f h = cc
    clash false b e f h = cc

-- a quotient of numbers of a signed scalar, but for the least number by -1
signed_quotient : (scalar : Scalar) (z w : ℤ) → is_signed scalar ≡ true → InRange z (type_range scalar) → (z ≤ℤ least_of scalar → w ≡ negsuc 0 → ⊥) → InRange (int_div z w) (type_range scalar)
signed_quotient scalar z w s h other = at z w other h (ends scalar s)
  where
    ends : (scalar : Scalar) → is_signed scalar ≡ true → (least_of scalar ≡ pos 0 -ℤ pos (half_of scalar)) × (greatest_of scalar ≡ pos (half_of scalar - 1))
    ends scalar s = signed_ends scalar s

    small : (n m : ℕ) → suc n / suc (suc m) + suc n / suc (suc m) ≤ suc n
    small n m = let e : suc n / suc (suc m) * suc (suc m) ≤ suc n = div-mul-le_self (suc n) (suc (suc m)) in twice (suc n / suc (suc m)) m (suc n) e
      where
        twice : (q m n : ℕ) → q * suc (suc m) ≤ n → q + q ≤ n
        twice q m n e = let f : q * 2 ≤ q * suc (suc m) = mul-le q 2 q (suc (suc m)) (omega arith) (omega arith) in omega arith

    into : (y : ℤ) (h : ℕ) → least_of scalar ≡ pos 0 -ℤ pos h → greatest_of scalar ≡ pos (h - 1) → (pos 0 -ℤ pos h) ≤ℤ y → y ≤ℤ pos (h - 1) → InRange y (type_range scalar)
    into y h a b p q = record { from = subst (λ (x : ℤ). x ≤ℤ y) (sym a) p; to = subst (λ (x : ℤ). y ≤ℤ x) (sym b) q }

    at : (z w : ℤ) → (z ≤ℤ least_of scalar → w ≡ negsuc 0 → ⊥) → InRange z (type_range scalar) → (least_of scalar ≡ pos 0 -ℤ pos (half_of scalar)) × (greatest_of scalar ≡ pos (half_of scalar - 1)) → InRange (int_div z w) (type_range scalar)
    at (pos n) (pos m) o h u = let e : n / m ≤ n = div-le_self n m in let l : n < half_of scalar = (pos_below scalar n h).1 s in into _ (half_of scalar) u.0 u.1 (omega (arith, ints)) (omega (arith, ints))
    at (pos n) (negsuc m) o h u = let e : n / suc m ≤ n = div-le_self n (suc m) in let l : n < half_of scalar = (pos_below scalar n h).1 s in into _ (half_of scalar) u.0 u.1 (omega (arith, ints)) (omega (arith, ints))
    at (negsuc n) (pos m) o h u = let e : suc n / m ≤ suc n = div-le_self (suc n) m in let l : n < half_of scalar = (neg_below scalar n h).1 in into _ (half_of scalar) u.0 u.1 (omega (arith, ints)) (omega (arith, ints))
    at (negsuc n) (negsuc (suc m)) o h u = let e = small n m in let l : n < half_of scalar = (neg_below scalar n h).1 in into _ (half_of scalar) u.0 u.1 (omega (arith, ints)) (omega (arith, ints, e))
    at (negsuc n) (negsuc zero) o h u =
        let l : n < half_of scalar = (neg_below scalar n h).1 in
        let e : suc n / 1 ≤ suc n = div-le_self (suc n) 1 in
        let more : suc n < half_of scalar = above n (half_of scalar) l (λ p. o (subst (λ (x : ℤ). negsuc n ≤ℤ x) (sym u.0) p) refl) in
        into _ (half_of scalar) u.0 u.1 (omega (arith, ints)) (omega (arith, ints))
      where
        above : (n h : ℕ) → n < h → (negsuc n ≤ℤ (pos 0 -ℤ pos h) → ⊥) → suc n < h
        above n h l o = elim (cases_lt (suc n) h) [ inl a ↦ a | inr b ↦ absurd (o (let e : h ≡ suc n = omega arith in subst (λ (k : ℕ). negsuc n ≤ℤ (pos 0 -ℤ pos k)) (sym e) (omega (arith, ints)))) ]

unsigned_quotient : (scalar : Scalar) (z w : ℤ) → is_signed scalar ≡ false → InRange z (type_range scalar) → InRange w (type_range scalar) → InRange (int_div z w) (type_range scalar)
unsigned_quotient scalar (negsuc n) w s h k = absurd (let e = (neg_below scalar n h).0 in let c : true ≡ false = sym e ∙ s in cc)
unsigned_quotient scalar (pos n) (negsuc m) s h k = absurd (let e = (neg_below scalar m k).0 in let c : true ≡ false = sym e ∙ s in cc)
unsigned_quotient scalar (pos n) (pos m) s h k = let e : n / m ≤ n = div-le_self n m in let t = type_zero scalar in record { from = omega (arith, ints, t.0); to = omega (arith, ints, h.to) }

division_in : (scalar : Scalar) (r s : Range) (z w : ℤ) → InRange z (type_range scalar) → InRange w (type_range scalar) → InRange z r → InRange w s → division_traps scalar r s ≡ false → (not (unsigned_abs w == 0) ≡ true) × InRange (int_div z w) (type_range scalar)
division_in scalar r s z w h k i j t =
    let e = or_false _ _ t in (
      nonzero w (λ f. not_number (pos 0) w s e.0 j f),
      elim (and_false _ _ e.1) [
        | inl u ↦ unsigned_quotient scalar z w u h k
        | inr l ↦ by (is_signed scalar) refl l
      ],
    )
  where
    nonzero : (w : ℤ) → (w ≡ pos 0 → ⊥) → not (unsigned_abs w == 0) ≡ true
    nonzero (pos zero) n = absurd (n refl)
    nonzero (pos (suc m)) n = ap not (eqb-suc-zero m)
    nonzero (negsuc m) n = ap not (eqb-suc-zero m)

    by : (b : Bool) → is_signed scalar ≡ b → (int_le r.low (least_of scalar) && has_number (negsuc 0) s) ≡ false → InRange (int_div z w) (type_range scalar)
    by false u l = unsigned_quotient scalar z w u h k
    by true u l = signed_quotient scalar z w u h (λ p q. elim (and_false _ _ l) [
      | inl a ↦ clash (int_le r.low (least_of scalar)) ((le_tells r.low (least_of scalar)).so_is (omega (arith, ints, i.from, p))) a
      | inr b ↦ not_number (negsuc 0) w s b j q
    ])
      where
        clash : (b : Bool) → b ≡ true → b ≡ false → ⊥
        clash true e f = cc
        clash false e f = cc

count_in : (scalar : Scalar) (s : Range) (w : ℤ) → InRange w s → count_traps scalar s ≡ false → is_count scalar w ≡ true
count_in scalar s w j t =
    let e : (int_le (pos 0) s.low ≡ true) × (int_lt s.high (pos (bits_of scalar)) ≡ true) = two _ _ (not_false _ t) in
    let a : pos 0 ≤ℤ s.low = (le_tells (pos 0) s.low).is_so e.0 in
    let b : s.high <ℤ pos (bits_of scalar) = lt_is s.high (pos (bits_of scalar)) e.1 in
    both _ _ ((le_tells (pos 0) w).so_is (omega (arith, ints, j.from))) (is_lt w (pos (bits_of scalar)) (omega (arith, ints, j.to)))

unless_done : (t : Bool) (k : TrapKind) (r : Result ℤ TrapKind) → t ≡ true → IsDone r → IsDone (unless_not t k r)
unless_done true k r e d = d
unless_done false k r e d = cc

range_done : (mode : Mode) (op : Op) (scalar other : Scalar) (r s : Range) (z w : ℤ) → IsRight op scalar other → InRange z (type_range scalar) → InRange w (type_range other) → InRange z r → InRange w s → range_traps mode op scalar r s ≡ false → IsDone (op_of mode op scalar z w)
unfolding op_of
range_done mode Add scalar other r s z w q h k i j t = exact_done mode scalar (sum_range r s) (z +ℤ w) t (sum_hull.holds r s z w i j tt)
range_done mode Sub scalar other r s z w q h k i j t = exact_done mode scalar (difference_range r s) (z -ℤ w) t (difference_hull.holds r s z w i j tt)
range_done mode Mul scalar other r s z w q h k i j t = exact_done mode scalar (product_range r s) (z *ℤ w) t (product_hull.holds r s z w i j tt)
range_done mode Div scalar other r s z w q h k i j t = let d = division_in scalar r s z w h (subst (λ o. InRange w (type_range o)) q k) i j t in unless_done (not (unsigned_abs w == 0)) Divide (within scalar (int_div z w)) d.0 (within_done scalar (int_div z w) d.1)
range_done mode Rem scalar other r s z w q h k i j t = let d = division_in scalar r s z w h (subst (λ o. InRange w (type_range o)) q k) i j t in unless_done (not (unsigned_abs w == 0)) Divide (unless_not (in_scalar scalar (int_div z w)) Overflow (okay (int_rem z w))) d.0 (unless_done (in_scalar scalar (int_div z w)) Overflow (okay (int_rem z w)) (in_type_is scalar (int_div z w) d.1) (int_rem z w, refl))
range_done mode And scalar other r s z w q h k i j t = (of_bits scalar (bit_and (low_bits scalar z) (low_bits scalar w)), refl)
range_done mode Or scalar other r s z w q h k i j t = (of_bits scalar (bit_or (low_bits scalar z) (low_bits scalar w)), refl)
range_done mode Xor scalar other r s z w q h k i j t = (of_bits scalar (bit_xor (low_bits scalar z) (low_bits scalar w)), refl)
range_done mode Shl scalar other r s z w q h k i j t = unless_done (is_count scalar w) Shift (okay (of_bits scalar (low_bits scalar z * 2 ^ unsigned_abs w % modulus_of scalar))) (count_in scalar s w j t) (of_bits scalar (low_bits scalar z * 2 ^ unsigned_abs w % modulus_of scalar), refl)
range_done mode Shr scalar other r s z w q h k i j t = unless_done (is_count scalar w) Shift (okay (int_shr z (unsigned_abs w))) (count_in scalar s w j t) (int_shr z (unsigned_abs w), refl)

pointer_done : (mode : Mode) (v w : Value) (op : Op) → (x : Value) × (arith_of mode Ptr v op w ≡ done x)
unfolding arith_of
pointer_done mode v w op = (moved_by v (any_number w), refl)

pub no_trap : NoTrap
unfolding may_trap_of
no_trap most ts mode op scalar other al a b fa oa fb ob v w kv kw hv hw t =
    elim (none_or_not most ts a fa) [
      | inl n ↦ absurd (n.1 v hv)
      | inr i ↦ elim (none_or_not most ts b fb) [
        | inl n ↦ absurd (n.1 w hw)
        | inr j ↦ by (is_pointer scalar) refl t i.0 j.0
      ]
    ]
  where
    numbers : is_pointer scalar ≡ false → (vals_trap mode op scalar a.vals b.vals && range_traps mode op scalar a.range b.range) ≡ false → is_none_val a ≡ false → is_none_val b ≡ false → (x : Value) × (arith_of mode scalar v op w ≡ done x)
    numbers p t i j =
        let r = right_int op scalar other al p in
        let f = proper_by most ts scalar a fa oa p i in
        let g = proper_by most ts other b fb ob r.1 j in
        let z = number_value scalar v p kv in
        let u = number_value other w r.1 kw in
        let h : Holds (Number z.0) a = subst (λ y. Holds y a) z.1 hv in
        let k : Holds (Number u.0) b = subst (λ y. Holds y b) u.1 hw in
        let d : IsDone (op_of mode op scalar z.0 u.0) = elim (and_false _ _ t) [
          | inl e ↦ pair_done mode op scalar z.0 u.0 p z.2 (stands op scalar other u.0 r.0 u.2) (vals_none mode op scalar (Int z.0) (Int u.0) a.vals b.vals e h.vals k.vals)
          | inr e ↦ range_done mode op scalar other a.range b.range z.0 u.0 r.0 (in_type scalar z.0 z.2) (in_type other u.0 u.2) h.range k.range e
        ] in
        let back : arith_of mode scalar (Number z.0) op (Number u.0) ≡ done (Number d.0) = arith_back mode op scalar other z.0 u.0 d.0 p r.0 z.2 u.2 d.1 in
        (Number d.0, ap (λ y. arith_of mode scalar y op w) z.1 ∙ (ap (λ y. arith_of mode scalar (Number z.0) op y) u.1 ∙ back))

    by : (c : Bool) → is_pointer scalar ≡ c → (not c && (vals_trap mode op scalar a.vals b.vals && range_traps mode op scalar a.range b.range)) ≡ false → is_none_val a ≡ false → is_none_val b ≡ false → (x : Value) × (arith_of mode scalar v op w ≡ done x)
    by true p t i j = subst (λ s. (x : Value) × (arith_of mode s v op w ≡ done x)) (sym (pointer_is scalar p)) (pointer_done mode v w op)
    by false p t i j = numbers p t i j
