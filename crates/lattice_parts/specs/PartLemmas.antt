-- The laws of three parts give those of the whole, and laws are carried along a view.
use Rattle.std.proofs.Common.{◌≡◌, ℕ, ◌+◌, ◌<◌, ◌≤◌, ◌⊎◌, inl, inr, Bool, true, false, ◌&&◌, refl, sym, ◌∙◌, ap, subst, arith}
use Rattle.lattice_parts.specs.Parts.{PartLaws, Parts, FitsParts, parts_below, parts_joined, parts_rank}

three : (a b c : Bool) → (a && (b && c)) ≡ true → (a ≡ true) × (b ≡ true) × (c ≡ true)
three true true true h = (refl, refl, refl)
three true true false h = cc
three true false c h = cc
three false b c h = cc

three_true : (a b c : Bool) → a ≡ true → b ≡ true → c ≡ true → (a && (b && c)) ≡ true
three_true a b c h k m = cc

-- each part stays or falls, so the whole stays or its sum falls
sum_falls : {X Y Z : Type 0} (x y : Parts X Y Z) (a b c d e f : ℕ) → (x.first ≡ y.first) ⊎ (d < a) → (x.second ≡ y.second) ⊎ (e < b) → (x.third ≡ y.third) ⊎ (f < c) → ((x.first ≡ y.first) → d ≡ a) → ((x.second ≡ y.second) → e ≡ b) → ((x.third ≡ y.third) → f ≡ c) → (x ≡ y) ⊎ (d + (e + f) < a + (b + c))
sum_falls x y a b c d e f (inl s) (inl t) (inl u) p q r = inl (λ i. record { first = s i; second = t i; third = u i })
sum_falls x y a b c d e f (inl s) (inl t) (inr n) p q r = inr (omega (arith, p s, q t))
sum_falls x y a b c d e f (inl s) (inr m) (inl u) p q r = inr (omega (arith, p s, r u))
sum_falls x y a b c d e f (inl s) (inr m) (inr n) p q r = inr (omega (arith, p s))
sum_falls x y a b c d e f (inr l) (inl t) (inl u) p q r = inr (omega (arith, q t, r u))
sum_falls x y a b c d e f (inr l) (inl t) (inr n) p q r = inr (omega (arith, q t))
sum_falls x y a b c d e f (inr l) (inr m) (inl u) p q r = inr (omega (arith, r u))
sum_falls x y a b c d e f (inr l) (inr m) (inr n) p q r = inr (omega arith)

pub lifted_laws : {X Y Z : Type 0} {fx : X → Type 0} {fy : Y → Type 0} {fz : Z → Type 0} {nx ny nz : ℕ} {rx : X → ℕ} {ry : Y → ℕ} {rz : Z → ℕ} {bx : X → X → Bool} {by : Y → Y → Bool} {bz : Z → Z → Bool} {jx : X → X → X} {jy : Y → Y → Y} {jz : Z → Z → Z} (empty : Z → Bool) (none : Parts X Y Z)
    → PartLaws fx nx rx bx jx → PartLaws fy ny ry by jy → PartLaws fz nz rz bz jz
    → ((r s : Z) → fz r → fz s → empty (jz r s) ≡ false)
    → PartLaws (FitsParts none fx fy fz empty) (1 + (nx + (ny + nz))) (parts_rank (1 + (nx + (ny + nz))) rx ry rz empty) (parts_below bx by bz empty) (parts_joined jx jy jz empty)
lifted_laws {X} {Y} {Z} {fx} {fy} {fz} {nx} {ny} {nz} {rx} {ry} {rz} {bx} {by} {bz} {jx} {jy} {jz} empty none v b r full = record {
  reflexive = reflexive;
  antisymmetric = antisymmetric;
  transitive = transitive;
  join_fits = join_fits;
  above_left = above_left;
  above_right = above_right;
  least_above = least_above;
  rank_bounded = rank_bounded;
  rank_falls = rank_falls;
}
  where
    F : Parts X Y Z → Type 0
    F x = FitsParts none fx fy fz empty x

    reflexive : (x : Parts X Y Z) → F x → parts_below bx by bz empty x x ≡ true
    reflexive x (inl n) = rw n.bare refl
    reflexive x (inr p) = rw p.full (three_true _ _ _ (v.reflexive x.first p.first) (b.reflexive x.second p.second) (r.reflexive x.third p.third))

    antisymmetric : (x y : Parts X Y Z) → F x → F y → parts_below bx by bz empty x y ≡ true → parts_below bx by bz empty y x ≡ true → x ≡ y
    antisymmetric x y (inl n) (inl m) h k = n.is ∙ sym m.is
    antisymmetric x y (inl n) (inr q) h k = absurd (let e = rw (q.full, n.bare) at k in cc)
    antisymmetric x y (inr p) (inl m) h k = absurd (let e = rw (p.full, m.bare) at h in cc)
    antisymmetric x y (inr p) (inr q) h k =
        let e = three _ _ _ (rw (p.full, q.full) at h) in
        let f = three _ _ _ (rw (q.full, p.full) at k) in
        let s : x.first ≡ y.first = v.antisymmetric _ _ p.first q.first e.0 f.0 in
        let t : x.second ≡ y.second = b.antisymmetric _ _ p.second q.second e.1 f.1 in
        let u : x.third ≡ y.third = r.antisymmetric _ _ p.third q.third e.2 f.2 in
        λ i. record { first = s i; second = t i; third = u i }

    transitive : (x y z : Parts X Y Z) → F x → F y → F z → parts_below bx by bz empty x y ≡ true → parts_below bx by bz empty y z ≡ true → parts_below bx by bz empty x z ≡ true
    transitive x y z (inl n) _ _ h k = rw n.bare refl
    transitive x y z (inr p) (inl m) _ h k = absurd (let e = rw (p.full, m.bare) at h in cc)
    transitive x y z (inr p) (inr q) (inl m) h k = absurd (let e = rw (q.full, m.bare) at k in cc)
    transitive x y z (inr p) (inr q) (inr o) h k =
        let e = three _ _ _ (rw (p.full, q.full) at h) in
        let f = three _ _ _ (rw (q.full, o.full) at k) in
        rw (p.full, o.full) (three_true _ _ _ (v.transitive _ _ _ p.first q.first o.first e.0 f.0) (b.transitive _ _ _ p.second q.second o.second e.1 f.1) (r.transitive _ _ _ p.third q.third o.third e.2 f.2))

    join_fits : (x y : Parts X Y Z) → F x → F y → F (parts_joined jx jy jz empty x y)
    join_fits x y (inl n) k = rw n.bare k
    join_fits x y (inr p) (inl m) = rw (p.full, m.bare) (inr p)
    join_fits x y (inr p) (inr q) = rw (p.full, q.full) (inr (record { first = v.join_fits _ _ p.first q.first; second = b.join_fits _ _ p.second q.second; third = r.join_fits _ _ p.third q.third; full = full _ _ p.third q.third }))

    above_left : (x y : Parts X Y Z) → F x → F y → parts_below bx by bz empty x (parts_joined jx jy jz empty x y) ≡ true
    above_left x y (inl n) k = rw n.bare refl
    above_left x y (inr p) (inl m) = rw (p.full, m.bare, p.full) (three_true _ _ _ (v.reflexive x.first p.first) (b.reflexive x.second p.second) (r.reflexive x.third p.third))
    above_left x y (inr p) (inr q) = rw (p.full, q.full) (rw (full _ _ p.third q.third) (three_true _ _ _ (v.above_left _ _ p.first q.first) (b.above_left _ _ p.second q.second) (r.above_left _ _ p.third q.third)))

    above_right : (x y : Parts X Y Z) → F x → F y → parts_below bx by bz empty y (parts_joined jx jy jz empty x y) ≡ true
    above_right x y h (inl m) = rw m.bare refl
    above_right x y (inl n) (inr q) = rw n.bare (reflexive y (inr q))
    above_right x y (inr p) (inr q) = rw (p.full, q.full) (rw (full _ _ p.third q.third) (three_true _ _ _ (v.above_right _ _ p.first q.first) (b.above_right _ _ p.second q.second) (r.above_right _ _ p.third q.third)))

    least_above : (x y z : Parts X Y Z) → F x → F y → F z → parts_below bx by bz empty x z ≡ true → parts_below bx by bz empty y z ≡ true → parts_below bx by bz empty (parts_joined jx jy jz empty x y) z ≡ true
    least_above x y z (inl n) g i h k = rw n.bare k
    least_above x y z (inr p) (inl m) i h k = rw (p.full, m.bare) h
    least_above x y z (inr p) (inr q) (inl m) h k = absurd (let e = rw (p.full, m.bare) at h in cc)
    least_above x y z (inr p) (inr q) (inr o) h k =
        let e = three _ _ _ (rw (p.full, o.full) at h) in
        let f = three _ _ _ (rw (q.full, o.full) at k) in
        rw (p.full, q.full) (rw (full _ _ p.third q.third, o.full) (three_true _ _ _ (v.least_above _ _ _ p.first q.first o.first e.0 f.0) (b.least_above _ _ _ p.second q.second o.second e.1 f.1) (r.least_above _ _ _ p.third q.third o.third e.2 f.2)))

    rank_bounded : (x : Parts X Y Z) → F x → parts_rank (1 + (nx + (ny + nz))) rx ry rz empty x ≤ 1 + (nx + (ny + nz))
    rank_bounded x (inl n) = rw n.bare (omega arith)
    rank_bounded x (inr p) = rw p.full (omega (arith, v.rank_bounded _ p.first, b.rank_bounded _ p.second, r.rank_bounded _ p.third))

    rank_falls : (x y : Parts X Y Z) → F x → F y → parts_below bx by bz empty x y ≡ true → (x ≡ y) ⊎ (parts_rank (1 + (nx + (ny + nz))) rx ry rz empty y < parts_rank (1 + (nx + (ny + nz))) rx ry rz empty x)
    rank_falls x y (inl n) (inl m) h = inl (n.is ∙ sym m.is)
    rank_falls x y (inl n) (inr q) h = inr (rw (n.bare, q.full) (omega (arith, v.rank_bounded _ q.first, b.rank_bounded _ q.second, r.rank_bounded _ q.third)))
    rank_falls x y (inr p) (inl m) h = absurd (let e = rw (p.full, m.bare) at h in cc)
    rank_falls x y (inr p) (inr q) h =
        let e = three _ _ _ (rw (p.full, q.full) at h) in
        rw (p.full, q.full) (sum_falls x y _ _ _ _ _ _ (v.rank_falls _ _ p.first q.first e.0) (b.rank_falls _ _ p.second q.second e.1) (r.rank_falls _ _ p.third q.third e.2) (λ (t : x.first ≡ y.first). ap rx (sym t)) (λ (t : x.second ≡ y.second). ap ry (sym t)) (λ (t : x.third ≡ y.third). ap rz (sym t)))

-- laws along a view that tells values apart
pub viewed_laws : {X Y : Type 0} {fits : X → Type 0} {n : ℕ} {rank : X → ℕ} {below : X → X → Bool} {joined : X → X → X} (view : Y → X) (P : Y → Type 0) (join : Y → Y → Y)
    → PartLaws fits n rank below joined → ((y : Y) → P y → fits (view y)) → ((a b : Y) → P a → P b → view a ≡ view b → a ≡ b)
    → ((a b : Y) → P a → P b → view (join a b) ≡ joined (view a) (view b)) → ((a b : Y) → P a → P b → P (join a b))
    → PartLaws P n (λ y. rank (view y)) (λ a b. below (view a) (view b)) join
viewed_laws {below = below} view P join laws fit apart same join_fits = record {
  reflexive = λ x f. laws.reflexive _ (fit x f);
  antisymmetric = λ x y f g h k. apart x y f g (laws.antisymmetric _ _ (fit x f) (fit y g) h k);
  transitive = λ x y z f g e h k. laws.transitive _ _ _ (fit x f) (fit y g) (fit z e) h k;
  join_fits = join_fits;
  above_left = λ x y f g. subst (λ j. below (view x) j ≡ true) (sym (same x y f g)) (laws.above_left _ _ (fit x f) (fit y g));
  above_right = λ x y f g. subst (λ j. below (view y) j ≡ true) (sym (same x y f g)) (laws.above_right _ _ (fit x f) (fit y g));
  least_above = λ x y z f g e h k. subst (λ j. below j (view z) ≡ true) (sym (same x y f g)) (laws.least_above _ _ _ (fit x f) (fit y g) (fit z e) h k);
  rank_bounded = λ x f. laws.rank_bounded _ (fit x f);
  rank_falls = λ x y f g h. falls x y _ _ f g (laws.rank_falls _ _ (fit x f) (fit y g) h);
}
  where
    falls : (x y : _) (m n : ℕ) → P x → P y → (view x ≡ view y) ⊎ (m < n) → (x ≡ y) ⊎ (m < n)
    falls x y m n f g (inl e) = inl (apart x y f g e)
    falls x y m n f g (inr h) = inr h
