-- What changes make of the values of registers.
use Rattle.std.proofs.Common.{◌≡◌, ℕ, zero, suc, ◌+◌, ◌<◌, ◌≤◌, ◌^◌, ◌==◌, Bool, true, false, cond, List, [], ◌∷◌, ◌++◌, take, drop, length, get_or, Option, Some, None, Result, Ok, Err, IfOk, OnOk, slice_get, slice_set, ◌⊎◌, inl, inr, refl, sym, ◌∙◌, ap, subst, arith, add-one, append-nil, length-append}
use Rattle.std.proofs.lemmas.Bool.{cases_Bool, eqb-true, eq-eqb}
use Rattle.std.proofs.lemmas.List.{drop_more, drop_all, append_assoc}
use Rattle.gimple_ir.specs.declared.statement.Stmt.{Stmt}
use Rattle.gimple_ir.specs.declared.block.Block.{Block}
use Rattle.fix_engine.specs.Rows.{Each}
use Rattle.fix_engine.specs.declared.lifted.Lifted.{Lifted}
use Rattle.fix_engine.specs.declared.lifted.Lifted.TheVariants.{NotReached, Reached}
use Rattle.block_flow.specs.Steps.{where_reached}
use Rattle.block_flow.specs.System.{value_or, AreFew}
use Rattle.value_domain.specs.declared.abs_val.AbsVal.{AbsVal}
use Rattle.value_domain.specs.Values.{is_none_val}
use Rattle.body_values.specs.declared.scene.Scene.{Scene}
use Rattle.body_values.specs.declared.block_values.Change.{Change}
use Rattle.body_values.specs.declared.block_values.Change.TheVariants.{Nothing, Sets, Ends}
use Rattle.body_values.specs.Bodies.{Body, place_of, is_abort, target_of, register_scalar, result_value, after_target, after_stmt}
use Rattle.body_values.specs.Changed.{changed, rows_by, value_after, value_through, reached_through, set_to, change_of}
use Rattle.body_values.specs.Found.{value_of}
use Rattle.body_values.specs.FoundWhere.{is_reached}
use Rattle.body_values.specs.PointRows.{rows_from, block_rows}
use Rattle.body_values.specs.Scenes.{body_in, FitsIn}

-- ---- the rows by their numbers

-- the values after all changes
abbrev pub changed_by : Lifted (List AbsVal) → List Change → Lifted (List AbsVal)
changed_by x [] = x
changed_by x (c ∷ cs) = changed_by (changed x c) cs

first_row : (x : Lifted (List AbsVal)) (cs : List Change) → value_or (slice_get (rows_by x cs) 0) ≡ x
first_row x [] = refl
first_row x (c ∷ cs) = refl

row_there : (x : Lifted (List AbsVal)) (cs : List Change) (i : ℕ) → i ≤ length cs → value_or (slice_get (rows_by x cs) i) ≡ changed_by x (take i cs)
row_there x [] zero h = refl
row_there x [] (suc i) h = absurd (omega (arith, h))
row_there x (c ∷ cs) zero h = refl
row_there x (c ∷ cs) (suc i) h = row_there (changed x c) cs i (omega (arith, h))

row_past : (x : Lifted (List AbsVal)) (cs : List Change) (i : ℕ) → length cs < i → value_or (slice_get (rows_by x cs) i) ≡ NotReached
row_past x [] zero h = absurd (omega (arith, h))
row_past x [] (suc i) h = refl
row_past x (c ∷ cs) zero h = absurd (omega (arith, h))
row_past x (c ∷ cs) (suc i) h = row_past (changed x c) cs i (omega (arith, h))

row_next : (x : Lifted (List AbsVal)) (cs : List Change) (i : ℕ) (c : Change) → slice_get cs i ≡ Some c → value_or (slice_get (rows_by x cs) (suc i)) ≡ changed (value_or (slice_get (rows_by x cs) i)) c
row_next x [] i c e = cc
row_next x (d ∷ cs) zero c e = let same : d ≡ c = cc in first_row (changed x d) cs ∙ ap (changed x) same
row_next x (d ∷ cs) (suc i) c e = row_next (changed x d) cs i c e

no_more : (cs : List Change) (i : ℕ) → slice_get cs i ≡ None → length cs ≤ i
no_more [] i e = omega arith
no_more (c ∷ cs) zero e = cc
no_more (c ∷ cs) (suc i) e = let rest = no_more cs i e in omega (arith, rest)

pub begin_is : {E : Type 0} (x : Lifted (List AbsVal)) (cs : List Change) (rows : List (Lifted (List AbsVal))) (r : Result (Lifted (List AbsVal)) E) → rows_by x cs ≡ rows → IfOk r (λ y. y ≡ x) → IfOk r (λ y. y ≡ value_or (slice_get rows 0))
begin_is x cs rows (Ok y) e h = h ∙ (sym (first_row x cs) ∙ ap (λ (rs : List (Lifted (List AbsVal))). value_or (slice_get rs 0)) e)
begin_is x cs rows (Err error) e h = tt

pub passed_is : {X E : Type 0} (x old next : Lifted (List AbsVal)) (cs : List Change) (rows : List (Lifted (List AbsVal))) (i : ℕ) (c : Change) (r : Result X E) → rows_by x cs ≡ rows → slice_get cs i ≡ Some c → old ≡ value_or (slice_get rows i) → OnOk r (next ≡ changed old c) → OnOk r (next ≡ value_or (slice_get rows (i + 1)))
passed_is x old next cs rows i c (Err error) e there h n = tt
passed_is x old next cs rows i c (Ok unit) e there h n =
    let before : changed old c ≡ changed (value_or (slice_get (rows_by x cs) i)) c = ap (λ y. changed y c) (h ∙ ap (λ (rs : List (Lifted (List AbsVal))). value_or (slice_get rs i)) (sym e)) in
    let after : value_or (slice_get (rows_by x cs) (suc i)) ≡ value_or (slice_get rows (i + 1)) = ap (λ (rs : List (Lifted (List AbsVal))). value_or (slice_get rs (suc i))) e ∙ ap (λ n. value_or (slice_get rows n)) (sym (add-one i)) in
    n ∙ (before ∙ (sym (row_next x cs i c there) ∙ after))

pub passed_end : (x : Lifted (List AbsVal)) (cs : List Change) (rows : List (Lifted (List AbsVal))) (i : ℕ) → rows_by x cs ≡ rows → slice_get cs i ≡ None → NotReached ≡ value_or (slice_get rows (i + 1))
passed_end x cs rows i e there =
    sym (row_past x cs (i + 1) (let l = no_more cs i there in omega (arith, l))) ∙ ap (λ (rs : List (Lifted (List AbsVal))). value_or (slice_get rs (i + 1))) e

-- ---- one register

kept : (o : Option AbsVal) (place : ℕ) → o ≡ value_after place o Nothing
kept None place = refl
kept (Some a) place = refl

lost : (o : Option AbsVal) (place : ℕ) → None ≡ value_after place o Ends
lost None place = refl
lost (Some a) place = refl

other_kept : (o : Option AbsVal) (place other : ℕ) (b : AbsVal) → (other == place) ≡ false → o ≡ value_after place o (Sets other b)
other_kept None place other b e = refl
other_kept (Some a) place other b e = sym (ap (λ t. cond t (Some b) (Some a)) e)

unequal : (m n : ℕ) → (m ≡ n → ⊥) → (m == n) ≡ false
unequal m n f = elim (cases_Bool (m == n)) [
  | inl y ↦ absurd (f (eqb-true m n y))
  | inr y ↦ y
]

-- a test on the numbers that follow is the same one
shifted : (o : Option AbsVal) (place other : ℕ) (b : AbsVal) → value_after place o (Sets other b) ≡ value_after (suc place) o (Sets (suc other) b)
shifted None place other b = refl
shifted (Some a) place other b = ap (λ t. cond t (Some b) (Some a)) same
  where
    same : (other == place) ≡ (suc other == suc place)
    same = elim (cases_Bool (other == place)) [
      | inl y ↦ y ∙ sym (eq-eqb (suc other) (suc place) (ap suc (eqb-true other place y)))
      | inr y ↦ y ∙ sym (unequal (suc other) (suc place) (λ e. let e' : other ≡ place = omega (arith, e) in let t : true ≡ false = sym (eq-eqb other place e') ∙ y in cc))
    ]

set_get : (row : List AbsVal) (other place : ℕ) (b : AbsVal) → slice_get (slice_set row other b) place ≡ value_after place (slice_get row place) (Sets other b)
set_get [] other place b = refl
set_get (a ∷ row) zero zero b = refl
set_get (a ∷ row) zero (suc place) b = other_kept (slice_get row place) (suc place) zero b (unequal zero (suc place) (λ e. absurd (omega (arith, e))))
set_get (a ∷ row) (suc other) zero b = other_kept (Some a) zero (suc other) b (unequal (suc other) zero (λ e. absurd (omega (arith, e))))
set_get (a ∷ row) (suc other) (suc place) b = set_get row other place b ∙ shifted (slice_get row place) place other b

value_changed : (place : ℕ) (x : Lifted (List AbsVal)) (c : Change) → value_of place (changed x c) ≡ value_after place (value_of place x) c
value_changed place NotReached c = refl
value_changed place (Reached row) Nothing = kept (slice_get row place) place
value_changed place (Reached row) (Sets other b) = set_get row other place b
value_changed place (Reached row) Ends = lost (slice_get row place) place

value_changed_by : (place : ℕ) (x : Lifted (List AbsVal)) (cs : List Change) → value_of place (changed_by x cs) ≡ value_through place (value_of place x) cs
value_changed_by place x [] = refl
value_changed_by place x (c ∷ cs) = value_changed_by place (changed x c) cs ∙ ap (λ o. value_through place o cs) (value_changed place x c)

pub value_there : (x : Lifted (List AbsVal)) (cs : List Change) (rows : List (Lifted (List AbsVal))) (i place : ℕ) → rows_by x cs ≡ rows → i ≤ length cs → value_through place (value_of place x) (take i cs) ≡ value_of place (value_or (slice_get rows i))
value_there x cs rows i place e l =
    sym (value_changed_by place x (take i cs)) ∙ (ap (value_of place) (sym (row_there x cs i l)) ∙ ap (λ (rs : List (Lifted (List AbsVal))). value_of place (value_or (slice_get rs i))) e)

pub value_past : (x : Lifted (List AbsVal)) (cs : List Change) (rows : List (Lifted (List AbsVal))) (i place : ℕ) → rows_by x cs ≡ rows → length cs < i → None ≡ value_of place (value_or (slice_get rows i))
value_past x cs rows i place e l = ap (value_of place) (sym (row_past x cs i l)) ∙ ap (λ (rs : List (Lifted (List AbsVal))). value_of place (value_or (slice_get rs i))) e

-- ---- whether a point is reached

gone : (cs : List Change) → changed_by NotReached cs ≡ NotReached
gone [] = refl
gone (c ∷ cs) = gone cs

reached_by : (x : Lifted (List AbsVal)) (cs : List Change) → is_reached (changed_by x cs) ≡ reached_through x cs
reached_by NotReached cs = ap is_reached (gone cs)
reached_by (Reached row) [] = refl
reached_by (Reached row) (Nothing ∷ cs) = reached_by (Reached row) cs
reached_by (Reached row) (Sets place a ∷ cs) = reached_by (Reached (slice_set row place a)) cs
reached_by (Reached row) (Ends ∷ cs) = ap is_reached (gone cs)

pub reached_there : (x : Lifted (List AbsVal)) (cs : List Change) (rows : List (Lifted (List AbsVal))) (i : ℕ) → rows_by x cs ≡ rows → i ≤ length cs → reached_through x (take i cs) ≡ is_reached (value_or (slice_get rows i))
reached_there x cs rows i e l =
    sym (reached_by x (take i cs)) ∙ (ap is_reached (sym (row_there x cs i l)) ∙ ap (λ (rs : List (Lifted (List AbsVal))). is_reached (value_or (slice_get rs i))) e)

pub reached_past : (x : Lifted (List AbsVal)) (cs : List Change) (rows : List (Lifted (List AbsVal))) (i : ℕ) → rows_by x cs ≡ rows → length cs < i → false ≡ is_reached (value_or (slice_get rows i))
reached_past x cs rows i e l = ap is_reached (sym (row_past x cs i l)) ∙ ap (λ (rs : List (Lifted (List AbsVal))). is_reached (value_or (slice_get rs i))) e

-- ---- what a statement has changed

set_there : (row : List AbsVal) (n : ℕ) (v w : AbsVal) → slice_get (slice_set row n v) n ≡ Some w → w ≡ v
set_there [] n v w e = cc
set_there (a ∷ row) zero v w e = cc
set_there (a ∷ row) (suc n) v w e = set_there row n v w e

set_nowhere : (row : List AbsVal) (n : ℕ) (v : AbsVal) → slice_get (slice_set row n v) n ≡ None → row ≡ slice_set row n v
set_nowhere [] n v e = refl
set_nowhere (a ∷ row) zero v e = cc
set_nowhere (a ∷ row) (suc n) v e = ap (λ ys. a ∷ ys) (set_nowhere row n v e)

set_again : (row : List AbsVal) (n : ℕ) (v : AbsVal) (o : Option AbsVal) → slice_get (slice_set row n v) n ≡ o → changed (Reached row) (set_to n o) ≡ Reached (slice_set row n v)
set_again row n v None e = ap (λ ys. Reached ys) (set_nowhere row n v e)
set_again row n v (Some w) e = ap (λ u. Reached (slice_set row n u)) (set_there row n v w e)

put_is : (row other : List AbsVal) (n : ℕ) (v : AbsVal) (b : Bool) → cond b NotReached (Reached (slice_set row n v)) ≡ Reached other → changed (Reached row) (set_to n (slice_get other n)) ≡ Reached other
put_is row other n v true e = cc
put_is row other n v false e =
    let same : slice_set row n v ≡ other = cc in
    subst (λ (ys : List AbsVal). changed (Reached row) (set_to n (slice_get ys n)) ≡ Reached ys) same (set_again row n v (slice_get (slice_set row n v) n) refl)

target_is : (B : Body) (k i : ℕ) (x : Stmt) (row other : List AbsVal) (t : Option (List ℕ)) → after_target B k i x row t ≡ Reached other → changed (Reached row) (change_of B.registers t other) ≡ Reached other
target_is B k i x row other None e = e
target_is B k i x row other (Some to) e =
    let v = result_value B k i row (register_scalar B.registers to) x in
    put_is row other (place_of B.registers to) v (is_none_val v) e

not_abort : (B : Body) (k i : ℕ) (x : Stmt) (row other : List AbsVal) (b : Bool) → cond b NotReached (after_target B k i x row (target_of x)) ≡ Reached other → after_target B k i x row (target_of x) ≡ Reached other
not_abort B k i x row other true e = cc
not_abort B k i x row other false e = e

-- the change that the values behind a statement show makes them of those before it
pub change_is : (B : Body) (k i : ℕ) (x : Stmt) (row other : List AbsVal) (c : Change) → after_stmt B k i x row ≡ Reached other → c ≡ change_of B.registers (target_of x) other → Reached other ≡ changed (Reached row) c
unfolding after_stmt
change_is B k i x row other c e h =
    sym (ap (changed (Reached row)) h ∙ target_is B k i x row other (target_of x) (not_abort B k i x row other (is_abort x) e))

-- ---- the rows of a block

-- the values before each change
abbrev pub befores : Lifted (List AbsVal) → List Change → List (Lifted (List AbsVal))
befores x [] = []
befores x (c ∷ cs) = x ∷ befores (changed x c) cs

befores_more : (x : Lifted (List AbsVal)) (cs : List Change) (c : Change) → befores x (cs ++ c ∷ []) ≡ befores x cs ++ changed_by x cs ∷ []
befores_more x [] c = refl
befores_more x (d ∷ cs) c = ap (λ ys. x ∷ ys) (befores_more (changed x d) cs c)

changed_more : (x : Lifted (List AbsVal)) (cs : List Change) (c : Change) → changed_by x (cs ++ c ∷ []) ≡ changed (changed_by x cs) c
changed_more x [] c = refl
changed_more x (d ∷ cs) c = changed_more (changed x d) cs c

all_rows : (x : Lifted (List AbsVal)) (cs : List Change) → rows_by x cs ≡ befores x cs ++ changed_by x cs ∷ []
all_rows x [] = refl
all_rows x (c ∷ cs) = ap (λ ys. x ∷ ys) (all_rows (changed x c) cs)

-- these changes are those of the statements of a block before an index, which lead to this row
pub record AreChanges (B : Body) (k i : ℕ) (body : List Stmt) (begin row : Lifted (List AbsVal)) (cs : List Change) : Type 0 where
  pub lead : changed_by begin cs ≡ row
  pub rows : befores begin cs ++ rows_from B k i (drop i body) row ≡ rows_from B k 0 body begin

pub no_changes : (B : Body) (k : ℕ) (body : List Stmt) (begin row : Lifted (List AbsVal)) (cs : List Change) → cs ≡ [] → row ≡ begin → AreChanges B k 0 body begin row cs
no_changes B k body begin row cs e h = record {
  lead = ap (changed_by begin) e ∙ sym h;
  rows = ap (λ ds. befores begin ds ++ rows_from B k 0 body row) e ∙ ap (rows_from B k 0 body) h;
}

pub more_changes : (B : Body) (k i : ℕ) (body : List Stmt) (begin row next : Lifted (List AbsVal)) (cs ds : List Change) (c : Change) (x : Stmt) → i < length body → x ≡ get_or body i x → AreChanges B k i body begin row cs →
    next ≡ where_reached row (after_stmt B k i x) → next ≡ changed row c → ds ≡ cs ++ c ∷ [] → AreChanges B k (i + 1) body begin next ds
more_changes B k i body begin row next cs ds c x l is are after by push =
    let ahead : rows_from B k i (drop i body) row ≡ row ∷ rows_from B k (i + 1) (drop (i + 1) body) next =
    ap (λ ys. rows_from B k i ys row) (drop_more body i x l ∙ ap (λ y. y ∷ drop (i + 1) body) (sym is)) ∙ ap (λ y. row ∷ rows_from B k (i + 1) (drop (i + 1) body) y) (sym after) in
    let behind : befores begin ds ≡ befores begin cs ++ row ∷ [] = ap (befores begin) push ∙ (befores_more begin cs c ∙ ap (λ y. befores begin cs ++ y ∷ []) are.lead) in
    record {
      lead = ap (changed_by begin) push ∙ (changed_more begin cs c ∙ (ap (λ y. changed y c) are.lead ∙ sym by));
      rows = ap (λ ys. ys ++ rows_from B k (i + 1) (drop (i + 1) body) next) behind
          ∙ (append_assoc (befores begin cs) (row ∷ []) (rows_from B k (i + 1) (drop (i + 1) body) next) ∙ (ap (λ ys. befores begin cs ++ ys) (sym ahead) ∙ are.rows));
    }

pub all_changes : (B : Body) (k i : ℕ) (body : List Stmt) (begin row : Lifted (List AbsVal)) (cs : List Change) → length body ≤ i → AreChanges B k i body begin row cs → rows_by begin cs ≡ rows_from B k 0 body begin
all_changes B k i body begin row cs l are =
    all_rows begin cs
    ∙ (ap (λ y. befores begin cs ++ y ∷ []) are.lead ∙ (ap (λ ys. befores begin cs ++ rows_from B k i ys row) (sym (drop_all i body l)) ∙ are.rows))

-- ---- the rows of blocks

abbrev HaveFew : List Block → Type 0
HaveFew bs = (k : ℕ) (b : Block) → slice_get bs k ≡ Some b → length b.body < 2 ^ 32

-- these are the rows of the blocks before the ones that are left
pub record AreRowsBefore (s : Scene) (blocks rest : List Block) (begins left : List (Lifted (List AbsVal))) (rows : List (List (Lifted (List AbsVal)))) : Type 0 where
  pub are : rows ++ block_rows (body_in s) (length rows) rest left ≡ block_rows (body_in s) 0 blocks begins
  pub count : length rows + length rest ≡ length blocks
  pub few : HaveFew rest
  pub fit : Each (FitsIn s) left

pub no_rows : (s : Scene) (blocks rest : List Block) (begins left : List (Lifted (List AbsVal))) (rows : List (List (Lifted (List AbsVal)))) → AreFew blocks 0 → Each (FitsIn s) begins → rest ≡ blocks → left ≡ begins → rows ≡ [] → AreRowsBefore s blocks rest begins left rows
no_rows s blocks rest begins left rows few fit e h r = record {
  are = λ i. r i ++ block_rows (body_in s) (length (r i)) (e i) (h i);
  count = let l : length rows ≡ 0 = ap length r in let m : length rest ≡ length blocks = ap length e in omega (arith, l, m);
  few = subst HaveFew (sym e) few.bodies_few;
  fit = subst (Each (FitsIn s)) (sym h) fit;
}

first_few : (b : Block) (bs : List Block) → HaveFew (b ∷ bs) → length b.body < 2 ^ 32
first_few b bs h = h 0 b refl

other_few : (b : Block) (bs : List Block) → HaveFew (b ∷ bs) → HaveFew bs
other_few b bs h = λ k x e. h (suc k) x e

pub next_number : (s : Scene) (blocks rest tail : List Block) (begins left : List (Lifted (List AbsVal))) (rows : List (List (Lifted (List AbsVal)))) (b : Block) → rest ≡ b ∷ tail → length blocks < 2 ^ 32 → AreRowsBefore s blocks rest begins left rows → length rows < 2 ^ 32
next_number s blocks rest tail begins left rows b e few are = let l : length rest ≡ suc (length tail) = ap length e in let count = are.count in omega (arith, l, few, count)

pub next_few : (s : Scene) (blocks rest tail : List Block) (begins left : List (Lifted (List AbsVal))) (rows : List (List (Lifted (List AbsVal)))) (b : Block) → rest ≡ b ∷ tail → AreRowsBefore s blocks rest begins left rows → length b.body < 2 ^ 32
next_few s blocks rest tail begins left rows b e are = first_few b tail (subst HaveFew e are.few)

pub next_fits : (s : Scene) (blocks rest : List Block) (begins left tail : List (Lifted (List AbsVal))) (rows : List (List (Lifted (List AbsVal)))) (x : Lifted (List AbsVal)) → left ≡ x ∷ tail → AreRowsBefore s blocks rest begins left rows → FitsIn s x
next_fits s blocks rest begins left tail rows x e are = let all : Each (FitsIn s) (x ∷ tail) = subst (Each (FitsIn s)) e are.fit in all.0

pub more_rows : (s : Scene) (blocks rest rest' : List Block) (begins left left' : List (Lifted (List AbsVal))) (rows rows' : List (List (Lifted (List AbsVal)))) (b : Block) (x : Lifted (List AbsVal)) (row : List (Lifted (List AbsVal))) → rest ≡ b ∷ rest' → left ≡ x ∷ left' →
    row ≡ rows_from (body_in s) (length rows) 0 b.body x → rows' ≡ rows ++ row ∷ [] → AreRowsBefore s blocks rest begins left rows → AreRowsBefore s blocks rest' begins left' rows'
more_rows s blocks rest rest' begins left left' rows rows' b x row e h r push are =
    let l : length rest ≡ suc (length rest') = ap length e in
    let m : length rows' ≡ length rows + 1 = ap length push ∙ length-append rows (row ∷ []) in
    let ahead : block_rows (body_in s) (length rows) rest left ≡ row ∷ block_rows (body_in s) (length rows + 1) rest' left' =
    (λ i. block_rows (body_in s) (length rows) (e i) (h i)) ∙ ap (λ y. y ∷ block_rows (body_in s) (length rows + 1) rest' left') (sym r) in
    let count = are.count in
    record {
      are = (λ i. push i ++ block_rows (body_in s) (m i) rest' left')
          ∙ (append_assoc rows (row ∷ []) (block_rows (body_in s) (length rows + 1) rest' left') ∙ (ap (λ ys. rows ++ ys) (sym ahead) ∙ are.are));
      count = omega (arith, l, m, count);
      few = other_few b rest' (subst HaveFew e are.few);
      fit = let all : Each (FitsIn s) (x ∷ left') = subst (Each (FitsIn s)) h are.fit in all.1;
    }

no_rest : (B : Body) (k : ℕ) (rest : List Block) (left : List (Lifted (List AbsVal))) → (length rest ≡ 0) ⊎ (length left ≡ 0) → block_rows B k rest left ≡ []
no_rest B k [] left e = refl
no_rest B k (b ∷ rest) [] e = refl
no_rest B k (b ∷ rest) (x ∷ left) (inl e) = absurd (omega (arith, e))
no_rest B k (b ∷ rest) (x ∷ left) (inr e) = absurd (omega (arith, e))

pub all_blocks : (s : Scene) (blocks rest : List Block) (begins left : List (Lifted (List AbsVal))) (rows : List (List (Lifted (List AbsVal)))) → (length rest ≡ 0) ⊎ (length left ≡ 0) → AreRowsBefore s blocks rest begins left rows → rows ≡ block_rows (body_in s) 0 blocks begins
all_blocks s blocks rest begins left rows ends are =
    sym (append-nil rows) ∙ (ap (λ ys. rows ++ ys) (sym (no_rest (body_in s) (length rows) rest left ends)) ∙ are.are)
