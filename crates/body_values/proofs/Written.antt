-- What the code asks of values.
use Rattle.std.proofs.Common.{◌≡◌, ℕ, zero, suc, ◌≤◌, ℤ, Bool, true, false, cond, Option, Some, None, ◌∙◌, List, [], ◌∷◌, length, refl, sym, ap, subst, arith, slice_get, slice_set}
use Rattle.std.specs.Prelude.{MatchBool, ⊤}
use Rattle.std.specs.List.{find}
use Rattle.std.proofs.lemmas.List.Folds.{find_at}
use Rattle.gimple_ir.specs.declared.operand.Base.TheVariants.{Variable}
use Rattle.gimple_ir.specs.declared.operand.Place.{Place}
use Rattle.gimple_ir.specs.declared.declarations.Global.{Global}
use Rattle.gimple_ir.specs.declared.declarations.Register.{Register}
use Rattle.gimple_ir.specs.declared.statement.Stmt.{Stmt}
use Rattle.std.specs.Str.{bytes_eq}
use Rattle.fix_engine.specs.declared.lifted.Lifted.TheVariants.{NotReached, Reached}
use Rattle.gimple_core.specs.Layout.{layout_of}
use Rattle.gimple_ir.specs.declared.scalar.Scalar.{Scalar}
use Rattle.gimple_ir.specs.declared.operand.Operand.{Operand}
use Rattle.fix_engine.specs.Bools.{both}
use Rattle.fix_engine.specs.Rows.{Each}
use Rattle.value_domain.specs.declared.abs_val.AbsVal.{AbsVal}
use Rattle.value_domain.specs.Values.{FitsWith, abs_val_below}
use Rattle.value_domain.specs.Thresholds.{IsLawful}
use Rattle.body_values.specs.declared.scene.Scene.{Scene}
use Rattle.body_values.specs.Bodies.{Body, scalar_or, register_scalar, operand_value, is_local, item_constant, constant_value, slot_place, slot_value, constant_slot, item_value, after_stmt}
use Rattle.body_values.specs.Scenes.{body_in, Fit, IsGoodIn, IsReady}
use Rattle.body_values.specs.Rows.{LiftedFits, row_below, below_self}
use Rattle.body_values.specs.Rising.{RowsRise, operand_rises, stmt_rises}

row_self : (most : ℕ) (ts : List ℤ) (row : List AbsVal) → Each (FitsWith most ts) row → row_below row row ≡ true
row_self most ts [] f = refl
row_self most ts (a ∷ row) f = both (abs_val_below a a) (row_below row row) (below_self most ts a f.0) (row_self most ts row f.1)

pub rising : (s : Scene) (row : List AbsVal) → Fit s row → RowsRise (body_in s) row row
rising s row f = record { lower = f; upper = f; below = row_self s.limits.now.size s.limits.now.ends row f.each }

pub good_value : (s : Scene) (row : List AbsVal) (scalar : Scalar) (o : Operand) (v : AbsVal) → IsLawful s.limits.now.ends → Fit s row → v ≡ operand_value (body_in s) row scalar o → IsGoodIn s scalar v
good_value s row scalar o v law f e =
    subst (IsGoodIn s scalar) (sym e) (let g = (operand_rises (body_in s) law row row (rising s row f) scalar o).lower in record { fits = g.0; of = g.1 })

pub set_past : (xs : List AbsVal) (n : ℕ) (v : AbsVal) → length xs ≤ n → slice_set xs n v ≡ xs
set_past [] n v h = refl
set_past (x ∷ xs) zero v h = absurd (omega (arith, h))
set_past (x ∷ xs) (suc n) v h = ap (λ ys. x ∷ ys) (set_past xs n v (omega (arith, h)))

-- ---- items

item_by : (B : Body) (scalar : Scalar) (offset : ℤ) (name : List ℕ) (b : Bool) → b ≡ false → (o : Option Global) → find (λ g. bytes_eq g.decl.name name) B.globals ≡ o →
    cond b None (constant_slot B scalar offset (find (λ g. bytes_eq g.decl.name name) B.globals)) ≡ constant_slot B scalar offset o
item_by B scalar offset name true e o f = cc
item_by B scalar offset name false e o f = ap (constant_slot B scalar offset) f

pub item_is : (B : Body) (scalar : Scalar) (place : Place) (name : List ℕ) → place.base ≡ Variable name → is_local B.locals name ≡ false → (o : Option Global) → find (λ g. bytes_eq g.decl.name name) B.globals ≡ o → item_value B scalar place ≡ constant_slot B scalar place.offset o
unfolding item_value
item_is B scalar place name e f o g =
    ap (λ b. item_value B scalar (record { base = b; offset = place.offset })) e ∙ item_by B scalar place.offset name (is_local B.locals name) f o g

-- ---- statements

after_fits : (s : Scene) (k i : ℕ) (x : Stmt) (row other : List AbsVal) → IsLawful s.limits.now.ends → IsReady s → Fit s row → after_stmt (body_in s) k i x row ≡ Reached other → Fit s other
after_fits s k i x row other law ready f e =
    let g : LiftedFits s.limits.now.size s.limits.now.ends (length s.registers.now) (after_stmt (body_in s) k i x row) = (stmt_rises (body_in s) law ready.loads k i x row row (rising s row f)).upper in
    subst (LiftedFits s.limits.now.size s.limits.now.ends (length s.registers.now)) e g

pub changed_fit : (s : Scene) (k i : ℕ) (x : Stmt) (row other : List AbsVal) (more : Bool) → IsLawful s.limits.now.ends → IsReady s → Fit s row →
    MatchBool more (after_stmt (body_in s) k i x row ≡ Reached other) (after_stmt (body_in s) k i x row ≡ NotReached) → MatchBool more (Fit s other) ⊤
changed_fit s k i x row other true law ready f e = after_fits s k i x row other law ready f e
changed_fit s k i x row other false law ready f e = tt

-- ---- slots of read-only variables

pub slot_none : (B : Body) (scalar : Scalar) (offset : ℤ) (g : Global) → g.constant ≡ true → slot_place (layout_of B.structs g.decl).slots offset scalar ≡ None → None ≡ constant_slot B scalar offset (Some g)
slot_none B scalar offset g c e = λ i. cond (sym c i) (slot_value B scalar g (sym e i)) None

pub slot_some : (B : Body) (scalar : Scalar) (offset : ℤ) (g : Global) (n : ℕ) → g.constant ≡ true → slot_place (layout_of B.structs g.decl).slots offset scalar ≡ Some n →
    constant_value B scalar (item_constant B.globals scalar (slice_get g.items n)) ≡ constant_slot B scalar offset (Some g)
slot_some B scalar offset g n c e = λ i. cond (sym c i) (slot_value B scalar g (sym e i)) None

-- the scalar of a register that was found by its name
pub scalar_found : (rs : List Register) (name : List ℕ) (r : Option Register) → r ≡ find (λ r. bytes_eq r.name name) rs → scalar_or r ≡ register_scalar rs name
scalar_found rs name r e = ap scalar_or (e ∙ find_at (λ (r : Register). bytes_eq r.name name) rs)
