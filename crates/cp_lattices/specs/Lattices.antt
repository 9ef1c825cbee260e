-- What is known of the formals of functions in every call.
use Rattle.std.specs.Prelude.{◌≡◌, ℕ, true, List, [], length, map, Some, slice_get, slice_index_or}
use Rattle.gimple_ir.specs.declared.declarations.Register.{Register}
use Rattle.gimple_ir.specs.declared.options.Passes.{Passes}
use Rattle.gimple_ir.specs.declared.program.Function.{Function}
use Rattle.gimple_core.specs.Reach.{IsAddressed}
use Rattle.gimple_core.specs.Sealed.{Sealed}
use Rattle.value_domain.specs.declared.abs_val.AbsVal.{AbsVal}
use Rattle.value_domain.specs.AbsOperators.{top_of}
use Rattle.value_domain.specs.Thresholds.{thresholds_list}
use Rattle.value_domain.specs.Values.{none_val, abs_val_below}
use Rattle.body_symbols.specs.declared.jumps.JumpFn.{JumpFn}
use Rattle.body_symbols.specs.declared.jumps.JumpFn.TheVariants.{Unknown, Const, Pass, Ancestor, Address}
use Rattle.cp_lattices.specs.declared.gift.Gift.{Gift}
use Rattle.cp_lattices.specs.declared.formals.LatticesOf.{LatticesOf}
use Rattle.cp_lattices.specs.Carried.{Making, given}
use Rattle.cp_lattices.specs.Claims.{IsGood}
use Rattle.cp_lattices.specs.Gifts.{Bodies, AreBodies, IsGift}

-- the value of a formal of a function, both by their numbers, where each function has a row with a value for each formal
abbrev pub row_value : List (List AbsVal) → ℕ → ℕ → AbsVal
row_value rows n i = slice_index_or (slice_index_or rows n []) i none_val

-- the value of the caller's formal that a jump function speaks of, if there is one
abbrev pub source_value : List (List AbsVal) → ℕ → JumpFn → AbsVal
source_value rows n Unknown = none_val
source_value rows n (Const c) = none_val
source_value rows n (Pass i op z) = row_value rows n i
source_value rows n (Ancestor i z) = row_value rows n i
source_value rows n (Address x z) = none_val

-- what an argument gives to its formal, where the formals have these values
abbrev pub gift_value : Making → Passes → List (List AbsVal) → Gift → AbsVal
gift_value m passes rows gift = given m passes gift.scalar gift.jump gift.local (source_value rows gift.caller gift.jump)

abbrev pub making_of : Sealed → ℕ → Making
making_of p most = record { mode = p.mode; limits = record { size = most; ends = thresholds_list p.program } }

-- a formal of a function of the program, by their numbers
pub record IsFormal (p : Sealed) (n i : ℕ) (f : Function) (r : Register) : Type 0 where
  pub own : slice_get p.program.functions n ≡ Some f
  pub declared : slice_get f.params i ≡ Some r

-- a row for each function with a value for each formal
pub record AreRows (p : Sealed) (rows : List (List AbsVal)) : Type 0 where
  pub count : length rows ≡ length p.program.functions
  pub counts : (n : ℕ) (f : Function) → slice_get p.program.functions n ≡ Some f → length (slice_index_or rows n []) ≡ length f.params

-- Each formal has a value of its scalar, above what each argument of a reached call gives it. A formal of a function whose
-- address is taken has any value.
pub record IsSolution (p : Sealed) (passes : Passes) (most : ℕ) (bodies : Bodies) (rows : List (List AbsVal)) : Type 0 where
  pub are_rows : AreRows p rows
  pub good : (n i : ℕ) (f : Function) (r : Register) → IsFormal p n i f r → IsGood (making_of p most) r.scalar (row_value rows n i)
  pub addressed : (n i : ℕ) (f : Function) (r : Register) → IsFormal p n i f r → IsAddressed p.program f.name → abs_val_below (top_of r.scalar) (row_value rows n i) ≡ true
  pub gifts : (gift : Gift) → IsGift p most bodies gift → abs_val_below (gift_value (making_of p most) passes rows gift) (row_value rows gift.callee gift.formal) ≡ true

-- the solution below every other
pub record IsLeastOf (p : Sealed) (passes : Passes) (most : ℕ) (bodies : Bodies) (rows : List (List AbsVal)) : Type 0 where
  pub solves : IsSolution p passes most bodies rows
  pub least : (others : List (List AbsVal)) → IsSolution p passes most bodies others → (n i : ℕ) (f : Function) (r : Register) → IsFormal p n i f r → abs_val_below (row_value rows n i) (row_value others n i) ≡ true

-- by the symbols of the functions, and by their values from top facts
pub record AreLattices (p : Sealed) (passes : Passes) (most : ℕ) (rows : List (List AbsVal)) : Type 0 where
  pub bodies : Bodies
  pub known : AreBodies p most bodies
  pub least : IsLeastOf p passes most bodies rows

abbrev pub rows_of : List LatticesOf → List (List AbsVal)
rows_of ls = map (λ l. l.formals) ls
