-- The laws of one part of a value, at one kind, and of three parts with one value below all.
use Rattle.std.specs.Prelude.{◌≡◌, ℕ, ◌+◌, ◌<◌, ◌≤◌, ◌⊎◌, Bool, true, false, ◌&&◌, if◌then◌else◌}

-- `below` is a partial order and `joined` the least upper bound among the values that fit, and a value that is below
-- another one is that one or has a greater rank
pub record PartLaws {X : Type 0} (fits : X → Type 0) (bound : ℕ) (rank : X → ℕ) (below : X → X → Bool) (joined : X → X → X) : Type 0 where
  pub reflexive : (x : X) → fits x → below x x ≡ true
  pub antisymmetric : (x y : X) → fits x → fits y → below x y ≡ true → below y x ≡ true → x ≡ y
  pub transitive : (x y z : X) → fits x → fits y → fits z → below x y ≡ true → below y z ≡ true → below x z ≡ true
  pub join_fits : (x y : X) → fits x → fits y → fits (joined x y)
  pub above_left : (x y : X) → fits x → fits y → below x (joined x y) ≡ true
  pub above_right : (x y : X) → fits x → fits y → below y (joined x y) ≡ true
  pub least_above : (x y z : X) → fits x → fits y → fits z → below x z ≡ true → below y z ≡ true → below (joined x y) z ≡ true
  pub rank_bounded : (x : X) → fits x → rank x ≤ bound
  pub rank_falls : (x y : X) → fits x → fits y → below x y ≡ true → (x ≡ y) ⊎ (rank y < rank x)

-- three parts
pub record Parts (X Y Z : Type 0) : Type 0 where
  pub first : X
  pub second : Y
  pub third : Z

-- each part fits, and the third is not empty
pub record IsProper {X Y Z : Type 0} (fx : X → Type 0) (fy : Y → Type 0) (fz : Z → Type 0) (empty : Z → Bool) (a : Parts X Y Z) : Type 0 where
  pub first : fx a.first
  pub second : fy a.second
  pub third : fz a.third
  pub full : empty a.third ≡ false

pub record IsNone {X Y Z : Type 0} (none : Parts X Y Z) (empty : Z → Bool) (a : Parts X Y Z) : Type 0 where
  pub is : a ≡ none
  pub bare : empty a.third ≡ true

-- none, or three parts that fit
abbrev pub FitsParts : {X Y Z : Type 0} → Parts X Y Z → (X → Type 0) → (Y → Type 0) → (Z → Type 0) → (Z → Bool) → Parts X Y Z → Type 0
FitsParts none fx fy fz empty a = IsNone none empty a ⊎ IsProper fx fy fz empty a

abbrev pub parts_below : {X Y Z : Type 0} → (X → X → Bool) → (Y → Y → Bool) → (Z → Z → Bool) → (Z → Bool) → Parts X Y Z → Parts X Y Z → Bool
parts_below bx by bz empty a b = if empty a.third then true else (if empty b.third then false else (bx a.first b.first && (by a.second b.second && bz a.third b.third)))

abbrev pub parts_joined : {X Y Z : Type 0} → (X → X → X) → (Y → Y → Y) → (Z → Z → Z) → (Z → Bool) → Parts X Y Z → Parts X Y Z → Parts X Y Z
parts_joined jx jy jz empty a b = if empty a.third then b else (if empty b.third then a else record { first = jx a.first b.first; second = jy a.second b.second; third = jz a.third b.third })

abbrev pub parts_rank : {X Y Z : Type 0} → ℕ → (X → ℕ) → (Y → ℕ) → (Z → ℕ) → (Z → Bool) → Parts X Y Z → ℕ
parts_rank top rx ry rz empty a = if empty a.third then top else rx a.first + (ry a.second + rz a.third)
