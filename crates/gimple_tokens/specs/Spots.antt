-- Lines and columns.
use Rattle.std.specs.Prelude.{ℕ, ◌+◌, ◌-◌, ◌==◌, if◌then◌else◌, [], ◌∷◌, length, take}
use Rattle.gimple_tokens.specs.declared.spot.Spot.{Spot}
use Rattle.gimple_ir.specs.Names.{Bytes}

-- both count from 1
abbrev pub start : Spot
start = record { line = 1; column = 1 }

-- a line feed ends a line; columns count bytes
abbrev pub spot_past : Spot → ℕ → Spot
spot_past s b = if b == 10 then record { line = s.line + 1; column = 1 } else record { line = s.line; column = s.column + 1 }

abbrev pub spot_after : Spot → Bytes → Spot
spot_after s [] = s
spot_after s (b ∷ bs) = spot_after (spot_past s b) bs

-- the spot of the byte at a place, or of the place after the last byte
abbrev pub spot_at : Bytes → ℕ → Spot
spot_at bs place = spot_after start (take place bs)

-- the spot where these bytes are left
abbrev pub spot_before : Bytes → Bytes → Spot
spot_before bs rest = spot_at bs (length bs - length rest)
