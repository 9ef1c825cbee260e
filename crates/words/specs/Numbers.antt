-- Decimal numbers in words.
use Rattle.std.specs.Prelude.{ℕ, ◌+◌, ◌-◌, ◌*◌, List, length, fold, Bool, ◌&&◌, nat_le, if◌then◌else◌, Option, None, Some}
use Rattle.std.specs.Option.{option_and_then}
use Rattle.std.specs.List.{list_all}

abbrev pub is_digit : ℕ → Bool
is_digit b = nat_le 48 b && nat_le b 57

abbrev pub value_of : List ℕ → ℕ
value_of bytes = fold (λ v d. 10 * v + (d - 48)) 0 bytes

-- 1 to 20 digits; leading zeros are free
abbrev pub number_of : List ℕ → Option ℕ
number_of bytes =
    if nat_le 1 (length bytes) && nat_le (length bytes) 20 && list_all is_digit bytes then Some (value_of bytes) else None

abbrev pub within : ℕ → ℕ → ℕ → Option ℕ
within least greatest n = if nat_le least n && nat_le n greatest then Some n else None

-- the number, where there is one within these limits
unfoldable pub limited : ℕ → ℕ → List ℕ → Option ℕ
limited least greatest bytes = option_and_then (within least greatest) (number_of bytes)
