-- The names of texts.
use Rattle.std.specs.Prelude.{◌≡◌, ℕ, ◌==◌, nat_le, Bool, true, false, ◌&&◌, ◌||◌, List, [], ◌∷◌, codes}
use Rattle.std.specs.List.{list_any}
use Rattle.std.specs.Str.{bytes_eq}

abbrev pub Bytes : Type 0
Bytes = List ℕ

-- ---- kinds of bytes

abbrev pub is_digit : ℕ → Bool
is_digit b = nat_le 48 b && nat_le b 57

abbrev pub starts_name : ℕ → Bool
starts_name b = (nat_le 97 b && nat_le b 122) || (nat_le 65 b && nat_le b 90) || b == 95

abbrev pub goes_on_name : ℕ → Bool
goes_on_name b = starts_name b || is_digit b || b == 46

abbrev pub AllPass : (ℕ → Bool) → Bytes → Type 0
AllPass p [] = Unit {0}
AllPass p (b ∷ bs) = (p b ≡ true) × AllPass p bs

-- ---- words

abbrev pub keywords : List Bytes
keywords =
    codes "gimple" ∷ codes "struct" ∷ codes "global" ∷ codes "const" ∷ codes "local" ∷ codes "void"
    ∷ codes "i8" ∷ codes "i16" ∷ codes "i32" ∷ codes "i64" ∷ codes "u8" ∷ codes "u16" ∷ codes "u32" ∷ codes "u64" ∷ codes "ptr"
    ∷ codes "MEM" ∷ codes "null" ∷ codes "getint" ∷ codes "putint" ∷ codes "abort"
    ∷ codes "bb" ∷ codes "goto" ∷ codes "if" ∷ codes "else" ∷ codes "switch" ∷ codes "case" ∷ codes "default" ∷ codes "return" ∷ []

unfoldable pub is_keyword : Bytes → Bool
is_keyword w = list_any (bytes_eq w) keywords

-- a name, and no keyword
abbrev pub IsNameText : Bytes → Type 0
IsNameText [] = ⊥
IsNameText (b ∷ bs) = (starts_name b ≡ true) × AllPass goes_on_name bs × (is_keyword (b ∷ bs) ≡ false)
