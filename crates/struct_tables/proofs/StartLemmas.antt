-- Which of the fields of a struct is the last one that begins at a place or before it.
use Rattle.std.proofs.Common.{◌≡◌, ℕ, ◌+◌, ◌-◌, ◌<◌, ◌≤◌, nat_le, true, false, List, length, get_or, ◌∙◌, ap, arith}
use Rattle.std.specs.List.Sorted.{IsPartitionPoint}
use Rattle.std.proofs.lemmas.Bool.{leb-true, leb-false}
use Rattle.std.proofs.lemmas.List.{get_or_default}
use Rattle.gimple_ir.specs.declared.declarations.Decl.{Decl}
use Rattle.struct_tables.specs.Slots.{IsLastFrom}

-- the first ones begin at a place or before it, and the others do not
abbrev pub IsParted : List ℕ → ℕ → ℕ → Type 0
IsParted starts place behind = IsPartitionPoint (λ s. nat_le s place ≡ true) (λ s. nat_le s place ≡ false) starts behind

pub all_later : (starts : List ℕ) (place behind : ℕ) → IsParted starts place behind → behind ≡ 0 → (i d : ℕ) → i < length starts → place < get_or starts i d
all_later starts place behind parts e i d l = leb-false (get_or starts i d) place (parts.1 i d (omega (arith, e)) l)

pub last_begins : (starts : List ℕ) (place behind : ℕ) → IsParted starts place behind → 0 < behind → (d : ℕ) → get_or starts (behind - 1) d ≤ place
last_begins starts place behind parts some d =
    let k : behind - 1 < behind = omega (arith, some) in
    leb-true (get_or starts (behind - 1) d) place (parts.0 (behind - 1) d (omega arith) k)

pub last_from : (fields : List Decl) (starts others : List ℕ) (ahead place behind before : ℕ) (f : Decl) → IsParted starts place behind → behind ≤ length starts → 0 < behind → length starts ≡ length fields → length others ≡ length fields
    → f ≡ get_or fields (behind - 1) f → before ≡ ahead + get_or others (behind - 1) 0 →
    IsLastFrom fields starts others ahead place f before (place - get_or starts (behind - 1) 0) (behind - 1)
last_from fields starts others ahead place behind before f parts bound some each both is far =
    let l : behind - 1 < length starts = omega (arith, bound, some) in
    let m : behind - 1 < length fields = omega (arith, l, each) in
    let n : behind - 1 < length others = omega (arith, m, both) in
    record {
      within = l;
      field_is = λ d. is ∙ get_or_default fields (behind - 1) f d m;
      before_is = λ d. far ∙ ap (λ x. ahead + x) (get_or_default others (behind - 1) 0 d n);
      begun = λ d. last_begins starts place behind parts some d;
      rest_is = λ d. ap (λ x. place - x) (get_or_default starts (behind - 1) 0 d l);
      later = λ i d k r. leb-false (get_or starts i d) place (parts.1 i d (omega (arith, k)) r);
    }
