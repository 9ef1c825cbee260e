-- The least twin, name by name.
use Rattle.std.proofs.Common.{◌≡◌, ℕ, suc, ◌+◌, ◌<◌, List, length, get_or, drop, drop-cons, add-one, Option, None, Some, refl, ap, arith}
use Rattle.words.specs.declared.options.Name.{Name}
use Rattle.words.specs.Twins.{twin_word, lesser, least_twin}

lesser-lesser : (a b c : Option ℕ) → lesser (lesser a b) c ≡ lesser a (lesser b c)
lesser-lesser None b c = refl
lesser-lesser (Some a) None c = refl
lesser-lesser (Some a) (Some b) None = refl
lesser-lesser (Some a) (Some b) (Some c) = ap Some (omega arith)

pub lesser-none : (a : Option ℕ) → lesser a None ≡ a
lesser-none None = refl
lesser-none (Some a) = refl

pub least_twin-more : (words : List (List ℕ)) (names ns : List (Option Name)) (i : ℕ) (d : Option Name) (least : Option ℕ) → i < length ns → lesser (lesser least (twin_word words names (get_or ns i d))) (least_twin words names (drop (i + 1) ns)) ≡ lesser least (least_twin words names (drop i ns))
least_twin-more words names ns i d least h =
    rw (add-one, drop-cons ns i d) (lesser-lesser least (twin_word words names (get_or ns i d)) (least_twin words names (drop (suc i) ns)))

pub ruleset twins = (least_twin-more, lesser-none)
