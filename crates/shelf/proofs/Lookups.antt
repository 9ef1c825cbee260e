-- A source is found in the map as in the list.
use Rattle.std.proofs.Common.{◌≡◌, ℕ, List, [], ◌∷◌, Option, Some, refl, sym, ◌∙◌, cond, Bool, true, false}
use Rattle.std.specs.Option.{option_map}
use Rattle.std.specs.Prelude.{find}
use Rattle.std.specs.Str.{bytes_eq}
use Rattle.std.specs.Ordering.{nat_cmp}
use Rattle.std.specs.Cmp.Lexicographic.{slice_cmp, nat_list_cmp_total}
use Rattle.std.specs.FinMap.{from_entries, get-from_entries, find as find_entry}
use Rattle.std.proofs.lemmas.Map.Text.{is_eq-slice_cmp}
use Rattle.shelf.specs.declared.memory.Source.{Source}
use Rattle.shelf.specs.Outside.{at_name}
use Rattle.shelf.specs.Memory.{source_of, source_pairs}

over-cond : (b : Bool) (s : Source) (rest : Option Source) → option_map (λ (s : Source). s.bytes) (cond b (Some s) rest) ≡ cond b (Some s.bytes) (option_map (λ (s : Source). s.bytes) rest)
over-cond true s rest = refl
over-cond false s rest = refl

find-pairs : (ss : List Source) (name : List ℕ) → find_entry (slice_cmp nat_cmp) name (source_pairs ss) ≡ source_of ss name
find-pairs [] name = refl
find-pairs (s ∷ ss) name = rw (is_eq-slice_cmp name s.name, find-pairs ss name) (sym (over-cond (bytes_eq name s.name) s (find (λ (s : Source). bytes_eq name s.name) ss)))

pub at_name-source_pairs : (ss : List Source) (name : List ℕ) → at_name (from_entries (source_pairs ss)) name ≡ source_of ss name
at_name-source_pairs ss name = get-from_entries nat_list_cmp_total (source_pairs ss) name ∙ find-pairs ss name

pub ruleset lookups = (at_name-source_pairs)
