-- The names of structs.
use Rattle.std.proofs.Common.{◌≡◌, List, ◌++◌, refl, ◌∙◌, ap}
use Rattle.std.proofs.lemmas.List.{map-append}
use Rattle.gimple_ir.specs.declared.declarations.StructDef.{StructDef}
use Rattle.gimple_core.specs.Env.{has, structs_by_name}
use Rattle.gimple_core.proofs.EnvLemmas.{has_append}
use Rattle.gimple_types.specs.Tables.{AreAmong}

-- structs up to one are among all
pub among_more : (earlier rest all : List StructDef) → all ≡ earlier ++ rest → AreAmong earlier all
among_more earlier rest all e name h = ap (λ ss. has name (structs_by_name ss)) e ∙ ap (has name) (map-append (λ s. (s.name, s)) earlier rest) ∙ has_append name (structs_by_name earlier) (structs_by_name rest) ∙ rw h refl
