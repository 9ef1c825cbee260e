-- What was stored last under a name is what the map of all stores has there.
use Rattle.std.proofs.Common.{◌≡◌, ℕ, List, [], ◌∷◌, Option, Some, None, refl, sym, ap, ◌∙◌, cond, Bool, true, false}
use Rattle.std.specs.Option.{option_or}
use Rattle.std.specs.Str.{bytes_eq}
use Rattle.std.specs.Cmp.{eq_by_cmp_equiv}
use Rattle.std.specs.Ordering.{nat_cmp}
use Rattle.std.specs.Cmp.Lexicographic.{slice_cmp, nat_list_cmp_total}
use Rattle.std.specs.FinMap.{empty, get-insert, get-empty}
use Rattle.std.proofs.lemmas.Map.Text.{is_eq-slice_cmp}
use Rattle.shelf.specs.Outside.{Contents, at_name, put, put_all}
use Rattle.shelf.specs.Kept.{stored_in}

at_name-put : (m : Contents) (e : List ℕ × List ℕ) (name : List ℕ) → at_name (put m e) name ≡ cond (bytes_eq e.0 name) (Some e.1) (at_name m name)
at_name-put m e name =
    let same = (eq_by_cmp_equiv nat_list_cmp_total).symm name e.0 ∙ is_eq-slice_cmp e.0 name in
    get-insert nat_list_cmp_total m e.0 e.1 name ∙ ap (λ (b : Bool). cond b (Some e.1) (at_name m name)) same

or-found : (later : Option (List ℕ)) (b : Bool) (bytes : List ℕ) (before : Option (List ℕ)) → option_or (option_or later (cond b (Some bytes) None)) before ≡ option_or later (cond b (Some bytes) before)
or-found None true bytes before = refl
or-found None false bytes before = refl
or-found (Some x) b bytes before = refl

stored_in-put_all : (es : List (List ℕ × List ℕ)) (m : Contents) (name : List ℕ) → option_or (stored_in es name) (at_name m name) ≡ at_name (put_all es m) name
stored_in-put_all [] m name = refl
stored_in-put_all (e ∷ es) m name =
    let met = or-found (stored_in es name) (bytes_eq e.0 name) e.1 (at_name m name) in
    let put_in = ap (λ (x : Option (List ℕ)). option_or (stored_in es name) x) (sym (at_name-put m e name)) in
    met ∙ (put_in ∙ stored_in-put_all es (put m e) name)

or-none : (x : Option (List ℕ)) → x ≡ option_or x None
or-none None = refl
or-none (Some x) = refl

pub stored_meant : (es : List (List ℕ × List ℕ)) (name : List ℕ) → stored_in es name ≡ at_name (put_all es empty) name
stored_meant es name =
    let nothing = ap (λ (x : Option (List ℕ)). option_or (stored_in es name) x) (sym (get-empty (slice_cmp nat_cmp) name)) in
    or-none (stored_in es name) ∙ (nothing ∙ stored_in-put_all es empty name)
