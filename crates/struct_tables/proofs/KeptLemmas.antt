-- What is kept of structs, and their layouts.
use Rattle.std.proofs.Common.{◌≡◌, ℕ, zero, suc, ◌+◌, ◌<◌, ◌≤◌, Bool, true, false, cond, if◌then◌else◌, List, [], ◌∷◌, ◌++◌, length, take, find, is_some, Option, Some, None, refl, sym, ◌∙◌, ap, arith, append_assoc, append-nil, Bor, subst, true≢false}
use Rattle.std.specs.Map.{lookup}
use Rattle.std.specs.Str.{bytes_eq}
use Rattle.std.proofs.Math.Seq.{take-append_seam, take-length}
use Rattle.std.proofs.lemmas.List.{take-append-le, map-append, length-append}
use Rattle.std.proofs.lemmas.List.Folds.{find-append}
use Rattle.gimple_ir.specs.declared.declarations.StructDef.{StructDef}
use Rattle.gimple_core.specs.Layout.{KnownLayout}
use Rattle.gimple_core.specs.Env.{named, has, structs_by_name}
use Rattle.gimple_core.specs.Layout.{empty_layout, with_fields, struct_layouts}
use Rattle.gimple_core.proofs.EnvLemmas.{same_test}
use Rattle.gimple_core.proofs.LayoutLemmas.{entry}
use Rattle.struct_tables.specs.Sizes.{extent_of, field_starts, slots_before, definitions, first_layouts, IsKept, AreKept}
use Rattle.struct_tables.specs.declared.structs.Kept.{Kept}

-- the test of a borrowed key
abbrev pub is_key : List ℕ → Bor (List ℕ) → Bool
is_key name key = bytes_eq name key.now

pub no_value : {T : Type 0} (o : Option T) → is_some o ≡ false → o ≡ None
no_value None h = refl
no_value (Some x) h = absurd (true≢false h)

abbrev is_named : List ℕ → KnownLayout → Bool
is_named name k = bytes_eq k.name name

abbrev Entry : Type 0
Entry = Bor (List ℕ) × Kept

-- ---- the layouts begin with those that are known

layouts_begin : (ss : List StructDef) (known : List KnownLayout) → (more : List KnownLayout) × (struct_layouts known ss ≡ known ++ more)
layouts_begin [] known = ([], sym (append-nil known))
layouts_begin (s ∷ ss) known =
    let r : (more : List KnownLayout) × (struct_layouts (known ++ entry known s ∷ []) ss ≡ (known ++ entry known s ∷ []) ++ more) = layouts_begin ss (known ++ entry known s ∷ []) in
    (entry known s ∷ r.0, r.1 ∙ append_assoc known (entry known s ∷ []) r.0)

layouts_length : (ss : List StructDef) (known : List KnownLayout) → length (struct_layouts known ss) ≡ length known + length ss
layouts_length [] known = omega arith
layouts_length (s ∷ ss) known = let a = layouts_length ss (known ++ entry known s ∷ []) in let b = length-append known (entry known s ∷ []) in omega (arith, a, b)

definitions_length : (es : List Entry) → length (definitions es) ≡ length es
definitions_length [] = refl
definitions_length (e ∷ es) = ap suc (definitions_length es)

pub known_length : (es : List Entry) → length es ≡ length (struct_layouts [] (definitions es))
known_length es = let a = layouts_length (definitions es) [] in let b = definitions_length es in omega (arith, a, b)

-- all of them
pub all_first : (ss : List StructDef) (es : List Entry) → definitions es ≡ ss → first_layouts (length es) ss ≡ struct_layouts [] ss
all_first ss es e =
    let n : length es ≡ length (struct_layouts [] ss) = known_length es ∙ ap (λ s. length (struct_layouts [] s)) e in
    ap (λ k. take k (struct_layouts [] ss)) n ∙ take-length (struct_layouts [] ss)

-- ---- looking among the first ones

head_not : (b : Bool) (x : KnownLayout) (o : Option KnownLayout) → (if b then Some x else o) ≡ None → (b ≡ false) × (o ≡ None)
head_not true x o h = cc
head_not false x o h = (refl, h)

take_none : (test : KnownLayout → Bool) (xs : List KnownLayout) (n : ℕ) → find test xs ≡ None → find test (take n xs) ≡ None
take_none test [] zero h = refl
take_none test [] (suc n) h = refl
take_none test (x ∷ xs) zero h = refl
take_none test (x ∷ xs) (suc n) h = let k = head_not (test x) x (find test xs) h in rw k.0 (take_none test xs n k.1)

take_finds : (test : KnownLayout → Bool) (before : List KnownLayout) (x : KnownLayout) (more : List KnownLayout) (bound : ℕ) → find test before ≡ None → test x ≡ true → length before < bound → find test (take bound (before ++ x ∷ more)) ≡ Some x
take_finds test [] x more zero n t l = let z : ⊥ = omega (arith, l) in absurd z
take_finds test [] x more (suc b) n t l = rw t refl
take_finds test (y ∷ before) x more zero n t l = let z : ⊥ = omega (arith, l) in absurd z
take_finds test (y ∷ before) x more (suc b) n t l =
    let k = head_not (test y) y (find test before) n in let m : length before < b = omega (arith, l) in rw k.0 (take_finds test before x more b k.1 t m)

-- what a look-up gives, in the layouts
abbrev pub FoundIs : List KnownLayout → ℕ → List ℕ → Option Kept → Type 0
FoundIs known bound name None = find (is_named name) (take bound known) ≡ None
FoundIs known bound name (Some k) = (k.extent ≡ extent_of (with_fields (take k.number known) empty_layout k.definition.now.fields))
    × (k.number < bound → find (is_named name) (take bound known) ≡ Some (entry (take k.number known) k.definition.now))
    × (bound ≤ k.number → find (is_named name) (take bound known) ≡ None)
    × (k.starts.offsets.items ≡ field_starts (take k.number known) 0 k.definition.now.fields)
    × (k.starts.slots.items ≡ slots_before (take k.number known) 0 k.definition.now.fields)

found_here : (name : List ℕ) (bound : ℕ) (before : List KnownLayout) (e : Entry) (more : List KnownLayout) → IsKept before e → bytes_eq name e.0.now ≡ true → find (is_named name) before ≡ None → FoundIs (before ++ entry before e.1.definition.now ∷ more) bound name (Some e.1)
found_here name bound before e more h b n =
    let x : KnownLayout = entry before e.1.definition.now in
    let t : take e.1.number (before ++ x ∷ more) ≡ before = ap (λ k. take k (before ++ x ∷ more)) h.number ∙ take-append_seam before (x ∷ more) in
    let test : is_named name x ≡ true = sym (same_test name e.1.definition.now.name) ∙ ap (bytes_eq name) (sym h.name) ∙ b in (
      h.extent ∙ ap (λ ks. extent_of (with_fields ks empty_layout e.1.definition.now.fields)) (sym t),
      (λ l. let m : length before < bound = omega (arith, l, h.number) in take_finds (is_named name) before x more bound n test m ∙ ap (λ ks. Some (entry ks e.1.definition.now)) (sym t)),
      (λ l. let m : bound ≤ length before = omega (arith, l, h.number) in ap (find (is_named name)) (take-append-le bound before (x ∷ more) m) ∙ take_none (is_named name) before bound n),
      h.offsets ∙ ap (λ ks. field_starts ks 0 e.1.definition.now.fields) (sym t),
      h.slots ∙ ap (λ ks. slots_before ks 0 e.1.definition.now.fields) (sym t),
    )

pub found_is : (name : List ℕ) (bound : ℕ) (before : List KnownLayout) (es : List Entry) → AreKept before es → find (is_named name) before ≡ None → FoundIs (struct_layouts before (definitions es)) bound name (lookup (is_key name) es)
found_is name bound before [] h n = take_none (is_named name) before bound n
found_is name bound before (e ∷ es) h n =
    by (bytes_eq name e.0.now) refl (λ m. found_is name bound (before ++ entry before e.1.definition.now ∷ []) es h.1 m)
  where
    next : List KnownLayout
    next = before ++ entry before e.1.definition.now ∷ []

    by : (b : Bool) → bytes_eq name e.0.now ≡ b → (find (is_named name) next ≡ None → FoundIs (struct_layouts next (definitions es)) bound name (lookup (is_key name) es)) → FoundIs (struct_layouts next (definitions es)) bound name (cond b (Some e.1) (lookup (is_key name) es))
    by true t rest =
        let r = layouts_begin (definitions es) next in
        let whole : struct_layouts next (definitions es) ≡ before ++ entry before e.1.definition.now ∷ r.0 = r.1 ∙ append_assoc before (entry before e.1.definition.now ∷ []) r.0 in
        subst (λ ks. FoundIs ks bound name (Some e.1)) (sym whole) (found_here name bound before e r.0 h.0 t n)
    by false t rest =
        let test : is_named name (entry before e.1.definition.now) ≡ false = sym (same_test name e.1.definition.now.name) ∙ ap (bytes_eq name) (sym h.0.name) ∙ t in
        rest (find-append (is_named name) before (entry before e.1.definition.now ∷ []) ∙ rw n (rw test refl))

-- ---- names

same_cond : {A B : Type 0} (a b : Bool) (x : A) (y : B) (o : Option A) (p : Option B) → a ≡ b → is_some o ≡ is_some p → is_some (cond a (Some x) o) ≡ is_some (cond b (Some y) p)
same_cond true true x y o p e h = refl
same_cond false false x y o p e h = h
same_cond true false x y o p e h = cc
same_cond false true x y o p e h = cc

pub has_is : (name : List ℕ) (before : List KnownLayout) (es : List Entry) → AreKept before es → is_some (lookup (is_key name) es) ≡ has name (structs_by_name (definitions es))
has_is name before [] h = refl
has_is name before (e ∷ es) h =
    same_cond (bytes_eq name e.0.now) (bytes_eq name e.1.definition.now.name) e.1 e.1.definition.now (lookup (is_key name) es) (named name (structs_by_name (definitions es))) (ap (bytes_eq name) h.0.name)
    (has_is name (before ++ entry before e.1.definition.now ∷ []) es h.1)

-- one more struct
pub kept_added : (before : List KnownLayout) (es : List Entry) (e : Entry) → AreKept before es → IsKept (struct_layouts before (definitions es)) e → AreKept before (es ++ e ∷ [])
kept_added before [] e h k = (k, tt)
kept_added before (x ∷ es) e h k = (h.0, kept_added (before ++ entry before x.1.definition.now ∷ []) es e h.1 k)

pub definitions_added : (es : List Entry) (e : Entry) → definitions (es ++ e ∷ []) ≡ definitions es ++ e.1.definition.now ∷ []
definitions_added es e = map-append (λ (x : Entry). x.1.definition.now) es (e ∷ [])

-- what a look-up among the structs gives
pub first_of : (ss : List StructDef) (bound : ℕ) (name : List ℕ) (es : List Entry) (o : Option Kept) → definitions es ≡ ss → AreKept [] es → o ≡ lookup (is_key name) es → FoundIs (struct_layouts [] ss) bound name o
first_of ss bound name es o e k h = subst (FoundIs (struct_layouts [] ss) bound name) (sym h) (subst (λ s. FoundIs (struct_layouts [] s) bound name (lookup (is_key name) es)) e (found_is name bound [] es k refl))
