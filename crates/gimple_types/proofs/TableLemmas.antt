-- Look-ups in tables of names.
use Rattle.std.proofs.Common.{◌≡◌, ℕ, Bool, true, false, cond, not, List, [], ◌∷◌, ◌++◌, is_some, ◌||◌, if◌then◌else◌, Option, Some, None, Ok, Err, refl, sym, ap, ◌∙◌, Bor, true≢false}
use Rattle.std.specs.Str.{bytes_eq}
use Rattle.std.specs.Option.{option_copied}
use Rattle.std.specs.Map.{lookup}
use Rattle.std.specs.Cmp.Lexicographic.{bytes_decides}
use Rattle.gimple_core.specs.Env.{Names, Targets, named, has, is_target, declared, new_or_twice}
use Rattle.gimple_ir.specs.declared.program.Function.{Function}
use Rattle.gimple_core.proofs.EnvLemmas.{has_append}
use Rattle.struct_tables.proofs.KeptLemmas.{is_key}
use Rattle.gimple_types.specs.Seen.{targets_if}
use Rattle.gimple_types.specs.Tables.{plain, noted, first_of_each}

module _ {T : Type 0} where
  pub named_plain : (name : List ℕ) (es : List (Bor (List ℕ) × Bor T)) → named name (plain es) ≡ option_copied (lookup (is_key name) es)
  named_plain name [] = refl
  named_plain name (e ∷ es) = by (bytes_eq name e.0.now) (named_plain name es)
    where
      by : (b : Bool) → named name (plain es) ≡ option_copied (lookup (is_key name) es) → cond b (Some e.1.now) (named name (plain es)) ≡ option_copied (cond b (Some e.1) (lookup (is_key name) es))
      by true h = refl
      by false h = h

  pub found_plain : (name : List ℕ) (es : List (Bor (List ℕ) × Bor T)) → is_some (named name (plain es)) ≡ is_some (lookup (is_key name) es)
  found_plain name es = ap is_some (named_plain name es) ∙ copied (lookup (is_key name) es)
    where
      copied : (o : Option (Bor T)) → is_some (option_copied o) ≡ is_some o
      copied None = refl
      copied (Some x) = refl

  pub plain_pushed : (es : List (Bor (List ℕ) × Bor T)) (key : Bor (List ℕ)) (item : Bor T) → plain (es ++ (key, item) ∷ []) ≡ plain es ++ (key.now, item.now) ∷ []
  plain_pushed [] key item = refl
  plain_pushed (e ∷ es) key item = ap (λ l. (e.0.now, e.1.now) ∷ l) (plain_pushed es key item)

  pub noted_old : (names : Names T) (name : List ℕ) (item : T) → is_some (named name names) ≡ true → names ≡ noted names name item
  noted_old names name item h = ap (λ b. if b then names else names ++ (name, item) ∷ []) (sym h)

  pub noted_new : (names : Names T) (name : List ℕ) (item : T) → is_some (named name names) ≡ false → names ++ (name, item) ∷ [] ≡ noted names name item
  noted_new names name item h = ap (λ b. if b then names else names ++ (name, item) ∷ []) (sym h)

module _ {T : Type 0} where
  -- a table that took a new item
  pub note_declares : (names new : Names T) (name : List ℕ) (item : T) (b : Bool) → b ≡ not (has name names) → new ≡ noted names name item → b ≡ true → declared names name item ≡ Ok new
  note_declares names new name item b e n h = by (has name names) (sym e ∙ h) n
    where
      by : (c : Bool) → not c ≡ true → new ≡ (if c then names else names ++ (name, item) ∷ []) → new_or_twice c (names ++ (name, item) ∷ []) ≡ Ok new
      by true k m = absurd (true≢false (sym k))
      by false k m = ap Ok (sym m)

  -- a table that left an item out
  pub note_refuses : (names : Names T) (name : List ℕ) (item : T) (b : Bool) → b ≡ not (has name names) → b ≡ false → declared names name item ≡ Err 2
  note_refuses names name item b e h = by (has name names) (sym e ∙ h)
    where
      by : (c : Bool) → not c ≡ false → new_or_twice c (names ++ (name, item) ∷ []) ≡ Err 2
      by true k = refl
      by false k = absurd (true≢false k)

or_no : (a : Bool) → a || false ≡ a
or_no true = refl
or_no false = refl

or_assoc : (a b c : Bool) → (a || b) || c ≡ a || (b || c)
or_assoc true b c = refl
or_assoc false b c = refl

module _ {T : Type 0} where
  head_has : (b : Bool) (x : T) (o : Option T) → is_some (cond b (Some x) o) ≡ b || is_some o
  head_has true x o = refl
  head_has false x o = refl

  noted_has : (name : List ℕ) (there : Names T) (key : List ℕ) (item : T) → has name (noted there key item) ≡ has name there || bytes_eq name key
  noted_has name there key item = by (has key there) refl (bytes_eq name key) refl
    where
      by : (c : Bool) → has key there ≡ c → (b : Bool) → bytes_eq name key ≡ b → has name (if c then there else there ++ (key, item) ∷ []) ≡ has name there || b
      by true e true h = let same : name ≡ key = (bytes_decides name key).0 h in let d : has name there ≡ true = ap (λ n. has n there) same ∙ e in rw d refl
      by true e false h = sym (or_no (has name there))
      by false e b h = has_append name there ((key, item) ∷ []) ∙ ap (λ c. has name there || is_some (cond c (Some item) None)) h ∙ ap (λ c. has name there || c) (head_has b item None ∙ or_no b)

  has_first_of : (name : List ℕ) (there es : Names T) → has name (first_of_each there es) ≡ has name there || has name es
  unfolding first_of_each
  has_first_of name there [] = sym (or_no (has name there))
  has_first_of name there (e ∷ es) =
      has_first_of name (noted there e.0 e.1) es ∙ ap (λ a. a || has name es) (noted_has name there e.0 e.1)
      ∙ or_assoc (has name there) (bytes_eq name e.0) (has name es) ∙ ap (λ a. has name there || a) (sym (head_has (bytes_eq name e.0) e.1 (named name es)))

-- a table of the first items has the names that the list has
pub has_first : {T : Type 0} (name : List ℕ) (table es : Names T) → table ≡ first_of_each [] es → has name table ≡ has name es
has_first name table es h = ap (has name) h ∙ has_first_of name [] es

-- a table of the first functions has the names of those that may be addressed, where any may
pub has_target : (name : List ℕ) (table functions : Names Function) (b : Bool) (ts : Targets) → table ≡ first_of_each [] functions → targets_if b functions ≡ ts → b ≡ true → has name table ≡ is_target ts name
has_target name table functions true ts h e k = has_first name table functions h ∙ ap (λ t. is_target t name) e
has_target name table functions false ts h e k = cc
