-- What the check of a place in a global asks for.
use Rattle.std.proofs.Common.{◌≡◌, ℕ, ℤ, Bool, true, false, not, cond, ◌&&◌, refl, sym, ◌∙◌, ap, Option, Some, None, slice_get}
use Rattle.std.specs.Prelude.{is_some}
use Rattle.std.specs.List.{find, position_or_len}
use Rattle.std.proofs.lemmas.List.Folds.{find_at}
use Rattle.gimple_ir.specs.declared.scalar.Scalar.{Scalar}
use Rattle.gimple_ir.specs.declared.scalar.Scalar.TheVariants.{I64}
use Rattle.gimple_ir.specs.declared.operand.Base.{Base}
use Rattle.gimple_ir.specs.declared.operand.Base.TheVariants.{Variable}
use Rattle.gimple_ir.specs.declared.operand.Place.{Place}
use Rattle.gimple_ir.specs.declared.declarations.Decl.{Decl}
use Rattle.gimple_ir.specs.declared.declarations.Global.{Global}
use Rattle.gimple_ir.specs.declared.program.Function.{Function}
use Rattle.gimple_ir.specs.declared.program.Program.{Program}
use Rattle.gimple_core.specs.Layout.{layout_of}
use Rattle.std.specs.Str.{bytes_eq}
use Rattle.gimple_core.specs.Operators.{in_scalar}
use Rattle.gimple_core.specs.Verdict.{demand}
use Rattle.gimple_core.specs.Env.{named, is_constant, variable, globals_by_name, decls_by_name}
use Rattle.gimple_core.specs.Statements as s
use Rattle.gimple_core.proofs.EnvLemmas.{named_find}
use Rattle.gimple_claims.specs.Checks.{env_of}
use Rattle.body_fold.specs.declared.places.Access.{Access}
use Rattle.body_fold.specs.declared.places.Access.TheVariants.{Load, Store}
use Rattle.body_fold.specs.Fold.{passes}
use Rattle.body_fold.specs.Folders.{Means, NamesMean}
use Rattle.body_fold.specs.Putting.{is_store, access_check}
use Rattle.body_fold.proofs.Checking.{passes_demand, passes_then, has_any}

number_is : (b : Bool) (n k : ℕ) → cond b (Some n) None ≡ Some k → n ≡ k
number_is true n k h = cc
number_is false n k h = cc

none_there : {T : Type 0} (o : Option T) → is_some o ≡ false → o ≡ None
none_there None e = refl
none_there (Some x) e = cc

and_true : (a : Bool) → (a && true) ≡ a
and_true true = refl
and_true false = refl

and_false : (a : Bool) → (a && false) ≡ false
and_false true = refl
and_false false = refl

module _ (p : Program) (f : Function) (mean : NamesMean p.globals f.locals) (k : ℕ) (g : Global) (there : slice_get p.globals k ≡ Some g) where
  means : Means p.globals f.locals k g
  means = mean k g there

  -- the global is the first of its name
  pub first_named : find (λ (x : Global). bytes_eq x.decl.name g.decl.name) p.globals ≡ Some g
  first_named =
      find_at (λ (x : Global). bytes_eq x.decl.name g.decl.name) p.globals
      ∙ (ap (slice_get p.globals) (number_is _ (position_or_len (λ (x : Global). bytes_eq x.decl.name g.decl.name) p.globals) k means.place) ∙ there)

  global_is : named g.decl.name (globals_by_name p.globals) ≡ Some g
  global_is = named_find (λ (x : Global). x.decl.name) g.decl.name p.globals ∙ first_named

  local_is : named g.decl.name (decls_by_name f.locals) ≡ None
  local_is = none_there (named g.decl.name (decls_by_name f.locals)) (has_any (λ (d : Decl). d.name) g.decl.name f.locals ∙ means.free)

  variable_is : variable (env_of p f) g.decl.name ≡ Some g.decl
  variable_is = rw (local_is, global_is) refl

  abbrev slot : Scalar → ℤ → Bool
  slot scalar offset = s.has_slot (layout_of p.structs g.decl).slots offset scalar

  place_at_is : (scalar : Scalar) (offset : ℤ) → in_scalar I64 offset ≡ true → passes (s.place_at (env_of p f) scalar (Variable g.decl.name) offset) ≡ slot scalar offset
  unfolding s.place_at
  place_at_is scalar offset h = rw (variable_is, h) (passes_demand (slot scalar offset) 11)

  place_is : (scalar : Scalar) (q : Place) → q.base ≡ Variable g.decl.name → in_scalar I64 q.offset ≡ true → passes (s.place (env_of p f) scalar q) ≡ slot scalar q.offset
  place_is scalar q e h = ap (λ (b : Base). passes (s.place_at (env_of p f) scalar b q.offset)) e ∙ place_at_is scalar q.offset h

  read_only_is : (q : Place) → q.base ≡ Variable g.decl.name → s.is_read_only (env_of p f) q.base ≡ g.constant
  read_only_is q e = ap (s.is_read_only (env_of p f)) e ∙ ap is_constant global_is

  stored_is : (scalar : Scalar) (q : Place) → q.base ≡ Variable g.decl.name → in_scalar I64 q.offset ≡ true → passes (access_check (env_of p f) Store scalar q) ≡ (slot scalar q.offset && not g.constant)
  stored_is scalar q e h =
      passes_then (s.place (env_of p f) scalar q) (demand (not (s.is_read_only (env_of p f) q.base)) 14)
      ∙ (λ i. place_is scalar q e h i && (passes_demand (not (s.is_read_only (env_of p f) q.base)) 14 ∙ ap not (read_only_is q e)) i)

  -- a store to a read-only variable
  pub refused : (access : Access) (scalar : Scalar) (q : Place) → q.base ≡ Variable g.decl.name → in_scalar I64 q.offset ≡ true → (is_store access && g.constant) ≡ true → false ≡ passes (access_check (env_of p f) access scalar q)
  refused Load scalar q e h r = cc
  refused Store scalar q e h r = sym (stored_is scalar q e h ∙ (ap (λ b. slot scalar q.offset && not b) r ∙ and_false (slot scalar q.offset)))

  pub admitted : (access : Access) (scalar : Scalar) (q : Place) → q.base ≡ Variable g.decl.name → in_scalar I64 q.offset ≡ true → (is_store access && g.constant) ≡ false → slot scalar q.offset ≡ passes (access_check (env_of p f) access scalar q)
  admitted Load scalar q e h r = sym (place_is scalar q e h)
  admitted Store scalar q e h r = sym (stored_is scalar q e h ∙ (ap (λ b. slot scalar q.offset && not b) r ∙ and_true (slot scalar q.offset)))
