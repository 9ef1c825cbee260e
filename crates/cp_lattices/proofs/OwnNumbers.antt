-- Functions by their names and by their numbers, and what stands at a number.
use Rattle.std.proofs.Common.{◌≡◌, ℕ, zero, suc, ◌+◌, ◌<◌, List, [], ◌∷◌, map, length, refl, sym, ◌∙◌, ap, subst, arith, Some, None, IsSomeAnd, position, slice_get, slice_index_or, unwrap_or}
use Rattle.std.proofs.lemmas.Option.{slice_get_within}
use Rattle.std.specs.Str.{bytes_eq}
use Rattle.gimple_ir.specs.declared.declarations.Register.{Register}
use Rattle.gimple_ir.specs.declared.program.Function.{Function}
use Rattle.gimple_ir.specs.declared.program.Program.{Program}
use Rattle.gimple_ir.specs.declared.value.Value.{Value}
use Rattle.gimple_core.specs.Accepted.{first_fault}
use Rattle.gimple_core.specs.Run.{function_named}
use Rattle.gimple_core.specs.Sealed.{Sealed}
use Rattle.gimple_core.specs.State.{zero_of, scalar_or_pointer}
use Rattle.gimple_core.proofs.NameLemmas.{same_name_true}
use Rattle.gimple_claims.proofs.Lists.{found_test}
use Rattle.call_graph.specs.Calls.{number_in}
use Rattle.call_graph.proofs.Bridge.{name_of}
use Rattle.call_graph.proofs.Callees.{accepted_calls}
use Rattle.call_graph.proofs.Naming.{function_at, number_at, place_of}
use Rattle.fix_engine.specs.Rows.{Each}
use Rattle.value_domain.specs.declared.abs_val.AbsVal.{AbsVal}
use Rattle.value_domain.specs.Holding.{Holds}
use Rattle.value_domain.specs.Values.{none_val}
use Rattle.body_values.specs.Claims.{FormalsMeet}
use Rattle.body_symbols.specs.Found.{Found, AreSymbols}
use Rattle.body_symbols.specs.Tables.{TablesFrom}

-- a function that is found by a name has that name
pub name_is : (name : List ℕ) (fs : List Function) (g : Function) → function_named name fs ≡ Some g → g.name ≡ name
unfolding function_named
name_is name fs g e = same_name_true g.name name (found_test (λ (f : Function). bytes_eq f.name name) fs g e)

-- a function that is found by its name has a number
pub numbered : (p : Program) (g : Function) → function_named g.name p.functions ≡ Some g → (k : ℕ) × (slice_get p.functions k ≡ Some g)
numbered p g e = (number_in (map (λ f. f.name) p.functions) g.name, sym (function_at p.functions g.name) ∙ e)

-- the number of a function that is found by a name is the place of the name
pub place_named : (p : Program) → first_fault p ≡ None → (name : List ℕ) (g : Function) (n : ℕ) → function_named name p.functions ≡ Some g → slice_get p.functions n ≡ Some g → position (λ (f : Function). bytes_eq f.name name) p.functions ≡ Some n
place_named p accepted name g n e there =
    let same : number_in (map (λ f. f.name) p.functions) name ≡ n =
    ap (number_in (map (λ f. f.name) p.functions)) (sym (name_is name p.functions g e)) ∙ number_at (map (λ f. f.name) p.functions) n g.name (accepted_calls p accepted).distinct (name_of p.functions n g there) in
    let within : n < length p.functions = slice_get_within p.functions n g there in
    place_of p.functions name (omega (arith, same, within)) ∙ ap Some same

-- ---- what stands at a number

-- the symbols of a function
pub table_at : (p : Sealed) (n k m : ℕ) (f : Function) (ts : List Found) → n + k ≡ m → k < length ts → TablesFrom p n ts → slice_get p.program.functions m ≡ Some f → (t : Found) × (slice_get ts k ≡ Some t) × AreSymbols p m f t
table_at p n k m f [] e l h there = absurd (omega (arith, l))
table_at p n zero m f (t ∷ ts) e l h there =
    let same : n ≡ m = omega (arith, e) in
    let here : IsSomeAnd (slice_get p.program.functions m) (λ (g : Function). AreSymbols p m g t) = subst (λ j. IsSomeAnd (slice_get p.program.functions j) (λ (g : Function). AreSymbols p j g t)) same h.0 in
    (t, refl, subst (λ o. IsSomeAnd o (λ (g : Function). AreSymbols p m g t)) there here)
table_at p n (suc k) m f (t ∷ ts) e l h there = table_at p (n + 1) k m f ts (omega (arith, e)) (omega (arith, l)) h.1 there

-- the formal of a number
pub register_at : (rs : List Register) (i : ℕ) → i < length rs → (r : Register) × (slice_get rs i ≡ Some r)
register_at [] i l = absurd (omega (arith, l))
register_at (r ∷ rs) zero l = (r, refl)
register_at (r ∷ rs) (suc i) l = register_at rs i (omega (arith, l))

-- what holds of the value of each number holds of each
pub each_by : (P : AbsVal → Type 0) (xs : List AbsVal) → ((i : ℕ) → i < length xs → P (slice_index_or xs i none_val)) → Each P xs
each_by P [] h = tt
each_by P (x ∷ xs) h = (h 0 (omega arith), each_by P xs (λ i l. h (suc i) (omega (arith, l))))

-- the arguments by their numbers
pub meets_by : (rs : List Register) (formals : List AbsVal) (arguments : List Value) (k : ℕ) → ((j : ℕ) (r : Register) → slice_get rs j ≡ Some r → Holds (unwrap_or (slice_get arguments (k + j)) (zero_of r.scalar)) (slice_index_or formals j none_val)) → FormalsMeet rs formals arguments k
meets_by [] formals arguments k h = tt
meets_by (r ∷ rs) [] arguments k h = tt
meets_by (r ∷ rs) (a ∷ formals) arguments k h = (
  subst (λ n. Holds (unwrap_or (slice_get arguments n) (zero_of r.scalar)) a) (omega arith) (h 0 r refl),
  meets_by rs formals arguments (k + 1) (λ j x e. subst (λ n. Holds (unwrap_or (slice_get arguments n) (zero_of x.scalar)) (slice_index_or formals j none_val)) (omega arith) (h (suc j) x e)),
)

pub meets_at : (rs : List Register) (formals : List AbsVal) (arguments : List Value) (k j : ℕ) → length formals ≡ length rs → j < length rs → FormalsMeet rs formals arguments k →
    Holds (unwrap_or (slice_get arguments (k + j)) (zero_of (scalar_or_pointer (slice_get rs j)))) (slice_index_or formals j none_val)
meets_at [] formals arguments k j e l h = absurd (omega (arith, l))
meets_at (r ∷ rs) [] arguments k j e l h = absurd (omega (arith, e))
meets_at (r ∷ rs) (a ∷ formals) arguments k zero e l h = subst (λ n. Holds (unwrap_or (slice_get arguments n) (zero_of r.scalar)) a) (omega arith) h.0
meets_at (r ∷ rs) (a ∷ formals) arguments k (suc j) e l h =
    subst (λ n. Holds (unwrap_or (slice_get arguments n) (zero_of (scalar_or_pointer (slice_get rs j)))) (slice_index_or formals j none_val)) (omega arith) (meets_at rs formals arguments (k + 1) j (omega (arith, e)) (omega (arith, l)) h.1)
