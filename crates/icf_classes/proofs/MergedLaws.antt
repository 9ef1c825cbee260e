-- A program in which the functions of a class are one: its runs, its checks, its text and its size.
use Rattle.std.proofs.Common.{◌≡◌, ℕ, zero, suc, ◌+◌, ◌*◌, ◌<◌, ◌≤◌, Bool, true, false, cond, arith, List, [], ◌∷◌, map, length, filter, sum_by, refl, sym, ◌∙◌, ap, subst, Option, Some, None, slice_get}
use Rattle.std.proofs.lemmas.Bool.{eq-eqb}
use Rattle.std.proofs.lemmas.List.{length-map}
use Rattle.std.proofs.lemmas.List.Elements.{All-filter, All-map, All-weaker}
use Rattle.std.proofs.lemmas.List.Sums.{sum_by-cons}
use Rattle.gimple_ir.specs.declared.statement.Stmt.{Stmt}
use Rattle.gimple_ir.specs.declared.statement.Stmt.TheVariants.{Copy, Arith, Compare, Convert, Load, Store, Call, Indirect, Get, Put, Abort}
use Rattle.gimple_ir.specs.declared.block.Block.{Block}
use Rattle.gimple_ir.specs.declared.program.Function.{Function}
use Rattle.gimple_ir.specs.declared.program.Program.{Program}
use Rattle.gimple_ir.specs.Counts.{CountsWithin}
use Rattle.gimple_ir.specs.Names.{IsNameText}
use Rattle.gimple_ir.specs.Size.{size_of_block, size_of_function, size_of_program, branches_of_end, branches_of_function}
use Rattle.gimple_ir.specs.Spellable.{AllOf, IsSpellable, IsSpellableStmt, IsSpellableBlock, IsSpellableFunction}
use Rattle.gimple_ir.proofs.SpellableLaws.{filtered_spellable}
use Rattle.gimple_core.specs.Accepted.{IsAccepted}
use Rattle.gimple_core.specs.Sealed.{Sealed}
use Rattle.gimple_core.specs.Reach.{IsClosed, with_kept}
use Rattle.gimple_core.specs.Run.{Run}
use Rattle.gimple_core.specs.Replacing.{Replaces}
use Rattle.gimple_core.proofs.Dropping.{kept_runs}
use Rattle.gimple_core.proofs.KeptAccepted.{kept_accepted}
use Rattle.gimple_core.proofs.ReplacingLaws.{kept_size}
use Rattle.icf_classes.specs.Placed.{number_of}
use Rattle.icf_classes.specs.Congruence.{class_of, one_class, AreClasses}
use Rattle.icf_classes.specs.Merged.{name_or, representative, sent, sent_stmt, sent_body, sent_block, sent_function, sent_program, is_kept, merged, IsMerged, MergingKeepsRuns}
use Rattle.icf_classes.proofs.Sending.{sent_runs}
use Rattle.icf_classes.proofs.SentAccepted.{sent_accepted}
use Rattle.icf_classes.proofs.Represented.{classes_send, kept_closed}

-- ---- the size

pub sum_mapped : {X Y : Type 0} (v : X → ℕ) (w : Y → ℕ) (g : X → Y) → ((x : X) → w (g x) ≡ v x) → (xs : List X) → sum_by w (map g xs) ≡ sum_by v xs
sum_mapped v w g e [] = refl
sum_mapped v w g e (x ∷ xs) = sum_by-cons w (g x) (map g xs) ∙ ((λ i. e x i + sum_mapped v w g e xs i) ∙ sym (sum_by-cons v x xs))

module _ (to : List ℕ → List ℕ) where
  block_size : (b : Block) → size_of_block (sent_block to b) ≡ size_of_block b
  block_size b = ap (λ n. n + 1) (length-map b.body (sent_stmt to))

  function_size : (f : Function) → size_of_function (sent_function to f) ≡ size_of_function f
  function_size f = sum_mapped size_of_block size_of_block (sent_block to) block_size f.blocks

  sent_size : (fs : List Function) → sum_by size_of_function (map (sent_function to) fs) ≡ sum_by size_of_function fs
  sent_size fs = sum_mapped size_of_function size_of_function (sent_function to) function_size fs

  sent_branches : (f : Function) → branches_of_function (sent_function to f) ≡ branches_of_function f
  sent_branches f = sum_mapped (λ (b : Block). branches_of_end b.end) (λ (b : Block). branches_of_end b.end) (sent_block to) (λ b. refl) f.blocks

one_fewer : (b : Bool) (f : Function) (fs : List Function) (n : ℕ) → length fs ≤ n → length (cond b (f ∷ fs) fs) ≤ suc n
one_fewer true f fs n h = omega (arith, h)
one_fewer false f fs n h = omega (arith, h)

fewer : (keep : Function → Bool) (fs : List Function) → length (filter keep fs) ≤ length fs
fewer keep [] = omega arith
fewer keep (f ∷ fs) = one_fewer (keep f) f (filter keep fs) (length fs) (fewer keep fs)

module _ (p : Program) (to : List ℕ → List ℕ) (keeps : List ℕ → Bool) where
  abbrev out : List Function
  out = map (sent_function to) p.functions

  abbrev keep : Function → Bool
  keep f = keeps f.name

  size_shrinks : size_of_program (with_kept keeps (sent_program to p)) ≤ size_of_program p
  size_shrinks =
      let smaller = kept_size (λ f. keeps f.name) (map (sent_function to) p.functions) in
      let same = sent_size to p.functions in
      omega (arith, smaller, same)

  counts_kept : (n : ℕ) → CountsWithin n p → CountsWithin n (with_kept keeps (sent_program to p))
  counts_kept n h =
      let fewer_functions = fewer keep out in
      let as_many = length-map p.functions (sent_function to) in
      let smaller = size_shrinks in
      let functions = h.functions in
      let size : size_of_program p < n = h.size in
      record {
        structs = h.structs;
        fields = h.fields;
        globals = h.globals;
        functions = omega (arith, fewer_functions, as_many, functions);
        size = omega (arith, smaller, size);
        formals = All-filter keep (λ (f : Function). length f.params < n) out (All-map (λ (f : Function). length f.params < n) (sent_function to) p.functions h.formals);
        locals = All-filter keep (λ (f : Function). length f.locals < n) out (All-map (λ (f : Function). length f.locals < n) (sent_function to) p.functions h.locals);
        branches = All-filter keep (λ (f : Function). branches_of_function f < n) out
            (All-map (λ (f : Function). branches_of_function f < n) (sent_function to) p.functions
            (All-weaker (λ (f : Function). branches_of_function f < n) (λ (f : Function). branches_of_function (sent_function to f) < n) (λ f l. let same = sent_branches to f in omega (arith, same, l)) p.functions h.branches));
      }

-- ---- the text

module _ (to : List ℕ → List ℕ) (names : (name : List ℕ) → IsNameText name → IsNameText (to name)) (profile : ℕ) where
  stmt_spelled : (x : Stmt) → IsSpellableStmt profile x → IsSpellableStmt profile (sent_stmt to x)
  stmt_spelled (Copy target from) h = h
  stmt_spelled (Arith target left op right) h = h
  stmt_spelled (Compare target left cmp right) h = h
  stmt_spelled (Convert target scalar from) h = h
  stmt_spelled (Load target scalar place) h = h
  stmt_spelled (Store scalar place from) h = h
  stmt_spelled (Call target callee arguments) h = (h.0, names callee h.1, h.2)
  stmt_spelled (Indirect target signature callee arguments) h = h
  stmt_spelled (Get target) h = h
  stmt_spelled (Put from) h = h
  stmt_spelled Abort h = h

  body_spelled : (xs : List Stmt) → AllOf (IsSpellableStmt profile) xs → AllOf (IsSpellableStmt profile) (sent_body to xs)
  body_spelled [] h = tt
  body_spelled (x ∷ xs) h = (stmt_spelled x h.0, body_spelled xs h.1)

  blocks_spelled : (bs : List Block) → AllOf (IsSpellableBlock profile) bs → AllOf (IsSpellableBlock profile) (map (sent_block to) bs)
  blocks_spelled [] h = tt
  blocks_spelled (b ∷ bs) h = ((h.0.0, body_spelled b.body h.0.1, h.0.2), blocks_spelled bs h.1)

  functions_spelled : (fs : List Function) → AllOf (IsSpellableFunction profile) fs → AllOf (IsSpellableFunction profile) (map (sent_function to) fs)
  functions_spelled [] h = tt
  functions_spelled (f ∷ fs) h = (record { name = h.0.name; params = h.0.params; locals = h.0.locals; registers = h.0.registers; blocks = blocks_spelled f.blocks h.0.blocks }, functions_spelled fs h.1)

function_spelled : (profile : ℕ) (fs : List Function) (k : ℕ) (f : Function) → AllOf (IsSpellableFunction profile) fs → slice_get fs k ≡ Some f → IsNameText f.name
function_spelled profile [] k f h e = cc
function_spelled profile (x ∷ fs) zero f h e = let same : x ≡ f = cc in subst (λ (z : Function). IsNameText z.name) same h.0.name
function_spelled profile (x ∷ fs) (suc k) f h e = function_spelled profile fs k f h.1 e

module _ (p : Program) (stays : List ℕ → Bool) (classes : List ℕ) (spelled : IsSpellable p) where
  name_spelled : (name : List ℕ) (k : ℕ) (o : Option Function) → slice_get p.functions k ≡ o → IsNameText name → IsNameText (name_or name o)
  name_spelled name k None e h = h
  name_spelled name k (Some f) e h = function_spelled p.profile p.functions k f spelled.functions e

  sent_spelled : (name : List ℕ) → IsNameText name → IsNameText (sent p stays classes name)
  unfolding representative
  sent_spelled name h = by (stays name)
    where
      by : (b : Bool) → IsNameText (cond b name (name_or name (slice_get p.functions (class_of classes (number_of p name)))))
      by true = h
      by false = name_spelled name (class_of classes (number_of p name)) (slice_get p.functions (class_of classes (number_of p name))) refl h

  merged_spelled : IsSpellable (merged p stays classes)
  merged_spelled =
      filtered_spellable (sent_program (sent p stays classes) p) (λ f. is_kept p stays classes f.name) (record {
        profile = spelled.profile;
        structs = spelled.structs;
        globals = spelled.globals;
        functions = functions_spelled (sent p stays classes) sent_spelled p.profile p.functions spelled.functions;
      })

-- ---- what may stand for the program

module _ (p q : Program) (accepted : IsAccepted p) (classes : List ℕ) (are : AreClasses p classes) (m : IsMerged p classes q) where
  abbrev to : List ℕ → List ℕ
  to = sent p m.stays classes

  closed : IsClosed (sent_program (sent p m.stays classes) p) (is_kept p m.stays classes)
  closed = kept_closed p accepted classes are m.stays m.exact

  pub merged_is_accepted : IsAccepted q
  merged_is_accepted =
      subst IsAccepted (sym m.program)
      (kept_accepted (sent_program to p) (is_kept p m.stays classes) closed
      (sent_accepted (one_class classes) (λ i. eq-eqb (class_of classes i) (class_of classes i) refl) p to (classes_send p accepted classes are m.stays) accepted))

  pub merged_is_spellable : IsSpellable p → IsSpellable q
  merged_is_spellable h = subst IsSpellable (sym m.program) (merged_spelled p m.stays classes h)

  pub merged_counts : (n : ℕ) → CountsWithin n p → CountsWithin n q
  merged_counts n h = subst (CountsWithin n) (sym m.program) (counts_kept p to (is_kept p m.stays classes) n h)

  pub merged_shrinks : size_of_program q ≤ size_of_program p
  merged_shrinks = subst (λ r. size_of_program r ≤ size_of_program p) (sym m.program) (size_shrinks p to (is_kept p m.stays classes))

-- a program in which the functions of a class are one runs as the program does
pub merging_runs : MergingKeepsRuns
merging_runs p q classes accepted are m same input n =
    let to = sent p.program m.stays classes in
    let between : Sealed = record p { program = sent_program to p.program } in
    let whole : q ≡ record p { program = merged p.program m.stays classes } = λ i. record { program = m.program i; mode = same i } in
    subst (λ r. Run r input n ≡ Run p input n) (sym whole)
    (kept_runs between (is_kept p.program m.stays classes) (closed p.program q.program accepted classes are m) input n
    ∙ sent_runs (one_class classes) p to (classes_send p.program accepted classes are m.stays) input n)

once : (n : ℕ) (p : Program) → CountsWithin n p → CountsWithin (1 * n) p
once n p h = let same : n ≡ 1 * n = omega arith in subst (λ m. CountsWithin m p) same h

-- and may replace the program
pub merging_replaces : (p q : Sealed) (classes : List ℕ) → IsAccepted p.program → AreClasses p.program classes → IsMerged p.program classes q.program → q.mode ≡ p.mode → Replaces 1 p q
merging_replaces p q classes accepted are m same = record {
  accepted = merged_is_accepted p.program q.program accepted classes are m;
  mode = same;
  profile = ap (λ (r : Program). r.profile) m.program;
  spellable = merged_is_spellable p.program q.program accepted classes are m;
  counts = λ n h. once n q.program (merged_counts p.program q.program accepted classes are m n h);
  runs = λ input i64 n. merging_runs p q classes accepted are m same input n;
}
