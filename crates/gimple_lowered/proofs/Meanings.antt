-- A lowered statement or end does what the one that it was made of does.
use Rattle.std.proofs.Common.{◌≡◌, ℕ, suc, ◌+◌, ◌==◌, ℤ, Bool, true, false, not, cond, if◌then◌else◌, arith, List, [], ◌∷◌, length, refl, sym, ◌∙◌, ap, Option, Some, None, Result, Ok, Err, slice_get, nat_lt}
use Rattle.std.specs.List.{find, position, position_or_len}
use Rattle.std.specs.Str.{bytes_eq}
use Rattle.std.proofs.lemmas.Bool.{ltb-false}
use Rattle.std.proofs.lemmas.Option.{slice_get_past}
use Rattle.std.proofs.lemmas.List.Folds.{find_at}
use Rattle.gimple_ir.specs.declared.scalar.Cmp.TheVariants.{Eq}
use Rattle.gimple_ir.specs.declared.operand.Operand.{Operand}
use Rattle.gimple_ir.specs.declared.operand.Operand.TheVariants as operand
use Rattle.gimple_ir.specs.declared.operand.Base.{Base}
use Rattle.gimple_ir.specs.declared.operand.Base.TheVariants as base
use Rattle.gimple_ir.specs.declared.operand.Place.{Place}
use Rattle.gimple_ir.specs.declared.statement.Stmt.{Stmt}
use Rattle.gimple_ir.specs.declared.statement.Stmt.TheVariants as stmt
use Rattle.gimple_ir.specs.declared.block.Case.{Case}
use Rattle.gimple_ir.specs.declared.block.End.{End}
use Rattle.gimple_ir.specs.declared.block.End.TheVariants as end
use Rattle.gimple_ir.specs.declared.block.Block.{Block}
use Rattle.gimple_ir.specs.declared.declarations.Decl.{Decl}
use Rattle.gimple_ir.specs.declared.declarations.Global.{Global}
use Rattle.gimple_ir.specs.declared.program.Function.{Function}
use Rattle.gimple_ir.specs.declared.value.Value.{Value}
use Rattle.gimple_core.specs.Memory.{moved_by, found_at}
use Rattle.gimple_core.specs.Operators.{cmp_of}
use Rattle.gimple_core.specs.Sealed.{Sealed}
use Rattle.gimple_core.specs.State.{World, State, Scope, scope_of, registers_of, register_place, value_in, scalar_in, offset_in}
use Rattle.gimple_core.specs.Run as run
use Rattle.gimple_core.specs.Run.{local_address, address_of_global, address_of, value_of, place_value, values_of, arith_of, one_if, compares, converted, stored, put, any_number, acted, perform, function_named, called_by_name, called_through, enter, Reaches, block_from, labelled, jumped, jump, case_target, case_for, returned, finish, act}
use Rattle.gimple_lowered.specs.declared.types.Choice.{Choice}
use Rattle.gimple_lowered.specs.Names.{Names, names_of, labels_of, taking, function_place, block_place}
use Rattle.gimple_lowered.specs.Lowered.{address_by, address_source, source_of, sources_of, pointer_of, pointer_by, instruction_of, choice_of, choices_of, ending_of}
use Rattle.gimple_lowered.specs.Meaning.{source_value, source_values, pointer_value, assign, assign_result, loaded, got, does, performs, function_at, numbered, block_at, goes, chosen_or, chosen, ends}

-- ---- values

-- where a call of a function runs
abbrev pub frame_scope : Function → ℕ → Scope
frame_scope f serial = record { declared = registers_of f; locals = f.locals; serial = serial }

address_is : (fs : List Function) (globals : List Global) (f : Function) (serial : ℕ) (vs : List Value) (name : List ℕ) (by : ℤ) → source_value serial vs (address_source (names_of fs globals f) name by) ≡ moved_by (address_of globals (frame_scope f serial) name) by
unfolding address_of address_source moved_by
address_is fs globals f serial vs name by = by_place (position (λ (d : Decl). bytes_eq d.name name) f.locals)
  where
    by_place : (o : Option ℕ) → source_value serial vs (address_by globals name o by) ≡ moved_by (local_address serial o (address_of_global globals name)) by
    by_place None = refl
    by_place (Some k) = refl

source_is : (fs : List Function) (globals : List Global) (f : Function) (serial : ℕ) (vs : List Value) (x : Operand) → source_value serial vs (source_of (names_of fs globals f) x) ≡ value_of globals (frame_scope f serial) vs x
unfolding value_in
source_is fs globals f serial vs (operand.Reg name) = refl
source_is fs globals f serial vs (operand.Number z) = refl
source_is fs globals f serial vs operand.Null = refl
source_is fs globals f serial vs (operand.Address name offset) = address_is fs globals f serial vs name (offset_in offset)

sources_are : (fs : List Function) (globals : List Global) (f : Function) (serial : ℕ) (vs : List Value) (xs : List Operand) → source_values serial vs (sources_of (names_of fs globals f) xs) ≡ values_of globals (frame_scope f serial) vs xs
sources_are fs globals f serial vs [] = refl
sources_are fs globals f serial vs (x ∷ xs) = λ i. source_is fs globals f serial vs x i ∷ sources_are fs globals f serial vs xs i

based : (fs : List Function) (globals : List Global) (f : Function) (serial : ℕ) (vs : List Value) (b : Base) (by : ℤ) → pointer_value serial vs (pointer_by (names_of fs globals f) b by) ≡ moved_by (run.base_value globals (frame_scope f serial) vs b) by
unfolding value_in
based fs globals f serial vs (base.Reg name) by = refl
based fs globals f serial vs (base.Variable name) by = address_is fs globals f serial vs name by

pointer_is : (fs : List Function) (globals : List Global) (f : Function) (serial : ℕ) (vs : List Value) (place : Place) → pointer_value serial vs (pointer_of (names_of fs globals f) place) ≡ place_value globals (frame_scope f serial) vs place
pointer_is fs globals f serial vs place = based fs globals f serial vs place.base (offset_in place.offset)

-- ---- functions

-- what is found stands at its place
at_place : {X : Type 0} (test : X → Bool) (xs : List X) (at : Option ℕ → Option X) → at None ≡ None → ((k : ℕ) → at (Some k) ≡ slice_get xs k) → at (position test xs) ≡ find test xs
at_place test xs at none some = by (nat_lt (position_or_len test xs) (length xs)) refl ∙ sym (find_at test xs)
  where
    by : (b : Bool) → nat_lt (position_or_len test xs) (length xs) ≡ b → at (cond b (Some (position_or_len test xs)) None) ≡ slice_get xs (position_or_len test xs)
    by true e = some (position_or_len test xs)
    by false e = none ∙ sym (slice_get_past xs (position_or_len test xs) (ltb-false (position_or_len test xs) (length xs) e))

function_is : (globals : List Global) (f : Function) (fs : List Function) (name : List ℕ) → function_at fs (function_place (names_of fs globals f) name) ≡ function_named name fs
unfolding function_named
function_is globals f fs name = at_place (λ (g : Function). bytes_eq g.name name) fs (function_at fs) refl (λ k. refl)

-- ---- statements

taking_is : (fs : List Function) (globals : List Global) (f : Function) (serial : ℕ) (to : Option (List ℕ)) → taking (names_of fs globals f) to ≡ run.taking (frame_scope f serial) to
taking_is fs globals f serial None = refl
taking_is fs globals f serial (Some name) = refl

module _ (p : Sealed) (s : State) where
  abbrev here : Names
  here = names_of p.program.functions p.program.globals s.top.function

  abbrev held : List Value
  held = s.world.registers

  value : (x : Operand) → source_value s.top.serial s.world.registers (source_of (names_of p.program.functions p.program.globals s.top.function) x) ≡ value_of p.program.globals (scope_of s.top) s.world.registers x
  value x = source_is p.program.functions p.program.globals s.top.function s.top.serial s.world.registers x

  target : (place : Place) → pointer_value s.top.serial s.world.registers (pointer_of (names_of p.program.functions p.program.globals s.top.function) place) ≡ place_value p.program.globals (scope_of s.top) s.world.registers place
  target place = pointer_is p.program.functions p.program.globals s.top.function s.top.serial s.world.registers place

  abbrev spot : List ℕ → Option ℕ
  spot name = register_place (registers_of s.top.function) name

  -- a statement does what its lowered form does
  pub performs_as : (x : Stmt) → performs p (instruction_of (names_of p.program.functions p.program.globals s.top.function) x) s ≡ perform p x s
  unfolding act does performs instruction_of value_in scalar_in
  performs_as (stmt.Copy to from) = λ i. acted s (Ok (assign s.world (spot to) (value from i)))
  performs_as (stmt.Arith to left op right) =
      λ i. acted s (by (arith_of p.mode (scalar_in (scope_of s.top) to) (value left i) op (value right i)) i)
    where
      by : (r : Result Value _) → assign_result s.world (spot to) r ≡ run.assign_result (scope_of s.top) s.world to r
      by (Ok v) = refl
      by (Err kind) = refl
  performs_as (stmt.Compare to left cmp right) = λ i. acted s (Ok (assign s.world (spot to) (one_if (compares (value left i) cmp (value right i)))))
  performs_as (stmt.Convert to scalar from) = λ i. acted s (Ok (assign s.world (spot to) (converted scalar (value from i))))
  performs_as (stmt.Load to scalar place) = λ i. acted s (by (found_at s.world.memory (target place i) scalar) i)
    where
      by : (r : Result _ _) → loaded s.world (spot to) r ≡ run.loaded (scope_of s.top) s.world to r
      by (Ok v) = refl
      by (Err kind) = refl
  performs_as (stmt.Store scalar place from) = λ i. acted s (stored s.world scalar (value from i) (found_at s.world.memory (target place i) scalar))
  performs_as (stmt.Call to callee arguments) =
      λ i. Reaches (enter p.program.structs s (taking_is p.program.functions p.program.globals s.top.function s.top.serial to i) (sources_are p.program.functions p.program.globals s.top.function s.top.serial s.world.registers arguments i) (called_by_name (function_is p.program.globals s.top.function p.program.functions callee i)))
  performs_as (stmt.Indirect to signature callee arguments) =
      λ i. Reaches (enter p.program.structs s (taking_is p.program.functions p.program.globals s.top.function s.top.serial to i) (sources_are p.program.functions p.program.globals s.top.function s.top.serial s.world.registers arguments i) (called_through p.program.functions signature (value_in (scope_of s.top) s.world.registers callee)))
  performs_as (stmt.Get to) = ap (λ (d : World). acted s (Ok d)) (by (slice_get s.world.input s.world.taken))
    where
      by : (o : Option ℤ) → got s.world (spot to) o ≡ run.got (scope_of s.top) s.world to o
      by None = refl
      by (Some z) = refl
  performs_as (stmt.Put from) = λ i. acted s (Ok (put s.world (value from i)))
  performs_as stmt.Abort = refl

-- ---- ends

position_labels : (label : ℕ) (bs : List Block) → position_or_len (λ l. l == label) (labels_of bs) ≡ position_or_len (λ (b : Block). b.label == label) bs
position_labels label [] = refl
position_labels label (b ∷ bs) = ap (λ n. cond (not (b.label == label)) (1 + n) 0) (position_labels label bs)

length_labels : (bs : List Block) → length (labels_of bs) ≡ length bs
length_labels [] = refl
length_labels (b ∷ bs) = ap suc (length_labels bs)

label_place : (label : ℕ) (bs : List Block) → position (λ l. l == label) (labels_of bs) ≡ position (λ (b : Block). b.label == label) bs
label_place label bs = λ i. cond (nat_lt (position_labels label bs i) (length_labels bs i)) (Some (position_labels label bs i)) None

labelled_from : (label k : ℕ) (bs : List Block) → block_from label k bs ≡ numbered (k + position_or_len (λ (b : Block). b.label == label) bs) (slice_get bs (position_or_len (λ (b : Block). b.label == label) bs))
unfolding block_from
labelled_from label k [] = refl
labelled_from label k (b ∷ bs) = by (b.label == label) (labelled_from label (k + 1) bs)
  where
    n : ℕ
    n = position_or_len (λ (c : Block). c.label == label) bs

    by : (t : Bool) → block_from label (k + 1) bs ≡ numbered (k + 1 + position_or_len (λ (c : Block). c.label == label) bs) (slice_get bs (position_or_len (λ (c : Block). c.label == label) bs)) →
        (if t then Some (k, b) else block_from label (k + 1) bs) ≡ numbered (k + cond (not t) (1 + position_or_len (λ (c : Block). c.label == label) bs) 0) (slice_get (b ∷ bs) (cond (not t) (1 + position_or_len (λ (c : Block). c.label == label) bs) 0))
    by true more = let e : k ≡ k + 0 = omega arith in λ i. Some (e i, b)
    by false more = more ∙ onward (position_or_len (λ (c : Block). c.label == label) bs)
      where
        onward : (m : ℕ) → numbered (k + 1 + m) (slice_get bs m) ≡ numbered (k + (1 + m)) (slice_get (b ∷ bs) (1 + m))
        onward m = let e : 1 + m ≡ suc m = omega arith in let a : k + 1 + m ≡ k + (1 + m) = omega arith in λ i. numbered (a i) (slice_get (b ∷ bs) (sym e i))

-- the first block of a label stands at its place
labelled_is : (label : ℕ) (bs : List Block) → labelled label bs ≡ block_at bs (position (λ (b : Block). b.label == label) bs)
labelled_is label bs = labelled_from label 0 bs ∙ by (nat_lt (position_or_len (λ (b : Block). b.label == label) bs) (length bs)) refl
  where
    by : (t : Bool) → nat_lt (position_or_len (λ (b : Block). b.label == label) bs) (length bs) ≡ t →
        numbered (0 + position_or_len (λ (b : Block). b.label == label) bs) (slice_get bs (position_or_len (λ (b : Block). b.label == label) bs)) ≡ block_at bs (cond t (Some (position_or_len (λ (b : Block). b.label == label) bs)) None)
    by true e = let z : 0 + position_or_len (λ (b : Block). b.label == label) bs ≡ position_or_len (λ (b : Block). b.label == label) bs = omega arith in λ i. numbered (z i) (slice_get bs (position_or_len (λ (b : Block). b.label == label) bs))
    by false e = ap (numbered (0 + position_or_len (λ (b : Block). b.label == label) bs)) (slice_get_past bs (position_or_len (λ (b : Block). b.label == label) bs) (ltb-false (position_or_len (λ (b : Block). b.label == label) bs) (length bs) e))

chosen_is : (n : Names) (z : ℤ) (cases : List Case) (other : ℕ) → chosen z (choices_of n cases) (block_place n other) ≡ block_place n (case_for z cases other)
chosen_is n z [] other = refl
chosen_is n z (c ∷ cs) other = by (cmp_of Eq z c.value) (chosen_is n z cs other)
  where
    by : (t : Bool) → chosen z (choices_of n cs) (block_place n other) ≡ block_place n (case_for z cs other) →
        chosen_or (if t then Some (choice_of n c) else find (λ (d : Choice). cmp_of Eq z d.value) (choices_of n cs)) (block_place n other) ≡ block_place n (case_target (if t then Some c else find (λ (d : Case). cmp_of Eq z d.value) cs) other)
    by true more = refl
    by false more = more

module _ (p : Sealed) (s : State) where
  abbrev there : Names
  there = names_of p.program.functions p.program.globals s.top.function

  read : (x : Operand) → source_value s.top.serial s.world.registers (source_of (names_of p.program.functions p.program.globals s.top.function) x) ≡ value_of p.program.globals (scope_of s.top) s.world.registers x
  read x = source_is p.program.functions p.program.globals s.top.function s.top.serial s.world.registers x

  jumps : (label : ℕ) → goes s (block_place (names_of p.program.functions p.program.globals s.top.function) label) ≡ jump s label
  jumps label = ap (λ (o : Option ℕ). goes s o) (label_place label s.top.function.blocks) ∙ sym (ap (jumped s) (labelled_is label s.top.function.blocks))

  branches : (t : Bool) (this that : ℕ) → goes s (if t then block_place there this else block_place there that) ≡ jump s (if t then this else that)
  branches true this that = jumps this
  branches false this that = jumps that

  -- an end leads where its lowered form does
  pub ends_as : (e : End) → ends (ending_of (names_of p.program.functions p.program.globals s.top.function) e) s ≡ finish p.program.globals e s
  unfolding ends ending_of
  ends_as (end.Goto label) = jumps label
  ends_as (end.If left cmp right this that) =
      (λ i. goes s (if compares (read left i) cmp (read right i) then block_place there this else block_place there that))
      ∙ branches (compares (value_of p.program.globals (scope_of s.top) s.world.registers left) cmp (value_of p.program.globals (scope_of s.top) s.world.registers right)) this that
  ends_as (end.Switch on cases other) =
      (λ i. goes s (chosen (any_number (read on i)) (choices_of there cases) (block_place there other)))
      ∙ ap (goes s) (chosen_is there (any_number (value_of p.program.globals (scope_of s.top) s.world.registers on)) cases other)
      ∙ jumps (case_for (any_number (value_of p.program.globals (scope_of s.top) s.world.registers on)) cases other)
  ends_as (end.Return None) = refl
  ends_as (end.Return (Some x)) = λ i. returned s (Some (read x i)) s.below
