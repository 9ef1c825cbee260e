-- A program in which the functions of a class are one.
use Rattle.std.specs.Prelude.{◌≡◌, ◌↔◌, ℕ, ℤ, ◌==◌, Bool, ◌||◌, if◌then◌else◌, List, map, slice_get, Option, Some, None, IsTrue, ◌⊎◌}
use Rattle.gimple_ir.specs.declared.statement.Stmt.{Stmt}
use Rattle.gimple_ir.specs.declared.statement.Stmt.TheVariants.{Copy, Arith, Compare, Convert, Load, Store, Call, Indirect, Get, Put, Abort}
use Rattle.gimple_ir.specs.declared.block.Block.{Block}
use Rattle.gimple_ir.specs.declared.program.Function.{Function}
use Rattle.gimple_ir.specs.declared.program.Program.{Program}
use Rattle.gimple_core.specs.Accepted.{IsAccepted}
use Rattle.gimple_core.specs.Sealed.{Sealed}
use Rattle.gimple_core.specs.Run.{function_named, main_name, Run}
use Rattle.gimple_core.specs.Reach.{IsAddressed, with_kept}
use Rattle.icf_classes.specs.Placed.{number_of}
use Rattle.icf_classes.specs.Congruence.{class_of, AreClasses}

abbrev pub name_or : List ℕ → Option Function → List ℕ
name_or name None = name
name_or name (Some f) = f.name

-- the name of the representative
unfoldable pub representative : Program → List ℕ → List ℕ → List ℕ
representative p classes name = name_or name (slice_get p.functions (class_of classes (number_of p name)))

-- what is called in the place of a function: itself if it stays, else the representative of its class
abbrev pub sent : Program → (List ℕ → Bool) → List ℕ → List ℕ → List ℕ
sent p stays classes name = if stays name then name else representative p classes name

-- ---- each direct call sent to what is called in the place of its callee, all else as it is

abbrev pub sent_stmt : (List ℕ → List ℕ) → Stmt → Stmt
sent_stmt to (Call target callee arguments) = Call target (to callee) arguments
sent_stmt to (Copy target from) = Copy target from
sent_stmt to (Arith target left op right) = Arith target left op right
sent_stmt to (Compare target left cmp right) = Compare target left cmp right
sent_stmt to (Convert target scalar from) = Convert target scalar from
sent_stmt to (Load target scalar place) = Load target scalar place
sent_stmt to (Store scalar place from) = Store scalar place from
sent_stmt to (Indirect target signature callee arguments) = Indirect target signature callee arguments
sent_stmt to (Get target) = Get target
sent_stmt to (Put from) = Put from
sent_stmt to Abort = Abort

abbrev pub sent_body : (List ℕ → List ℕ) → List Stmt → List Stmt
sent_body to xs = map (sent_stmt to) xs

abbrev pub sent_block : (List ℕ → List ℕ) → Block → Block
sent_block to b = record b { body = sent_body to b.body }

abbrev pub sent_function : (List ℕ → List ℕ) → Function → Function
sent_function to f = record f { blocks = map (sent_block to) f.blocks }

abbrev pub sent_program : (List ℕ → List ℕ) → Program → Program
sent_program to p = record p { functions = map (sent_function to) p.functions }

-- ---- without those that are replaced

-- a function that stays, and a representative
abbrev pub is_kept : Program → (List ℕ → Bool) → List ℕ → List ℕ → Bool
is_kept p stays classes name = stays name || class_of classes (number_of p name) == number_of p name

abbrev pub merged : Program → (List ℕ → Bool) → List ℕ → Program
merged p stays classes = with_kept (is_kept p stays classes) (sent_program (sent p stays classes) p)

-- The program in which each direct call of a function that is neither main nor addressed goes to the representative of
-- its class, without those of these functions that are not their own representative; in the order of the program.
pub record IsMerged (p : Program) (classes : List ℕ) (q : Program) : Type 0 where
  pub stays : List ℕ → Bool
  pub exact : (name : List ℕ) (f : Function) → function_named name p.functions ≡ Some f → IsTrue (stays name) ↔ ((name ≡ main_name) ⊎ IsAddressed p name)
  pub program : q ≡ merged p stays classes

-- a program runs as before, in either mode, where the functions of each class are one
abbrev pub MergingKeepsRuns : Type 0
MergingKeepsRuns = (p q : Sealed) (classes : List ℕ) → IsAccepted p.program → AreClasses p.program classes → IsMerged p.program classes q.program → q.mode ≡ p.mode → (input : List ℤ) (n : ℕ) → Run q input n ≡ Run p input n
