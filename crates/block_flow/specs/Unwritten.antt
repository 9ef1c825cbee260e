-- A small analysis: at which points memory is as it was when the function was entered.
use Rattle.std.specs.Prelude.{◌≡◌, ℕ, ◌||◌, Bool, true, false, List, [], None, refl}
use Rattle.std.specs.List.{AllByRecursion}
use Rattle.gimple_ir.specs.declared.program.Function.{Function}
use Rattle.gimple_ir.specs.declared.statement.Stmt.{Stmt}
use Rattle.gimple_ir.specs.declared.statement.Stmt.TheVariants.{Store, Call, Indirect}
use Rattle.gimple_core.specs.Sealed.{Sealed}
use Rattle.gimple_core.specs.Accepted.{first_fault}
use Rattle.gimple_core.specs.Memory.{Memory}
use Rattle.gimple_core.specs.Run.{with_locals}
use Rattle.gimple_core.specs.Trace.{Event, Entry, At, Load, Store as StoreEvent, Leave, InEachRun}
use Rattle.fix_engine.specs.declared.lifted.Lifted.{Lifted}
use Rattle.fix_engine.specs.declared.lifted.Lifted.TheVariants.{Reached}
use Rattle.fix_engine.specs.Truth.{FitsAny, implies}
use Rattle.block_flow.specs.Steps.{BodySteps, StepsLaws}
use Rattle.block_flow.specs.System.{Solves}
use Rattle.block_flow.specs.Runs.{Assertion, PointClaim}

-- ---- the analysis: true is, it may have changed

abbrev pub may_write : Stmt → Bool
may_write (Store scalar place from) = true
may_write (Call to callee arguments) = true
may_write (Indirect to signature callee arguments) = true
may_write x = false

abbrev pub unwritten : BodySteps Bool
unwritten = record { begin = Reached false; statement = λ k i x a. Reached (a || may_write x); branch = λ k e slot a. Reached a }

or_rises : (a b c : Bool) → implies a b ≡ true → implies (a || c) (b || c) ≡ true
or_rises true true c e = refl
or_rises true false c e = cc
or_rises false true true e = refl
or_rises false true false e = refl
or_rises false false true e = refl
or_rises false false false e = refl

pub unwritten_laws : StepsLaws FitsAny implies [] unwritten
unwritten_laws = record {
  begin_fits = tt;
  statement_fits = λ k i x a f. tt;
  statement_rises = λ k i x a b f g e. or_rises a b (may_write x) e;
  branch_fits = λ k e slot a f. tt;
  branch_rises = λ k e slot a b f g r. r;
}

-- ---- what it says

abbrev pub IsMemory : Bool → Memory → Memory → Type 0
IsMemory true d m = Unit {0}
IsMemory false d m = m ≡ d

-- the activation of this serial begins with this memory, which has its locals
abbrev pub BeginsWith : Sealed → Function → Memory → ℕ → Event → Type 0
BeginsWith p f d serial (Entry s g arguments m caller) = s ≡ serial → with_locals p.program.structs serial 0 f.locals m ≡ d
BeginsWith p f d serial (At c w) = Unit {0}
BeginsWith p f d serial (Load c scalar object offset v) = Unit {0}
BeginsWith p f d serial (StoreEvent c scalar object offset v) = Unit {0}
BeginsWith p f d serial (Leave s) = Unit {0}

-- of an activation that begins with it, memory is still this where the value is false; after a call it never is
abbrev pub memory_stays : Sealed → Function → Memory → Assertion Bool
memory_stays p f d = record {
  Given = λ serial past. AllByRecursion (BeginsWith p f d serial) past;
  Says = λ a past c w. IsMemory a d w.memory;
  Waits = λ y past c registers takes m. y ≡ Reached true;
}

-- so in each run, at each point of each activation
abbrev pub UnwrittenHold : Type 0
UnwrittenHold = (p : Sealed) (f : Function) (d : Memory) (xs : List (Lifted Bool)) → first_fault p.program ≡ None → Solves FitsAny implies [] unwritten f.blocks xs → InEachRun p (PointClaim f unwritten (memory_stays p f d) xs)
