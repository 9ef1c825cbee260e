-- Memory stays as it was until a statement that may write.
use Rattle.std.proofs.Common.{◌≡◌, ℕ, ℤ, ◌||◌, Bool, true, false, List, [], refl, sym, ◌∙◌, ap, subst, Option, Some, None, Result, Ok, Err, slice_get}
use Rattle.gimple_ir.specs.declared.value.Value.{Value}
use Rattle.gimple_ir.specs.declared.value.TrapKind.{TrapKind}
use Rattle.gimple_ir.specs.declared.program.Function.{Function}
use Rattle.gimple_ir.specs.declared.statement.Stmt.{Stmt}
use Rattle.gimple_ir.specs.declared.statement.Stmt.TheVariants.{Copy, Arith, Compare, Convert, Load, Store, Call, Indirect, Get, Put, Abort}
use Rattle.gimple_core.specs.declared.machine.FoundSlot.{FoundSlot}
use Rattle.gimple_core.specs.Sealed.{Sealed}
use Rattle.gimple_core.specs.Memory.{Memory}
use Rattle.gimple_core.specs.State.{World, Scope, Setting}
use Rattle.gimple_core.specs.Run.{Calling, act, assign_result, loaded, got, call_of, step}
use Rattle.gimple_claims.proofs.Points.{before, in_did_always}
use Rattle.fix_engine.specs.declared.lifted.Lifted.{Lifted}
use Rattle.fix_engine.specs.declared.lifted.Lifted.TheVariants.{Reached}
use Rattle.fix_engine.specs.Truth.{FitsAny, implies}
use Rattle.block_flow.specs.Runs.{ReachedWith, IsSound}
use Rattle.block_flow.specs.Unwritten.{may_write, unwritten, unwritten_laws, IsMemory, BeginsWith, memory_stays, UnwrittenHold}
use Rattle.block_flow.proofs.Exits.{branch_to}
use Rattle.block_flow.proofs.Holding.{solutions_hold}

-- ---- statements

abbrev Stays : World → Result World TrapKind → Type 0
Stays m (Ok w) = w.memory ≡ m.memory
Stays m (Err k) = Unit {0}

assigned : (scope : Scope) (m : World) (to : List ℕ) (r : Result Value TrapKind) → Stays m (assign_result scope m to r)
assigned scope m to (Ok v) = refl
assigned scope m to (Err k) = tt

read : (scope : Scope) (m : World) (to : List ℕ) (r : Result FoundSlot TrapKind) → Stays m (loaded scope m to r)
read scope m to (Ok f) = refl
read scope m to (Err k) = tt

taken : (scope : Scope) (m : World) (to : List ℕ) (o : Option ℤ) → (got scope m to o).memory ≡ m.memory
taken scope m to None = refl
taken scope m to (Some z) = refl

acted : (e : Setting) (scope : Scope) (x : Stmt) (m : World) → may_write x ≡ false → Stays m (act e scope x m)
unfolding act
acted e scope (Copy to from) m n = refl
acted e scope (Arith to left op right) m n = assigned scope m to _
acted e scope (Compare to left cmp right) m n = refl
acted e scope (Convert to scalar from) m n = refl
acted e scope (Load to scalar place) m n = read scope m to _
acted e scope (Store scalar place from) m n = cc
acted e scope (Call to callee arguments) m n = tt
acted e scope (Indirect to signature callee arguments) m n = tt
acted e scope (Get to) m n = taken scope m to (slice_get m.input m.taken)
acted e scope (Put from) m n = refl
acted e scope Abort m n = tt

stays : (e : Setting) (scope : Scope) (x : Stmt) (m w : World) → act e scope x m ≡ Ok w → may_write x ≡ false → w.memory ≡ m.memory
stays e scope x m w did n = subst (Stays m) did (acted e scope x m n)

call_writes : (x : Stmt) (c : Calling) → call_of x ≡ Some c → may_write x ≡ true
call_writes (Copy to from) c e = cc
call_writes (Arith to left op right) c e = cc
call_writes (Compare to left cmp right) c e = cc
call_writes (Convert to scalar from) c e = cc
call_writes (Load to scalar place) c e = cc
call_writes (Store scalar place from) c e = refl
call_writes (Call to callee arguments) c e = refl
call_writes (Indirect to signature callee arguments) c e = refl
call_writes (Get to) c e = cc
call_writes (Put from) c e = cc
call_writes Abort c e = cc

-- ---- what the analysis owes

says_less : (a b : Bool) (d m : Memory) → implies a b ≡ true → IsMemory a d m → IsMemory b d m
says_less true true d m e h = tt
says_less true false d m e h = cc
says_less false true d m e h = tt
says_less false false d m e h = h

after_statement : (a : Bool) (x : Stmt) (d m n : Memory) → (may_write x ≡ false → n ≡ m) → IsMemory a d m → IsMemory (a || may_write x) d n
after_statement true x d m n same h = tt
after_statement false x d m n same h = by (may_write x) refl
  where
    by : (b : Bool) → may_write x ≡ b → IsMemory b d n
    by true e = tt
    by false e = same e ∙ h

after_call : (a b : Bool) → b ≡ true → Reached (a || b) ≡ Reached true
after_call true b e = refl
after_call false b e = ap (λ (c : Bool). Reached c) e

called_back : (d m : Memory) (y : Lifted Bool) → y ≡ Reached true → ReachedWith (λ a. IsMemory a d m) y
called_back d m y h = subst (ReachedWith (λ a. IsMemory a d m)) (sym h) tt

sound : (p : Sealed) (input : List ℤ) (f : Function) (d : Memory) → IsSound p input f (FitsAny []) implies unwritten (memory_stays p f d)
sound p input f d = record {
  earlier = λ serial past es given. before (BeginsWith p f d serial) past es given;
  rises = λ a b past c w f g e h. says_less a b d w.memory e h;
  enters = λ past serial arguments m caller takes b bs w own be made memory given kindly. memory ∙ given.0 refl;
  statement = λ past s x xs w a comes same e uncalled did given kindly g h. after_statement a x d s.world.memory w.memory (stays _ _ x s.world w did) h;
  calls = λ past s x xs c t a comes same e is did given g h. after_call a (may_write x) (call_writes x c is);
  others = λ past s c registers takes y comes given h. in_did_always _ (λ t. h) (step p s);
  back = λ past s c registers v y comes same e x given kindly h. called_back d _ y h;
  jumps = λ past s label k b a comes same e t be given g h. let to = branch_to p.program.globals s.top.end s label t in (to.0, to.1, h);
}

pub unwritten_hold : UnwrittenHold
unwritten_hold p f d xs accepted solves = solutions_hold p f FitsAny implies [] unwritten unwritten_laws (memory_stays p f d) xs solves accepted (λ input numbers. sound p input f d)
