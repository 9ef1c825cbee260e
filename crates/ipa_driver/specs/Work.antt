-- What the parts of a run promise to each other.
use Rattle.std.specs.Prelude.{◌≡◌, ◌⊎◌, ℕ, ◌+◌, ◌<◌, ◌≤◌, List, length, Some, IfSome, Result, Ok, Err, OnErr, ⊤}
use Rattle.shelf.specs.Outside.{Meaning, Rose, RoseBy, OnSource, LacksSource, Tells}
use Rattle.words.specs.declared.options.SourceName.{SourceName}
use Rattle.gimple_ir.specs.declared.scalar.Mode.{Mode}
use Rattle.gimple_core.specs.Sealed.{Sealed}
use Rattle.gimple_ir.specs.Spellable.{IsSpellable}
use Rattle.gimple_ir.specs.Counts.{IsCountable}
use Rattle.cp_lattices.specs.Few.{HasFewArguments}
use Rattle.ipa_driver.specs.declared.tool.Tool.{Tool}
use Rattle.ipa_driver.specs.declared.finish.Fault.{Fault}
use Rattle.ipa_driver.specs.declared.finish.Fault.TheVariants.{Read, Long, Text, Types, Memory}
use Rattle.ipa_driver.specs.Verdict.{LIMIT, BadText, BadTypes, Good, IsVerdict}
use Rattle.ipa_driver.specs.Source.{HasVerdict, MadeOf, WithinRoom}
use Rattle.ipa_driver.specs.Answers.{IsMessage}

-- what stays the same until every text is made
pub record Loads (old new : Meaning) : Type 0 where
  pub sources : new.sources ≡ old.sources
  pub stores : new.stores ≡ old.stores
  pub told : new.told ≡ old.told
  pub write : new.write_faults ≡ old.write_faults
  pub tell : new.tell_faults ≡ old.tell_faults
  pub read : old.read_faults ≤ new.read_faults
  pub taken : old.taken ≤ new.taken
  pub sure : IfSome old.sure (λ r. (new.sure ≡ Some r) × (new.read_faults ≡ old.read_faults))

-- the text of a fetch
pub record LoadsText (name : List ℕ) (old new : Meaning) (text : List ℕ) : Type 0 where
  pub source : OnSource old.sources name (λ bytes. text ≡ bytes)
  pub within : length text ≤ LIMIT
  pub read : new.read_faults ≡ old.read_faults

-- a fetch that gives no text
abbrev pub FetchRefused : List ℕ → Meaning → Meaning → Fault → Type 0
FetchRefused name old new Read = Rose old.read_faults new.read_faults ⊎ LacksSource old.sources name
FetchRefused name old new Long =
    RoseBy (LIMIT + 1) old.taken new.taken × OnSource old.sources name (λ bytes. LIMIT < length bytes)
FetchRefused name old new Memory = ⊤
FetchRefused name old new fault = ⊥

-- what is answered of a text whose program is to run in this mode
abbrev pub Judges : List ℕ → Mode → Result Sealed Fault → Type 0
Judges text mode (Ok checked) = IsVerdict text (Good checked.program) × (checked.mode ≡ mode)
Judges text mode (Err (Text f)) = IsVerdict text (BadText f)
Judges text mode (Err (Types f)) = IsVerdict text (BadTypes f)
Judges text mode (Err Memory) = ⊤
Judges text mode (Err f) = ⊥

-- a program that was fetched and accepted or generated, in this mode
pub record IsLoaded (words : List (List ℕ)) (source : SourceName) (wanted : Mode) (old new : Meaning) (checked : Sealed) : Type 0 where
  pub good : HasVerdict old.sources words source (Good checked.program)
  pub spellable : IsSpellable checked.program
  pub countable : IsCountable checked.program
  pub few : HasFewArguments checked.program
  pub mode : checked.mode ≡ wanted
  pub read : new.read_faults ≡ old.read_faults

-- what the work leaves as it is: no message is told yet
pub record WorkKeeps (old new : Meaning) : Type 0 where
  pub sources : new.sources ≡ old.sources
  pub told : new.told ≡ old.told
  pub tell : new.tell_faults ≡ old.tell_faults

-- Within what is sure no count rises, and a run that stores nothing uses nothing.
abbrev pub WorkSure : List (List ℕ) → SourceName → MadeOf → Meaning → Meaning → Result (Unit {0}) Fault → Type 0
WorkSure words input Makes old new result =
    IfSome old.sure (λ r. WithinRoom words input Makes old.sources r →
    (new.read_faults ≡ old.read_faults) × (new.write_faults ≡ old.write_faults) × OnErr result (new.sure ≡ Some r))

-- one message, or the line of status 5, is told
pub record MessageTold (tool : Tool) (input : List ℕ) (words : List (List ℕ)) (fault : Fault) (old new : Meaning) : Type 0 where
  pub message : List ℕ
  pub is_message : IsMessage tool input words fault message
  pub tells : Tells old new message
