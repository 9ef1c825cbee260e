-- How a run answers, and the cause of each answer.
use Rattle.std.specs.Prelude.{◌≡◌, ◌⊎◌, ℕ, ◌+◌, ◌≤◌, List, [], length, Option, None, Some, IfSome, Result, Ok, Err, IfOk, MatchResult, ⊤}
use Rattle.std.specs.Option.{option_map}
use Rattle.shelf.specs.Outside.{Meaning, Contents, put_all, Rose, RoseBy, Appends, IsToldCut}
use Rattle.words.specs.declared.options.Name.{Name}
use Rattle.words.specs.declared.options.SourceName.{SourceName}
use Rattle.words.specs.declared.options.UsageFault.{UsageFault}
use Rattle.gimple_ir.specs.declared.program.Program.{Program}
use Rattle.gimple_text.specs.declared.fault.TextFault.{TextFault}
use Rattle.gimple_text.specs.declared.fault.TextFault.TheVariants.{BadByte, BadToken, EarlyEnd, Memory as TextMemory}
use Rattle.ipa_driver.specs.declared.finish.Fault.{Fault}
use Rattle.ipa_driver.specs.declared.finish.Finish.{Finish}
use Rattle.ipa_driver.specs.declared.finish.Fault.TheVariants.{Usage, Read, Long, Text, Types, Write, Memory}
use Rattle.ipa_driver.specs.declared.outputs.Output.{Output}
use Rattle.ipa_driver.specs.declared.tool.Tool.{Tool}
use Rattle.ipa_driver.specs.Verdict.{LIMIT, TooLong, BadText, BadTypes, Good}
use Rattle.ipa_driver.specs.Source.{input_name, HasVerdict, IsUnread, MadeOf, WithinRoom, IsGoodSource}
use Rattle.ipa_driver.specs.Stores.{pairs, IsCut}
use Rattle.ipa_driver.specs.Messages.{message_of, memory_line}

-- statuses

abbrev pub fault_status : Fault → ℕ
fault_status (Usage f) = 2
fault_status Read = 3
fault_status Long = 1
fault_status (Text f) = 1
fault_status (Types f) = 1
fault_status (Write name) = 4
fault_status Memory = 5

abbrev pub status_of : Option Fault → ℕ
status_of None = 0
status_of (Some f) = fault_status f

-- a fault that a text can have, which is never want of memory
abbrev pub IsOfText : TextFault → Type 0
IsOfText (BadByte spot) = ⊤
IsOfText (BadToken spot) = ⊤
IsOfText (EarlyEnd spot) = ⊤
IsOfText (TextMemory want) = ⊥

-- the rows of the table of answers that come before any store
abbrev pub Refused : List (List ℕ) → SourceName → Meaning → Meaning → Fault → Type 0
Refused words source old new (Usage f) = ⊥
Refused words source old new Read = IsUnread words source old new
Refused words source old new Long =
    RoseBy (LIMIT + 1) old.taken new.taken × HasVerdict old.sources words source TooLong
Refused words source old new (Text f) = IsOfText f × HasVerdict old.sources words source (BadText f)
Refused words source old new (Types f) = HasVerdict old.sources words source (BadTypes f)
Refused words source old new (Write name) = ⊥
Refused words source old new Memory = ⊤

-- Status 0: the source is good, every text made of it is stored, and nothing else is touched or told.
pub record IsDone (words : List (List ℕ)) (input : SourceName) (Makes : MadeOf) (old new : Meaning) : Type 0 where
  pub source : Program
  pub outputs : List Output
  pub good : HasVerdict old.sources words input (Good source)
  pub made : Makes source outputs
  pub stores : new.stores ≡ option_map (put_all (pairs words outputs)) old.stores
  pub told : new.told ≡ old.told
  pub read : new.read_faults ≡ old.read_faults
  pub write : new.write_faults ≡ old.write_faults
  pub tell : new.tell_faults ≡ old.tell_faults

-- Status 4: the source is good, and the shelf failed in the store of this name, which is one of those to be stored.
pub record IsNotWritten (words : List (List ℕ)) (input : SourceName) (Makes : MadeOf) (old new : Meaning) (name : Name) : Type 0 where
  pub source : Program
  pub outputs : List Output
  pub good : HasVerdict old.sources words input (Good source)
  pub made : Makes source outputs
  pub rose : Rose old.write_faults new.write_faults
  pub cut : IsCut words outputs name old.stores new.stores

-- The table of answers, for lawful words. With an answer that comes before any store the stores stay, and no store has failed.
abbrev pub Answer : List (List ℕ) → SourceName → MadeOf → Meaning → Meaning → Option Fault → Type 0
Answer words input Makes old new None = IsDone words input Makes old new
Answer words input Makes old new (Some (Write name)) = IsNotWritten words input Makes old new name
Answer words input Makes old new (Some f) = Refused words input old new f × (new.stores ≡ old.stores) × (new.write_faults ≡ old.write_faults)

-- Faulty words: this answer whatever memory there is, and nothing is fetched or stored.
pub record IsMisused (f : UsageFault) (old new : Meaning) (answer : Option Fault) : Type 0 where
  pub fault : answer ≡ Some (Usage f)
  pub stores : new.stores ≡ old.stores
  pub taken : new.taken ≡ old.taken
  pub read : new.read_faults ≡ old.read_faults
  pub write : new.write_faults ≡ old.write_faults

-- messages

-- the message of this fault, or the line of status 5, where no memory was found for it
abbrev pub IsMessage : Tool → List ℕ → List (List ℕ) → Fault → List ℕ → Type 0
IsMessage tool input words fault message = (message ≡ message_of tool input words fault) ⊎ (message ≡ memory_line tool)

-- no count of faults has risen
pub record NoneRose (old new : Meaning) : Type 0 where
  pub read : new.read_faults ≡ old.read_faults
  pub write : new.write_faults ≡ old.write_faults
  pub tell : new.tell_faults ≡ old.tell_faults

-- A run that ends otherwise than with status 0 tells one message. Where it surely fits, as all stores do, it is told whole,
-- and no count of faults rises.
pub record TellsOne (tool : Tool) (input : List ℕ) (words : List (List ℕ)) (Fits : ℕ → Type 0) (fault : Fault) (old new : Meaning) : Type 0 where
  pub message : List ℕ
  pub is_message : IsMessage tool input words fault message
  pub told : Appends old.told new.told message ⊎ IsToldCut old new message
  pub sure : IfSome old.sure (λ r. length message ≤ r → Fits r → NoneRose old new × Appends old.told new.told message)

-- completeness

-- With a good source and a shelf that did not fail, the run is done, or memory was wanting.
abbrev pub IsComplete : List (List ℕ) → SourceName → Meaning → Meaning → Option Fault → Type 0
IsComplete words input old new fault =
    IsGoodSource words input old.sources
    → (Rose old.read_faults new.read_faults → ⊥)
    → (Rose old.write_faults new.write_faults → ⊥)
    → (fault ≡ None) ⊎ (fault ≡ Some Memory)

-- ---- a top call

-- the input's name, where the words are lawful
abbrev pub named_input : {X : Type 0} → List (List ℕ) → (X → SourceName) → Result X UsageFault → List ℕ
named_input words source (Ok o) = input_name words (source o)
named_input words source (Err f) = []

-- there is room for all outputs, if the words are lawful and the source is there and good
abbrev pub CanStore : {X : Type 0} → List (List ℕ) → (X → SourceName) → (X → MadeOf) → Option Contents → Result X UsageFault → ℕ → Type 0
CanStore words source Makes sources (Ok o) r = WithinRoom words (source o) (Makes o) sources r
CanStore words source Makes sources (Err f) r = ⊤

-- How a top call ends that read this of its words: options, which name a source and say what outputs a run on a program may have, or the first fault.
pub record TopAnswers {X : Type 0} (tool : Tool) (words : List (List ℕ)) (read : Result X UsageFault) (source : X → SourceName) (Makes : X → MadeOf) (old new : Meaning) (finish : Finish) : Type 0 where
  pub status : finish.status ≡ status_of finish.fault
  -- the row of the table of answers
  pub answer : MatchResult read (λ o. Answer words (source o) (Makes o) old new finish.fault) (λ f. IsMisused f old new finish.fault)
  -- one message where the status is not 0
  pub told : IfSome finish.fault (λ fault. TellsOne tool (named_input words source read) words (CanStore words source Makes old.sources read) fault old new)
  -- lawful words and a good source are enough where the shelf did not fail
  pub complete : IfOk read (λ o. IsComplete words (source o) old new finish.fault)
