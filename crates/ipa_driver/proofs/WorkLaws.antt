-- From a program that was loaded, and its texts, to the answer.
use Rattle.std.proofs.Common.{◌≡◌, ℕ, ◌-◌, ◌≤◌, List, Option, Some, None, Result, Ok, Err, refl, sym, ap, ◌∙◌, subst}
use Rattle.std.specs.Prelude.{IsOkAnd}
use Rattle.std.specs.Option.{IsSomeAnd, IfSome}
use Rattle.shelf.specs.Outside.{Meaning, Contents, at_name}
use Rattle.words.specs.declared.options.Name.{Name}
use Rattle.words.specs.declared.options.SourceName.{SourceName}
use Rattle.words.specs.declared.options.SourceName.TheVariants.{File, Generate}
use Rattle.words.specs.Words.{bytes_of}
use Rattle.gimple_ir.specs.declared.scalar.Mode.{Mode}
use Rattle.gimple_core.specs.Sealed.{Sealed}
use Rattle.gimple_gen.specs.Generated.{generated}
use Rattle.ipa_driver.specs.declared.outputs.Output.{Output}
use Rattle.ipa_driver.specs.Verdict.{Good, IsVerdict}
use Rattle.ipa_driver.specs.Stores.{pairs, total, StoresOnly, AreStored, IsCut, IsStoreFault, StaysSure}
use Rattle.ipa_driver.specs.Source.{HasVerdict, MadeOf, CostsAtMost, WithinRoom}
use Rattle.ipa_driver.specs.Answers.{IsDone, IsNotWritten}
use Rattle.ipa_driver.specs.Work.{Loads, IsLoaded}
use Rattle.gimple_ir.specs.declared.program.Program.{Program}
use Rattle.gimple_ir.specs.Counts.{IsCountable}
use Rattle.gimple_ir.specs.Spellable.{IsSpellable}
use Rattle.words.specs.Limits.{IsLawfulSource}
use Rattle.cp_lattices.specs.Few.{HasFewArguments}
use Rattle.ipa_driver.proofs.FewLaws.{few_generated}

-- a generated program is loaded
pub generated_loaded : (words : List (List ℕ)) (n : ℕ) (mode : Mode) (old : Meaning) (p : Program) → IsLawfulSource (Generate n) → p ≡ generated n → IsSpellable p → IsCountable p → IsLoaded words (Generate n) mode old old (record { program = p; mode = mode })
generated_loaded words n mode old p lawful e spellable countable = record {
  good = ap Good e;
  spellable = spellable;
  countable = countable;
  few = subst HasFewArguments (sym e) (few_generated n lawful.1);
  mode = refl;
  read = refl;
}

module _ (words : List (List ℕ)) (input : SourceName) (mode : Mode) (Makes : MadeOf) (old mid new : Meaning) (checked : Sealed) (outputs : List Output)
    (loads : Loads old mid) (loaded : IsLoaded words input mode old mid checked)
    (made : Makes checked.program outputs) (only : StoresOnly mid new) where
  pub done : AreStored words outputs mid new → IsDone words input Makes old new
  done s = record {
    source = checked.program;
    outputs = outputs;
    good = loaded.good;
    made = made;
    stores = rw (s.stores, loads.stores);
    told = only.told ∙ loads.told;
    read = only.read ∙ loaded.read;
    write = s.write ∙ loads.write;
    tell = only.tell ∙ loads.tell;
  }

  pub not_written : (name : Name) → IsStoreFault words outputs mid new name → IsNotWritten words input Makes old new name
  not_written name s = record {
    source = checked.program;
    outputs = outputs;
    good = loaded.good;
    made = made;
    rose = rw (sym loads.write) s.rose;
    cut = subst (λ (st : Option Contents). IsCut words outputs name st new.stores) loads.stores s.cut;
  }

  some_fits : (r : ℕ) (found : Option (List ℕ)) → IsSomeAnd found (λ bytes. IsVerdict bytes (Good checked.program)) → IfSome found (CostsAtMost words Makes r) → total (pairs words outputs) ≤ r
  some_fits r None h room = absurd h
  some_fits r (Some bytes) h room = room checked.program h outputs made

  source_fits : (r : ℕ) (sources : Option Contents) (source : SourceName) → HasVerdict sources words source (Good checked.program) → WithinRoom words source Makes sources r → total (pairs words outputs) ≤ r
  source_fits r None (File name) h room = absurd room
  source_fits r (Some m) (File name) h room = some_fits r (at_name m (bytes_of words name)) h room
  source_fits r sources (Generate n) h room =
      let same : checked.program ≡ generated n = cc in
      room outputs (subst (λ p. Makes p outputs) same made)

  surely : (r : ℕ) (result : Result (Unit {0}) Name) → StaysSure words outputs mid new result → mid.sure ≡ Some r → WithinRoom words input Makes old.sources r → IsOkAnd result (λ _. (new.write_faults ≡ mid.write_faults) × (new.sure ≡ Some (r - total (pairs words outputs))))
  surely r result h e room =
      let s = subst (λ (m : Option ℕ). IfSome m (λ r. total (pairs words outputs) ≤ r → IsOkAnd result (λ _. (new.write_faults ≡ mid.write_faults) × (new.sure ≡ Some (r - total (pairs words outputs)))))) e h in
      s (source_fits r old.sources input loaded.good room)

  some_done : (s : Option ℕ) → IfSome s (λ r. (mid.sure ≡ Some r) × (mid.read_faults ≡ old.read_faults)) → StaysSure words outputs mid new (Ok tt) → IfSome s (λ r. WithinRoom words input Makes old.sources r → (new.read_faults ≡ old.read_faults) × (new.write_faults ≡ old.write_faults) × Unit {0})
  some_done None l h = tt
  some_done (Some r) l h = λ room. let x = surely r (Ok tt) h l.0 room in (only.read ∙ l.1, x.0 ∙ loads.write, tt)

  some_failed : (name : Name) (s : Option ℕ) → IfSome s (λ r. (mid.sure ≡ Some r) × (mid.read_faults ≡ old.read_faults)) → StaysSure words outputs mid new (Err name) → IfSome s (λ r. WithinRoom words input Makes old.sources r → (new.read_faults ≡ old.read_faults) × (new.write_faults ≡ old.write_faults) × (new.sure ≡ Some r))
  some_failed name None l h = tt
  some_failed name (Some r) l h = λ room. absurd (surely r (Err name) h l.0 room)

  pub sure_failed : (name : Name) → StaysSure words outputs mid new (Err name) → IfSome old.sure (λ r. WithinRoom words input Makes old.sources r → (new.read_faults ≡ old.read_faults) × (new.write_faults ≡ old.write_faults) × (new.sure ≡ Some r))
  sure_failed name h = some_failed name old.sure loads.sure h

  pub sure_done : StaysSure words outputs mid new (Ok tt) → IfSome old.sure (λ r. WithinRoom words input Makes old.sources r → (new.read_faults ≡ old.read_faults) × (new.write_faults ≡ old.write_faults) × Unit {0})
  sure_done h = some_done old.sure loads.sure h
