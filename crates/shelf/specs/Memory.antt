-- What a shelf in memory holds, and what each of its calls does, exactly.
use Rattle.std.specs.Prelude.{◌≡◌, ℕ, ◌+◌, ◌-◌, ◌^◌, min, List, [], ◌∷◌, ◌++◌, length, take, find, ◌==◌, nat_lt, nat_le, ◌⊎◌, is_some, MatchOption, MatchBool, if◌then◌else◌, Option, None, Some}
use Rattle.std.specs.Option.{option_map}
use Rattle.std.specs.Str.{bytes_eq}
use Rattle.shelf.specs.declared.memory.Fail.{Fail}
use Rattle.shelf.specs.declared.memory.Source.{Source}
use Rattle.std.specs.FinMap.{from_entries, empty}
use Rattle.shelf.specs.declared.outside.Fetched.{Fetched}
use Rattle.shelf.specs.declared.outside.Fetched.TheVariants.{Done, Failed, Long, Memory as Memory_}
use Rattle.shelf.specs.declared.outside.Stored.{Stored}
use Rattle.shelf.specs.declared.outside.Stored.TheVariants.{Done as StoredDone, Failed as StoredFailed}
use Rattle.shelf.specs.Outside.{Meaning, put_all}
use Rattle.shelf.specs.Kept.{Kept}

pub record Memory : Type 0 where
  -- the first one put in first
  pub sources : List Source
  pub fails : List Fail
  pub log : Kept
  pub calls : ℕ
  pub read_faults : ℕ
  pub write_faults : ℕ
  pub tell_faults : ℕ
  pub taken : ℕ

-- what the first fail of this call keeps
abbrev pub fail_of : List Fail → ℕ → Option ℕ
fail_of fails call = option_map (λ f. f.kept) (find (λ f. f.call == call) fails)

-- the first source of this name
abbrev pub source_of : List Source → List ℕ → Option (List ℕ)
source_of sources name = option_map (λ s. s.bytes) (find (λ s. bytes_eq name s.name) sources)

abbrev pub kept_of : List ℕ → Option ℕ → List ℕ
kept_of bytes None = bytes
kept_of bytes (Some count) = take count bytes

abbrev pub new_memory : ℕ → List Fail → Memory
new_memory room fails = record {
  sources = [];
  fails = fails;
  log = record { entries = []; told = []; room = room };
  calls = 0;
  read_faults = 0;
  write_faults = 0;
  tell_faults = 0;
  taken = 0;
}

abbrev pub with_source : Memory → List ℕ → List ℕ → Memory
with_source m name bytes = record m { sources = m.sources ++ record { name = name; bytes = bytes } ∷ [] }

-- a number that stands still at its end
abbrev pub raised : ℕ → ℕ → ℕ
raised n by = min (n + by) (2 ^ 64 - 1)

abbrev pub called : Memory → Memory
called m = record m { calls = raised m.calls 1 }

-- the fail of the next call
abbrev pub next_fail : Memory → Option ℕ
next_fail m = fail_of m.fails (raised m.calls 1)

abbrev pub FetchesExactly : Memory → Memory → List ℕ → ℕ → Fetched → List ℕ → Type 0
FetchesExactly old new name limit result into =
    MatchOption (next_fail old)
    (MatchOption (source_of old.sources name)
    ((result ≡ Failed) × (new ≡ called old))
    (λ bytes. MatchBool (nat_lt limit (length bytes))
    ((result ≡ Long) × (new ≡ record old { calls = raised old.calls 1; taken = raised old.taken (limit + 1) }))
    ((((result ≡ Done) × (into ≡ bytes)) ⊎ (result ≡ Memory_))
    × (new ≡ record old { calls = raised old.calls 1; taken = raised old.taken (length bytes) }))))
    (λ _. (result ≡ Failed) × (new ≡ record old { calls = raised old.calls 1; read_faults = raised old.read_faults 1 }))

abbrev pub with_store : Kept → List ℕ → List ℕ → Kept
with_store log name bytes = record { entries = log.entries ++ (name, bytes) ∷ []; told = log.told; room = log.room - (1 + length name + length bytes) }

abbrev pub with_told : Kept → List ℕ → Kept
with_told log bytes = record { entries = log.entries; told = log.told ++ bytes; room = log.room - length bytes }

-- one more fault, where the call has a fail
abbrev pub failed_once : Option ℕ → ℕ → ℕ
failed_once fail count = if is_some fail then raised count 1 else count

abbrev pub StoresExactly : Memory → Memory → List ℕ → List ℕ → Stored → Type 0
StoresExactly old new name bytes result =
    let kept = kept_of bytes (next_fail old) in
    MatchBool (nat_le (1 + length name + length kept) old.log.room)
    ((result ≡ (if is_some (next_fail old) then StoredFailed else StoredDone))
    × (new ≡ record old { calls = raised old.calls 1; log = with_store old.log name kept; write_faults = failed_once (next_fail old) old.write_faults }))
    ((result ≡ StoredFailed) × (new ≡ record old { calls = raised old.calls 1; write_faults = raised old.write_faults 1 }))

abbrev pub TellsExactly : Memory → Memory → List ℕ → Type 0
TellsExactly old new bytes =
    let kept = kept_of bytes (next_fail old) in
    MatchBool (nat_le (length kept) old.log.room)
    (new ≡ record old { calls = raised old.calls 1; log = with_told old.log kept; tell_faults = failed_once (next_fail old) old.tell_faults })
    (new ≡ record old { calls = raised old.calls 1; tell_faults = raised old.tell_faults 1 })

abbrev pub source_pairs : List Source → List (List ℕ × List ℕ)
source_pairs [] = []
source_pairs (s ∷ ss) = (s.name, s.bytes) ∷ source_pairs ss

-- A shelf in memory tells all. It is sure of its room, where it has no fails.
abbrev pub memory_meaning : Memory → Meaning
memory_meaning m = record {
  sources = Some (from_entries (source_pairs m.sources));
  stores = Some (put_all m.log.entries empty);
  told = Some m.log.told;
  read_faults = m.read_faults;
  write_faults = m.write_faults;
  tell_faults = m.tell_faults;
  taken = m.taken;
  sure = if length m.fails == 0 then Some m.log.room else None;
}
