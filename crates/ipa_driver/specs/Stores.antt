-- What a run stores.
use Rattle.std.specs.Prelude.{◌≡◌, ◌⊎◌, ℕ, ◌-◌, ◌≤◌, List, [], ◌∷◌, ◌++◌, take, sum_by, is_some, Option, None, Some, IfSome, Result, IsOkAnd}
use Rattle.std.specs.Option.{option_map}
use Rattle.shelf.specs.Outside.{Meaning, Contents, put_all, cost_of, Rose}
use Rattle.words.specs.declared.options.Name.{Name}
use Rattle.words.specs.declared.options.Options.{Options}
use Rattle.words.specs.Words.{bytes_of}
use Rattle.gimple_ir.specs.declared.program.Program.{Program}
use Rattle.gimple_text.specs.Parse.{Spells}
use Rattle.gimple_text.specs.Canon.{canon}
use Rattle.ipa_driver.specs.declared.passes.Asked.{Asked}
use Rattle.ipa_driver.specs.declared.passes.Product.{Product}
use Rattle.ipa_driver.specs.declared.outputs.Row.{Row}
use Rattle.ipa_driver.specs.declared.outputs.Output.{Output}
use Rattle.ipa_driver.specs.Pipeline.{IsMade}

-- which texts the words ask for
abbrev pub asked_of : Options → Asked
asked_of o = record {
  cgraph = is_some o.cgraph;
  icf = is_some o.icf;
  cp = is_some o.cp;
  sra = is_some o.sra;
  modref = is_some o.modref;
  summary = is_some o.summary;
}

abbrev pub row : Option Name → List ℕ → Row
row name text = record { name = name; text = text }

-- all texts of a run with the names that they were given, in the order of the stores: the dumps, the summary and the output's text
unfoldable pub output_rows : Options → Product → List ℕ → List Row
output_rows o product text =
    row o.cgraph product.cgraph
    ∷ row o.icf product.icf
    ∷ row o.cp product.cp
    ∷ row o.sra product.sra
    ∷ row o.modref product.modref
    ∷ row o.summary product.summary
    ∷ row (Some o.output) text
    ∷ []

abbrev pub asked_output : Option Name → List ℕ → List Output
asked_output None text = []
asked_output (Some name) text = record { name = name; text = text } ∷ []

-- those that were given a name
unfoldable pub asked_outputs : List Row → List Output
asked_outputs [] = []
asked_outputs (r ∷ rs) = asked_output r.name r.text ++ asked_outputs rs

-- what a run stores of what the passes made, in this order
abbrev pub output_list : Options → Product → List Output
output_list o product = asked_outputs (output_rows o product (canon product.program.program))

-- each as its name's bytes and its text
abbrev pub pairs : List (List ℕ) → List Output → List (List ℕ × List ℕ)
pairs words [] = []
pairs words (x ∷ xs) = (bytes_of words x.name, x.text) ∷ pairs words xs

-- how many bytes the stores cost
abbrev pub total : List (List ℕ × List ℕ) → ℕ
total pairs = sum_by cost_of pairs

-- All texts of a run on this program in the mode of the words: the output's text is its program's own, and the program may stand for the
-- source.
pub record AreOutputs (o : Options) (p : Program) (outputs : List Output) : Type 0 where
  pub product : Product
  pub made : IsMade (record { program = p; mode = o.mode }) (asked_of o) o.passes o.params product
  pub spelled : Spells (canon product.program.program) product.program.program
  pub texts : outputs ≡ output_list o product

-- what stores leave as it is
pub record StoresOnly (old new : Meaning) : Type 0 where
  pub sources : new.sources ≡ old.sources
  pub told : new.told ≡ old.told
  pub read : new.read_faults ≡ old.read_faults
  pub tell : new.tell_faults ≡ old.tell_faults
  pub taken : new.taken ≡ old.taken
  pub write : old.write_faults ≤ new.write_faults

-- each pair put in, and nothing else touched
pub record AreStored (words : List (List ℕ)) (outputs : List Output) (old new : Meaning) : Type 0 where
  pub stores : new.stores ≡ option_map (put_all (pairs words outputs)) old.stores
  pub write : new.write_faults ≡ old.write_faults

-- The texts before the failed one are stored whole, those after it are not stored, and the failed name holds what it held or a beginning of its text.
pub record IsCut (words : List (List ℕ)) (outputs : List Output) (name : Name) (old new : Option Contents) : Type 0 where
  pub front : List Output
  pub failed : Output
  pub back : List Output
  pub whole : outputs ≡ front ++ failed ∷ back
  pub named : failed.name ≡ name
  pub stores : (new ≡ option_map (put_all (pairs words front)) old)
      ⊎ ((k : ℕ) × (new ≡ option_map (put_all (pairs words front ++ (bytes_of words name, take k failed.text) ∷ [])) old))

pub record IsStoreFault (words : List (List ℕ)) (outputs : List Output) (old new : Meaning) (name : Name) : Type 0 where
  pub rose : Rose old.write_faults new.write_faults
  pub cut : IsCut words outputs name old.stores new.stores

-- What surely fits is stored whole.
abbrev pub StaysSure : List (List ℕ) → List Output → Meaning → Meaning → Result (Unit {0}) Name → Type 0
StaysSure words outputs old new result =
    IfSome old.sure (λ r. total (pairs words outputs) ≤ r →
    IsOkAnd result (λ _. (new.write_faults ≡ old.write_faults) × (new.sure ≡ Some (r - total (pairs words outputs)))))
