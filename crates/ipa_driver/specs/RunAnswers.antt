-- What `gimple-run` stores, and when it can.
use Rattle.std.specs.Prelude.{◌≡◌, ℕ, List, [], ◌∷◌, ◌++◌, codes}
use Rattle.std.specs.Fmt.{signed_decimal}
use Rattle.words.specs.declared.options.Name.TheVariants.{Standard}
use Rattle.words.specs.declared.options.SourceName.{SourceName}
use Rattle.words.specs.declared.options.SourceName.TheVariants.{File}
use Rattle.words.specs.declared.run_options.RunOptions.{RunOptions}
use Rattle.words.specs.RunWords.{inputs_of}
use Rattle.gimple_ir.specs.declared.value.TrapKind.{TrapKind}
use Rattle.gimple_ir.specs.declared.value.TrapKind.TheVariants.{Overflow, Divide, Shift, NullAccess, Dangling, Bounds, BadSlot, ReadOnly, Abort, BadCall}
use Rattle.gimple_ir.specs.declared.value.Outcome.{Outcome}
use Rattle.gimple_ir.specs.declared.value.Outcome.TheVariants.{Going, Ended, Trapped}
use Rattle.gimple_ir.specs.declared.program.Program.{Program}
use Rattle.gimple_core.specs.Run.{Run}
use Rattle.ipa_driver.specs.declared.outputs.Output.{Output}

-- a trap's name
abbrev pub kind_text : TrapKind → List ℕ
kind_text Overflow = codes "Overflow"
kind_text Divide = codes "Divide"
kind_text Shift = codes "Shift"
kind_text NullAccess = codes "NullAccess"
kind_text Dangling = codes "Dangling"
kind_text Bounds = codes "Bounds"
kind_text BadSlot = codes "BadSlot"
kind_text ReadOnly = codes "ReadOnly"
kind_text Abort = codes "Abort"
kind_text BadCall = codes "BadCall"

-- what a program printed, and a last line that says what it came to
abbrev pub outcome_text : Outcome → List ℕ
outcome_text (Going output) = output ++ codes "going\n"
outcome_text (Ended output status) = output ++ codes "ended " ++ signed_decimal status ++ codes "\n"
outcome_text (Trapped output kind) = output ++ codes "trapped " ++ kind_text kind ++ codes "\n"

-- The one output: on standard output, what the run of the program in this mode, on these input numbers and transfers, comes to.
abbrev pub IsRunOutput : List (List ℕ) → RunOptions → Program → List Output → Type 0
IsRunOutput words o p outputs = outputs ≡ record { name = Standard; text = outcome_text (Run (record { program = p; mode = o.mode }) (inputs_of words o.first) o.turns) } ∷ []

-- the source of a run
abbrev pub run_source : RunOptions → SourceName
run_source o = File o.source
