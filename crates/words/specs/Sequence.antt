-- What the words say one after another, up to the first faulty one.
use Rattle.std.specs.Prelude.{ℕ, ◌+◌, List, [], ◌∷◌, ◌++◌, Bool, true, false, ◌==◌, is_some, if◌then◌else◌, Option, None, Some, Result, Ok, Err}
use Rattle.std.specs.Option.{option_or}
use Rattle.gimple_ir.specs.declared.scalar.Mode.{Mode}
use Rattle.words.specs.declared.options.Name.{Name}
use Rattle.words.specs.declared.options.SourceName.{SourceName}
use Rattle.words.specs.declared.options.UsageFault.{UsageFault}
use Rattle.words.specs.declared.item.Pass.{Pass}
use Rattle.words.specs.declared.item.Pass.TheVariants.{Cp, CpClone, BitCp, Vrp, Sra, Modref, Icf}
use Rattle.words.specs.declared.item.Param.{Param}
use Rattle.words.specs.declared.item.Param.TheVariants.{ValueListSize, EvalThreshold, UnitGrowth, LargeUnitInsns, MaxAggItems, MaxReplacements, PtrGrowthFactor, SraUnitGrowth, MaxBases, MaxRefs, MaxAccesses}
use Rattle.words.specs.declared.item.Dump.{Dump}
use Rattle.words.specs.declared.item.Dump.TheVariants.{Cgraph, Icf as DumpIcf, Cp as DumpCp, Sra as DumpSra, Modref as DumpModref}
use Rattle.words.specs.declared.item.Item.{Item}
use Rattle.words.specs.declared.item.Item.TheVariants.{Source, Level, Turn, Set, Dump as DumpItem, OutputOption, Output, ParamOption, Summary, Workers, Mode as ModeItem}
use Rattle.words.specs.declared.item.Pending.{Pending}
use Rattle.words.specs.declared.item.Pending.TheVariants.{Nothing, Output as OutputPending, Param as ParamPending}
use Rattle.words.specs.Items.{item_of}

-- Of the words that say something of one kind the last counts.
abbrev pub last_of : {A : Type 0} → (Item → Option A) → List Item → Option A
last_of pick [] = None
last_of pick (i ∷ is) = option_or (last_of pick is) (pick i)

-- what a word says of each kind

abbrev pub source_in : Item → Option SourceName
source_in (Source source) = Some source
source_in i = None

abbrev pub asks_in : Item → Option Bool
asks_in OutputOption = Some true
asks_in i = None

abbrev pub output_in : Item → Option Name
output_in (Output name) = Some name
output_in i = None

abbrev pub summary_in : Item → Option Name
summary_in (Summary name) = Some name
summary_in i = None

abbrev pub workers_in : Item → Option ℕ
workers_in (Workers n) = Some n
workers_in i = None

abbrev pub level_in : Item → Option ℕ
level_in (Level n) = Some n
level_in i = None

abbrev pub mode_in : Item → Option Mode
mode_in (ModeItem mode) = Some mode
mode_in i = None

-- each pass, parameter and dump has a number of its own

abbrev pub pass_number : Pass → ℕ
pass_number Cp = 0
pass_number CpClone = 1
pass_number BitCp = 2
pass_number Vrp = 3
pass_number Sra = 4
pass_number Modref = 5
pass_number Icf = 6

abbrev pub param_number : Param → ℕ
param_number ValueListSize = 0
param_number EvalThreshold = 1
param_number UnitGrowth = 2
param_number LargeUnitInsns = 3
param_number MaxAggItems = 4
param_number MaxReplacements = 5
param_number PtrGrowthFactor = 6
param_number SraUnitGrowth = 7
param_number MaxBases = 8
param_number MaxRefs = 9
param_number MaxAccesses = 10

abbrev pub dump_number : Dump → ℕ
dump_number Cgraph = 0
dump_number DumpIcf = 1
dump_number DumpCp = 2
dump_number DumpSra = 3
dump_number DumpModref = 4

abbrev pub turn_in : Pass → Item → Option Bool
turn_in p (Turn q on) = if pass_number p == pass_number q then Some on else None
turn_in p i = None

abbrev pub set_in : Param → Item → Option ℕ
set_in p (Set q value) = if param_number p == param_number q then Some value else None
set_in p i = None

abbrev pub dump_in : Dump → Item → Option Name
dump_in p (DumpItem q name) = if dump_number p == dump_number q then Some name else None
dump_in p i = None

-- a second input or output
abbrev pub repeats : List Item → Item → Bool
repeats seen (Source source) = is_some (last_of source_in seen)
repeats seen OutputOption = is_some (last_of asks_in seen)
repeats seen i = false

-- the next word is this option's value
abbrev pub pending_of : Item → Pending
pending_of OutputOption = OutputPending
pending_of ParamOption = ParamPending
pending_of i = Nothing

abbrev pub fault_at : ℕ → ℕ → UsageFault
fault_at word code = record { word = word; code = code }

abbrev pub is_nil : List (List ℕ) → Bool
is_nil [] = true
is_nil (w ∷ ws) = false

abbrev pub on_item : Result Item ℕ → ℕ → (Item → Result (List Item) UsageFault) → Result (List Item) UsageFault
on_item (Err code) word next = Err (fault_at word code)
on_item (Ok i) word next = next i

-- the words from this number on, after what the words before them say
abbrev pub items_from : List Item → ℕ → Pending → List (List ℕ) → Result (List Item) UsageFault
items_from seen word pending [] = Ok seen
items_from seen word pending (w ∷ ws) =
    on_item (item_of word pending w (is_nil ws)) word (λ i. if repeats seen i then Err (fault_at word 4) else items_from (seen ++ i ∷ []) (word + 1) (pending_of i) ws)
