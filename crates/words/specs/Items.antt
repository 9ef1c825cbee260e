-- What one word says.
use Rattle.std.specs.Prelude.{ℕ, ◌+◌, List, [], ◌∷◌, length, drop, Bool, true, false, ◌||◌, not, ◌==◌, codes, slice_index, if◌then◌else◌, Option, None, Some, Result, Ok, Err}
use Rattle.std.specs.List.{list_any}
use Rattle.gimple_ir.specs.declared.scalar.Mode.{Mode}
use Rattle.gimple_ir.specs.declared.scalar.Mode.TheVariants.{Trap, Wrap}
use Rattle.words.specs.declared.options.Name.{Name}
use Rattle.words.specs.declared.options.Name.TheVariants.{Word}
use Rattle.words.specs.declared.options.SourceName.TheVariants.{File, Generate}
use Rattle.words.specs.declared.item.Pass.{Pass}
use Rattle.words.specs.declared.item.Pass.TheVariants.{Cp, CpClone, BitCp, Vrp, Sra, Modref, Icf}
use Rattle.words.specs.declared.item.Param.{Param}
use Rattle.words.specs.declared.item.Param.TheVariants.{ValueListSize, EvalThreshold, UnitGrowth, LargeUnitInsns, MaxAggItems, MaxReplacements, PtrGrowthFactor, SraUnitGrowth, MaxBases, MaxRefs, MaxAccesses}
use Rattle.words.specs.declared.item.Dump.{Dump}
use Rattle.words.specs.declared.item.Dump.TheVariants.{Cgraph, Icf as DumpIcf, Cp as DumpCp, Sra as DumpSra, Modref as DumpModref}
use Rattle.words.specs.declared.item.Item.{Item}
use Rattle.words.specs.declared.item.Item.TheVariants.{Source, Level, Turn, Set, Dump as DumpItem, OutputOption, Output, ParamOption, Summary, Workers, Mode as ModeItem}
use Rattle.words.specs.declared.item.Pending.{Pending}
use Rattle.words.specs.declared.item.Pending.TheVariants.{Nothing, Output as OutputPending, Param as ParamPending}
use Rattle.words.specs.Numbers.{limited}
use Rattle.words.specs.Prefix.{begins, is_word, row_named, row_begun}

-- names

-- the table of passes
abbrev pub pass_rows : List (List ℕ × Pass)
pass_rows =
    (codes "cp", Cp)
    ∷ (codes "cp-clone", CpClone)
    ∷ (codes "bit-cp", BitCp)
    ∷ (codes "vrp", Vrp)
    ∷ (codes "sra", Sra)
    ∷ (codes "modref", Modref)
    ∷ (codes "icf", Icf)
    ∷ []

abbrev pub pass_of : List ℕ → Option Pass
pass_of name = row_named pass_rows name

-- the table of parameters
abbrev pub param_rows : List (List ℕ × Param)
param_rows =
    (codes "ipa-cp-value-list-size=", ValueListSize)
    ∷ (codes "ipa-cp-eval-threshold=", EvalThreshold)
    ∷ (codes "ipa-cp-unit-growth=", UnitGrowth)
    ∷ (codes "ipa-cp-large-unit-insns=", LargeUnitInsns)
    ∷ (codes "ipa-max-agg-items=", MaxAggItems)
    ∷ (codes "ipa-sra-max-replacements=", MaxReplacements)
    ∷ (codes "ipa-sra-ptr-growth-factor=", PtrGrowthFactor)
    ∷ (codes "ipa-sra-unit-growth=", SraUnitGrowth)
    ∷ (codes "modref-max-bases=", MaxBases)
    ∷ (codes "modref-max-refs=", MaxRefs)
    ∷ (codes "modref-max-accesses=", MaxAccesses)
    ∷ []

-- the parameter of a text NAME=V, and where its value begins
abbrev pub param_at : List ℕ → Option (Param × ℕ)
param_at text = row_begun param_rows text

abbrev pub least_of : Param → ℕ
least_of ValueListSize = 1
least_of p = 0

abbrev pub greatest_of : Param → ℕ
greatest_of EvalThreshold = 1000000
greatest_of LargeUnitInsns = 1000000
greatest_of UnitGrowth = 1000
greatest_of SraUnitGrowth = 1000
greatest_of MaxRefs = 1000
greatest_of MaxAccesses = 1000
greatest_of p = 64

-- the table of dumps
abbrev pub dump_rows : List (List ℕ × Dump)
dump_rows =
    (codes "cgraph=", Cgraph)
    ∷ (codes "icf=", DumpIcf)
    ∷ (codes "cp=", DumpCp)
    ∷ (codes "sra=", DumpSra)
    ∷ (codes "modref=", DumpModref)
    ∷ []

-- the pass of a text PASS=FILE, and where its file begins
abbrev pub dump_at : List ℕ → Option (Dump × ℕ)
dump_at text = row_begun dump_rows text

-- the table of levels
abbrev pub level_rows : List (List ℕ × ℕ)
level_rows = (codes "-O0", 0) ∷ (codes "-O1", 1) ∷ (codes "-O", 1) ∷ (codes "-O2", 2) ∷ (codes "-O3", 3) ∷ []

abbrev pub level_at : List ℕ → Option ℕ
level_at text = row_named level_rows text

-- the table of modes
abbrev pub mode_rows : List (List ℕ × Mode)
mode_rows = (codes "-fwrapv", Wrap) ∷ (codes "-ftrapv", Trap) ∷ []

abbrev pub mode_at : List ℕ → Option Mode
mode_at text = row_named mode_rows text

-- words, or the codes of their faults

abbrev pub or_fault : {A : Type 0} → Option A → (A → Item) → ℕ → Result Item ℕ
or_fault None item code = Err code
or_fault (Some x) item code = Ok (item x)

abbrev pub map_item : {A : Type 0} → Result A ℕ → (A → Item) → Result Item ℕ
map_item (Ok x) item = Ok (item x)
map_item (Err code) item = Err code

-- A text without a "=" has no name. A name before a "=" that is in no table is unknown, the empty one too.
abbrev pub param_found : List ℕ → Option (Param × ℕ) → Result Item ℕ
param_found text None = Err (if list_any (λ b. b == 61) text then 8 else 3)
param_found text (Some found) = or_fault (limited (least_of found.0) (greatest_of found.0) (drop found.1 text)) (λ v. Set found.0 v) 3

unfoldable pub param_of : List ℕ → Result Item ℕ
param_of text = param_found text (param_at text)

-- the name of a file, which is not empty, from a place of a word on
abbrev pub file_of : ℕ → List ℕ → ℕ → Result Name ℕ
file_of word text from = if from == length text then Err 3 else Ok (Word word from)

unfoldable pub turn_of : List ℕ → Bool → Result Item ℕ
turn_of name on = or_fault (pass_of name) (λ pass. Turn pass on) 2

abbrev pub dump_found : ℕ → List ℕ → Option (Dump × ℕ) → Result Item ℕ
dump_found word text None = Err 2
dump_found word text (Some found) = map_item (file_of word text (11 + found.1)) (λ name. DumpItem found.0 name)

unfoldable pub dump_of : ℕ → List ℕ → Result Item ℕ
dump_of word text = dump_found word text (dump_at (drop 11 text))

unfoldable pub summary_of : ℕ → List ℕ → Result Item ℕ
summary_of word text = map_item (file_of word text 10) (λ name. Summary name)

unfoldable pub workers_of : List ℕ → Result Item ℕ
workers_of text = or_fault (limited 1 64 text) (λ n. Workers n) 3

unfoldable pub generate_of : List ℕ → Result Item ℕ
generate_of text = or_fault (limited 1 65536 text) (λ n. Source (Generate n)) 3

unfoldable pub valued_of : ℕ → List ℕ → Result Item ℕ
valued_of word text =
    if begins text (codes "--param=") then param_of (drop 8 text)
    else (if begins text (codes "--summary=") then summary_of word text
    else (if begins text (codes "--workers=") then workers_of (drop 10 text)
    else (if begins text (codes "--generate=") then generate_of (drop 11 text)
    else Err 2)))

unfoldable pub long_of : ℕ → List ℕ → Result Item ℕ
long_of word text =
    if begins text (codes "-fdump-ipa-") then dump_of word text
    else (if begins text (codes "-fno-ipa-") then turn_of (drop 9 text) false
    else (if begins text (codes "-fipa-") then turn_of (drop 6 text) true
    else valued_of word text))

abbrev pub mode_or_long : ℕ → List ℕ → Option Mode → Result Item ℕ
mode_or_long word text (Some mode) = Ok (ModeItem mode)
mode_or_long word text None = long_of word text

abbrev pub level_or_later : ℕ → List ℕ → Option ℕ → Result Item ℕ
level_or_later word text (Some level) = Ok (Level level)
level_or_later word text None = mode_or_long word text (mode_at text)

-- A word that is no value of the word before it. The word "-", and one that does not begin so, is the input.
unfoldable pub single_of : ℕ → List ℕ → Bool → Result Item ℕ
single_of word text is_last =
    if length text == 0 then Err 3
    else (if not (slice_index text 0 == 45) || (length text == 1) then Ok (Source (File (Word word 0)))
    else (if is_word text (codes "-o") then (if is_last then Err 7 else Ok OutputOption)
    else (if is_word text (codes "--param") then (if is_last then Err 7 else Ok ParamOption)
    else level_or_later word text (level_at text))))

-- what the word of this number says, or the code of its fault
abbrev pub item_of : ℕ → Pending → List ℕ → Bool → Result Item ℕ
item_of word Nothing text is_last = single_of word text is_last
item_of word OutputPending text is_last = map_item (file_of word text 0) (λ name. Output name)
item_of word ParamPending text is_last = param_of text
