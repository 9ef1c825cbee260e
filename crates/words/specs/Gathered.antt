-- What the words so far ask for.
use Rattle.std.specs.Prelude.{ℕ, List, [], Bool, true, false, is_some, unwrap_or, nat_le, Some, Result, Ok, Err}
use Rattle.gimple_ir.specs.declared.options.Passes.{Passes}
use Rattle.gimple_ir.specs.declared.options.Params.{Params}
use Rattle.gimple_ir.specs.declared.scalar.Mode.TheVariants.{Trap}
use Rattle.words.specs.declared.options.Name.{Name}
use Rattle.words.specs.declared.options.Name.TheVariants.{Standard}
use Rattle.words.specs.declared.options.SourceName.{SourceName}
use Rattle.words.specs.declared.options.Options.{Options}
use Rattle.words.specs.declared.options.UsageFault.{UsageFault}
use Rattle.words.specs.declared.item.Pass.{Pass}
use Rattle.words.specs.declared.item.Pass.TheVariants.{Cp, CpClone, BitCp, Vrp, Sra, Modref, Icf}
use Rattle.words.specs.declared.item.Param.{Param}
use Rattle.words.specs.declared.item.Param.TheVariants.{ValueListSize, EvalThreshold, UnitGrowth, LargeUnitInsns, MaxAggItems, MaxReplacements, PtrGrowthFactor, SraUnitGrowth, MaxBases, MaxRefs, MaxAccesses}
use Rattle.words.specs.declared.item.Dump.{Dump}
use Rattle.words.specs.declared.item.Dump.TheVariants.{Cgraph, Icf as DumpIcf, Cp as DumpCp, Sra as DumpSra, Modref as DumpModref}
use Rattle.words.specs.declared.item.Item.{Item}
use Rattle.words.specs.declared.item.Item.TheVariants.{Source, Level, Turn, Set, Dump as DumpItem, OutputOption, Output, ParamOption, Summary, Workers, Mode as ModeItem}
use Rattle.words.specs.declared.item.Pending.TheVariants.{Nothing}
use Rattle.words.specs.declared.gathered.Turns.{Turns}
use Rattle.words.specs.declared.gathered.Dumps.{Dumps}
use Rattle.words.specs.declared.gathered.Gathered.{Gathered}
use Rattle.words.specs.Sequence.{items_from, last_of, source_in, asks_in, output_in, summary_in, level_in, workers_in, mode_in, turn_in, set_in, dump_in}

-- ---- all words at once

-- A word of a pass overrides the level, wherever it stands.
abbrev pub turns_of : List Item → Turns
turns_of is = record {
  cp = last_of (turn_in Cp) is;
  cp_clone = last_of (turn_in CpClone) is;
  bit_cp = last_of (turn_in BitCp) is;
  vrp = last_of (turn_in Vrp) is;
  sra = last_of (turn_in Sra) is;
  modref = last_of (turn_in Modref) is;
  icf = last_of (turn_in Icf) is;
}

abbrev pub passes_of : Turns → ℕ → Passes
passes_of t level = record {
  cp = unwrap_or t.cp (nat_le 2 level);
  cp_clone = unwrap_or t.cp_clone (nat_le 3 level);
  bit_cp = unwrap_or t.bit_cp (nat_le 2 level);
  vrp = unwrap_or t.vrp (nat_le 2 level);
  sra = unwrap_or t.sra (nat_le 2 level);
  modref = unwrap_or t.modref (nat_le 1 level);
  icf = unwrap_or t.icf (nat_le 2 level);
}

-- a parameter's value, and its default
abbrev pub param_in : List Item → Param → ℕ → ℕ
param_in is p default = unwrap_or (last_of (set_in p) is) default

abbrev pub params_of : List Item → Params
params_of is = record {
  ipa_cp_value_list_size = param_in is ValueListSize 8;
  ipa_cp_eval_threshold = param_in is EvalThreshold 500;
  ipa_cp_unit_growth = param_in is UnitGrowth 10;
  ipa_cp_large_unit_insns = param_in is LargeUnitInsns 16000;
  ipa_max_agg_items = param_in is MaxAggItems 16;
  ipa_sra_max_replacements = param_in is MaxReplacements 8;
  ipa_sra_ptr_growth_factor = param_in is PtrGrowthFactor 2;
  ipa_sra_unit_growth = param_in is SraUnitGrowth 10;
  modref_max_bases = param_in is MaxBases 32;
  modref_max_refs = param_in is MaxRefs 16;
  modref_max_accesses = param_in is MaxAccesses 16;
}

abbrev pub dumps_of : List Item → Dumps
dumps_of is = record {
  cgraph = last_of (dump_in Cgraph) is;
  icf = last_of (dump_in DumpIcf) is;
  cp = last_of (dump_in DumpCp) is;
  sra = last_of (dump_in DumpSra) is;
  modref = last_of (dump_in DumpModref) is;
}

abbrev pub gathered_of : List Item → Gathered
gathered_of is = record {
  source = last_of source_in is;
  asks_output = is_some (last_of asks_in is);
  output = unwrap_or (last_of output_in is) Standard;
  summary = last_of summary_in is;
  level = unwrap_or (last_of level_in is) 0;
  workers = unwrap_or (last_of workers_in is) 1;
  mode = unwrap_or (last_of mode_in is) Trap;
  turns = turns_of is;
  params = params_of is;
  dumps = dumps_of is;
}

abbrev pub options_from : Gathered → SourceName → Options
options_from g source = record {
  source = source;
  output = g.output;
  cgraph = g.dumps.cgraph;
  icf = g.dumps.icf;
  cp = g.dumps.cp;
  sra = g.dumps.sra;
  modref = g.dumps.modref;
  summary = g.summary;
  passes = passes_of g.turns g.level;
  params = g.params;
  workers = g.workers;
  mode = g.mode;
}

abbrev pub map_gathered : Result (List Item) UsageFault → Result Gathered UsageFault
map_gathered (Ok is) = Ok (gathered_of is)
map_gathered (Err f) = Err f

-- what all words ask for, or the first faulty word
unfoldable pub gathered_words : List (List ℕ) → Result Gathered UsageFault
gathered_words words = map_gathered (items_from [] 1 Nothing words)

-- ---- one word more

abbrev pub turned : Turns → Pass → Bool → Turns
turned t Cp x = record t { cp = Some x }
turned t CpClone x = record t { cp_clone = Some x }
turned t BitCp x = record t { bit_cp = Some x }
turned t Vrp x = record t { vrp = Some x }
turned t Sra x = record t { sra = Some x }
turned t Modref x = record t { modref = Some x }
turned t Icf x = record t { icf = Some x }

abbrev pub set : Params → Param → ℕ → Params
set t ValueListSize x = record t { ipa_cp_value_list_size = x }
set t EvalThreshold x = record t { ipa_cp_eval_threshold = x }
set t UnitGrowth x = record t { ipa_cp_unit_growth = x }
set t LargeUnitInsns x = record t { ipa_cp_large_unit_insns = x }
set t MaxAggItems x = record t { ipa_max_agg_items = x }
set t MaxReplacements x = record t { ipa_sra_max_replacements = x }
set t PtrGrowthFactor x = record t { ipa_sra_ptr_growth_factor = x }
set t SraUnitGrowth x = record t { ipa_sra_unit_growth = x }
set t MaxBases x = record t { modref_max_bases = x }
set t MaxRefs x = record t { modref_max_refs = x }
set t MaxAccesses x = record t { modref_max_accesses = x }

abbrev pub dumped : Dumps → Dump → Name → Dumps
dumped t Cgraph x = record t { cgraph = Some x }
dumped t DumpIcf x = record t { icf = Some x }
dumped t DumpCp x = record t { cp = Some x }
dumped t DumpSra x = record t { sra = Some x }
dumped t DumpModref x = record t { modref = Some x }

abbrev pub gather : Gathered → Item → Gathered
gather g (Source source) = record g { source = Some source }
gather g (Level n) = record g { level = n }
gather g (Turn p on) = record g { turns = turned g.turns p on }
gather g (Set q v) = record g { params = set g.params q v }
gather g (DumpItem d name) = record g { dumps = dumped g.dumps d name }
gather g OutputOption = record g { asks_output = true }
gather g (Output name) = record g { output = name }
gather g ParamOption = g
gather g (Summary name) = record g { summary = Some name }
gather g (Workers n) = record g { workers = n }
gather g (ModeItem mode) = record g { mode = mode }

abbrev pub repeats_in : Gathered → Item → Bool
repeats_in g (Source source) = is_some g.source
repeats_in g OutputOption = g.asks_output
repeats_in g i = false
