-- The summary of a run: how large the source and the output are, and how often the passes did what they do.
use Rattle.std.specs.Prelude.{ℕ, List, ◌++◌, length, codes}
use Rattle.std.specs.Fmt.{decimal}
use Rattle.gimple_ir.specs.declared.program.Program.{Program}
use Rattle.gimple_ir.specs.Size.{size_of_program}
use Rattle.ipa_driver.specs.declared.summary.Measure.{Measure}
use Rattle.ipa_driver.specs.declared.summary.Counts.{Counts}

abbrev pub measure_of : Program → Measure
measure_of p = record { functions = length p.functions; size = size_of_program p }

-- nothing was done
abbrev pub no_counts : Counts
no_counts = record { clones = 0; merged = 0; formals = 0; results = 0; splits = 0; reused = 0; removed = 0 }

-- what all passes did; each counts its own
abbrev pub all_counts : Counts → Counts → Counts → Counts → Counts
all_counts icf cp sra modref = record {
  clones = cp.clones;
  merged = icf.merged;
  formals = sra.formals;
  results = sra.results;
  splits = sra.splits;
  reused = modref.reused;
  removed = modref.removed;
}

unfoldable pub count_text : List ℕ → ℕ → List ℕ
count_text what n = what ++ decimal n

unfoldable pub measure_line : List ℕ → Measure → List ℕ
measure_line what m = count_text what m.functions ++ (count_text (codes " size ") m.size ++ codes "\n")

-- what IPA-CP and ICF did
unfoldable pub first_counts : Counts → List ℕ
first_counts c = count_text (codes "clones ") c.clones ++ count_text (codes " merged ") c.merged

-- what IPA-SRA did
unfoldable pub middle_counts : Counts → List ℕ
middle_counts c = count_text (codes " formals ") c.formals ++ (count_text (codes " results ") c.results ++ count_text (codes " splits ") c.splits)

-- what the uses of modref did
unfoldable pub last_counts : Counts → List ℕ
last_counts c = count_text (codes " reused ") c.reused ++ (count_text (codes " removed ") c.removed ++ codes "\n")

unfoldable pub counts_line : Counts → List ℕ
counts_line c = first_counts c ++ (middle_counts c ++ last_counts c)

unfoldable pub summary_text : Measure → Measure → Counts → List ℕ
summary_text source output counts =
    measure_line (codes "source: functions ") source ++ (measure_line (codes "output: functions ") output ++ counts_line counts)
