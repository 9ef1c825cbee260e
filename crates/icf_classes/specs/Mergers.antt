-- A program with the marks of its addressed functions and classes of its functions: which functions stay, and where calls go.
use Rattle.std.specs.Prelude.{ℕ, Bool, ◌||◌, List, map, filter, slice_index_or, false}
use Rattle.std.specs.Str.{bytes_eq}
use Rattle.gimple_ir.specs.declared.program.Function.{Function}
use Rattle.gimple_ir.specs.declared.program.Program.{Program}
use Rattle.gimple_core.specs.Run.{main_name}
use Rattle.icf_classes.specs.Placed.{number_of}
use Rattle.icf_classes.specs.Merged.{sent, sent_function, is_kept}

pub record Merging : Type 0 where
  pub program : Program
  pub marks : List Bool
  pub classes : List ℕ

-- `main`, and the functions that are marked
abbrev pub stays_by : Program → List Bool → List ℕ → Bool
stays_by p marks name = bytes_eq name main_name || slice_index_or marks (number_of p name) false

abbrev pub stays_in : Merging → List ℕ → Bool
stays_in m name = stays_by m.program m.marks name

abbrev pub sent_in : Merging → List ℕ → List ℕ
sent_in m name = sent m.program (stays_in m) m.classes name

abbrev pub kept_in : Merging → List ℕ → Bool
kept_in m name = is_kept m.program (stays_in m) m.classes name

-- these functions with their calls sent, without those that are replaced
unfoldable pub merged_in : Merging → List Function → List Function
merged_in m fs = filter (λ f. kept_in m f.name) (map (sent_function (sent_in m)) fs)
