-- How large programs may become.
use Rattle.std.specs.Prelude.{ℕ, ◌+◌, ◌*◌, ◌/◌, max, Bool, ◌&&◌, if◌then◌else◌}
use Rattle.gimple_ir.specs.declared.options.Passes.{Passes}
use Rattle.gimple_ir.specs.declared.options.Params.{Params}

-- What a purse of so many percent allows a program of this size to become. Small programs count as large ones of the least size.
abbrev pub grown : ℕ → ℕ → ℕ → ℕ
grown size large percent = size + (max size large * percent) / 100

-- the percents of the purses: a pass that is off has none
abbrev pub clone_growth : Passes → Params → ℕ
clone_growth passes params = if passes.cp && passes.cp_clone then params.ipa_cp_unit_growth else 0

abbrev pub split_growth : Passes → Params → ℕ
split_growth passes params = if passes.sra then params.ipa_sra_unit_growth else 0

-- how large the output may be, when the passes that may grow a program begin with this size
abbrev pub bound : ℕ → Passes → Params → ℕ
bound size passes params =
    grown (grown size params.ipa_cp_large_unit_insns (clone_growth passes params)) params.ipa_cp_large_unit_insns (split_growth passes params)
