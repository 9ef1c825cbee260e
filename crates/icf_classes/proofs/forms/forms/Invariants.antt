use Rattle.std.proofs.Common.{◌≡◌, map, take}
use Rattle.icf_classes.specs.Codes.{form_row}
use Rattle.icf_classes.proofs.forms.forms.Given as goal

abbrev pub invariant-loop-function : goal.invariant-loop-function
invariant-loop-function l = l.forms ≡ map form_row (take l.function-index l.functions)
