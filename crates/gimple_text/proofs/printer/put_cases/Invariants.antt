use Rattle.std.proofs.Common.{◌≡◌, ◌++◌, take}
use Rattle.std.specs.List.{flat_map}
use Rattle.gimple_text.specs.Canon.{case_text}
use Rattle.gimple_text.proofs.printer.put_cases.Given as goal

abbrev pub invariant-loop-case : goal.invariant-loop-case
invariant-loop-case l = l.out ≡ l.fn.out ++ flat_map case_text (take l.case-index l.cases)
