use Rattle.std.proofs.Common.{◌≡◌, ◌++◌, take}
use Rattle.std.specs.List.{flat_map}
use Rattle.ipa_dumps.specs.Dumps.{member_text}
use Rattle.ipa_dumps.proofs.cgraph.push_members.Given as goal

abbrev pub invariant-loop-member : goal.invariant-loop-member
invariant-loop-member l = l.text ≡ l.fn.text ++ flat_map (member_text l.program) (take l.member-index l.members)
