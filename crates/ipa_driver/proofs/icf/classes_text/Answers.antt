use Rattle.ipa_driver.proofs.IcfLaws.{class_numbers}
use Rattle.ipa_driver.proofs.icf.classes_text.Goals as goal

pub dump_icf-requires-clause-numbers : goal.dump_icf-requires-clause-numbers
dump_icf-requires-clause-numbers c = class_numbers c.args.program.now.program c.requires.accepted c.args.numbers.now c.requires.classes
