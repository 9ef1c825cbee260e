use Rattle.ipa_driver.proofs.VerdictLaws.{one}
use Rattle.ipa_driver.proofs.verdict.one_verdict.Goals as goal

pub returns : goal.returns
returns c = one
