use Rattle.std.proofs.Common.{append_assoc}
use Rattle.std.specs.Prelude.{codes}
use Rattle.ipa_driver.specs.Summary.{measure_line, counts_line, summary_text}
use Rattle.ipa_driver.proofs.summary.summary_of.Goals as goal

pub returns : goal.returns
unfolding summary_text
returns c =
    let source = measure_line (codes "source: functions ") c.args.source.now in
    let output = measure_line (codes "output: functions ") c.args.output.now in
    rw (c.in_ok-push_counts.ensures, c.in_ok-push_measure-2.ensures, c.in_ok-push_measure.ensures, c.new-text.ensures) (append_assoc source output (counts_line c.args.counts.now))
