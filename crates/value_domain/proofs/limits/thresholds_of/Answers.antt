use Rattle.std.proofs.Common.{sym, subst, ◌∙◌, []}
use Rattle.value_domain.specs.Thresholds.{IsLawful, words_put, functions_noted, globals_noted, thresholds_list, fixed_thresholds}
use Rattle.value_domain.proofs.LawfulLemmas.{words_lawful}
use Rattle.value_domain.proofs.limits.thresholds_of.Goals as goal

pub new-requires : goal.new-requires
new-requires c = subst IsLawful (sym (c.in_ok-put_all.ensures ∙ (λ i. words_put c.as_slice-3.result.now (c.in_ok-ends.ensures i)))) (words_lawful c.as_slice-3.result.now)

pub returns-clause-ends : goal.returns-clause-ends
unfolding thresholds_list
returns-clause-ends c =
    let globals = c.in_ok-note_globals.ensures ∙ (λ i. globals_noted (c.as_slice.ensures i) (c.new-found.ensures.items i)) in
    let found = c.as_slice-3.ensures.value ∙ (c.in_ok-note_functions.ensures ∙ (λ i. functions_noted (c.as_slice-2.ensures i) (globals i))) in
    let program = c.program-program.ensures.same in
    c.new.ensures.ends ∙ (c.in_ok-put_all.ensures ∙ ((λ i. words_put (found i) (c.in_ok-ends.ensures i)) ∙ (λ i. words_put (functions_noted (program i).functions (globals_noted (program i).globals [])) fixed_thresholds)))
