use Rattle.std.proofs.Common.{rules, ◌≡◌, map}
use Rattle.icf_classes.specs.Codes.{form_row}
use Rattle.icf_classes.proofs.Settling.{are_form_classes}
use Rattle.icf_classes.proofs.forms.form_classes.Goals as goal

pub returns : goal.returns
returns c =
    let rows : c.in_ok-forms.forms ≡ map form_row c.args.program.now.functions = search rules in
    are_form_classes c.args.program.now c.in_ok-forms.forms c.into_classes.result.items rows c.into_classes.ensures.count c.into_classes.ensures.same
