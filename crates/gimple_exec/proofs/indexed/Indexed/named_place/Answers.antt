use Rattle.std.proofs.Common.{◌∙◌, ap, List}
use Rattle.std.specs.List.{position}
use Rattle.std.specs.Str.{bytes_eq}
use Rattle.gimple_ir.specs.declared.program.Function.{Function}
use Rattle.gimple_core.specs.Sealed.{Sealed}
use Rattle.gimple_exec.proofs.Naming.{place_by}
use Rattle.gimple_exec.proofs.indexed.Indexed.named_place.Goals as goal

pub returns : goal.returns
returns c =
    place_by (λ (f : Function). bytes_eq f.name c.args.name.now) c.args.self.now.program.functions c.place_of.result
    (c.place_of.ensures ∙ ap (λ (fs : List Function). position (λ f. bytes_eq f.name c.args.name.now) fs) (c.self.invariant.functions ∙ ap (λ (p : Sealed). p.program.functions) c.self.view_is))
