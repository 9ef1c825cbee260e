use Rattle.std.proofs.Common.{◌≡◌, sym, ◌∙◌, ap, slice_get}
use Rattle.std.specs.Prelude.{position}
use Rattle.std.specs.Str.{bytes_eq}
use Rattle.gimple_ir.specs.declared.program.Program.{Program}
use Rattle.gimple_core.specs.Sealed.{Sealed}
use Rattle.cp_lattices.specs.Callers.{giver_in}
use Rattle.cp_lattices.proofs.PuttingLaws.{no_name, no_callee, call_put}
use Rattle.cp_lattices.proofs.caller.Caller.put_call.Goals as goal

pub returns-in_default : goal.returns-in_default
returns-in_default c =
    let named : c.function_place.result ≡ position (λ f. bytes_eq f.name c.args.name.now) c.args.self.now.scene.program.now.program.functions =
    c.function_place.ensures ∙ ap (λ (q : Sealed). position (λ f. bytes_eq f.name c.args.name.now) q.program.functions) c.requires.caller.tables in
    no_name (giver_in c.args.self.now) c.args.point c.args.row.now c.args.name.now c.args.arguments.now c.args.gifts.now (sym named ∙ c.in_default.is)

pub returns-in_default-get : goal.returns-in_default-get
returns-in_default-get c =
    let named : c.function_place.result ≡ position (λ f. bytes_eq f.name c.args.name.now) c.args.self.now.scene.program.now.program.functions =
    c.function_place.ensures ∙ ap (λ (q : Sealed). position (λ f. bytes_eq f.name c.args.name.now) q.program.functions) c.requires.caller.tables in
    let there : slice_get c.program.result.now.functions c.in-Some.place ≡ slice_get c.args.self.now.scene.program.now.program.functions c.in-Some.place =
    ap (λ (q : Program). slice_get q.functions c.in-Some.place) c.program.ensures.same ∙ ap (λ (q : Sealed). slice_get q.program.functions c.in-Some.place) c.requires.caller.tables in
    no_callee (giver_in c.args.self.now) c.args.point c.args.row.now c.args.name.now c.args.arguments.now c.args.gifts.now c.in-Some.place (sym named ∙ c.in-Some.is) (sym there ∙ sym c.in_default-get.ensures.value)

pub returns : goal.returns
returns c =
    let named : c.function_place.result ≡ position (λ f. bytes_eq f.name c.args.name.now) c.args.self.now.scene.program.now.program.functions =
    c.function_place.ensures ∙ ap (λ (q : Sealed). position (λ f. bytes_eq f.name c.args.name.now) q.program.functions) c.requires.caller.tables in
    let there : slice_get c.program.result.now.functions c.in-Some.place ≡ slice_get c.args.self.now.scene.program.now.program.functions c.in-Some.place =
    ap (λ (q : Program). slice_get q.functions c.in-Some.place) c.program.ensures.same ∙ ap (λ (q : Sealed). slice_get q.program.functions c.in-Some.place) c.requires.caller.tables in
    call_put (giver_in c.args.self.now) c.args.point c.args.row.now c.args.name.now c.args.arguments.now c.args.gifts.now c.in-Some.place c.in-Some-get.callee.now c.in_ok-jumps.jumps c.put_arguments.new.gifts
    (sym named ∙ c.in-Some.is) (sym there ∙ sym c.in-Some-get.ensures.value) c.in_ok-jumps.ensures c.in_ok-put_arguments.ensures
