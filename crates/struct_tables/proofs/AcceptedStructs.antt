-- The structs of a program without a type fault have a table.
use Rattle.std.proofs.Common.{◌≡◌, ◌+◌, ℕ, not, List, [], ◌∷◌, ◌++◌, Ok}
use Rattle.std.proofs.lemmas.Bool.{leb-true}
use Rattle.gimple_ir.specs.declared.declarations.StructDef.{StructDef}
use Rattle.gimple_ir.specs.declared.fault.Site.TheVariants as site
use Rattle.gimple_ir.specs.declared.program.Program.{Program}
use Rattle.gimple_core.specs.Accepted.{checked, first_fault}
use Rattle.gimple_core.specs.Declarations as check
use Rattle.gimple_core.specs.Env.{has, structs_by_name}
use Rattle.gimple_core.specs.Accepted.{IsAccepted}
use Rattle.gimple_core.specs.Verdict.{demand, at}
use Rattle.gimple_core.proofs.Passed.{first_passed, demanded, at_passed, no_fault, not_true}
use Rattle.struct_tables.specs.Tables.{CanFollow, CanAllFollow, HaveTable}

struct_follows : (all earlier : List StructDef) (s : StructDef) → check.one_struct all earlier s ≡ Ok tt → CanFollow earlier s
unfolding check.one_struct
struct_follows all earlier s h =
    let name = first_passed (demand (not (has s.name (structs_by_name earlier))) 2) _ tt h in
    let fields = first_passed (check.fields all earlier [] s.fields) _ tt name.2 in
    let some = first_passed (demand (not (check.is_empty s.fields)) 12) _ tt fields.2 in
    record {
      new = not_true (has s.name (structs_by_name earlier)) (demanded (not (has s.name (structs_by_name earlier))) 2 name.1);
      small = leb-true (check.struct_size earlier s.fields) 16777216 (demanded (check.is_size (check.struct_size earlier s.fields)) 12 some.2);
    }

structs_follow : (all : List StructDef) (number : ℕ) (earlier ss : List StructDef) → check.structs all number earlier ss ≡ Ok tt → CanAllFollow earlier ss
unfolding check.structs
structs_follow all number earlier [] h = tt
structs_follow all number earlier (s ∷ ss) h =
    let first = first_passed (at (site.Struct number) (check.one_struct all earlier s)) _ tt h in
    (struct_follows all earlier s (at_passed _ _ tt first.1), structs_follow all (number + 1) (earlier ++ s ∷ []) ss first.2)

pub accepted_structs : (p : Program) → IsAccepted p → HaveTable p.structs
unfolding first_fault checked
accepted_structs p h =
    let structs = first_passed (check.structs p.structs 0 [] p.structs) _ tt (no_fault (checked p) h) in
    structs_follow p.structs 0 [] p.structs structs.1
