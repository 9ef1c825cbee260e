use Rattle.std.proofs.Common.{rules, ◌<◌, ◌≤◌, [], Some, None, subst}
use Rattle.gimple_core.specs.Layout.{struct_layouts}
use Rattle.struct_tables.proofs.KeptLemmas.{FoundIs, first_of}
use Rattle.struct_tables.proofs.structs.Structs.found.Goals as goal

pub returns-then-kept-bound : goal.returns-then-kept-bound
returns-then-kept-bound c =
    let h : FoundIs (struct_layouts [] c.args.self.now) c.args.bound c.as_slice.result.now (Some c.in-Some.kept.now) = first_of c.args.self.now c.args.bound c.as_slice.result.now c.self.inside.map.entries (Some c.in-Some.kept.now) c.self.view_is c.self.invariant c.in-Some.ensures.value in
    let j : FoundIs (struct_layouts [] c.args.self.now) c.args.bound c.args.name.now (Some c.in-Some.kept.now) = subst (λ n. FoundIs (struct_layouts [] c.args.self.now) c.args.bound n (Some c.in-Some.kept.now)) c.as_slice.ensures h in
    let l : c.in-Some.kept.now.number < c.args.bound = search rules in
    (l, j.1 l, j.0, j.3, j.4)

pub returns-else-kept-bound : goal.returns-else-kept-bound
returns-else-kept-bound c =
    let h : FoundIs (struct_layouts [] c.args.self.now) c.args.bound c.as_slice.result.now (Some c.in-Some.kept.now) = first_of c.args.self.now c.args.bound c.as_slice.result.now c.self.inside.map.entries (Some c.in-Some.kept.now) c.self.view_is c.self.invariant c.in-Some.ensures.value in
    let j : FoundIs (struct_layouts [] c.args.self.now) c.args.bound c.args.name.now (Some c.in-Some.kept.now) = subst (λ n. FoundIs (struct_layouts [] c.args.self.now) c.args.bound n (Some c.in-Some.kept.now)) c.as_slice.ensures h in
    let l : c.args.bound ≤ c.in-Some.kept.now.number = search rules in
    j.2 l

pub returns-in-None : goal.returns-in-None
returns-in-None c =
    let h : FoundIs (struct_layouts [] c.args.self.now) c.args.bound c.as_slice.result.now None = first_of c.args.self.now c.args.bound c.as_slice.result.now c.self.inside.map.entries None c.self.view_is c.self.invariant c.in-None.ensures.value in
    subst (λ n. FoundIs (struct_layouts [] c.args.self.now) c.args.bound n None) c.as_slice.ensures h
