use Rattle.std.proofs.Common.{rules, ◌≡◌, not, Ok}
use Rattle.gimple_core.specs.Declarations as spec
use Rattle.gimple_core.specs.Env.{has, declared, structs_by_name}
use Rattle.gimple_core.specs.Verdict.{demand}
use Rattle.gimple_types.specs.Seen.{seen}
use Rattle.gimple_types.proofs.declare.local.Goals as goal

pub returns-in_err-declare : goal.returns-in_err-declare
unfolding spec.local
returns-in_err-declare c =
    let e1 : spec.is_free (seen c.args.known.now c.args.own.now) c.args.known.now.functions c.args.decl.now.name ≡ Ok tt = search rules in
    let e2 : demand (not (has c.args.decl.now.name c.args.own.now.registers)) 2 ≡ Ok tt = search rules in
    rw e1 (rw e2 (search rules))

pub returns-in_err-known_shape : goal.returns-in_err-known_shape
unfolding spec.local
returns-in_err-known_shape c =
    let e1 : spec.is_free (seen c.args.known.now c.args.own.now) c.args.known.now.functions c.args.decl.now.name ≡ Ok tt = search rules in
    let e2 : demand (not (has c.args.decl.now.name c.args.own.now.registers)) 2 ≡ Ok tt = search rules in
    let e3 : declared c.args.own.now.locals c.args.decl.now.name c.args.decl.now ≡ Ok c.declare.new.self = search rules in
    rw e1 (rw e2 (rw e3 (search rules)))

pub returns-in_err-sized : goal.returns-in_err-sized
unfolding spec.local
returns-in_err-sized c =
    let e1 : spec.is_free (seen c.args.known.now c.args.own.now) c.args.known.now.functions c.args.decl.now.name ≡ Ok tt = search rules in
    let e2 : demand (not (has c.args.decl.now.name c.args.own.now.registers)) 2 ≡ Ok tt = search rules in
    let e3 : declared c.args.own.now.locals c.args.decl.now.name c.args.decl.now ≡ Ok c.declare.new.self = search rules in
    let e4 : spec.known_shape (structs_by_name c.args.known.now.structs) c.args.decl.now.shape ≡ Ok tt = search rules in
    rw e1 (rw e2 (rw e3 (rw e4 (search rules))))
