use Rattle.std.proofs.Common.{sym, ◌∙◌}
use Rattle.gimple_tokens.proofs.Nexts.{from_place, skipped, behind_within, next_some, next_bad}
use Rattle.gimple_tokens.proofs.next.next_token.Goals as goal

pub moved-start-requires-clause-within : goal.moved-start-requires-clause-within
moved-start-requires-clause-within c = skipped c.args.bytes.now c.args.at.place c.skip-rest.result.now c.requires.within (from_place c.args.bytes.now c.args.at.place c.skip-rest.result.now c.skip-rest.ensures)

pub moved-after-requires-clause-within : goal.moved-after-requires-clause-within
moved-after-requires-clause-within c = behind_within c.args.bytes.now c.args.at.place c.skip-rest.result.now c.in-Some.behind.now c.moved-start.result c.requires.within (from_place c.args.bytes.now c.args.at.place c.skip-rest.result.now c.skip-rest.ensures) c.in-Some.ensures c.moved-start.ensures

pub returns-in-Some : goal.returns-in-Some
returns-in-Some c = next_some c.args.bytes.now c.args.at.place c.skip-rest.result.now c.in-Some.behind.now c.moved-start.result c.moved-after.result (from_place c.args.bytes.now c.args.at.place c.skip-rest.result.now c.skip-rest.ensures) c.in-Some.ensures c.moved-start.ensures c.moved-after.ensures

pub returns-else-is_empty : goal.returns-else-is_empty
returns-else-is_empty c = next_bad c.args.bytes.now c.args.at.place c.skip-rest.result.now c.moved-start.result (from_place c.args.bytes.now c.args.at.place c.skip-rest.result.now c.skip-rest.ensures) c.in-None.ensures (sym c.is_empty.ensures ∙ c.if-is_empty.false) c.moved-start.ensures
