use Rattle.gimple_tokens.proofs.SpotLaws.{moved_init}
use Rattle.gimple_tokens.proofs.next.moved.Goals as goal

pub loop-rest-init : goal.loop-rest-init
loop-rest-init c = moved_init c.args.bytes.now c.args.at.place c.args.left c.args.at.spot c.requires.within c.requires.there
