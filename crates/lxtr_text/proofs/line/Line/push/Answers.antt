-- A byte where there is room, and none in a full line.
use Rattle.lxtr_text.specs.Writing.{wrote_one, wrote_full}
use Rattle.lxtr_text.proofs.line.Line.push.Goals as goal

pub returns-then-self : goal.returns-then-self
returns-then-self c = wrote_one c.args.self.now c.args.x c.if-self.true

pub returns-else-self : goal.returns-else-self
returns-else-self c = wrote_full c.args.self.now _ c.if-self.false
