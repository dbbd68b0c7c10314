use Rattle.std.specs.BinaryHeap.{heap_items}
use Rattle.des_team.proofs.Heads.{least_head}
use Rattle.des_team.proofs.output.first_key.Goals as goal

pub returns-in-Some-clause-least : goal.returns-in-Some-clause-least
returns-in-Some-clause-least c = λ heap. least_head c.in-Some.head.now (heap_items c.args.heads.now) (c.in-Some.ensures.greatest heap)
