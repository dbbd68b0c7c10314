use Rattle.std.proofs.lemmas.List.Sorted.{IsPermutation-trans}
use Rattle.des_queue.proofs.calendar.sort_up.Goals as goal

pub returns-clause-same : goal.returns-clause-same
returns-clause-same g c =
    IsPermutation-trans c.args.events.now.items c.sort_down.new.events.items c.reverse.new.self.items c.sort_down.ensures.same c.reverse.ensures.permutation
