-- What a queue ends as, once a reference into it has ended.
use Rattle.std.specs.Prelude.{◌≡◌, List}
use Rattle.std.specs.Borrow.{Fml, MutBor, RattleType}
use Rattle.std.specs.Io.BufRead.{Rests}
use Rattle.des_event.specs.declared.event.Event.{Event}
use Rattle.des_queue.specs.Queue.{Queue, queue}
use Rattle.des_queue.specs.contracts.window_queue.WindowQueue.{the_row}

-- the events es wait
abbrev pub ends_as : (B : RattleType) → MutBor (Queue B.Denot) → List (Event B.Denot) → Fml
ends_as B q es = Rests (the_row B) q (λ n. n ≡ queue es q.now.pushes)
