use Rattle.std.proofs.Common.{◌≡◌, vec_len}
use Rattle.des_team.proofs.Sending.{IsSending}
use Rattle.des_team.proofs.part.OwnedPart.send.Given as goal

abbrev pub invariant-loop-event : goal.invariant-loop-event
invariant-loop-event g l = record {
  sending : IsSending l.layout.division l.fn.made.items l.made.items l.initial.self l.self l.soonest;
  others : l.self ≡ record l.initial.self { pending = l.self.pending; outbox = l.self.outbox };
}

abbrev pub decreases-loop-event : goal.decreases-loop-event
decreases-loop-event g l = vec_len l.made
