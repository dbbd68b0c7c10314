use Rattle.std.proofs.Common.{◌≡◌, ◌++◌, reverse, vec_len}
use Rattle.chord_output.proofs.actor_ring.actors_of.Given as goal

abbrev pub invariant-loop-state : goal.invariant-loop-state
invariant-loop-state l = l.states.items ++ reverse l.actors.items ≡ l.fn.states.items

abbrev pub decreases-loop-state : goal.decreases-loop-state
decreases-loop-state l = vec_len l.states
