use Rattle.std.proofs.Common.{◌≡◌, ◌∙◌, []}
use Rattle.std.proofs.lemmas.Result.{IfOk-weaker}
use Rattle.chord_machine.specs.Chord.{chord}
use Rattle.des_model.specs.Worlds.{AreStatesAfter}
use Rattle.chord_output.proofs.Instance.{first_ring}
use Rattle.chord_output.proofs.actor_ring.ActorRingMachine.start_states.Goals as goal

pub returns : goal.returns
returns c =
    let sc = c.args.self.now.scenario.now in
    IfOk-weaker c.actors_of.result (λ actors. actors.items ≡ c.in_ok-states.states.items) (λ actors. AreStatesAfter (chord sc) [] actors.items)
    (λ actors same. first_ring sc actors.items (same ∙ c.in_ok-states.ensures)) c.actors_of.ensures
