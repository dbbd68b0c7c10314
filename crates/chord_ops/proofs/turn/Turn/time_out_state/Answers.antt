use Rattle.std.proofs.Common.{◌<◌}
use Rattle.std.proofs.lemmas.List.Elements.{All-drop}
use Rattle.std.specs.Prelude.{position}
use Rattle.chord_scenario.specs.World.{node_count}
use Rattle.chord_ops.proofs.Dropped.{at_known}
use Rattle.chord_ops.proofs.turn.Turn.time_out_state.Goals.{then-profile-eq-EXTENDED_PROFILE, else-profile-eq-EXTENDED_PROFILE}
use Rattle.chord_ops.proofs.turn.Turn.time_out_state.Goals as goal

pub ask_head-requires-clause-successors : goal.ask_head-requires-clause-successors
ask_head-requires-clause-successors c =
    elim c.if-profile-eq-EXTENDED_PROFILE.branch [
      | then-profile-eq-EXTENDED_PROFILE w ↦
          rw (w.self-is, w.remove_first.ensures)
          (at_known c.args.scenario.now (position _ c.args.self.now.state.succ) c.args.self.now.state.succ c.requires.successors)
      | else-profile-eq-EXTENDED_PROFILE w ↦
          rw (w.self-is, w.drop_first.ensures)
          (All-drop (λ node. node < node_count c.args.scenario.now) 1 c.args.self.now.state.succ c.requires.successors)
    ]
