use Rattle.chord_ops.proofs.turn.Turn.end_call.Goals as goal

pub time_out_lookup_of-requires-clause-lookups : goal.time_out_lookup_of-requires-clause-lookups
time_out_lookup_of-requires-clause-lookups c = rw (c.drop_call.ensures) c.requires.state.lookups.each

pub time_out_lookup_of-requires-clause-successors : goal.time_out_lookup_of-requires-clause-successors
time_out_lookup_of-requires-clause-successors c = rw (c.drop_call.ensures) c.requires.state.neighbours.succ_known

pub time_out_lookup_of-requires-clause-fingers : goal.time_out_lookup_of-requires-clause-fingers
time_out_lookup_of-requires-clause-fingers c = rw (c.drop_call.ensures) c.requires.state.neighbours.fingers_known

pub time_out_state-requires-clause-successors : goal.time_out_state-requires-clause-successors
time_out_state-requires-clause-successors c = rw (c.drop_call.ensures) c.requires.state.neighbours.succ_known

pub notify_head-requires-clause-successors : goal.notify_head-requires-clause-successors
notify_head-requires-clause-successors c = rw (c.drop_call.ensures) c.requires.state.neighbours.succ_known
