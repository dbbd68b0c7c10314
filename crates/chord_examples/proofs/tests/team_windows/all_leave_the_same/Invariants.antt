use Rattle.chord_examples.proofs.tests.team_windows.all_leave_the_same.Given as goal
use Rattle.chord_team.specs.Rings.{ring_of}
use Rattle.des_team.specs.Teams.{CanSend}

abbrev pub invariant-loop-part : goal.invariant-loop-part
invariant-loop-part g l = CanSend (ring_of l.course.machine.now.scenario.now) l.course.layout.now l.team
