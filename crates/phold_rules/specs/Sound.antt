-- What holds of the states and events of a run of PHOLD.
use Rattle.std.specs.Prelude.{ℕ, ◌<◌, ◌≤◌, ◌^◌, ⊤}
use Rattle.des_event.specs.declared.event.Event.{Event}
use Rattle.phold_rules.specs.declared.settings.Settings.{Settings}
use Rattle.phold_rules.specs.declared.rules.Job.{Job}
use Rattle.phold_rules.specs.declared.rules.Node.{Node}

-- what holds of each state of a node: nothing is asked
abbrev pub IsSound : Settings → ℕ → Node → Type 0
IsSound p n s = ⊤

-- what holds of each event: its target is a node
abbrev pub IsFit : Settings → Event Job → Type 0
IsFit p e = e.target < p.nodes

-- the node has counted so few events that it can count one more
abbrev pub HasRoom : Node → Type 0
HasRoom s = s.made ≤ 2 ^ 40
