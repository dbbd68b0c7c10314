-- How a joining node becomes a member, and how a member loses its predecessor.
use Rattle.std.specs.Prelude.{◌≡◌, ℕ, ◌-◌, ◌≤◌, Contains, List, Option, Some}
use Rattle.chord_event.specs.declared.body.Body.{Body}
use Rattle.chord_event.specs.declared.body.Body.TheVariants as body
use Rattle.des_event.specs.declared.event.Event.{Event}
use Rattle.chord_event.specs.declared.line.Line.{Line}
use Rattle.chord_event.specs.declared.line.Line.TheVariants as line
use Rattle.chord_scenario.specs.declared.scenario.Scenario.{Scenario}
use Rattle.chord_node.specs.declared.state.Call.{Call}
use Rattle.chord_node.specs.declared.state.NodeState.{NodeState}
use Rattle.chord_node.specs.declared.state.Purpose.TheVariants as purpose
use Rattle.chord_ops.specs.Procedures.{call_of}

-- the first successor of a joining node replies to its call for JoinHead
pub record MeetsHead (s : NodeState) (e : Event Body) : Type 0 where
  pub number : ℕ
  pub prdc : Option ℕ
  pub list : List ℕ
  pub behind : ℕ
  pub call : Call
  pub is : e.body ≡ body.StateReply number prdc list
  pub found : call_of number s ≡ Some call
  pub asked : call.purpose ≡ purpose.JoinHead behind

-- the node makes a ring, and its lines say so
abbrev pub MakesRing : List Line → Type 0
MakesRing lines = Contains lines line.Create

-- a check of the predecessor times out for the last time, and the node forgets it
pub record ForgetsSilent (sc : Scenario) (s : NodeState) (e : Event Body) (lines : List Line) (prdc : ℕ) : Type 0 where
  pub number : ℕ
  pub call : Call
  pub is : e.body ≡ body.Timeout number
  pub found : call_of number s ≡ Some call
  pub asked : call.purpose ≡ purpose.Check
  pub to : call.to ≡ prdc
  pub last : sc.retries ≤ call.resent
  pub told : Contains lines (line.Forget prdc)

-- the predecessor says that it leaves
pub record PredecessorLeaves (e : Event Body) (prdc : ℕ) : Type 0 where
  pub heir : Option ℕ
  pub list : List ℕ
  pub is : e.body ≡ body.Leave heir list
  pub from : e.key.origin - 2 ≡ prdc

-- the node is left without successors
pub record IsStranded (lines : List Line) : Type 0 where
  pub via : ℕ
  pub told : Contains lines (line.Stranded via)
