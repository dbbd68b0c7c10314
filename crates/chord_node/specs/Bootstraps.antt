-- The nodes through which a node joins when it has to choose one.
use Rattle.std.specs.Prelude.{ℕ, ◌≢◌, ◌==◌, ◌&&◌, ◌+◌, ◌-◌, ◌≤◌, List, not, nat_lt, Option, find, if◌then◌else◌}
use Rattle.std.specs.List.{Contains}
use Rattle.std.specs.Option.{option_or}
use Rattle.chord_scenario.specs.declared.scenario.Scenario.{Scenario}
use Rattle.chord_scenario.specs.World.{node_count}

-- the first node of a list other than node n
abbrev pub first_other : (n : ℕ) → List ℕ → Option ℕ
first_other n nodes = find (λ x. not (x == n)) nodes

-- the first bootstrap node other than node n
abbrev pub first_bootstrap : Scenario → (n : ℕ) → Option ℕ
first_bootstrap sc n = first_other n sc.bootstraps

-- the first bootstrap node other than node n that follows the node `before` in the order of the file
abbrev pub later_bootstrap : Scenario → (n before : ℕ) → Option ℕ
later_bootstrap sc n before = find (λ x. nat_lt before x && not (x == n)) sc.bootstraps

-- the next bootstrap node other than node n in the order of the file, and after the last one the first of all
unfoldable pub next_bootstrap : Scenario → (n before : ℕ) → Option ℕ
next_bootstrap sc n before = option_or (later_bootstrap sc n before) (first_bootstrap sc n)

-- how many steps it is from a node to another one in the order of the file, in which the first node follows the last:
-- from a node to itself it is the whole round
abbrev pub turns_to : Scenario → (from to : ℕ) → ℕ
turns_to sc from to = if nat_lt from to then to - from else to + node_count sc - from

-- the bootstrap node that node n tries next is the one, other than itself, that is the fewest steps on
pub record IsNextBootstrap (sc : Scenario) (n before next : ℕ) : Type 0 where
  pub another : next ≢ n
  pub bootstrap : Contains sc.bootstraps next
  pub none_passed : (x : ℕ) → Contains sc.bootstraps x → x ≢ n → turns_to sc before next ≤ turns_to sc before x
