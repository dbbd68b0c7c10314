-- What a command may ask of its node, and the names of it.
use Rattle.std.specs.Prelude.{ℕ, Bool, true, false, List, codes, bytes_eq, Option, Some, None, if◌then◌else◌}
use Rattle.chord_scenario.specs.declared.operation.Operation.{Operation}
use Rattle.chord_scenario.specs.declared.operation.Operation.TheVariants.{Join, Crash, Leave, Lookup}

-- the operation of this name
abbrev pub operation_named : List ℕ → Option Operation
operation_named word =
    if bytes_eq (codes "join") word then Some Join
    else if bytes_eq (codes "crash") word then Some Crash
    else if bytes_eq (codes "leave") word then Some Leave
    else if bytes_eq (codes "lookup") word then Some Lookup
    else None

-- whether a command may ask this: nodes leave in the extended profile alone
abbrev pub is_allowed : (leaves : Bool) → Option Operation → Bool
is_allowed leaves None = false
is_allowed leaves (Some Leave) = leaves
is_allowed leaves (Some _) = true

-- there is an operation, and it is a join
abbrev pub is_join : Option Operation → Bool
is_join (Some Join) = true
is_join _ = false

-- there is an operation, and it is a lookup
abbrev pub is_lookup : Option Operation → Bool
is_lookup (Some Lookup) = true
is_lookup _ = false
