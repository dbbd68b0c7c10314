-- The right owner of a key among the members. `member` says of each node whether it is one.
use Rattle.std.specs.Prelude.{◌≡◌, ℕ, ◌==◌, ◌<◌, ◌≤◌, ◌&&◌, ◌||◌, Bool, true, not, nat_le, nat_lt, List, [], ◌∷◌, Option, count_by, find}
use Rattle.chord_audit.specs.Audit.{nodes}
use Rattle.chord_circle.specs.Circle.{distance}
use Rattle.chord_judge.specs.Members.{is_change, is_member_after}
use Rattle.chord_judge.specs.declared.told.Told.{Told}
use Rattle.chord_scenario.specs.Setup.{Setup}
use Rattle.chord_scenario.specs.World.{ident_of, node_count}

-- the number of places clockwise from a key to a node
abbrev pub way : Setup → (key node : ℕ) → ℕ
way sc key node = distance sc.bits key (ident_of sc node)

-- the node is a member, and no member is nearer to the key, clockwise from the key
pub record IsRightOwner (sc : Setup) (member : ℕ → Bool) (key node : ℕ) : Type 0 where
  pub there : node < node_count sc
  pub is_member : member node ≡ true
  pub nearest : (other : ℕ) → other < node_count sc → member other ≡ true → way sc key node ≤ way sc key other

-- how many members are nearer to the key than the node is
abbrev pub nearer_count : Setup → (member : ℕ → Bool) → (key node : ℕ) → ℕ
nearer_count sc member key node = count_by (λ other. member other && nat_lt (way sc key other) (way sc key node)) (nodes sc)

-- whether the node is the right owner of the key
abbrev pub is_right_owner : Setup → (member : ℕ → Bool) → (key node : ℕ) → Bool
is_right_owner sc member key node = member node && nearer_count sc member key node == 0

-- the right owner of the key, if there is a member
abbrev pub right_owner : Setup → (member : ℕ → Bool) → (key : ℕ) → Option ℕ
right_owner sc member key = find (is_right_owner sc member key) (nodes sc)

-- whether the node was the right owner of the key at some instant from this time on until after the newest line: before
-- the changes from this time on, or after one of them
abbrev pub was_right_owner : Setup → (begun key node : ℕ) → List Told → Bool
was_right_owner sc begun key node [] = is_right_owner sc (is_member_after sc []) key node
was_right_owner sc begun key node (told ∷ before) =
    let earlier = was_right_owner sc begun key node before in
    is_right_owner sc (is_member_after sc (told ∷ before)) key node || ((not (is_change told.line) || nat_le begun told.time) && earlier)
