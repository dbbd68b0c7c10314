-- What leading bits say of a node that is looked at.
use Rattle.std.proofs.Common.{◌≡◌, ℕ, ◌+◌, ◌-◌, ◌/◌, ◌%◌, ◌^◌, ◌<◌, ◌≤◌, ◌&&◌, Bool, true, false, not, List, arith, nat_le, nat_lt, refl, subst, sym}
use Rattle.std.proofs.Math.Nat.{zero-div}
use Rattle.std.proofs.lemmas.Bool.Decides.{nat_tests}
use Rattle.std.specs.Prelude.{if◌then◌else◌}
use Rattle.chord_circle.specs.Circle.{distance, leading}
use Rattle.chord_circle.proofs.Leading.{leading-less, near-least, near-most}
use Rattle.chord_scenario.specs.Range.{IsInRange}
use Rattle.chord_scenario.specs.World.{ident_of, node_count}
use Rattle.chord_scenario.specs.declared.scenario.Scenario.{Scenario}
use Rattle.chord_ops.specs.Search.{IsSeen, IsWay, is_avoided, is_closer, visited}
use Rattle.chord_ops.specs.declared.search.Seen.{Seen}
use Rattle.chord_ops.specs.declared.search.Way.{Way}
use Rattle.chord_ops.proofs.Visited.{kept, taken, visited_closer}

-- the wrapped difference of the leading bits of a node and of the place where the way begins, if it is not 0
pub record IsNear (sc : Scenario) (way : Way) (x near : ℕ) : Type 0 where
  pub on_circle : ident_of sc x < 2 ^ sc.bits
  pub difference : near ≡ (leading sc.bits (ident_of sc x) + (4294967296 - way.home_leading)) % 4294967296
  pub some : 0 < near

pub is_near : (sc : Scenario) (way : Way) (x found : ℕ) → IsInRange sc → x < node_count sc → found ≡ leading sc.bits (ident_of sc x)
    → 0 < (found + (4294967296 - way.home_leading)) % 4294967296
    → IsNear sc way x ((found + (4294967296 - way.home_leading)) % 4294967296)
is_near sc way x found range known is some = record { on_circle = range.nodes.on_circle x known; difference = rw (is) refl; some = some }

-- how far a node is from the beginning of the way
abbrev from_home : Scenario → Way → ℕ → ℕ
from_home sc way x = distance sc.bits way.home (ident_of sc x)

wrapped : (sc : Scenario) (way : Way) (x near : ℕ) → IsWay sc way → IsNear sc way x near
    → near ≡ (leading sc.bits (ident_of sc x) + (4294967296 - leading sc.bits way.home)) % 4294967296
wrapped sc way x near h is =
    subst (λ (n : ℕ). near ≡ (leading sc.bits (ident_of sc x) + (4294967296 - n)) % 4294967296) h.home_leading is.difference

-- it is that of the leading bits of the node's distance, or one more
pub near_least : (sc : Scenario) (way : Way) (x near : ℕ) → IsWay sc way → IsNear sc way x near → leading sc.bits (from_home sc way x) ≤ near
near_least sc way x near h is =
    let e = wrapped sc way x near h is in
    let some : 0 < (leading sc.bits (ident_of sc x) + (4294967296 - leading sc.bits way.home)) % 4294967296 = subst (λ (n : ℕ). 0 < n) e is.some in
    subst (λ (n : ℕ). leading sc.bits (from_home sc way x) ≤ n) (sym e) (near-least sc.bits way.home (ident_of sc x) h.on_circle is.on_circle some)

pub near_most : (sc : Scenario) (way : Way) (x near : ℕ) → IsWay sc way → IsNear sc way x near → near ≤ leading sc.bits (from_home sc way x) + 1
near_most sc way x near h is =
    let e = wrapped sc way x near h is in
    let some : 0 < (leading sc.bits (ident_of sc x) + (4294967296 - leading sc.bits way.home)) % 4294967296 = subst (λ (n : ℕ). 0 < n) e is.some in
    subst (λ (n : ℕ). n ≤ leading sc.bits (from_home sc way x) + 1) (sym e) (near-most sc.bits way.home (ident_of sc x) h.on_circle is.on_circle some)

not_closer : (closer before free : Bool) → closer ≡ false → (closer && before && free) ≡ false
not_closer false before free e = refl
not_closer true before free e = let never : true ≡ false = e in absurd (cc)

not_before : (closer before free : Bool) → before ≡ false → (closer && before && free) ≡ false
not_before true false free e = refl
not_before false false free e = refl
not_before closer true free e = let never : true ≡ false = e in absurd (cc)

all_three : (closer before free : Bool) → closer ≡ true → before ≡ true → free ≡ true → (closer && before && free) ≡ true
all_three closer before free is_closer is_before is_free = rw (is_closer, is_before, is_free) refl

-- a node beyond the key is passed
pub passed_beyond : (sc : Scenario) (way : Way) (avoid : List ℕ) (c x near : ℕ) → IsWay sc way → IsNear sc way x near → way.last_leading < near - 1
    → visited sc way.me way.key avoid c x ≡ c
passed_beyond sc way avoid c x near h is far =
    let beyond : leading sc.bits way.last < leading sc.bits (from_home sc way x) = omega (arith, h.last_leading, near_most sc way x near h is, far) in
    let past : way.last < from_home sc way x = leading-less sc.bits way.last (from_home sc way x) beyond in
    let reached : nat_le (from_home sc way x) way.last ≡ false = grind (arith, nat_tests) in
    kept (visited sc way.me way.key avoid) c x (is_closer way avoid (from_home sc way c) (from_home sc way x) x)
    (visited_closer sc way avoid c x (from_home sc way c) (from_home sc way x) h refl refl)
    (not_before (nat_lt (from_home sc way c) (from_home sc way x)) (nat_le (from_home sc way x) way.last) (not (is_avoided avoid x)) reached)

-- a node that is not farther than the closest so far is passed
pub passed_behind : (sc : Scenario) (way : Way) (avoid : List ℕ) (seen : Seen) (x near : ℕ) → IsWay sc way → IsSeen sc way seen → IsNear sc way x near
    → near < seen.leading - 1
    → visited sc way.me way.key avoid seen.closest x ≡ seen.closest
passed_behind sc way avoid seen x near h s is less =
    let c : ℕ = seen.closest in
    let behind : leading sc.bits (from_home sc way x) < leading sc.bits (from_home sc way c) = omega (arith, near_least sc way x near h is, s.most, less) in
    let nearer : from_home sc way x < from_home sc way c = leading-less sc.bits (from_home sc way x) (from_home sc way c) behind in
    let closer : nat_lt (from_home sc way c) (from_home sc way x) ≡ false = grind (arith, nat_tests) in
    kept (visited sc way.me way.key avoid) c x (is_closer way avoid (from_home sc way c) (from_home sc way x) x)
    (visited_closer sc way avoid c x (from_home sc way c) (from_home sc way x) h refl refl)
    (not_closer (nat_lt (from_home sc way c) (from_home sc way x)) (nat_le (from_home sc way x) way.last) (not (is_avoided avoid x)) closer)

-- a node between the closest so far and the key is taken
pub reached : (sc : Scenario) (way : Way) (avoid : List ℕ) (seen : Seen) (x near : ℕ) → IsWay sc way → IsSeen sc way seen → IsNear sc way x near
    → seen.leading < near - 1 → near < way.last_leading → not (is_avoided avoid x) ≡ true
    → visited sc way.me way.key avoid seen.closest x ≡ x
reached sc way avoid seen x near h s is more less free =
    let c : ℕ = seen.closest in
    let ahead : leading sc.bits (from_home sc way c) < leading sc.bits (from_home sc way x) = omega (arith, near_most sc way x near h is, s.least, more) in
    let farther : from_home sc way c < from_home sc way x = leading-less sc.bits (from_home sc way c) (from_home sc way x) ahead in
    let short : leading sc.bits (from_home sc way x) < leading sc.bits way.last = omega (arith, near_least sc way x near h is, h.last_leading, less) in
    let within : from_home sc way x < way.last = leading-less sc.bits (from_home sc way x) way.last short in
    let closer : nat_lt (from_home sc way c) (from_home sc way x) ≡ true = grind (arith, nat_tests) in
    let before : nat_le (from_home sc way x) way.last ≡ true = grind (arith, nat_tests) in
    taken (visited sc way.me way.key avoid) c x (is_closer way avoid (from_home sc way c) (from_home sc way x) x)
    (visited_closer sc way avoid c x (from_home sc way c) (from_home sc way x) h refl refl)
    (all_three (nat_lt (from_home sc way c) (from_home sc way x)) (nat_le (from_home sc way x) way.last) (not (is_avoided avoid x)) closer before free)

-- and its leading bits are known, or one more
pub seen_there : (sc : Scenario) (way : Way) (x near : ℕ) → IsWay sc way → x < node_count sc → IsNear sc way x near
    → IsSeen sc way (record { closest = x; leading = near })
seen_there sc way x near h known is = record { known = known; least = near_least sc way x near h is; most = near_most sc way x near h is }

-- the search begins at the node itself, at no distance
pub seen_home : (sc : Scenario) (way : Way) → way.me < node_count sc → 0 ≡ from_home sc way way.me → IsSeen sc way (record { closest = way.me; leading = 0 })
seen_home sc way known none = record {
  known = known;
  least = subst (λ (n : ℕ). leading sc.bits n ≤ 0) none (no_leading sc.bits);
  most = omega arith;
}
  where
    no_leading : (bits : ℕ) → leading bits 0 ≤ 0
    no_leading bits = elim (nat_le 32 bits) as (λ b. (if b then 0 / 2 ^ (bits - 32) else 0) ≤ 0) [ true ↦ omega (arith, zero-div (2 ^ (bits - 32))) | false ↦ omega arith ]
