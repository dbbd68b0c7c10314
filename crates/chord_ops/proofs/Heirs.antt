-- What a member takes over from a node that has left.
use Rattle.std.proofs.Common.{◌==◌, ℕ, ◌<◌, ◌≤◌, Bool, true, false, not, List, [], ◌∷◌, filter, length, Option, None, take, arith}
use Rattle.std.proofs.lemmas.List.{length-take}
use Rattle.std.proofs.lemmas.List.Elements.{All-append, All-cons, All-filter, All-take}
use Rattle.std.specs.List.{list_any}
use Rattle.std.specs.Prelude.{IfSome, if◌then◌else◌}
use Rattle.chord_scenario.specs.declared.scenario.Scenario.{Scenario}
use Rattle.chord_scenario.specs.World.{node_count}
use Rattle.chord_node.specs.Invariant.{AllNodes}
use Rattle.chord_node.specs.Ring.{or_itself}
use Rattle.chord_ops.specs.Procedures.{holds}
use Rattle.chord_ops.specs.Rules.{followed_by, inherited, mended, others_left}
use Rattle.chord_ops.specs.Search.{is_avoided}
use Rattle.chord_ops.proofs.KeptRules.{none_of}

-- the predecessor is a node of the scenario
pub inherited_known : (sc : Scenario) (gone : ℕ) (prdc own : Option ℕ) → IfSome prdc (λ node. node < node_count sc) → IfSome own (λ node. node < node_count sc)
    → IfSome (inherited gone prdc own) (λ node. node < node_count sc)
inherited_known sc gone prdc own of_gone of_own = by (holds own gone) (holds prdc gone)
  where
    by : (b c : Bool) → IfSome (if b then (if c then None else prdc) else own) (λ node. node < node_count sc)
    by true true = tt
    by true false = of_gone
    by false c = of_own

or_known : (sc : Scenario) (n : ℕ) (xs : List ℕ) → n < node_count sc → AllNodes sc xs → AllNodes sc (or_itself n xs)
or_known sc n [] at all = All-cons (λ x. x < node_count sc) n [] at (none_of (λ x. x < node_count sc))
or_known sc n (x ∷ xs) at all = all

or_few : (n most : ℕ) (xs : List ℕ) → 1 ≤ most → length xs ≤ most → length (or_itself n xs) ≤ most
or_few n most [] one few = omega (arith, one)
or_few n most (x ∷ xs) one few = few

or_some : (n : ℕ) (xs : List ℕ) → 1 ≤ length (or_itself n xs)
or_some n [] = omega arith
or_some n (x ∷ xs) = omega arith

module _ (sc : Scenario) (gone : ℕ) (list succ : List ℕ) where
  abbrev left : List ℕ
  left = others_left gone succ

  abbrev new : List ℕ
  new = filter (λ x. not (is_avoided left x)) (others_left gone list)

  abbrev heirs : List ℕ
  heirs = followed_by left (others_left gone list)

  -- so are the entries of the list, which is as long as a list may be, and not empty
  pub mended_known : gone < node_count sc → AllNodes sc list → AllNodes sc succ → AllNodes sc (mended sc gone list succ)
  mended_known at all own = by (list_any (λ x. x == gone) succ)
    where
      by : (b : Bool) → AllNodes sc (if b then or_itself gone (take sc.list heirs) else succ)
      by true =
          or_known sc gone (take sc.list heirs) at
          (All-take (λ x. x < node_count sc) sc.list heirs
          (All-append (λ x. x < node_count sc) left new
          (All-filter (λ x. not (x == gone)) (λ x. x < node_count sc) succ own)
          (All-filter (λ x. not (is_avoided left x)) (λ x. x < node_count sc) (others_left gone list)
          (All-filter (λ x. not (x == gone)) (λ x. x < node_count sc) list all))))
      by false = own

  pub mended_few : 1 ≤ sc.list → length succ ≤ sc.list → length (mended sc gone list succ) ≤ sc.list
  mended_few one few = by (list_any (λ x. x == gone) succ)
    where
      by : (b : Bool) → length (if b then or_itself gone (take sc.list heirs) else succ) ≤ sc.list
      by true = or_few gone sc.list (take sc.list heirs) one (omega (arith, length-take sc.list heirs))
      by false = few

  pub mended_some : 1 ≤ length succ → 1 ≤ length (mended sc gone list succ)
  mended_some some = by (list_any (λ x. x == gone) succ)
    where
      by : (b : Bool) → 1 ≤ length (if b then or_itself gone (take sc.list heirs) else succ)
      by true = or_some gone (take sc.list heirs)
      by false = some
