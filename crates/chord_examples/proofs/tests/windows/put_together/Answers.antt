use Rattle.std.proofs.Common.{◌≡◌, ℕ, zero, suc, Some, ◌<◌, ◌∷◌, ◌++◌, [], List, get_or, refl, sym, ap, ◌∙◌, subst, arith}
use Rattle.chord_scenario.specs.declared.scenario.Scenario.{Scenario}
use Rattle.chord_window.specs.declared.part_done.Done.{Done}
use Rattle.chord_window.specs.declared.world.World.{World}
use Rattle.chord_window.specs.Ordering.{ArePartsDone, IsResult, parts_of}
use Rattle.chord_window.specs.PartRuns.{IsDone}
use Rattle.chord_window.proofs.Dones.{part_is}
use Rattle.des_parts.specs.Ordering.{HasEachOnce, count_of}
use Rattle.chord_examples.proofs.tests.windows.put_together.Goals as goal

counted : (x : ℕ) → x < 2 → count_of x (1 ∷ 0 ∷ []) ≡ 1
counted zero l = refl
counted (suc zero) l = refl
counted (suc (suc n)) l = absurd (omega (arith, l))

below : (i d : ℕ) → i < 2 → get_or (1 ∷ 0 ∷ []) i d < 2
below zero d l = omega arith
below (suc zero) d l = omega arith
below (suc (suc n)) d l = absurd (omega (arith, l))

once : HasEachOnce 2 (1 ∷ 0 ∷ [])
once = record { each_once = counted; no_other = below }

module _ (sc : Scenario) (w : World) (horizon : ℕ) (first second : Done) (a : IsDone sc w horizon 0 first) (b : IsDone sc w horizon 1 second) where
  each : (i : ℕ) (d : Done) → i < 2 → IsResult sc w horizon (get_or (second ∷ first ∷ []) i d)
  each zero d l = subst (λ p. IsDone sc w horizon p second) (sym (part_is sc w horizon 1 second b)) b
  each (suc zero) d l = subst (λ p. IsDone sc w horizon p first) (sym (part_is sc w horizon 0 first a)) a
  each (suc (suc n)) d l = absurd (omega (arith, l))

  numbers : parts_of (second ∷ first ∷ []) ≡ 1 ∷ 0 ∷ []
  numbers = ap (λ p. p ∷ first.part ∷ []) (part_is sc w horizon 1 second b) ∙ ap (λ p. 1 ∷ p ∷ []) (part_is sc w horizon 0 first a)

  together : (time : ℕ) → w.kernel.opening ≡ Some (record { time = time; horizon = horizon }) → w.kernel.division.parts ≡ 2 → ArePartsDone sc w horizon (second ∷ first ∷ [])
  together time opening two = record {
    time = time;
    opening = opening;
    once = subst (λ n. HasEachOnce n (parts_of (second ∷ first ∷ []))) (sym two) (subst (HasEachOnce 2) (sym numbers) once);
    each = each;
  }

pub exchange-requires-clause-done : goal.exchange-requires-clause-done
exchange-requires-clause-done c = (
  c.args.horizon,
  subst (λ (l : List Done). ArePartsDone c.args.scenario.now c.args.world.now c.args.horizon l)
      (sym (c.in_ok-push-2.ensures.items ∙ ap (λ l. l ++ c.args.first ∷ [])
      (c.in_ok-push.ensures.items ∙ ap (λ l. l ++ c.args.second ∷ []) c.new-dones.ensures.items)))
      (together c.args.scenario.now c.args.world.now c.args.horizon c.args.first c.args.second c.requires.first c.requires.second c.requires.horizon.0
      c.requires.horizon.1 c.requires.parts),
)
