use Rattle.std.proofs.Common.{◌≡◌, ◌==◌, ◌∙◌, ◌∷◌, [], ◌++◌, ◌<◌, ℕ, List, length, map, ap, sym, subst, get_or, zero-add, arith, refl, rules}
use Rattle.std.specs.List.{All, range_with_len}
use Rattle.std.proofs.lemmas.Bool.{eq-eqb}
use Rattle.std.proofs.lemmas.List.Folds.{list_any_at}
use Rattle.std.proofs.lemmas.List.FromFn.{map-range_with_len_more, length-map-range_with_len, get_or-map-range_with_len}
use Rattle.std.proofs.lemmas.List.Sorted.{All-permutation, IsNonDecreasingBy-from_sort_by_key, list_any-IsPermutation}
use Rattle.chord_scenario.specs.World.{ident_of, node_count}
use Rattle.chord_judge.proofs.Scanned.{place_of}
use Rattle.chord_judge.specs.Places.{IsPlaceOf}
use Rattle.chord_judge.specs.declared.places.Place.{Place}
use Rattle.chord_judge.proofs.places.places_of.Goals as goal

pub loop-node-preserved : goal.loop-node-preserved
loop-node-preserved c =
    let sc = c.args.scenario.now in let node = c.loop-node.node in
    let pushed : c.push.new.self.items ≡ c.loop-node.places.items ++ record { ident = c.raw-ident.result; node = node } ∷ [] = c.in_ok-push.ensures.items in
    let ident : c.raw-ident.result ≡ ident_of sc node = c.raw-ident.ensures ∙ c.ident.ensures.value in
    pushed ∙ ap (λ (i : ℕ). c.loop-node.places.items ++ record { ident = i; node = node } ∷ []) ident
    ∙ ap (λ (l : List Place). l ++ place_of sc node ∷ []) c.loop-node.invariant
    ∙ sym (map-range_with_len_more (place_of sc) 0 node node (zero-add node))

pub returns : goal.returns
returns c =
    let sc = c.args.scenario.now in let n = node_count sc in
    let end : c.loop-node.node ≡ n = omega (arith, c.loop-node-test.false, c.loop-node.auto.node-end, c.nodes-node-end.ensures) in
    let before : List Place = c.loop-node.places.items in
    let is : before ≡ map (place_of sc) (range_with_len 0 n) = c.loop-node.invariant ∙ ap (λ (k : ℕ). map (place_of sc) (range_with_len 0 k)) end in
    let many : length before ≡ n = ap (λ (l : List Place). length l) is ∙ length-map-range_with_len (place_of sc) 0 n in
    let at : (i : ℕ) (d : Place) → i < n → get_or before i d ≡ place_of sc i = λ i d lt. ap (λ (l : List Place). get_or l i d) is ∙ get_or-map-range_with_len (place_of sc) 0 n i i d lt (zero-add i) in
    let each : All (IsPlaceOf sc) before = λ i d lt. let l : i < n = omega (arith, many, lt) in subst (IsPlaceOf sc) (sym (at i d l)) (record { node = l; ident = refl }) in
    record {
      each = All-permutation (IsPlaceOf sc) before c.sort_unstable_by_key.new.self.items c.sort_unstable_by_key.ensures.permutation each;
      ascend = IsNonDecreasingBy-from_sort_by_key (λ place. place.ident) _ c.sort_unstable_by_key.ensures.sorted (λ a r q k. search rules);
      all = λ m lt.
          sym (list_any-IsPermutation (λ (place : Place). place.node == m) before c.sort_unstable_by_key.new.self.items c.sort_unstable_by_key.ensures.permutation)
          ∙ list_any_at (λ (place : Place). place.node == m) before m (place_of sc m) (omega (arith, many, lt))
          (ap (λ (p : Place). p.node == m) (at m (place_of sc m) lt) ∙ eq-eqb m m refl);
    }
