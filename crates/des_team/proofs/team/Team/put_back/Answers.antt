use Rattle.std.proofs.Common.{◌<◌, ◌∙◌, ◌++◌, ◌∷◌, [], List, ap, append-nil, append_assoc, arith, length, sym}
use Rattle.std.proofs.lemmas.List.{length-drop, length-set}
use Rattle.std.specs.Vec.{with_item}
use Rattle.std.specs.Vec.Iter.{into_iter_items}
use Rattle.des_queue.proofs.Inserting.{empty}
use Rattle.des_team.specs.declared.part.Done.{Done}
use Rattle.des_team.specs.declared.team.Team.{Team}
use Rattle.des_team.specs.Exchanges.{outputs_of, soonest}
use Rattle.des_team.proofs.PutBack.{all_back, one_back, rest_then}
use Rattle.des_team.proofs.team.Team.put_back.Goals as goal

pub loop-result-preserved : goal.loop-result-preserved
loop-result-preserved g c =
    let fs = c.args.results.items in
    let t = c.loop-result.self in
    let at = c.loop-result.at in
    let f = c.in-Some.result in
    let steps = c.in-Some.ensures.steps.0 in
    let before : List (Done _ _ _ _ _) = into_iter_items c.loop-result.result-iterator in
    let rest : List (Done _ _ _ _ _) = into_iter_items c.next.new.self in
    let inside : at < length t.parcels.items = omega (
      arith,
      ap length c.loop-result.invariant.rest,
      ap length steps,
      length-drop at fs,
      c.loop-result.invariant.long,
      c.requires,
    ) in
    record {
      can_next = tt;
      is_finite = tt;
      rest = rest_then fs at f before rest c.loop-result.invariant.rest steps;
      outputs = ap (λ l. l ++ outputs_of rest) c.in_ok-push.ensures.items
          ∙ append_assoc c.loop-result.outputs.items (c.put_part-output.result ∷ []) (outputs_of rest)
          ∙ ap (λ o. c.loop-result.outputs.items ++ (o ∷ outputs_of rest)) c.put_part-output.ensures.output
          ∙ ap (λ l. c.loop-result.outputs.items ++ l) (sym (ap outputs_of steps)) ∙ c.loop-result.invariant.outputs;
      back = one_back fs t.parcels.items at f before rest c.put_part-output.new.place c.loop-result.invariant.rest steps inside
          c.put_part-output.ensures.back c.loop-result.invariant.back;
      long = length-set t.parcels.items at c.put_part-output.new.place ∙ c.loop-result.invariant.long;
      next = ap (λ o. soonest o rest) c.sooner-self.ensures ∙ sym (ap (soonest t.next) steps) ∙ c.loop-result.invariant.next;
      others = ap (λ (u : Team _ _ _ _ _). record u { parcels = with_item t.parcels at c.put_part-output.new.place; next = c.sooner-self.result })
          c.loop-result.invariant.others;
    }

pub returns-clause-back : goal.returns-clause-back
returns-clause-back g c = all_back c.args.results.items c.loop-result.self.parcels.items c.loop-result.at (into_iter_items c.loop-result.result-iterator)
    c.loop-result.invariant.rest (omega (arith, c.in-None.ensures.steps.0, c.loop-result.result-iterator.rest.ok.0)) c.loop-result.invariant.back

pub overflow_add-at : goal.overflow_add-at
overflow_add-at g c = omega (
  arith,
  ap length c.loop-result.invariant.rest,
  ap length c.in-Some.ensures.steps.0,
  length-drop c.loop-result.at c.args.results.items,
  c.args.results.ok.0,
)

pub index_mut-requires : goal.index_mut-requires
index_mut-requires g c = omega (
  arith,
  ap length c.loop-result.invariant.rest,
  ap length c.in-Some.ensures.steps.0,
  length-drop c.loop-result.at c.args.results.items,
  c.loop-result.invariant.long,
  c.requires,
)

pub returns-clause-outputs : goal.returns-clause-outputs
returns-clause-outputs g c =
    let none = empty (into_iter_items c.loop-result.result-iterator) (omega (arith, c.in-None.ensures.steps.0, c.loop-result.result-iterator.rest.ok.0)) in
    sym (append-nil c.loop-result.outputs.items)
    ∙ ap (λ (l : List (Done _ _ _ _ _)). c.loop-result.outputs.items ++ outputs_of l) (sym none) ∙ c.loop-result.invariant.outputs

pub returns-clause-long : goal.returns-clause-long
returns-clause-long g c = c.loop-result.invariant.long

pub returns-clause-next : goal.returns-clause-next
returns-clause-next g c =
    let none = empty (into_iter_items c.loop-result.result-iterator) (omega (arith, c.in-None.ensures.steps.0, c.loop-result.result-iterator.rest.ok.0)) in
    ap (λ (l : List (Done _ _ _ _ _)). soonest c.loop-result.self.next l) (sym none) ∙ c.loop-result.invariant.next

pub returns-clause-others : goal.returns-clause-others
returns-clause-others g c = c.loop-result.invariant.others
