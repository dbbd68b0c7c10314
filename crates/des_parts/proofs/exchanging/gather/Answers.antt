use Rattle.std.proofs.Common.{◌∷◌, ◌++◌, [], List, length, ap, sym, subst, ◌∙◌, append_assoc}
use Rattle.std.specs.Vec.Iter.{into_iter_items}
use Rattle.des_parts.specs.declared.part_run.Done.{Done}
use Rattle.des_parts.specs.Exchanges.{NameNodes, entry_lists, mails, with_all}
use Rattle.des_parts.proofs.Exchanged.{long_states}
use Rattle.des_parts.proofs.exchanging.gather.Goals as goal

pub loop-done-preserved : goal.loop-done-preserved
loop-done-preserved g c =
    let steps = c.in-Some.ensures.steps.0 in
    let rest : List (Done _ _ _) = into_iter_items c.next.new.self in
    record {
      can_next = tt;
      is_finite = tt;
      states = ap (with_all rest) c.put_states.ensures ∙ sym (ap (λ l. with_all l c.loop-done.states.items) steps) ∙ c.loop-done.invariant.states;
      names = subst (λ k. NameNodes k rest) (sym (ap length c.put_states.ensures ∙ long_states c.in-Some.done.nodes.items c.loop-done.states.items))
          (subst (λ l. NameNodes (length c.loop-done.states.items) l) steps c.loop-done.invariant.names).1;
      mail = ap (λ l. l ++ mails rest) c.in_ok-mail.ensures ∙ append_assoc c.loop-done.mail.items c.in-Some.done.mail.items (mails rest)
          ∙ ap (λ l. c.loop-done.mail.items ++ l) (sym (ap mails steps)) ∙ c.loop-done.invariant.mail;
      entries = ap (λ l. l ++ entry_lists rest) c.in_ok-push.ensures.items
          ∙ append_assoc c.loop-done.entries.items (c.in-Some.done.entries ∷ []) (entry_lists rest)
          ∙ ap (λ l. c.loop-done.entries.items ++ l) (sym (ap entry_lists steps)) ∙ c.loop-done.invariant.entries;
    }
