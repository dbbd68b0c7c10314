use Rattle.std.proofs.Common.{◌≡◌, ◌∙◌, ◌+◌, [], ap, Global, length, List, ℕ, subst, sym, Vec}
use Rattle.std.proofs.lemmas.List.{length_push}
use Rattle.std.proofs.lemmas.List.Elements.{All-push}
use Rattle.std.specs.List.{All}
use Rattle.chord_judge.specs.declared.row.Lookup.{Lookup}
use Rattle.chord_judge.proofs.open.OpenLookups.new.Goals as goal

pub loop-preserved : goal.loop-preserved
loop-preserved c =
    let IsEmpty : Vec Lookup Global → Type 0 = λ list. list.items ≡ [] in
    let olds : List (Vec Lookup Global) = c.loop.lists.items in
    record {
      many = ap length c.in_ok-push.ensures.items ∙ length_push olds c.new.result ∙ ap (λ (n : ℕ). n + 1) c.loop.invariant.many;
      empty = subst (All IsEmpty) (sym {A = List (Vec Lookup Global)} c.in_ok-push.ensures.items)
          (All-push IsEmpty olds c.new.result c.loop.invariant.empty c.new.ensures.items);
    }
