use Rattle.std.proofs.Common.{◌≡◌, ◌∙◌, ◌+◌, ◌<◌, ◌++◌, ◌∷◌, [], List, ℕ, ap, append_assoc, arith, drop, length, slice_set, suc, sym, take}
use Rattle.std.proofs.lemmas.List.{set_split}
use Rattle.chord_node.specs.declared.fingers.Run.{Run}
use Rattle.chord_node.specs.Fingers.{expanded}
use Rattle.chord_node.proofs.fingers.Fingers.set.Goals as goal

-- what is before a place, the new node and what is after the place
put_together : (old front more all : List ℕ) (i node : ℕ) → i < length old → front ≡ take i old → more ≡ front ++ node ∷ []
    → all ≡ more ++ drop (i + 1) old → all ≡ slice_set old i node
put_together old front more all i node inside first one rest =
    let next : i + 1 ≡ suc i = omega arith in rest ∙ ap (λ (ns : List ℕ). ns ++ drop (i + 1) old) (one ∙ ap (λ (ns : List ℕ). ns ++ node ∷ []) first)
    ∙ append_assoc (take i old) (node ∷ []) (drop (i + 1) old)
    ∙ ap (λ (n : ℕ). take i old ++ node ∷ drop n old) next ∙ sym (set_split old i node inside)

pub returns : goal.returns
returns c =
    let i = c.args.index in let old = c.args.self.now in
    let first : expanded c.push_first.new.runs.items ≡ take i old = c.in_ok-push_first.ensures
    ∙ ap (λ (runs : List Run). expanded runs ++ take i (expanded c.as_slice-2.result.now)) c.in_ok-runs.ensures.items
    ∙ ap (λ (runs : List Run). take i (expanded runs)) c.as_slice-2.ensures.value ∙ ap (take i) c.self.view_is in
    let rest = c.in_ok-push_after.ensures ∙ ap (λ (runs : List Run). expanded c.push_run.new.runs.items ++ drop (i + 1) (expanded runs))
    c.as_slice-3.ensures.value ∙ ap (λ (ns : List ℕ). expanded c.push_run.new.runs.items ++ drop (i + 1) ns) c.self.view_is in
    put_together old (expanded c.push_first.new.runs.items) (expanded c.push_run.new.runs.items) (expanded c.push_after.new.runs.items) i c.args.node
    c.requires first c.in_ok-push_run.ensures rest
