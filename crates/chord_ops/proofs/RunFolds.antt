-- A run of fingers counts once in a search that a repeated node does not change.
use Rattle.std.proofs.Common.{◌≡◌, ◌∙◌, ◌+◌, ◌<◌, ℕ, zero, suc, Bool, true, false, List, [], ◌∷◌, ap, get_or, length, replicate, take, refl, sym}
use Rattle.std.proofs.lemmas.List.Elements.{filter-append}
use Rattle.std.proofs.lemmas.List.Sums.{fold-append}
use Rattle.std.specs.List.{filter, fold}
use Rattle.std.specs.Prelude.{if◌then◌else◌}
use Rattle.chord_node.specs.declared.fingers.Run.{Run}
use Rattle.chord_node.specs.Fingers.{expanded, run_nodes}
use Rattle.chord_node.proofs.RunLists.{expanded_until}

-- repeats of a node that changes nothing change nothing
fold_repeats : {A : Type 0} (f : A → ℕ → A) (c : A) (x k : ℕ) → f c x ≡ c → fold f c (replicate k x) ≡ c
fold_repeats f c x zero again = refl
fold_repeats {A} f c x (suc k) again = ap (λ (d : A). fold f d (replicate k x)) again ∙ fold_repeats f c x k again

-- a run counts as its node
pub fold_run : {A : Type 0} (f : A → ℕ → A) (c : A) (run : Run) → f (f c run.node) run.node ≡ f c run.node → fold f c (run_nodes run) ≡ f c run.node
fold_run f c run again = fold_repeats f (f c run.node) run.node run.repeats again

-- one more run
pub fold_until : {A : Type 0} (f : A → ℕ → A) (a c : A) (runs : List Run) (i : ℕ) (d : Run) → i < length runs → c ≡ fold f a (expanded (take i runs))
    → fold f a (expanded (take (i + 1) runs)) ≡ fold f c (run_nodes (get_or runs i d))
fold_until {A} f a c runs i d within is =
    ap (fold f a) (expanded_until runs i d within) ∙ fold-append f a (expanded (take i runs)) (run_nodes (get_or runs i d))
    ∙ ap (λ (b : A). fold f b (run_nodes (get_or runs i d))) (sym is)

-- the repeats of a node among those that pass a test
filter_repeats : (p : ℕ → Bool) (x k : ℕ) (b : Bool) → p x ≡ b → filter p (replicate k x) ≡ (if b then replicate k x else [])
filter_repeats p x zero true is = refl
filter_repeats p x zero false is = refl
filter_repeats p x (suc k) true is = rw (is) (ap (λ (xs : List ℕ). x ∷ xs) (filter_repeats p x k true is))
filter_repeats p x (suc k) false is = rw (is) (filter_repeats p x k false is)

-- a run counts as its node, or not at all
kept_run : {A : Type 0} (f : A → ℕ → A) (p : ℕ → Bool) (c : A) (run : Run) (b : Bool) → p run.node ≡ b → f (f c run.node) run.node ≡ f c run.node
    → fold f c (filter p (run_nodes run)) ≡ (if b then f c run.node else c)
kept_run f p c run true is again = ap (fold f c) (filter_repeats p run.node (suc run.repeats) true is) ∙ fold_run f c run again
kept_run f p c run false is again = ap (fold f c) (filter_repeats p run.node (suc run.repeats) false is)

-- one more run, of which the node counts if it passes a test
pub kept_until : {A : Type 0} (f : A → ℕ → A) (p : ℕ → Bool) (a c : A) (runs : List Run) (i : ℕ) (d : Run) (b : Bool) → i < length runs
    → c ≡ fold f a (filter p (expanded (take i runs))) → p (get_or runs i d).node ≡ b
    → f (f c (get_or runs i d).node) (get_or runs i d).node ≡ f c (get_or runs i d).node
    → fold f a (filter p (expanded (take (i + 1) runs))) ≡ (if b then f c (get_or runs i d).node else c)
kept_until {A} f p a c runs i d b within is test again =
    let run : Run = get_or runs i d in
    ap (λ (xs : List ℕ). fold f a (filter p xs)) (expanded_until runs i d within)
    ∙ ap (fold f a) (filter-append p (expanded (take i runs)) (run_nodes run))
    ∙ fold-append f a (filter p (expanded (take i runs))) (filter p (run_nodes run))
    ∙ ap (λ (e : A). fold f e (filter p (run_nodes run))) (sym is)
    ∙ kept_run f p c run b test again
