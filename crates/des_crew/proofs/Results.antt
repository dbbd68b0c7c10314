-- What parts leave, one after another.
use Rattle.std.proofs.Common.{◌≡◌, ℕ, List, [], ◌∷◌, ◌++◌, map, refl, ap₂, subst, sym}
use Rattle.std.specs.List.{All}
use Rattle.std.proofs.lemmas.List.Elements.{All-cons, All-nil}
use Rattle.des_crew.specs.Shifts.{AreResults}

module _ {Done : Type 0} (IsDone : ℕ → Done → Type 0) where
  -- the results of some parts, and then of more
  pub results_append : (parts more : List ℕ) (dones others : List Done) → AreResults IsDone parts dones → AreResults IsDone more others
      → AreResults IsDone (parts ++ more) (dones ++ others)
  results_append [] more [] others these those = those
  results_append [] more (done ∷ dones) others these those = absurd these
  results_append (part ∷ parts) more [] others these those = absurd these
  results_append (part ∷ parts) more (done ∷ dones) others these those = (these.0, results_append parts more dones others these.1 those)

  -- one more result
  pub one_more : (parts : List ℕ) (dones : List Done) (part : ℕ) (done : Done) → IsDone part done → AreResults IsDone parts dones
      → AreResults IsDone (parts ++ part ∷ []) (dones ++ done ∷ [])
  one_more parts dones part done is these = results_append parts (part ∷ []) dones (done ∷ []) these (is, tt)

  -- the results of the same parts
  pub of_same : (parts now : List ℕ) (dones : List Done) → now ≡ parts → AreResults IsDone parts dones → AreResults IsDone now dones
  of_same parts now dones same these = subst (λ ps. AreResults IsDone ps dones) (sym same) these

  -- each result tells its part
  module _ (part_of : Done → ℕ) (tells : (part : ℕ) (done : Done) → IsDone part done → part_of done ≡ part) where
    pub parts_told : (parts : List ℕ) (dones : List Done) → AreResults IsDone parts dones → map part_of dones ≡ parts
    parts_told [] [] these = refl
    parts_told [] (done ∷ dones) these = absurd these
    parts_told (part ∷ parts) [] these = absurd these
    parts_told (part ∷ parts) (done ∷ dones) these = ap₂ ◌∷◌ (tells part done these.0) (parts_told parts dones these.1)

    pub each_told : (parts : List ℕ) (dones : List Done) → AreResults IsDone parts dones → All (λ done. IsDone (part_of done) done) dones
    each_told [] [] these = All-nil (λ done. IsDone (part_of done) done)
    each_told [] (done ∷ dones) these = absurd these
    each_told (part ∷ parts) [] these = absurd these
    each_told (part ∷ parts) (done ∷ dones) these = All-cons (λ done. IsDone (part_of done) done) done dones
        (subst (λ n. IsDone n done) (sym (tells part done these.0)) these.0) (each_told parts dones these.1)
