use Rattle.std.proofs.Common.{◌≡◌, ◌==◌, ℕ, Bool, true, false, arith, inl, inr, length, sym}
use Rattle.std.proofs.lemmas.Bool.{cases_Bool}
use Rattle.std.proofs.lemmas.List.Sums.{position_or_len_is}
use Rattle.chord_judge.proofs.words.place_in.Goals as goal

refuted : (b : Bool) → (b ≡ true → ⊥) → b ≡ false
refuted b never =
    elim (cases_Bool b) [
      | inl same ↦ absurd (never same)
      | inr other ↦ other
    ]

pub returns-in-Some-clause-place : goal.returns-in-Some-clause-place
returns-in-Some-clause-place c =
    let first = c.in-Some.ensures in
    sym (
    position_or_len_is (λ (byte : ℕ). byte == c.args.wanted) c.args.text.now c.in-Some.place 0 (omega (arith, first.0.high))
    (λ k low. refuted _ (first.0.before k (omega arith) low))
    (λ _. first.1))

pub returns-in-None-clause-place : goal.returns-in-None-clause-place
returns-in-None-clause-place c =
    sym (
    position_or_len_is (λ (byte : ℕ). byte == c.args.wanted) c.args.text.now (length c.args.text.now) 0 (omega arith)
    (λ k low. refuted _ (c.in-None.ensures k (omega arith) low))
    (λ low. absurd (omega (arith, low))))
