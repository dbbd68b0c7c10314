-- The parts of results are put back one after another.
use Rattle.std.proofs.Common.{◌≡◌, ◌≢◌, ◌∙◌, ℕ, zero, suc, ◌+◌, ◌<◌, List, [], ◌∷◌, Option, None, length, drop, get_or, set, ap, sym, subst, ⊎_elim, arith, add-one, get_or-set_same, get_or-set_other}
use Rattle.std.proofs.lemmas.Bool.{cases_eq}
use Rattle.std.proofs.lemmas.List.{length-drop}
use Rattle.des_team.specs.declared.part.Done.{Done}
use Rattle.des_team.specs.declared.part.Parcel.{Parcel}
use Rattle.des_team.specs.Exchanges.{IsBack}

module _ {M State Body Piece S : Type 0} where
  -- so it is with the first n results
  abbrev pub AreBackTo : ℕ → List (Done M S State Body Piece) → List (Option (Parcel M S State Body Piece)) → Type 0
  AreBackTo n fs parcels = (p : ℕ) (f : Done M S State Body Piece) → p < n → IsBack (get_or fs p f).parcel.part.value (get_or parcels p None)

  rest_after : (fs : List (Done M S State Body Piece)) (at : ℕ) (x : Done M S State Body Piece) (next : List (Done M S State Body Piece))
      → drop at fs ≡ x ∷ next → drop (suc at) fs ≡ next
  rest_after [] zero x next e = absurd (omega (arith, ap length e))
  rest_after [] (suc at) x next e = absurd (omega (arith, ap length e))
  rest_after (f ∷ fs) zero x next e = ap (drop 1) e
  rest_after (f ∷ fs) (suc at) x next e = rest_after fs at x next e

  first_of_rest : (fs : List (Done M S State Body Piece)) (at : ℕ) (x : Done M S State Body Piece) (next : List (Done M S State Body Piece))
      → drop at fs ≡ x ∷ next → (f : Done M S State Body Piece) → get_or fs at f ≡ x
  first_of_rest [] zero x next e f = absurd (omega (arith, ap length e))
  first_of_rest [] (suc at) x next e f = absurd (omega (arith, ap length e))
  first_of_rest (g ∷ fs) zero x next e f = ap (λ l. get_or l 0 f) e
  first_of_rest (g ∷ fs) (suc at) x next e f = first_of_rest fs at x next e f

  pub rest_then : (fs : List (Done M S State Body Piece)) (at : ℕ) (x : Done M S State Body Piece)
      (rest next : List (Done M S State Body Piece)) → drop at fs ≡ rest → rest ≡ x ∷ next → drop (at + 1) fs ≡ next
  rest_then fs at x rest next a b = ap (λ n. drop n fs) (add-one at) ∙ rest_after fs at x next (a ∙ b)

  pub none_back : (fs : List (Done M S State Body Piece)) (parcels : List (Option (Parcel M S State Body Piece))) → AreBackTo 0 fs parcels
  none_back fs parcels p f lt = absurd (omega (arith, lt))

  pub one_back : (fs : List (Done M S State Body Piece)) (parcels : List (Option (Parcel M S State Body Piece))) (at : ℕ)
      (x : Done M S State Body Piece) (rest next : List (Done M S State Body Piece)) (place : Option (Parcel M S State Body Piece))
      → drop at fs ≡ rest → rest ≡ x ∷ next → at < length parcels → IsBack x.parcel.part.value place
      → AreBackTo at fs parcels → AreBackTo (at + 1) fs (set parcels at place)
  one_back fs parcels at x rest next place a b inside here back p f lt = ⊎_elim
      (λ e. subst (λ (z : Done M S State Body Piece). IsBack z.parcel.part.value (get_or (set parcels at place) p None))
      (sym (ap (λ q. get_or fs q f) e ∙ first_of_rest fs at x next (a ∙ b) f))
      (subst (IsBack x.parcel.part.value) (sym (ap (λ q. get_or (set parcels at place) q None) e ∙ get_or-set_same parcels at place None inside)) here))
      (λ ne. let differ : p ≢ at = ne in
      subst (IsBack (get_or fs p f).parcel.part.value) (sym (get_or-set_other parcels at p place None ne)) (back p f (omega (arith, lt, differ))))
      (cases_eq p at)

  pub all_back : (fs : List (Done M S State Body Piece)) (parcels : List (Option (Parcel M S State Body Piece))) (at : ℕ)
      (rest : List (Done M S State Body Piece)) → drop at fs ≡ rest → length rest ≡ 0
      → AreBackTo at fs parcels → AreBackTo (length fs) fs parcels
  all_back fs parcels at rest is none back p f lt = back p f (omega (arith, lt, ap length is, none, length-drop at fs))
