-- A list without one element, if keys identify its elements.
use Rattle.std.proofs.Common.{◌≡◌, ◌≢◌, ℕ, zero, suc, ◌<◌, List, [], ◌∷◌, length, get_or, ap, sym, ◌∙◌, subst, arith, ⊎_elim}
use Rattle.std.specs.List.{Contains, AllPairs, remove}
use Rattle.des_event.proofs.Members.{contains_here, contains_there, contains_cons, contains_at, AllPairs_at, AllPairs_rest, AllPairs_cons}

module _ {A K : Type 0} (key : A → K) where
  pub remove_gone : (xs : List A) (i : ℕ) (d x : A) → i < length xs → AllPairs (λ a b. key a ≡ key b → ⊥) xs → Contains (remove xs i) x
      → Contains xs x × (x ≢ get_or xs i d)
  remove_gone [] i d x l all c = absurd (omega arith)
  remove_gone (y ∷ xs) zero d x l all c = (contains_there x y xs c, λ e. AllPairs_at (λ a b. key a ≡ key b → ⊥) y xs all x c (ap key (sym e)))
  remove_gone (y ∷ xs) (suc i) d x l all c =
      ⊎_elim (λ e. (
        subst (λ z. Contains (y ∷ xs) z) e (contains_here y xs),
        λ s. AllPairs_at (λ a b. key a ≡ key b → ⊥) y xs all (get_or xs i d) (contains_at xs i d (omega arith)) (ap key (e ∙ s)),
      ))
      (λ r. let q = remove_gone xs i d x (omega arith) (AllPairs_rest (λ a b. key a ≡ key b → ⊥) y xs all) r in (contains_there x y xs q.0, q.1))
      (contains_cons x y (remove xs i) c)

  pub remove_kept : (xs : List A) (i : ℕ) (d x : A) → i < length xs → Contains xs x → x ≢ get_or xs i d → Contains (remove xs i) x
  remove_kept [] i d x l c ne = absurd (omega arith)
  remove_kept (y ∷ xs) zero d x l c ne = ⊎_elim (λ e. absurd (ne (sym e))) (λ r. r) (contains_cons x y xs c)
  remove_kept (y ∷ xs) (suc i) d x l c ne =
      ⊎_elim (λ e. subst (λ z. Contains (y ∷ remove xs i) z) e (contains_here y (remove xs i)))
      (λ r. contains_there x y (remove xs i) (remove_kept xs i d x (omega arith) r ne)) (contains_cons x y xs c)

  pub remove_apart : (xs : List A) (i : ℕ) (d : A) → i < length xs → AllPairs (λ a b. key a ≡ key b → ⊥) xs → AllPairs (λ a b. key a ≡ key b → ⊥) (remove xs i)
  remove_apart [] i d l all = absurd (omega arith)
  remove_apart (y ∷ xs) zero d l all = AllPairs_rest (λ a b. key a ≡ key b → ⊥) y xs all
  remove_apart (y ∷ xs) (suc i) d l all =
      let rest : AllPairs (λ a b. key a ≡ key b → ⊥) xs = AllPairs_rest (λ a b. key a ≡ key b → ⊥) y xs all in
      AllPairs_cons (λ a b. key a ≡ key b → ⊥) y (remove xs i)
      (λ x c. AllPairs_at (λ a b. key a ≡ key b → ⊥) y xs all x (remove_gone xs i d x (omega arith) rest c).0)
      (remove_apart xs i d (omega arith) rest)
