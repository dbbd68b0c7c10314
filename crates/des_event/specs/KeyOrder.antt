-- Lists of what has a key, such as events and blocks, in the order of their keys.
use Rattle.std.specs.Prelude.{ℕ, ◌≢◌, not, nat_lt, List, [], ◌∷◌, ⊤, if◌then◌else◌}
use Rattle.std.specs.List.{filter, AllByRecursion}
use Rattle.des_event.specs.declared.key.Key.{Key}
use Rattle.des_event.specs.Keys.{IsBefore, is_before}

module _ {A : Type 0} (key_of : A → Key) where
  -- each comes before all later ones
  abbrev pub InKeyOrder : List A → Type 0
  InKeyOrder [] = ⊤
  InKeyOrder (x ∷ xs) = AllByRecursion (λ y. IsBefore (key_of x) (key_of y)) xs × InKeyOrder xs

  -- none has the key
  abbrev pub IsNewKey : Key → List A → Type 0
  IsNewKey k xs = AllByRecursion (λ y. key_of y ≢ k) xs

  -- x inserted before the first element that it comes before
  abbrev pub put_in_order : A → List A → List A
  put_in_order x [] = x ∷ []
  put_in_order x (y ∷ ys) = if is_before (key_of x) (key_of y) then x ∷ (y ∷ ys) else y ∷ put_in_order x ys

  -- the elements whose time in microseconds is below the horizon, in the order of the list
  abbrev pub before : (horizon : ℕ) → List A → List A
  before horizon xs = filter (λ x. nat_lt (key_of x).time horizon) xs

  -- the elements whose time in microseconds is the horizon or later, in the order of the list
  abbrev pub from_on : (horizon : ℕ) → List A → List A
  from_on horizon xs = filter (λ x. not (nat_lt (key_of x).time horizon)) xs
