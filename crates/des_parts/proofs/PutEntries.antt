-- The pieces of entries, written one after another.
use Rattle.std.proofs.Common.{◌≡◌, ◌∙◌, ℕ, zero, suc, ◌+◌, ◌<◌, List, [], ◌∷◌, ◌++◌, Option, ap, arith, drop, get_or, length, refl, sym, subst, append_assoc, take}
use Rattle.std.proofs.lemmas.List.{map-append, take_more}
use Rattle.des_machine.specs.Runs.{Adds, WritesFront}
use Rattle.des_machine.proofs.Puts.{adds_none, adds_one, adds_then, fronts_longer, fronts_then, one_front, writer_laws}
use Rattle.des_output.specs.Writing.{AppendsFront}
use Rattle.std.specs.Io.KnownBytes.{Appends}
use Rattle.des_parts.specs.declared.entries.Entry.{Entry}
use Rattle.des_parts.specs.Entries.{pieces_of}

-- a list is what comes before an item, the item, and the rest
pub split_at : {A : Type 0} (xs : List A) (i : ℕ) (x : A) → i < length xs → x ≡ get_or xs i x → take i xs ++ x ∷ drop (suc i) xs ≡ xs
split_at [] i x l is = absurd (omega (arith, l))
split_at (y ∷ xs) zero x l is = ap (λ z. z ∷ xs) is
split_at (y ∷ xs) (suc i) x l is = ap (λ l. y ∷ l) (split_at xs i x (omega (arith, l)) is)

-- one item more
pub take_next : {A : Type 0} (xs : List A) (i : ℕ) (x : A) → i < length xs → x ≡ get_or xs i x → take (i + 1) xs ≡ take i xs ++ x ∷ []
take_next xs i x inside is = take_more xs i x inside ∙ ap (λ z. take i xs ++ z ∷ []) (sym is)

module _ {Piece S : Type 0} (text : Piece → List ℕ) (HasCounted : List Piece → S → Type 0) where
  pub put_none : (a : Option (List ℕ)) (s : S) → Adds text HasCounted a a s s (pieces_of [])
  put_none a s = adds_none text HasCounted a s

  pushed : (done : List (Entry Piece)) (x : Entry Piece) → pieces_of (done ++ x ∷ []) ≡ pieces_of done ++ x.piece ∷ []
  pushed done x = map-append (λ (z : Entry Piece). z.piece) done (x ∷ [])

  -- one more
  pub put_one : (a b c : Option (List ℕ)) (s t u : S) (done : List (Entry Piece)) (x : Entry Piece) → Adds text HasCounted a b s t (pieces_of done)
      → Appends b c (text x.piece) → ((pieces : List Piece) → HasCounted pieces t → HasCounted (pieces ++ x.piece ∷ []) u)
      → Adds text HasCounted a c s u (pieces_of (done ++ x ∷ []))
  put_one a b c s t u done x before written counted = subst (λ ps. Adds text HasCounted a c s u ps) (sym (pushed done x))
      (adds_then text HasCounted a b c s t u (pieces_of done) (x.piece ∷ []) before
      (adds_one text HasCounted b c t u x.piece x.piece refl written counted))

  -- a piece that was written in part is the front of all
  pub put_part : (a b c : Option (List ℕ)) (s t : S) (done : List (Entry Piece)) (x : Entry Piece) (rest all : List (Entry Piece))
      → Adds text HasCounted a b s t (pieces_of done) → done ++ x ∷ rest ≡ all → AppendsFront b c (text x.piece) → WritesFront text a c (pieces_of all)
  put_part a b c s t done x rest all before whole front =
      let split : pieces_of all ≡ (pieces_of done ++ x.piece ∷ []) ++ pieces_of rest = ap pieces_of (sym whole)
      ∙ map-append (λ (z : Entry Piece). z.piece) done (x ∷ rest) ∙ sym (append_assoc (pieces_of done) (x.piece ∷ []) (pieces_of rest)) in
      subst (λ ps. WritesFront text a c ps) (sym split)
      (fronts_longer text a c (pieces_of done ++ x.piece ∷ []) (pieces_of rest)
      (fronts_then text a b c (pieces_of done) (x.piece ∷ []) before.written (one_front text b c x.piece x.piece refl front)))

  pub put_whole : (a b : Option (List ℕ)) (s t : S) (all : List (Entry Piece)) → Adds text HasCounted a b s t (pieces_of all)
      → WritesFront text a b (pieces_of all)
  put_whole a b s t all adds = (writer_laws text).fronts_whole a b (pieces_of all) adds.written
