-- What is output piece by piece.
use Rattle.std.proofs.Common.{◌≡◌, ◌∙◌, ℕ, ◌<◌, ◌≤◌, true, false, cond, List, [], ◌∷◌, ◌++◌, Option, ap, refl, sym, subst, append_assoc, append-nil, arith}
use Rattle.std.specs.Prelude.{nat_le, nat_lt}
use Rattle.std.proofs.lemmas.Bool.Decides.{nat_tests}
use Rattle.std.proofs.lemmas.List.Concat.{flat_map-append}
use Rattle.std.proofs.KnownBytes.{Appends-trans, Appends-nil}
use Rattle.std.specs.Io.KnownBytes.{Appends}
use Rattle.std.specs.List.{AllByRecursion, filter, flat_map}
use Rattle.des_machine.specs.Runs.{Adds, Writes, WritesFront}
use Rattle.des_model.specs.Machine.{Machine}
use Rattle.des_model.specs.Scribes.{AreLaws, audits_at, due}
use Rattle.des_output.proofs.Fronts.{front_after, front_of_longer, front_of_whole}
use Rattle.des_output.specs.Writing.{AppendsFront}

module _ {Piece : Type 0} (text : Piece → List ℕ) where
  texts-append : (xs ys : List Piece) → flat_map text (xs ++ ys) ≡ flat_map text xs ++ flat_map text ys
  texts-append xs ys = flat_map-append text xs ys

  text-one : (p : Piece) → flat_map text (p ∷ []) ≡ text p
  text-one p = append-nil (text p)

  pub writes_then : (a b c : Option (List ℕ)) (xs ys : List Piece) → Writes text a b xs → Writes text b c ys → Writes text a c (xs ++ ys)
  writes_then a b c xs ys p q = subst (λ t. Appends a c t) (sym (texts-append xs ys)) (Appends-trans a b c (flat_map text xs) (flat_map text ys) p q)

  pub fronts_then : (a b c : Option (List ℕ)) (xs ys : List Piece) → Writes text a b xs → WritesFront text b c ys → WritesFront text a c (xs ++ ys)
  fronts_then a b c xs ys p q = subst (λ t. AppendsFront a c t) (sym (texts-append xs ys)) (front_after a b c (flat_map text xs) (flat_map text ys) p q)

  pub fronts_longer : (a b : Option (List ℕ)) (xs ys : List Piece) → WritesFront text a b xs → WritesFront text a b (xs ++ ys)
  fronts_longer a b xs ys p = subst (λ t. AppendsFront a b t) (sym (texts-append xs ys)) (front_of_longer a b (flat_map text xs) (flat_map text ys) p)

  -- what a writer takes
  pub writer_laws : AreLaws (Writes text) (WritesFront text)
  writer_laws = record {
    adds_none = Appends-nil;
    adds_then = writes_then;
    fronts_whole = λ a b xs p. front_of_whole a b (flat_map text xs) p;
    fronts_then = fronts_then;
    fronts_longer = fronts_longer;
  }

  -- the text of one piece
  pub one_written : (a b : Option (List ℕ)) (p q : Piece) → p ≡ q → Appends a b (text p) → Writes text a b (q ∷ [])
  one_written a b p q same w = subst (λ x. Writes text a b (x ∷ [])) same (subst (λ t. Appends a b t) (sym (text-one p)) w)

  pub one_front : (a b : Option (List ℕ)) (p q : Piece) → p ≡ q → AppendsFront a b (text p) → WritesFront text a b (q ∷ [])
  one_front a b p q same w = subst (λ x. WritesFront text a b (x ∷ [])) same (subst (λ t. AppendsFront a b t) (sym (text-one p)) w)

  module _ {S : Type 0} (HasCounted : List Piece → S → Type 0) where
    pub adds_none : (a : Option (List ℕ)) (s : S) → Adds text HasCounted a a s s []
    adds_none a s = record { written = Appends-nil a; counted = λ earlier h. subst (λ ps. HasCounted ps s) (sym (append-nil earlier)) h }

    pub adds_then : (a b c : Option (List ℕ)) (s t u : S) (xs ys : List Piece) → Adds text HasCounted a b s t xs → Adds text HasCounted b c t u ys
        → Adds text HasCounted a c s u (xs ++ ys)
    adds_then a b c s t u xs ys p q = record {
      written = writes_then a b c xs ys p.written q.written;
      counted = λ earlier h. subst (λ ps. HasCounted ps u) (append_assoc earlier xs ys) (q.counted (earlier ++ xs) (p.counted earlier h));
    }

    -- one piece
    pub adds_one : (a b : Option (List ℕ)) (s t : S) (p q : Piece) → p ≡ q → Appends a b (text p)
        → ((ps : List Piece) → HasCounted ps s → HasCounted (ps ++ p ∷ []) t) → Adds text HasCounted a b s t (q ∷ [])
    adds_one a b s t p q same w counts = record {
      written = one_written a b p q same w;
      counted = λ earlier h. subst (λ x. HasCounted (earlier ++ x ∷ []) t) same (counts earlier h);
    }

-- the audits that are due, one after another

due-first : (time at : ℕ) (times : List ℕ) → at ≤ time → due time (at ∷ times) ≡ at ∷ due time times
due-first time at times h = let come : nat_le at time ≡ true = grind (arith, nat_tests) in ap (λ b. cond b (at ∷ due time times) (due time times)) come

pub left-first : (time at : ℕ) (times : List ℕ) → at ≤ time → filter (λ t. nat_lt time t) (at ∷ times) ≡ filter (λ t. nat_lt time t) times
left-first time at times h = let come : nat_lt time at ≡ false = grind (arith, nat_tests)
    in ap (λ b. cond b (at ∷ filter (λ t. nat_lt time t) times) (filter (λ t. nat_lt time t) times)) come

pub none-due : (time : ℕ) (times : List ℕ) → AllByRecursion (λ t. time < t) times → due time times ≡ []
none-due time [] late = refl
none-due time (t ∷ times) late = let first : time < t = late.0 in let open_yet : nat_le t time ≡ false = grind (arith, nat_tests)
    in ap (λ b. cond b (t ∷ due time times) (due time times)) open_yet ∙ none-due time times late.1

pub all-left : (time : ℕ) (times : List ℕ) → AllByRecursion (λ t. time < t) times → filter (λ t. nat_lt time t) times ≡ times
all-left time [] late = refl
all-left time (t ∷ times) late = let first : time < t = late.0 in let open_yet : nat_lt time t ≡ true = grind (arith, nat_tests)
    in ap (λ b. cond b (t ∷ filter (λ u. nat_lt time u) times) (filter (λ u. nat_lt time u) times)) open_yet ∙ ap (λ ts. t ∷ ts) (all-left time times late.1)

module _ {State Body Piece S : Type 0} (m : Machine State Body Piece) (text : Piece → List ℕ) (HasCounted : List Piece → S → Type 0) (account : ℕ → State)
    (time : ℕ) where
  -- where the loop has come to: these pieces were output, and with the audits that are due of those left they are all
  pub record HasPut (a b : Option (List ℕ)) (s t : S) (all left : List ℕ) : Type 0 where
    pub pieces : List Piece
    pub adds : Adds text HasCounted a b s t pieces
    pub rest : pieces ++ audits_at m account (due time left) ≡ audits_at m account (due time all)

  pub put_none : (a : Option (List ℕ)) (s : S) (all : List ℕ) → HasPut a a s s all all
  put_none a s all = record { pieces = []; adds = adds_none text HasCounted a s; rest = refl }

  pub put_more : (at : ℕ) (a b c : Option (List ℕ)) (s t u : S) (all old new : List ℕ) → old ≡ at ∷ new → at ≤ time → HasPut a b s t all old
      → Adds text HasCounted b c t u (audits_at m account (at ∷ [])) → HasPut a c s u all new
  put_more at a b c s t u all old new took come h more = record {
    pieces = h.pieces ++ audits_at m account (at ∷ []);
    adds = adds_then text HasCounted a b c s t u h.pieces (audits_at m account (at ∷ [])) h.adds more;
    rest = append_assoc h.pieces (audits_at m account (at ∷ [])) (audits_at m account (due time new))
        ∙ ap (λ ts. h.pieces ++ audits_at m account ts) (sym (ap (due time) took ∙ due-first time at new come)) ∙ h.rest;
  }

  pub put_all : (a b : Option (List ℕ)) (s t : S) (all left : List ℕ) → AllByRecursion (λ u. time < u) left → HasPut a b s t all left
      → Adds text HasCounted a b s t (audits_at m account (due time all))
  put_all a b s t all left late h =
      subst (λ ps. Adds text HasCounted a b s t ps) (sym (ap (λ ts. h.pieces ++ audits_at m account ts) (none-due time left late) ∙ append-nil h.pieces) ∙ h.rest) h.adds

  -- a piece that was written in part is the front of all
  pub put_front : (at : ℕ) (a b c : Option (List ℕ)) (s t : S) (all old new : List ℕ) → old ≡ at ∷ new → at ≤ time → HasPut a b s t all old
      → WritesFront text b c (audits_at m account (at ∷ [])) → WritesFront text a c (audits_at m account (due time all))
  put_front at a b c s t all old new took come h more =
      let whole : (h.pieces ++ audits_at m account (at ∷ [])) ++ audits_at m account (due time new) ≡ audits_at m account (due time all) =
      append_assoc h.pieces (audits_at m account (at ∷ [])) (audits_at m account (due time new))
      ∙ ap (λ ts. h.pieces ++ audits_at m account ts) (sym (ap (due time) took ∙ due-first time at new come)) ∙ h.rest in
      subst (λ ps. WritesFront text a c ps) whole
      (fronts_longer text a c (h.pieces ++ audits_at m account (at ∷ [])) (audits_at m account (due time new))
      (fronts_then text a b c h.pieces (audits_at m account (at ∷ [])) h.adds.written more))

  pub put_whole : (a b : Option (List ℕ)) (s t : S) (all left : List ℕ) → AllByRecursion (λ u. time < u) left → HasPut a b s t all left
      → WritesFront text a b (audits_at m account (due time all))
  put_whole a b s t all left late h = front_of_whole a b (flat_map text (audits_at m account (due time all))) (put_all a b s t all left late h).written
