-- The parts share what a run puts out, and the audits are the rest.
use Rattle.std.proofs.Common.{◌≡◌, ◌≢◌, ◌∙◌, ℕ, zero, suc, ◌<◌, ◌≤◌, length-append, ◌==◌, List, [], ◌∷◌, ◌++◌, Option, None, Some, length, get_or, ap, sym, refl, subst, arith, append_assoc, append-nil, eq-eqb, ⊎_elim}
use Rattle.std.proofs.lemmas.Bool.{cases_eq, cond-true, cond-false, ne_eqb}
use Rattle.std.proofs.lemmas.List.Sorted.{IsPermutation-append_comm, IsPermutation-append_left, IsPermutation-append_right, IsPermutation-refl, IsPermutation-trans, length_permutation}
use Rattle.std.specs.List.{Contains}
use Rattle.std.specs.List.Sorted.{IsPermutation}
use Rattle.des_event.specs.declared.event.Event.{Event}
use Rattle.des_event.proofs.Members.{contains_here, contains_there}
use Rattle.des_model.specs.Histories.{effect_after, output}
use Rattle.des_model.specs.Windows.{Division, part_of}
use Rattle.des_model.specs.Machine.{Machine}
use Rattle.des_model.specs.Worlds.{event_pieces}
use Rattle.des_window.proofs.Shares.{first_counted, middle_swapped, shares_front, shares_same}
use Rattle.des_window.specs.Shares.{HaveCountedShares, shares_to}
use Rattle.des_team.specs.Chronicles.{Chronicle}
use Rattle.des_team.specs.Teams.{HasAudited}
use Rattle.des_team.specs.declared.part.Parcel.{Parcel}
use Rattle.des_team.specs.Owned.{share_of}
use Rattle.des_team.specs.Shares.{scribes_in}
use Rattle.des_team.proofs.TeamMail.{none_here, some_same}

-- Lists in another order

last_swapped : {A : Type 0} (xs ys zs : List A) → IsPermutation ((xs ++ ys) ++ zs) ((xs ++ zs) ++ ys)
last_swapped xs ys zs = simp append_assoc (IsPermutation-append_right xs (ys ++ zs) (zs ++ ys) (IsPermutation-append_comm ys zs))

-- Shares one after another

module _ {Piece : Type 0} where
  -- one share has a piece more
  share_more : (a b : ℕ → List Piece) (part : ℕ) (x : Piece) → b part ≡ a part ++ x ∷ [] → ((k : ℕ) → k ≢ part → b k ≡ a k) → (n : ℕ) → part < n
      → IsPermutation (shares_to a n ++ x ∷ []) (shares_to b n)
  share_more a b part x here others zero l = absurd (omega (arith, l))
  share_more a b part x here others (suc n) l = ⊎_elim
      (λ s.
      let before : shares_to b n ≡ shares_to a n = shares_same b a n (λ k m. others k (λ e. omega (arith, e, m, s))) in
      let last : b n ≡ a n ++ x ∷ [] = subst (λ k. b k ≡ a k ++ x ∷ []) s here in
      subst (λ z. IsPermutation ((shares_to a n ++ a n) ++ x ∷ []) z)
      (append_assoc (shares_to a n) (a n) (x ∷ []) ∙ sym (ap (λ z. shares_to a n ++ z) last) ∙ sym (ap (λ z. z ++ b n) before))
      (IsPermutation-refl ((shares_to a n ++ a n) ++ x ∷ [])))
      (λ ne.
      let differ : part ≢ n = ne in
      subst (λ z. IsPermutation ((shares_to a n ++ a n) ++ x ∷ []) (shares_to b n ++ z)) (sym (others n (λ e. ne (sym e))))
      (IsPermutation-trans ((shares_to a n ++ a n) ++ x ∷ []) ((shares_to a n ++ x ∷ []) ++ a n) (shares_to b n ++ a n)
      (last_swapped (shares_to a n) (a n) (x ∷ []))
      (IsPermutation-append_left (a n) (shares_to a n ++ x ∷ []) (shares_to b n) (share_more a b part x here others n (omega (arith, l, differ))))))
      (cases_eq part n)

module _ {State Body Piece : Type 0} (m : Machine State Body Piece) (d : Division) where
  -- all shares are the pieces of all events
  pub shared : (n : ℕ) (h : List (Event Body)) → ((e : Event Body) → Contains h e → part_of d e.target < n)
      → IsPermutation (event_pieces m h) (shares_to (λ p. share_of m d p h) n)
  shared n [] inside = subst (λ l. IsPermutation [] l) (sym (none n)) (IsPermutation-refl [])
    where
      none : (k : ℕ) → shares_to {Piece = Piece} (λ p. []) k ≡ []
      none zero = refl
      none (suc k) = append-nil (shares_to (λ p. []) k) ∙ none k
  shared n (e ∷ h) inside =
      let x : Piece = (effect_after m h e).piece in
      let shares : List Piece = shares_to (λ p. share_of m d p h) n in
      IsPermutation-trans (event_pieces m h ++ x ∷ []) (shares ++ x ∷ []) (shares_to (λ p. share_of m d p (e ∷ h)) n)
      (IsPermutation-append_left (x ∷ []) (event_pieces m h) shares (shared n h (λ y c. inside y (contains_there y e h c))))
      (share_more (λ p. share_of m d p h) (λ p. share_of m d p (e ∷ h)) (part_of d e.target) x
      (cond-true (part_of d e.target == part_of d e.target) (share_of m d (part_of d e.target) h ++ x ∷ [])
      (share_of m d (part_of d e.target) h) (eq-eqb (part_of d e.target) (part_of d e.target) refl))
      (λ k ne. cond-false (part_of d e.target == k) (share_of m d k h ++ x ∷ []) (share_of m d k h)
      (ne_eqb (part_of d e.target) k (λ s. ne (sym s))))
      n (inside e (contains_here e h)))

  -- what each scribe has counted: first the audits, then each part's share
  abbrev pub counted_by : List (Event Body) → (audits : List Piece) → ℕ → List Piece
  counted_by h audits zero = audits
  counted_by h audits (suc p) = share_of m d p h

  pub all_shared : (n : ℕ) (h : List (Event Body)) → ((e : Event Body) → Contains h e → part_of d e.target < n) → (before audits rest : List Piece)
      → IsPermutation before (audits ++ event_pieces m h) → IsPermutation (before ++ rest) (shares_to (counted_by h (audits ++ rest)) (suc n))
  all_shared n h inside before audits rest moved =
      let shares : List Piece = shares_to (λ p. share_of m d p h) n in
      subst (λ l. IsPermutation (before ++ rest) l) (sym (shares_front (counted_by h (audits ++ rest)) n))
      (IsPermutation-trans (before ++ rest) ((audits ++ event_pieces m h) ++ rest) ((audits ++ rest) ++ shares)
      (IsPermutation-append_left rest before (audits ++ event_pieces m h) moved)
      (IsPermutation-trans ((audits ++ event_pieces m h) ++ rest) ((audits ++ rest) ++ event_pieces m h) ((audits ++ rest) ++ shares)
      (last_swapped audits (event_pieces m h) rest)
      (IsPermutation-append_right (audits ++ rest) (event_pieces m h) shares (shared n h inside))))

-- The audits

module _ {State Body Piece S : Type 0} (ch : Chronicle State Body Piece S) where
  -- audits that are due are counted
  pub audited_more : (h : List (Event Body)) (more : List Piece) (before after : S)
      → ((earlier : List Piece) → ch.HasCounted earlier before → ch.HasCounted (earlier ++ more) after) → HasAudited ch h [] before → HasAudited ch h more after
  audited_more h more before after adds a = record {
    audits = a.audits;
    counted = adds a.audits (subst (λ ps. ch.HasCounted ps before) (append-nil a.audits) a.counted);
    rest = a.rest;
  }

  -- and then they are among the audits of the output
  pub audited_then : (h later : List (Event Body)) (more pieces : List Piece) (scribe : S)
      → output ch.machine later ≡ output ch.machine h ++ (more ++ pieces) → event_pieces ch.machine later ≡ event_pieces ch.machine h ++ pieces
      → HasAudited ch h more scribe → HasAudited ch later [] scribe
  audited_then h later more pieces scribe puts adds a = record {
    audits = a.audits ++ more;
    counted = subst (λ ps. ch.HasCounted ps scribe) (sym (append-nil (a.audits ++ more))) a.counted;
    rest = subst (λ ps. IsPermutation ps ((a.audits ++ more) ++ event_pieces ch.machine later)) (sym puts)
        (subst (λ ps. IsPermutation (output ch.machine h ++ (more ++ pieces)) ((a.audits ++ more) ++ ps)) (sym adds)
        (IsPermutation-trans (output ch.machine h ++ (more ++ pieces)) ((a.audits ++ event_pieces ch.machine h) ++ (more ++ pieces))
        ((a.audits ++ more) ++ (event_pieces ch.machine h ++ pieces))
        (IsPermutation-append_left (more ++ pieces) (output ch.machine h) (a.audits ++ event_pieces ch.machine h) a.rest)
        (middle_swapped a.audits (event_pieces ch.machine h) more pieces)));
  }

  -- they are no more than the output
  pub audits_fewer : (h : List (Event Body)) (scribe : S) (a : HasAudited ch h [] scribe) → length (a.audits ++ []) ≤ length (output ch.machine h)
  audits_fewer h scribe a = omega (
    arith,
    length_permutation (output ch.machine h) (a.audits ++ event_pieces ch.machine h) a.rest,
    length-append a.audits (event_pieces ch.machine h),
    ap length (append-nil a.audits),
  )

-- The scribes of the parts

module _ {M State Body Piece S : Type 0} (HasCounted : List Piece → S → Type 0) where
  abbrev ArePlaced : (ℕ → List Piece) → List (Option (Parcel M S State Body Piece)) → Type 0
  ArePlaced share places = (p : ℕ) → p < length places
      → (parcel : Parcel M S State Body Piece) × (get_or places p None ≡ Some parcel) × HasCounted (share p) parcel.part.value.scribe

  scribe_here : (pieces : List Piece) (q : Parcel M S State Body Piece)
      → (parcel : Parcel M S State Body Piece) × (Some q ≡ Some parcel) × HasCounted pieces parcel.part.value.scribe → HasCounted pieces q.part.value.scribe
  scribe_here pieces q r = subst (λ (z : Parcel M S State Body Piece). HasCounted pieces z.part.value.scribe) (some_same r.0 q (Some q) r.1 refl) r.2

  pub scribes_are : (share : ℕ → List Piece) (places : List (Option (Parcel M S State Body Piece))) → ArePlaced share places
      → HaveCountedShares HasCounted share (scribes_in places) × (length (scribes_in places) ≡ length places)
  scribes_are share [] each = (λ part t l. absurd (omega (arith, l)), refl)
  scribes_are share (None ∷ places) each = let r = each 0 (omega arith) in absurd (none_here None r.0 refl r.1)
  scribes_are share (Some q ∷ places) each =
      let rest = scribes_are (λ p. share (suc p)) places (λ p l. each (suc p) (omega (arith, l))) in
      (first_counted HasCounted share q.part.value.scribe (scribes_in places) (scribe_here (share 0) q (each 0 (omega arith))) rest.0, omega (arith, rest.1))
