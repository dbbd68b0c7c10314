use Rattle.std.proofs.Common.{◌≡◌, ◌∙◌, ℕ, ◌+◌, ◌<◌, List, [], ◌∷◌, ◌++◌, Option, None, Some, append-nil, append_assoc, ap, arith, drop, get_or, length, refl, sym}
use Rattle.std.proofs.lemmas.List.{drop_all, drop_more, drop-set-lt, length-set}
use Rattle.des_team.specs.declared.part.Parcel.{Parcel}
use Rattle.des_team.specs.Shares.{scribes_in}
use Rattle.des_team.proofs.TeamMail.{or_same}
use Rattle.des_team.proofs.team.Team.take_scribes.Goals as goal

first_of : {M State Body Piece S : Type 0} → (place : Option (Parcel M S State Body Piece)) (places : List (Option (Parcel M S State Body Piece)))
    → scribes_in (place ∷ places) ≡ scribes_in (place ∷ []) ++ scribes_in places
first_of None places = refl
first_of (Some parcel) places = refl

-- the scribe of the part at a place is taken
one_taken : {M State Body Piece S : Type 0} → (all : List (Option (Parcel M S State Body Piece))) (n : ℕ) (place : Option (Parcel M S State Body Piece))
    (ts more told : List S) → n < length all → get_or all n None ≡ place
    → more ≡ ts ++ scribes_in (place ∷ []) → ts ++ scribes_in (drop n all) ≡ told → more ++ scribes_in (drop (n + 1) all) ≡ told
one_taken all n place ts more told lt is added taken =
    ap (λ l. l ++ scribes_in (drop (n + 1) all)) added
    ∙ append_assoc ts (scribes_in (place ∷ [])) (scribes_in (drop (n + 1) all))
    ∙ ap (λ l. ts ++ l) (sym (first_of place (drop (n + 1) all)))
    ∙ ap (λ p. ts ++ scribes_in (p ∷ drop (n + 1) all)) (sym is)
    ∙ ap (λ l. ts ++ scribes_in l) (sym (drop_more all n None lt))
    ∙ taken

pub loop-part-preserved : goal.loop-part-preserved
loop-part-preserved g c =
    let n = c.loop-part.part in
    let i = c.loop-part.invariant in
    let now = c.loop-part.self.parcels.items in
    let all = c.args.self.now.parcels.items in
    let inside : n < length now = omega arith in
    let among : n < length all = omega (arith, i.long) in
    let same = sym (drop_more now n None inside) ∙ i.rest ∙ drop_more all n None among in
    let place = c.index_mut.result.now in
    let is : get_or all n None ≡ place = sym (c.index_mut.ensures.value ∙ or_same now n place None inside ∙ ap (λ l. get_or l 0 None) same) in
    record {
      long = length-set now n c.push_scribe.new.place ∙ i.long;
      rest = drop-set-lt (n + 1) now n c.push_scribe.new.place (omega arith) ∙ ap (λ l. drop 1 l) same;
      taken = one_taken all n place c.loop-part.scribes.items c.push_scribe.new.scribes.items _ among is c.in_ok-push_scribe.ensures i.taken;
    }

pub returns : goal.returns
returns g c =
    let all = c.args.self.now.parcels.items in
    sym (append-nil c.loop-part.scribes.items)
    ∙ ap (λ l. c.loop-part.scribes.items ++ scribes_in l) (sym (drop_all c.loop-part.part all (omega (arith, c.loop-part.invariant.long))))
    ∙ c.loop-part.invariant.taken
