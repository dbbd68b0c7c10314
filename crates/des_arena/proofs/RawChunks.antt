-- A raw chunk is taken apart into its records, its room and the right to free it, and made of these again. Assumes `Logic`.
--     chunk_opens      what a raw chunk owns: [the records; the room; the right], and its machine value is `image`
--     chunk_made       the way back, at a raw chunk of these records
--     lent_opens       what a `&` to a raw chunk holds: [a `&` to its pointer; a `&` to the record at an index]
use Rattle.std.proofs.Common.{◌≡◌, ℕ, ◌+◌, ◌-◌, ◌*◌, ◌<◌, ◌^◌, List, [], ◌∷◌, ◌++◌, length, get_or, lit<, refl, sym, ap, ◌∙◌}
use seplogic.Ra.Ura.{Ura}
use base.Fraction.{full_share}
use base.Fml.{Fml, Lft, ffalse, ftrue, fsep, froom}
use base.Logic.{never, id⊢, fst∗}
use mir.Syntax.{ty_array}
use mir.Raw.{raw as bare}
use mir.Val.{Val, vstruct, vcons, vnil, of_list}
use types.Logic.{Logic, sem}
use types.Kit.{Item, Goal, Step, step, Seq, ‵, ◌$◌, move, drop, use1, rewrite, fsplit, fjoin, fpick, feq_l, flt_l, flt_i}
use denote.Array.{Array}
use denote.Memory.{part_at, hidden_shr, shared_of}
use denote.Param.{layout}
use denote.Opens.{hide, unhide}
use denote.RattleType.{RattleType}
use denote.RawPtr.{Ptr, RawPtr, block_ptr, null_ptr, ptr_val, block_of, count_of, in_block, in_a_block}
use denote.Shadow.{pure_i}
use denote.Struct.Owning.{shape}
use denote.Struct.Struct.{Struct}
use borrow.Table.Elements.{at, at_mul}
use borrow.Table.SharedPart.{each-one}
use Rattle.std.specs.Allocator.{block_with_items}
use Rattle.core.proofs.alloc.Calls.{token}
use Rattle.std_alloc.proofs.RcSteps.{Good}
use Rattle.std_alloc.proofs.RawLayout.{as_raw, as_written}
use Rattle.std_alloc.proofs.VecSteps.El.{El, R, P, el_x, elτ, sz}
use Rattle.des_arena.specs.Ownership.{chunk_owned}
use Rattle.des_arena.specs.contracts.raw_chunk.RawChunk as Declared

-- the pointer, and a mark of no bytes
abbrev pub image : Ptr → Val
image p = vstruct (vcons (ptr_val p) (vcons (vstruct vnil) vnil))

module _ (E : El) where
  abbrev pub RawChunk : RattleType
  RawChunk = Declared.the_row (R E) (P E) E.al.g

  abbrev Fields : RattleType
  Fields = Struct (shape (Declared.the_type (R E) (P E) E.al.g))

  abbrev pub records : ℕ → ℕ → ℕ → List (el_x E) → Fml
  records b o n xs = part_at (Array (R E) n) full_share xs b o

  abbrev pub room : ℕ → ℕ → ℕ → ℕ → Fml
  room b o n c = froom (ty_array (elτ E) (c - n)) b (o + n * sz E)

  pub image_typed : (p : Ptr) → Good (layout RawChunk) (image p)
  image_typed (block_ptr b o) = (tt, (tt, (tt, tt)))
  image_typed null_ptr = (tt, (record { fits = lit< tt }, (tt, tt)))

  abbrev pub right : RawChunk.Denot → ℕ → ℕ → Fml
  right d b o = token E.al d.alloc (bare (ty_array (elτ E) d.places)) (block_ptr b o)

module _ (E : El) {M : Type 1} {𝓤 : Ura M} {𝓛 : Logic 𝓤} {K : Type 0} {Γ : List (Item 𝓤)} {G : Goal 𝓤 𝓛.H} where
  pub chunk_opens : K → (d : (RawChunk E).Denot) (vs : List Val) (n : ℕ) → length d.items ≡ n
      → ((b o : ℕ) → d.start ≡ block_ptr b o → vs ≡ image (block_ptr b o) ∷ [] → d.places * sz E < 2 ^ 63
      → Seq K 𝓛 (‵ (records E b o n d.items) ∷ ‵ (room E b o n d.places) ∷ ‵ (right E d b o) ∷ Γ) G)
      → Seq K 𝓛 (‵ ((RawChunk E).own_val d vs) ∷ Γ) G
  chunk_opens t d vs n long k =
      let Owned = λ (p : Ptr) (m : ℕ). block_with_items (token E.al d.alloc) (R E) p m d.places d.items in
      fsplit t $ fpick t (λ parts. fsplit t $ feq_l t (λ whole. fsplit t $ feq_l t
      (λ pointer. fsplit t $ fpick t (λ none. fsplit t $ feq_l t (λ mark. drop t $ drop t $
      fsplit t $ flt_l t (λ small. rewrite t 0 (λ (m : ℕ). ‵ (Owned d.start m)) long refl $
      in_a_block t d.start (λ p. Owned p n) (fst∗ 𝓤 (never 𝓤) (sem 𝓛 (fsep ffalse (token E.al d.alloc (bare (ty_array (elτ E) d.places)) null_ptr)))) (λ b o e.
      fsplit t $ move t (1 ∷ []) $ fsplit t $ as_written t (ty_array (elτ E) (d.places - n)) b (o + n * sz E) $ move t (2 ∷ 0 ∷ 1 ∷ []) $
      k b o e (whole ∙ (λ i. vstruct (of_list (pointer i ++ (mark i ++ []))) ∷ []) ∙ ap (λ (p : Ptr). image p ∷ []) e) small)))))))

  pub chunk_made : K → (d : (RawChunk E).Denot) (b o n : ℕ) → length d.items ≡ n → d.start ≡ block_ptr b o → d.places * sz E < 2 ^ 63
      → Step K 𝓛 (‵ ((RawChunk E).own_val d (image (block_ptr b o) ∷ [])) ∷ Γ) G
      (‵ (records E b o n d.items) ∷ ‵ (room E b o n d.places) ∷ ‵ (right E d b o) ∷ Γ) G
  chunk_made t d b o n long e small = step (λ s.
      let p = block_ptr b o in let Owned = λ (m : ℕ). block_with_items (token E.al d.alloc) (R E) p m d.places d.items in
      move t (1 ∷ 2 ∷ []) $ as_raw t (ty_array (elτ E) (d.places - n)) b (o + n * sz E) $ fjoin t $ move t (1 ∷ 0 ∷ []) $ fjoin t $
      rewrite t 0 (λ (m : ℕ). ‵ (Owned m)) (sym long) refl $ flt_i t (d.places * sz E) (2 ^ 63) small $ fjoin t $
      pure_i t ((Fields E).own_val (p, (tt, tt)) (image p ∷ [])) (λ vss. (tt, (tt, ((λ uss. (tt, tt)), tt))))
      ((ptr_val p ∷ [], (vstruct vnil ∷ [], tt)), (refl, (refl, ((tt, (refl, tt)), tt)))) $ fjoin t $
      rewrite t 0 (λ (q : Ptr). ‵ (fsep ((Fields E).own_val (q, (tt, tt)) (image p ∷ []))
      (chunk_owned (R E) (token E.al d.alloc) q d.places d.items))) (sym e) refl $ s)

  pub lent_opens : K → (κ : Lft) (d : (RawChunk E).Denot) (rb ro i : ℕ) (x : el_x E) → i < length d.items → get_or d.items i x ≡ x
      → ((b o : ℕ) → d.start ≡ block_ptr b o → d.places * sz E < 2 ^ 63
      → Seq K 𝓛 (‵ (hidden_shr RawPtr κ d.start rb (ro + 0)) ∷ ‵ (hidden_shr (R E) κ x b (i * sz E + o)) ∷ Γ) G)
      → Seq K 𝓛 (‵ (hidden_shr (RawChunk E) κ d rb ro) ∷ Γ) G
  lent_opens t κ d rb ro i x within found k =
      let n = length d.items in
      unhide t $ fsplit t $ fsplit t $ move t (2 ∷ []) $ fsplit t $ flt_l t (λ small. fsplit t $
      in_a_block t d.start (λ p. in_block p ftrue) (id⊢ 𝓤 (never 𝓤)) (λ b o e. drop t $
      rewrite t 0 (λ (p : Ptr). ‵ (shared_of (Array (R E) n) d.items (block_of p) (count_of p) κ)) e refl $
      fsplit t $ drop t $
      use1 𝓛 (‵ (shared_of (R E) (get_or d.items i x) b (at o (sz E) i) κ)) (each-one 𝓛 (shared_of (R E)) (sz E) κ b d.items i x o within) $
      rewrite t 0 (λ (u : el_x E × ℕ). ‵ (shared_of (R E) u.0 b u.1 κ)) (λ j. (found j, at_mul o (sz E) i j)) refl $ hide t $
      move t (1 ∷ []) $ fsplit t $ move t (0 ∷ 2 ∷ []) $ hide t $ move t (2 ∷ []) $ drop t $ move t (2 ∷ []) $ drop t $ k b o e small))
