-- `deallocate` hands the room of a raw chunk without records to its allocator, with the right to free it. Assumes `Logic`.
use Rattle.std.proofs.Common.{◌≡◌, ℕ, ◌*◌, ◌<◌, ◌^◌, List, [], ◌∷◌, ◌++◌, refl, sym, ap, subst, ◌∙◌, arith, length, T as Holds}
use mir.Syntax.{w64, ty_unit, ty_array}
use mir.Raw.{raw as bare}
use mir.Val.{Val, vptr, vint, vunit, vstruct, of_list, has_ty, WT}
use mir.MapTy.{inst_fn}
use base.Logic.{SProp, ent}
use base.Fml.{Lft, Share, Incl-trans, ftrue, flft, froom}
use prog.Wp.{WpFn}
use prog.Memory.{align, capped}
use prog.Capped.{capped_fits}
use contract.Running.{tables}
use contract.Monad.{fact}
use contract.BorrowLft.{◌⊑◌}
use types.Kit.{
  ‵,
  raw,
  ◌⊛◌,
  given,
  later,
  await,
  learn,
  at_ret,
  ◌$◌,
  ◌∵◌,
  !,
  qed,
  by,
  move,
  keep,
  use1,
  use2,
  split,
  join,
  group,
  rewrite,
  fsplit,
  fsplit3,
  fjoin,
  feq_i,
  feq_l,
}
use types.Part.{whole, sub}
use types.Run.{stop, fld, unit_lit, of_opd, and_then, no_more, first, blocks, exec, returns, enter, bin, size_word, align_word}
use types.ByLocal.{alloc_all, pass_all, free_all, look_at, get, get_in, sets, is, lands_last, env}
use denote.RattleType.{owns}
use denote.RawPtr.{block_ptr, ptr_val}
use denote.Builtin.{RefOf, usize}
use denote.Signature.{plain, types_at}
use denote.Steps.{nothing, heard}
use denote.Triple.Call.{calls_at_last}
use denote.Triple.Walked.{Stays, stay_dropped, walk_of, Goes-dropped}
use Rattle.core.proofs.alloc.Calls.{Al, token, Goes-blank, Gives, at_gives, Gives-goes, Gives-Gives}
use Rattle.core.proofs.atomic.Steps.{fm}
use Rattle.core.proofs.mem.Param as Param
use Rattle.core.proofs.slots.Leases.{uncapped, block_ty, block_size, block_align}
use Rattle.std_alloc.proofs.RawLayout.{as_raw}
use Rattle.std_alloc.proofs.VecSteps.El.{El, P, elτ, sz, args}
use Rattle.std_alloc.proofs.VecSteps.Rows.{all_room}
use Rattle.std_alloc.proofs.VecSteps.Shapes.{after}
use Rattle.std.proofs.raw_atomic.Walks.{proved_at, leaves}
use Rattle.des_arena.proofs.RawChunks.{RawChunk, image, image_typed, chunk_opens}
use Rattle.des_arena.specs.contracts.raw_chunk.RawChunk.deallocate.{ended, clauses}
use Rattle.des_arena.specs.contracts.raw_chunk.RawChunk.deallocate.Key.{name as #self}
use Rattle.des_arena.proofs.raw_chunk.RawChunk.deallocate.Statement.{statement}
use Rattle.des_arena.proofs.raw_chunk.RawChunk.deallocate.Code as code

pub deallocate_spec : {M : Type 1} → statement M
deallocate_spec 𝓤 𝓛 𝓜 𝓡 wired X W LX LW g dict drops met meets_drop =
    let H = 𝓛.H in let T = tables 𝓤 H 𝓜 𝓡 𝓡.env in let Z : Al = record {
      row = W;
      laws = LW;
      g = g;
      d = dict;
      drops = drops;
    } in let E : El = record { row = X; laws = LX; al = Z } in
    let F = ended X W g dict drops in let c = clauses X W g dict drops 𝓛 𝓜.mem 𝓡.returns in let fn = inst_fn (args E) code.function
    in let E₀ : Param.El = record {
      row = X;
      laws = LX;
    } in
    let self_at = plain {n = 3} (λ _. RawChunk E) in let alloc_at = RefOf {n = 3} (0 ∷ []) tt (plain (λ _. P E)) (λ _. tt)
    in let places_at = plain {n = 3} (λ _. usize) in
    let kept : Stays F.signature.params F.kept = (
      stay_dropped self_at F.kept.0,
      (stay_dropped alloc_at F.kept.1.0, (stay_dropped places_at F.kept.1.1.0, tt)),
    ) in
    proved_at 𝓛 F kept c 𝓜 𝓡 (
      Goes-blank 𝓛 3 self_at F.kept.0 (λ κs x f. tt),
      (Goes-dropped 𝓛 3 alloc_at F.kept.1.0 (λ κs x f. refl), (Goes-dropped 𝓛 3 places_at F.kept.1.1.0 (λ κs x f. refl), tt)),
    )
    (#self (args E)) fn (code.unfolded 𝓤 H 𝓜 𝓡 wired (X, (W, tt)) dict drops) (λ z are.
    let κs = z.0.0 in let κ : Lft = κs.0 in let qs = z.0.1 in let q : Share = qs.0 in let a = z.0.3 in let d : (RawChunk E).Denot = a.0
    in let heap : W.Denot = a.1.0.now in let n : ℕ = a.1.1.0 in
    let rb : ℕ = a.1.0.ref_ptr.0 in let ro : ℕ = a.1.0.ref_ptr.1 in let fits : n < 2 ^ 64 = are.1.1.0.1 in
    let W₀ = walk_of 𝓛 F kept c in let with_vals : List Val × (List Val × (List Val × Unit {0})) → W₀.Ghost = λ vss. ((κs, qs, z.0.2, a, vss), z.1) in
    let y : W₀.Ghost = with_vals (image d.start ∷ [], (vptr rb ro ∷ [], (vint w64 n ∷ [], tt))) in let Post : Val → SProp 𝓤 = W₀.post y in
    let Empty : Type 0 = d.items ≡ [] in let Counted : Type 0 = d.places ≡ n in let Owner : Type 0 = d.alloc ≡ heap in
    subst (λ (vss : List Val × (List Val × (List Val × Unit {0}))). ent 𝓤 (W₀.pre (with_vals vss))
    (WpFn 𝓤 H T.C T.Λ fn (W₀.args (with_vals vss)) (W₀.post (with_vals vss))))
    (λ i. (
      sym (are.0.0.1.0 ∙ (λ j. vstruct (of_list (are.0.0.1.1.0 j ++ (are.0.0.1.1.1.0.1.0 j ++ []))) ∷ [])) i,
      (sym are.1.0.0 i, (sym are.1.1.0.0 i, tt)),
    )) (
    qed 𝓛 (((‵ (flft κ q) ⊛ ‵ (flft κs.1.0 qs.1.0) ⊛ ‵ (flft κs.1.1.0 qs.1.1.0) ⊛ ‵ ftrue) ⊛ ‵ (owns (types_at F.signature.params κs) a y.0.4))
    ∷ raw (fact 𝓤 (κs.1.0 ⊑ X.lives)) ∷ raw (fact 𝓤 (κs.1.1.0 ⊑ W.lives)) ∷ raw (fact 𝓤 Empty) ∷ raw (fact 𝓤 Counted) ∷ raw (fact 𝓤 Owner) ∷ []) ∵
    move ! (2 ∷ []) $ heard ! (κs.1.1.0 ⊑ W.lives) (λ within. move ! (2 ∷ []) $ heard ! Empty
    (λ no_items. move ! (2 ∷ []) $ heard ! Counted (λ counted. move ! (2 ∷ []) $ heard ! Owner
    (λ owner. keep ! (0 ∷ []) $ split ! $ split ! $ move ! (2 ∷ []) $ fsplit3 ! $ move ! (1 ∷ []) $ fsplit ! $ feq_l ! (λ _. keep ! (1 ∷ 0 ∷ 3 ∷ 4 ∷ []) $
    -- [the raw chunk; a `&` to the allocator; the token; the other tokens]
    enter ! T.C T.Λ fn (image d.start ∷ vptr rb ro ∷ vint w64 n ∷ []) Post $ alloc_all !
    (λ l. pass_all ! refl (image_typed E d.start, ((tt, tt), ((tt, record { fits = fits }), tt))) $
    chunk_opens E ! d (image d.start ∷ []) 0 (ap length no_items) (λ b o e _ fit.
    let s = sz E in let al : ℕ = capped (align (elτ E)) in let small : n * s < 2 ^ 63 = subst (λ k. k * s < 2 ^ 63) counted fit
    in let bytes : n * s < 2 ^ 64 = omega (arith, small) in
    let exact : n * capped s ≡ n * s = uncapped n s bytes in
    let call : (Gives Z 𝓛 𝓜.mem 𝓡.returns).Ghost = at_gives Z 𝓛 𝓜.mem 𝓡.returns κ q (rb, ro) heap b o (n * s) al (block_ty E₀ n) in
    use2 𝓛 (‵ (froom (ty_array (elτ E) d.places) b o)) (all_room E 𝓛 b o 0 d.places d.items (omega arith)) $
    rewrite ! 0 (λ (k : ℕ). ‵ (froom (ty_array (elτ E) k) b o)) counted refl $ as_raw ! (ty_array (elτ E) n) b o $
    rewrite ! 1 (λ (u : W.Denot × ℕ). ‵ (token Z u.0 (bare (ty_array (elτ E) u.1)) (block_ptr b o))) (λ i. (owner i, counted i)) refl $
    -- [the room; the right; a `&` to the allocator; the token; the other tokens]
    sets ! (is ! (of_opd ! (get_in ! (fld ! refl (stop !)) (sub ! 0 refl (whole !)))) (ap ptr_val e)) refl (tt, tt) $ first ! $ blocks ! $ sets !
    (of_opd ! (get ! refl)) refl (tt, tt) $
    sets ! (is ! (bin ! (get ! refl) (size_word !) (record { fits = rw exact bytes })) (ap (vint w64) exact)) refl (tt, record { fits = bytes }) $
    group ! 4 $ use1 𝓛 (raw ((Gives Z 𝓛 𝓜.mem 𝓡.returns).pre call))
    (Gives-goes Z 𝓛 𝓜.mem 𝓡.returns κ q (rb, ro) heap (Incl-trans z.0.2.0 within) b o (n * s) al (block_ty E₀ n) (block_size E₀ n bytes)
    (block_align E₀ n) bytes (capped_fits (align (elτ E)))) $
    calls_at_last ! (fm 𝓛 𝓜 𝓡) (Gives Z 𝓛 𝓜.mem 𝓡.returns) (met.deallocate drops) call
    (and_then ! (get ! refl) (and_then ! (get ! refl) (and_then ! (get ! refl) (and_then ! (align_word !) (no_more !))))) (λ v.
    use1 𝓛 (later (given (v ≡ vunit) (‵ (flft κ q)))) (Gives-Gives Z 𝓛 𝓜.mem 𝓡.returns κ q (rb, ro) heap b o (n * s) al (block_ty E₀ n) v) $ await !
    tt $ learn ! (λ is_unit.
    lands_last ! refl (subst (λ (u : Val). Holds (has_ty ty_unit u) × WT u) (sym is_unit) (tt, tt)) $ exec ! T.C T.Λ (env fn.locals l)
    (after 2 fn.body) (at_ret (env fn.locals l) Post) $
    sets ! (of_opd ! (unit_lit !)) refl (tt, tt) $ returns ! (look_at ! 0 refl) $ free_all ! refl $
    -- [the token; the other tokens]
    keep ! (0 ∷ 1 ∷ []) $ join ! $ nothing ! $ nothing ! $ fjoin ! $ nothing ! $ fjoin ! $ nothing ! $ fjoin ! $ feq_i ! (List Val) (vunit ∷ [])
    (vunit ∷ []) refl $ nothing ! $ move ! (3 ∷ 2 ∷ 1 ∷ 0 ∷ []) $
    by ! (leaves 𝓛 F kept c y vunit tt (tt, (tt, (tt, tt))) (tt, (tt, (tt, tt)))))))))))))))
