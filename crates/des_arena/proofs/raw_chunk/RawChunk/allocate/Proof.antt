-- `allocate` makes a raw chunk without records of what the allocator hands over. Assumes `Logic`.
use Rattle.std.proofs.Common.{◌≡◌, ℕ, ◌*◌, ◌<◌, ◌^◌, List, [], ◌∷◌, true, false, refl, sym, ap, subst, arith, lit<, Ok, Err}
use Rattle.std.specs.Vec.Ownership.{FitsInBlock}
use mir.Syntax.{Body, w64, ty_array}
use mir.Val.{Val, vptr, vint, vstruct, vcons, vnil}
use mir.MapTy.{inst_fn}
use base.Logic.{SProp, ent, emp}
use base.Fml.{Lft, Share, Incl-trans, ftrue, flft, froom}
use prog.Wp.{Wp, WpFn, after_seq, at_return}
use prog.Memory.{align, capped}
use prog.Capped.{capped_fits}
use contract.Running.{tables}
use contract.Monad.{fact, fact_i}
use contract.BorrowLft.{◌⊑◌}
use types.Kit.{
  ‵,
  raw,
  ◌⊛◌,
  Post as After,
  any_q,
  later,
  await,
  at_ret,
  ◌$◌,
  ◌∵◌,
  !,
  qed,
  by,
  move,
  keep,
  drop,
  use0,
  use1,
  use2,
  split,
  join,
  fsplit,
  fjoin,
  feq_l,
}
use types.Match.{live, vrt, in_variant}
use types.Part.{whole, agg}
use types.Run.{stop, fld, lit, of_opd, and_then, no_more, first, exec, returns, enter, bin, size_word, align_word, switches_on}
use types.ByLocal.{alloc_all, pass_all, free_all, look_at, get, get_in, get_tag, sets, sets_last, is, lands_as, env}
use denote.Laws.{Is}
use denote.RattleType.{RattleType, owns}
use denote.Param.{layout}
use denote.RawPtr.{Ptr, block_ptr}
use denote.Builtin.{RefOf, usize}
use denote.Signature.{plain, types_at}
use denote.Steps.{nothing, heard, owned}
use denote.Struct.Struct.{Struct, Struct-Makes}
use denote.Struct.Declared as Shapes
use denote.Triple.Call.{calls_at}
use denote.Triple.Walked.{Stays, stay_dropped, walk_of, Goes-dropped}
use Rattle.core.specs.contracts.result.Result as Result
use Rattle.core.specs.contracts.alloc.AllocError as AllocError
use Rattle.core.proofs.alloc.Calls.{Al, Answer-typed, Takes, at_takes, Answered, Takes-goes, Takes-gives, answers}
use Rattle.core.proofs.atomic.Steps.{fm}
use Rattle.core.proofs.mem.Param as Param
use Rattle.core.proofs.slots.Leases.{uncapped, block_ty, block_size, block_align}
use Rattle.std_alloc.proofs.RcSteps.{first_Good}
use Rattle.std_alloc.proofs.RawLayout.{as_written}
use Rattle.std_alloc.proofs.ResultValues.{ok_of, err_of}
use Rattle.std_alloc.proofs.VecSteps.El.{El, P, R, elτ, sz, args}
use Rattle.std_alloc.proofs.VecSteps.Rows.{empty, room_split}
use Rattle.std_alloc.proofs.VecSteps.Shapes.{after, head, arm_body}
use Rattle.std.proofs.raw_atomic.Walks.{proved_at, leaves}
use Rattle.des_arena.proofs.RawChunks.{RawChunk, image, image_typed, records, room, chunk_made}
use Rattle.des_arena.specs.contracts.raw_chunk.RawChunk.allocate.{ended, clauses}
use Rattle.des_arena.specs.contracts.raw_chunk.RawChunk.allocate.Key.{name as #self}
use Rattle.des_arena.proofs.raw_chunk.RawChunk.allocate.Statement.{statement}
use Rattle.des_arena.proofs.raw_chunk.RawChunk.allocate.Code as code

pub allocate_spec : {M : Type 1} → statement M
allocate_spec 𝓤 𝓛 𝓜 𝓡 wired X W LX LW g dict drops met meets_drop =
    let H = 𝓛.H in let T = tables 𝓤 H 𝓜 𝓡 𝓡.env in let Z : Al = record {
      row = W;
      laws = LW;
      g = g;
      d = dict;
      drops = drops;
    } in let E : El = record { row = X; laws = LX; al = Z } in
    let F = ended X W g dict drops in let c = clauses X W g dict drops 𝓛 𝓜.mem 𝓡.returns in let fn = inst_fn (args E) code.function
    in let E₀ : Param.El = record {
      row = X;
      laws = LX;
    } in
    let Out : RattleType = Result.the_row (RawChunk E) AllocError.the_row in
    let alloc_at = RefOf {n = 3} (0 ∷ []) tt (plain (λ _. P E)) (λ _. tt) in let places_at = plain {n = 3} (λ _. usize) in
    let kept : Stays F.signature.params F.kept = (stay_dropped alloc_at F.kept.0, (stay_dropped places_at F.kept.1.0, tt)) in
    proved_at 𝓛 F kept c 𝓜 𝓡 (Goes-dropped 𝓛 3 alloc_at F.kept.0 (λ κs x f. refl), (Goes-dropped 𝓛 3 places_at F.kept.1.0 (λ κs x f. refl), tt))
    (#self (args E)) fn (code.unfolded 𝓤 H 𝓜 𝓡 wired (X, (W, tt)) dict drops) (λ z are.
    let κs = z.0.0 in let κ : Lft = κs.0 in let qs = z.0.1 in let q : Share = qs.0 in let a = z.0.3 in let heap : W.Denot = a.0.now in let n : ℕ = a.1.0 in
    let rb : ℕ = a.0.ref_ptr.0 in let ro : ℕ = a.0.ref_ptr.1 in let fits : n < 2 ^ 64 = are.1.0.1 in
    let W₀ = walk_of 𝓛 F kept c in let with_vals : List Val × (List Val × Unit {0}) → W₀.Ghost = λ vss. ((κs, qs, z.0.2, a, vss), z.1) in
    let y : W₀.Ghost = with_vals (vptr rb ro ∷ [], (vint w64 n ∷ [], tt)) in let Post : Val → SProp 𝓤 = W₀.post y in
    let Asked : Type 0 = FitsInBlock (R E) n in
    subst (λ (vss : List Val × (List Val × Unit {0})). ent 𝓤 (W₀.pre (with_vals vss))
    (WpFn 𝓤 H T.C T.Λ fn (W₀.args (with_vals vss)) (W₀.post (with_vals vss)))) (λ i. (sym are.0.0 i, (sym are.1.0.0 i, tt))) (
    qed 𝓛 (((‵ (flft κ q) ⊛ ‵ (flft κs.1.0 qs.1.0) ⊛ ‵ (flft κs.1.1.0 qs.1.1.0) ⊛ ‵ ftrue) ⊛ ‵ (owns (types_at F.signature.params κs) a y.0.4))
    ∷ raw (fact 𝓤 (κs.1.0 ⊑ X.lives)) ∷ raw (fact 𝓤 (κs.1.1.0 ⊑ W.lives)) ∷ raw (fact 𝓤 Asked) ∷ []) ∵
    move ! (2 ∷ []) $ heard ! (κs.1.1.0 ⊑ W.lives) (λ within. move ! (2 ∷ []) $ heard ! Asked
    (λ asked. keep ! (0 ∷ []) $ split ! $ split ! $ move ! (2 ∷ []) $ fsplit ! $ fsplit ! $ feq_l ! (λ _. keep ! (0 ∷ 2 ∷ 3 ∷ []) $
    -- [a `&` to the allocator; the token; the other tokens]
    let s = sz E in let al : ℕ = capped (align (elτ E)) in let bytes : n * s < 2 ^ 64 = omega (arith, asked.0) in
    let exact : n * capped s ≡ n * s = uncapped n s bytes in
    let call : (Takes Z 𝓛 𝓜.mem 𝓡.returns).Ghost = at_takes Z 𝓛 𝓜.mem 𝓡.returns κ q (rb, ro) heap (n * s) al (block_ty E₀ n) in
    enter ! T.C T.Λ fn (vptr rb ro ∷ vint w64 n ∷ []) Post $ alloc_all !
    (λ l. pass_all ! refl ((tt, tt), ((tt, record { fits = fits }), tt)) $ let Ev = env fn.locals l in
    let arms : Body = head (after 2 fn.body) in let Then : After 𝓤 H = any_q
    (after_seq 𝓤 H (Wp 𝓤 H T.C T.Λ Ev (after 3 fn.body) (at_return 𝓤 H Ev Post)) (at_return 𝓤 H Ev Post)) in
    sets ! (is ! (bin ! (get ! refl) (size_word !) (record { fits = rw exact bytes })) (ap (vint w64) exact)) refl (tt, record { fits = bytes }) $
    use2 𝓛 (raw ((Takes Z 𝓛 𝓜.mem 𝓡.returns).pre call))
    (Takes-goes Z 𝓛 𝓜.mem 𝓡.returns κ q (rb, ro) heap (Incl-trans z.0.2.0 within) (n * s) al (block_ty E₀ n) (block_size E₀ n bytes)
    (block_align E₀ n) bytes (capped_fits (align (elτ E)))) $
    calls_at ! (fm 𝓛 𝓜 𝓡) (Takes Z 𝓛 𝓜.mem 𝓡.returns) (met.allocate drops) call
    (and_then ! (get ! refl) (and_then ! (get ! refl) (and_then ! (align_word !) (no_more !)))) (λ v.
    use1 𝓛 (later (raw (Answered Z 𝓛 𝓜.mem 𝓡.returns heap (block_ty E₀ n) v) ⊛ ‵ (flft κ q)))
    (Takes-gives Z 𝓛 𝓜.mem 𝓡.returns κ q (rb, ro) heap (n * s) al (block_ty E₀ n) v) $ await ! tt $ split ! $
    answers Z ! 𝓜.mem 𝓡.returns heap (block_ty E₀ n) v
    (λ b o e.
    let p : Ptr = block_ptr b o in let new : (RawChunk E).Denot = record {
      start = p;
      owner = record {};
      items = [];
      places = n;
      alloc = heap;
      fits = omega arith;
    } in
    let Empty : Type 0 = new.items ≡ [] in let Places : Type 0 = n ≡ n in let Owner : Type 0 = heap ≡ heap
    in let wrapped : Val = live 0 (vcons (image p) vnil) in
    let typed = image_typed E p in let ok = first_Good (layout (RawChunk E)) (image p) typed in
    lands_as ! e refl (Answer-typed true b o) $ first ! $ switches_on ! (get_tag ! (vrt ! refl (fld ! refl (stop !))) (whole !)) $ exec ! T.C T.Λ Ev
    (arm_body 0 arms) Then $
    sets ! (of_opd ! (get_in ! (vrt ! refl (fld ! refl (stop !))) (in_variant ! 0 0 refl refl (whole !)))) refl (tt, tt) $ sets !
    (of_opd ! (get ! refl)) refl (tt, tt) $
    sets ! (agg ! (no_more !)) refl (tt, tt) $ sets ! (agg ! (and_then ! (get ! refl) (and_then ! (get ! refl) (no_more !)))) refl typed $
    sets_last ! (agg ! (and_then ! (lit ! tt) (and_then ! (get ! refl) (no_more !)))) refl ok $
    exec ! T.C T.Λ Ev (after 3 fn.body) (at_ret Ev Post) $ sets ! (of_opd ! (get ! refl)) refl ok $
    as_written ! (ty_array (elτ E) n) b o $ use1 𝓛 (‵ (froom (ty_array (elτ E) 0) b o) ⊛ ‵ (room E b o 0 n)) (room_split E 𝓛 0 n b o (omega arith)) $
    split ! $ drop ! $
    use0 𝓛 (‵ (records E b o 0 [])) (empty E 𝓛 [] b o refl) $ chunk_made E ! new b o 0 refl refl asked.0 $
    use1 𝓛 (‵ (Out.own_val (Ok new) (wrapped ∷ []))) (ok_of 𝓛 (RawChunk E) AllocError.the_row new (image p)) $
    returns ! (look_at ! 0 refl) $ free_all ! refl $ keep ! (0 ∷ 1 ∷ 2 ∷ []) $ move ! (1 ∷ 2 ∷ []) $ join ! $ nothing ! $ nothing ! $ fjoin ! $
    nothing ! $ fjoin ! $
    use0 𝓛 (raw (fact 𝓤 Owner)) (fact_i 𝓤 Owner (emp 𝓤) refl) $ use0 𝓛 (raw (fact 𝓤 Places)) (fact_i 𝓤 Places (emp 𝓤) refl) $ join ! $ use0 𝓛
    (raw (fact 𝓤 Empty)) (fact_i 𝓤 Empty (emp 𝓤) refl) $ join ! $ move ! (2 ∷ 1 ∷ 3 ∷ 0 ∷ []) $ by !
    (leaves 𝓛 F kept c y wrapped (Ok new) (tt, (tt, tt)) (tt, (tt, tt))))
    (λ e.
    let Refusal : RattleType = Struct (Shapes.shape AllocError.the_type) in let wrapped : Val = live 1 (vcons (vstruct vnil) vnil) in
    lands_as ! e refl (Answer-typed false 0 0) $ first ! $ switches_on ! (get_tag ! (vrt ! refl (fld ! refl (stop !))) (whole !)) $ exec ! T.C T.Λ Ev
    (arm_body 1 arms) Then $
    sets ! (of_opd ! (get_in ! (vrt ! refl (fld ! refl (stop !))) (in_variant ! 1 0 refl refl (whole !)))) refl (tt, tt) $
    sets_last ! (agg ! (and_then ! (lit ! tt) (and_then ! (get ! refl) (no_more !)))) refl (tt, (record { fits = lit< tt }, (tt, tt))) $
    exec ! T.C T.Λ Ev (after 3 fn.body) (at_ret Ev Post) $ sets ! (of_opd ! (get ! refl)) refl (tt, (record { fits = lit< tt }, (tt, tt))) $
    owned ! Refusal (Is Refusal) (Struct-Makes 𝓛 (Shapes.shape AllocError.the_type) tt) tt (vstruct vnil ∷ []) (tt, (refl, tt)) $
    use1 𝓛 (‵ (Out.own_val (Err (record {})) (wrapped ∷ []))) (err_of 𝓛 (RawChunk E) AllocError.the_row (record {}) (vstruct vnil)) $
    returns ! (look_at ! 0 refl) $ free_all ! refl $ keep ! (0 ∷ 1 ∷ 2 ∷ []) $ move ! (1 ∷ 2 ∷ []) $ join ! $ nothing ! $ nothing ! $ fjoin ! $
    nothing ! $ fjoin ! $
    use0 𝓛 (raw (fact 𝓤 (Unit {0}))) (fact_i 𝓤 (Unit {0}) (emp 𝓤) tt) $ use0 𝓛 (raw (fact 𝓤 (Unit {0}))) (fact_i 𝓤 (Unit {0}) (emp 𝓤) tt) $ join ! $
    use0 𝓛 (raw (fact 𝓤 (Unit {0}))) (fact_i 𝓤 (Unit {0}) (emp 𝓤) tt) $ join ! $ move ! (2 ∷ 1 ∷ 3 ∷ 0 ∷ []) $ by !
    (leaves 𝓛 F kept c y wrapped (Err (record {})) (tt, (tt, tt)) (tt, (tt, tt)))))))))))
