-- `push` writes the first of the free places. Assumes `Logic`.
use Rattle.std.proofs.Common.{◌≡◌, ℕ, ◌+◌, ◌*◌, ◌<◌, ◌^◌, List, [], ◌∷◌, ◌++◌, refl, sym, subst, arith, length, length-append}
use mir.Syntax.{w64}
use mir.Val.{Val, vptr, vint, vunit}
use mir.MapTy.{inst_fn}
use base.Fraction.{full_share}
use base.Logic.{SProp, ent, emp}
use base.Fml.{ftrue, flft, froom}
use prog.Wp.{WpFn}
use contract.Running.{tables}
use contract.Monad.{fact, fact_i}
use contract.BorrowLft.{◌⊑◌}
use types.Kit.{‵, raw, ◌⊛◌, at_ret, ◌$◌, ◌∵◌, !, qed, by, move, keep, use0, use1, use2, split, join, rewrite, fsplit, fsplit3, fjoin, fjoin3, feq_i, feq_l}
use types.Part.{whole, sub, look_in}
use types.Run.{init, load, stop, fld, unit_lit, of_opd, assigns_last, first, blocks, exec, returns, enter, bin, size_lit}
use types.ByLocal.{alloc_all, pass_all, free_all, look_at, get, through, sets, env}
use denote.RattleType.{owns}
use denote.Memory.{cell_at, part_at}
use denote.RawPtr.{block_ptr}
use denote.Builtin.{usize}
use denote.Signature.{plain, types_at}
use denote.Steps.{nothing, heard, opens, closes}
use denote.Triple.Walked.{Stays, stay_dropped, stay_ref, walk_of, Goes-dropped, Goes-ref}
use Rattle.core.proofs.mem.Param as Param
use Rattle.core.proofs.ptr.Rows.{times_below, one_below}
use Rattle.std_alloc.proofs.VecSteps.El.{El, R, elτ, sz, args}
use Rattle.std_alloc.proofs.VecSteps.Rows.{el_in, spare, snoc}
use Rattle.std_alloc.proofs.VecSteps.Shapes.{after}
use Rattle.std.proofs.raw_atomic.Walks.{proved_at, leaves}
use Rattle.des_arena.proofs.RawChunks.{RawChunk, image, records, room, chunk_opens, chunk_made}
use Rattle.des_arena.specs.contracts.raw_chunk.RawChunk.push.{ended, clauses}
use Rattle.des_arena.specs.contracts.raw_chunk.RawChunk.push.Key.{name as #self}
use Rattle.des_arena.proofs.raw_chunk.RawChunk.push.Statement.{statement}
use Rattle.des_arena.proofs.raw_chunk.RawChunk.push.Code as code

pub push_spec : {M : Type 1} → statement M
push_spec 𝓤 𝓛 𝓜 𝓡 wired X W LX LW g dict drops met meets_drop =
    let H = 𝓛.H in let T = tables 𝓤 H 𝓜 𝓡 𝓡.env in let E : El = record {
      row = X;
      laws = LX;
      al = record { row = W; laws = LW; g = g; d = dict; drops = drops };
    } in
    let F = ended X W g dict drops in let c = clauses X W g dict drops 𝓛 𝓜.mem 𝓡.returns in let fn = inst_fn (args E) code.function in
    let len_at = plain {n = 3} (λ _. usize) in let item_at = plain {n = 3} (λ _. R E) in
    let kept : Stays F.signature.params F.kept = (
      stay_ref (0 ∷ []) tt (plain (λ _. RawChunk E)),
      (stay_dropped len_at F.kept.1.0, (stay_dropped item_at F.kept.1.1.0, tt)),
    ) in
    proved_at 𝓛 F kept c 𝓜 𝓡 (
      Goes-ref 𝓛 3 0 tt (plain (λ _. RawChunk E)),
      (Goes-dropped 𝓛 3 len_at F.kept.1.0 (λ κs x f. refl), (Goes-dropped 𝓛 3 item_at F.kept.1.1.0 (λ κs x f. refl), tt)),
    )
    (#self (args E)) fn (code.unfolded 𝓤 H 𝓜 𝓡 wired (X, (W, tt)) dict drops) (λ z are.
    let κs = z.0.0 in let qs = z.0.1 in let a = z.0.3 in let d : (RawChunk E).Denot = a.0.now in let len : ℕ = a.1.0 in let item : X.Denot = a.1.1.0 in
    let rb : ℕ = a.0.ref_ptr.0 in let ro : ℕ = a.0.ref_ptr.1 in let fits : len < 2 ^ 64 = are.1.0.1 in
    let bits = Param.one (record {
      row = X;
      laws = LX;
    }) z.0.4.1.1.0 (((Param.lawful (record { row = X; laws = LX })) 𝓛).typed item z.0.4.1.1.0 are.1.1.0) in let v : Val = bits.0 in
    let W₀ = walk_of 𝓛 F kept c in let with_vals : List Val × (List Val × (List Val × Unit {0})) → W₀.Ghost = λ vss. ((κs, qs, z.0.2, a, vss), z.1) in
    let y : W₀.Ghost = with_vals (vptr rb ro ∷ [], (vint w64 len ∷ [], (v ∷ [], tt))) in let Post : Val → SProp 𝓤 = W₀.post y in
    let Counted : Type 0 = len ≡ length d.items in let Room : Type 0 = len < d.places in
    subst (λ (vss : List Val × (List Val × (List Val × Unit {0}))). ent 𝓤 (W₀.pre (with_vals vss))
    (WpFn 𝓤 H T.C T.Λ fn (W₀.args (with_vals vss)) (W₀.post (with_vals vss)))) (λ i. (sym are.0.0 i, (sym are.1.0.0 i, (sym bits.1 i, tt)))) (
    qed 𝓛 (((‵ (flft κs.0 qs.0) ⊛ ‵ (flft κs.1.0 qs.1.0) ⊛ ‵ (flft κs.1.1.0 qs.1.1.0) ⊛ ‵ ftrue) ⊛ ‵ (owns (types_at F.signature.params κs) a y.0.4))
    ∷ raw (fact 𝓤 (κs.1.0 ⊑ X.lives)) ∷ raw (fact 𝓤 (κs.1.1.0 ⊑ W.lives)) ∷ raw (fact 𝓤 Counted) ∷ raw (fact 𝓤 Room) ∷ []) ∵
    move ! (3 ∷ []) $ heard ! Counted (λ counted. move ! (3 ∷ []) $ heard ! Room
    (λ free. keep ! (0 ∷ []) $ split ! $ split ! $ move ! (2 ∷ []) $ fsplit ! $ fsplit3 ! $ feq_l !
    (λ _. move ! (2 ∷ []) $ fsplit3 ! $ keep ! (3 ∷ 4 ∷ 5 ∷ 1 ∷ 6 ∷ []) $
    -- [self, in two entries; the token; the item; the other tokens]
    enter ! T.C T.Λ fn (vptr rb ro ∷ vint w64 len ∷ v ∷ []) Post $ alloc_all ! (λ l. pass_all ! refl ((tt, tt), ((tt, record { fits = fits }), (bits.2, tt))) $
    opens ! tt (RawChunk E) {h = d} rb ro (λ vs. move ! (1 ∷ []) $ chunk_opens E ! d vs len (sym counted) (λ b o e is small.
    let s = sz E in let at = len * s + o in let n = length d.items in
    let tiny : s < 2 ^ 64 = omega (arith, one_below d.places s (2 ^ 63) (omega (arith, free)) small) in
    let far : len * s < 2 ^ 64 = omega (arith, times_below len d.places s (2 ^ 63) (omega (arith, free)) small) in
    let longer : length (d.items ++ item ∷ []) ≡ len + 1 = omega (arith, length-append d.items (item ∷ []), counted) in
    let new : (RawChunk E).Denot = record {
      start = d.start;
      owner = d.owner;
      items = d.items ++ item ∷ [];
      places = d.places;
      alloc = d.alloc;
      fits = omega (arith, longer, free);
    } in
    rewrite ! 3 (λ (ws : List Val). ‵ (cell_at full_share (RawChunk E).mir ws rb ro)) is refl $ move ! (1 ∷ []) $
    use1 𝓛 (‵ (froom (elτ E) b at) ⊛ ‵ (room E b o (len + 1) d.places)) (spare E 𝓛 b o len d.places free) $ split ! $
    -- [the place; the room behind it; the records; the right; self's cell; the open borrow, in three entries; the item; the other tokens]
    first ! $ blocks ! $ sets ! (of_opd ! (load ! (through ! refl (fld ! refl (stop !))) (look_in ! 4 (sub ! 0 refl (whole !))))) refl (tt, tt) $
    sets ! (bin ! (get ! refl) (size_lit ! (record { fits = tiny })) (record { fits = far })) refl (tt, record { fits = far }) $
    sets ! (bin ! (get ! refl) (get ! refl) tt) refl (tt, tt) $ sets ! (of_opd ! (get ! refl)) refl bits.2 $
    assigns_last ! (of_opd ! (get ! refl)) (through ! refl (stop !)) (init ! 0 refl bits.2) $
    exec ! T.C T.Λ (env fn.locals l) (after 1 fn.body) (at_ret (env fn.locals l) Post) $ sets ! (of_opd ! (unit_lit !)) refl (tt, tt) $
    move ! (0 ∷ 8 ∷ []) $ use2 𝓛 (‵ (part_at (R E) full_share item b at)) (el_in E 𝓛 full_share item b at v) $
    move ! (2 ∷ 0 ∷ []) $ use2 𝓛 (‵ (records E b o (len + 1) new.items)) (snoc E 𝓛 b o len d.items item) $
    chunk_made E ! new b o (len + 1) longer e small $ move ! (1 ∷ 0 ∷ []) $ closes ! tt (RawChunk E) new (image (block_ptr b o) ∷ []) rb ro $
    returns ! (look_at ! 0 refl) $ free_all ! refl $ keep ! (0 ∷ 1 ∷ 2 ∷ 3 ∷ []) $
    let Items : Type 0 = new.items ≡ new.items in let Places : Type 0 = d.places ≡ d.places in
    move ! (2 ∷ 3 ∷ []) $ join ! $ move ! (1 ∷ 2 ∷ []) $ feq_i ! (List Val) (vptr rb ro ∷ []) (vptr rb ro ∷ []) refl $ fjoin3 ! $
    nothing ! $ nothing ! $ fjoin ! $ nothing ! $ fjoin ! $ move ! (1 ∷ 0 ∷ []) $ fjoin ! $ feq_i ! (List Val) (vunit ∷ []) (vunit ∷ []) refl $
    use0 𝓛 (raw (fact 𝓤 Places)) (fact_i 𝓤 Places (emp 𝓤) refl) $ use0 𝓛 (raw (fact 𝓤 Items)) (fact_i 𝓤 Items (emp 𝓤) refl) $ join ! $ move !
    (3 ∷ 2 ∷ 1 ∷ 0 ∷ []) $
    by ! (leaves 𝓛 F kept c y vunit tt (new, (tt, (tt, tt))) (tt, (tt, (tt, tt))))))))))))
