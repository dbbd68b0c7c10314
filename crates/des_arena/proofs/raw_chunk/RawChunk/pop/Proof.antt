-- `pop` reads the last record, whose place is free from then on. Assumes `Logic`.
use Rattle.std.proofs.Common.{◌≡◌, ℕ, ◌+◌, ◌*◌, ◌<◌, ◌^◌, List, [], ◌∷◌, ◌++◌, refl, sym, subst, arith, length}
use mir.Syntax.{w64}
use mir.Val.{Val, vptr, vint}
use mir.MapTy.{inst_fn}
use base.Fraction.{full_share}
use base.Logic.{SProp, ent, emp}
use base.Fml.{ftrue, fat, flft, froom}
use prog.Wp.{WpFn}
use contract.Running.{tables}
use contract.Monad.{fact, fact_i}
use contract.BorrowLft.{◌⊑◌}
use types.Kit.{
  ‵,
  raw,
  some,
  given,
  pick,
  learn,
  ◌⊛◌,
  at_ret,
  ◌$◌,
  ◌∵◌,
  !,
  qed,
  by,
  move,
  keep,
  use0,
  use1,
  use2,
  split,
  join,
  rewrite,
  fsplit,
  fsplit3,
  fjoin,
  fjoin3,
  feq_i,
  feq_l,
}
use types.Part.{whole, sub, look_in}
use types.Run.{load, look, stop, fld, of_opd, first, blocks, exec, returns, enter, bin, size_lit}
use types.ByLocal.{alloc_all, pass_all, free_all, look_at, get, through, sets, sets_last, env}
use denote.RattleType.{owns}
use denote.Memory.{cell_at, part_at}
use denote.RawPtr.{block_ptr}
use denote.Builtin.{usize}
use denote.Signature.{plain, types_at}
use denote.Steps.{nothing, heard, opens, closes}
use denote.Triple.Walked.{Stays, stay_dropped, stay_ref, walk_of, Goes-dropped, Goes-ref}
use Rattle.core.proofs.ptr.Rows.{times_below, one_below}
use Rattle.std_alloc.proofs.VecSteps.El.{El, R, Good, el_own, elτ, sz, args}
use Rattle.std_alloc.proofs.VecSteps.Rows.{el_out, unspare, unsnoc}
use Rattle.std_alloc.proofs.VecSteps.Shapes.{after}
use Rattle.std.proofs.raw_atomic.Walks.{proved_at, leaves}
use Rattle.des_arena.proofs.RawChunks.{RawChunk, image, records, room, chunk_opens, chunk_made}
use Rattle.des_arena.proofs.Ends.{at_end}
use Rattle.des_arena.specs.contracts.raw_chunk.RawChunk.pop.{ended, clauses}
use Rattle.des_arena.specs.contracts.raw_chunk.RawChunk.pop.Key.{name as #self}
use Rattle.des_arena.proofs.raw_chunk.RawChunk.pop.Statement.{statement}
use Rattle.des_arena.proofs.raw_chunk.RawChunk.pop.Code as code

pub pop_spec : {M : Type 1} → statement M
pop_spec 𝓤 𝓛 𝓜 𝓡 wired X W LX LW g dict drops met meets_drop =
    let H = 𝓛.H in let T = tables 𝓤 H 𝓜 𝓡 𝓡.env in let E : El = record {
      row = X;
      laws = LX;
      al = record { row = W; laws = LW; g = g; d = dict; drops = drops };
    } in
    let F = ended X W g dict drops in let c = clauses X W g dict drops 𝓛 𝓜.mem 𝓡.returns in let fn = inst_fn (args E) code.function in
    let len_at = plain {n = 3} (λ _. usize) in
    let kept : Stays F.signature.params F.kept = (stay_ref (0 ∷ []) tt (plain (λ _. RawChunk E)), (stay_dropped len_at F.kept.1.0, tt)) in
    proved_at 𝓛 F kept c 𝓜 𝓡 (Goes-ref 𝓛 3 0 tt (plain (λ _. RawChunk E)), (Goes-dropped 𝓛 3 len_at F.kept.1.0 (λ κs x f. refl), tt))
    (#self (args E)) fn (code.unfolded 𝓤 H 𝓜 𝓡 wired (X, (W, tt)) dict drops) (λ z are.
    let κs = z.0.0 in let qs = z.0.1 in let a = z.0.3 in let d : (RawChunk E).Denot = a.0.now in let len : ℕ = a.1.0 in
    let rb : ℕ = a.0.ref_ptr.0 in let ro : ℕ = a.0.ref_ptr.1 in let fits : len < 2 ^ 64 = are.1.0.1 in
    let W₀ = walk_of 𝓛 F kept c in let with_vals : List Val × (List Val × Unit {0}) → W₀.Ghost = λ vss. ((κs, qs, z.0.2, a, vss), z.1) in
    let y : W₀.Ghost = with_vals (vptr rb ro ∷ [], (vint w64 len ∷ [], tt)) in let Post : Val → SProp 𝓤 = W₀.post y in
    let Asked : Type 0 = length d.items ≡ len + 1 in
    subst (λ (vss : List Val × (List Val × Unit {0})). ent 𝓤 (W₀.pre (with_vals vss))
    (WpFn 𝓤 H T.C T.Λ fn (W₀.args (with_vals vss)) (W₀.post (with_vals vss)))) (λ i. (sym are.0.0 i, (sym are.1.0.0 i, tt))) (
    qed 𝓛 (((‵ (flft κs.0 qs.0) ⊛ ‵ (flft κs.1.0 qs.1.0) ⊛ ‵ (flft κs.1.1.0 qs.1.1.0) ⊛ ‵ ftrue) ⊛ ‵ (owns (types_at F.signature.params κs) a y.0.4))
    ∷ raw (fact 𝓤 (κs.1.0 ⊑ X.lives)) ∷ raw (fact 𝓤 (κs.1.1.0 ⊑ W.lives)) ∷ raw (fact 𝓤 Asked) ∷ []) ∵
    move ! (3 ∷ []) $ heard ! Asked (λ asked. keep ! (0 ∷ []) $ split ! $ split ! $ move ! (2 ∷ []) $ fsplit ! $ fsplit3 ! $ feq_l !
    (λ _. keep ! (0 ∷ 1 ∷ 3 ∷ 4 ∷ []) $
    -- [self, in two entries; the token; the other tokens]
    enter ! T.C T.Λ fn (vptr rb ro ∷ vint w64 len ∷ []) Post $ alloc_all ! (λ l. pass_all ! refl ((tt, tt), ((tt, record { fits = fits }), tt)) $
    opens ! tt (RawChunk E) {h = d} rb ro (λ vs. move ! (1 ∷ []) $ chunk_opens E ! d vs (len + 1) asked (λ b o e is small.
    let s = sz E in let at = len * s + o in let end = at_end d.items len asked in let before = end.0 in let x : X.Denot = end.1 in
    let less : len < d.places = omega (arith, asked, d.fits) in
    let tiny : s < 2 ^ 64 = omega (arith, one_below d.places s (2 ^ 63) (omega (arith, less)) small) in
    let far : len * s < 2 ^ 64 = omega (arith, times_below len d.places s (2 ^ 63) (omega (arith, less)) small) in
    let new : (RawChunk E).Denot = record {
      start = d.start;
      owner = d.owner;
      items = before;
      places = d.places;
      alloc = d.alloc;
      fits = omega (arith, end.3, less);
    } in
    rewrite ! 3 (λ (ws : List Val). ‵ (cell_at full_share (RawChunk E).mir ws rb ro)) is refl $ rewrite ! 0
    (λ (xs : List X.Denot). ‵ (records E b o (len + 1) xs)) end.2 refl $
    use1 𝓛 (‵ (records E b o len before) ⊛ ‵ (part_at (R E) full_share x b at)) (unsnoc E 𝓛 b o (len + 1) len before x end.3) $ split ! $ move ! (1 ∷ []) $
    use1 𝓛 (some (λ (v : Val). given (Good E v) (‵ (fat full_share (elτ E) b at v) ⊛ ‵ (el_own E x (v ∷ []))))) (el_out E 𝓛 full_share x b at) $ pick
    ! (λ v. learn ! (λ good. split ! $
    -- [the last place; what the record owns; the records before; the room; the right; self's cell; the open borrow, in three entries; the other tokens]
    first ! $ blocks ! $ sets ! (of_opd ! (load ! (through ! refl (fld ! refl (stop !))) (look_in ! 5 (sub ! 0 refl (whole !))))) refl (tt, tt) $
    sets ! (bin ! (get ! refl) (size_lit ! (record { fits = tiny })) (record { fits = far })) refl (tt, record { fits = far }) $
    sets ! (bin ! (get ! refl) (get ! refl) tt) refl (tt, tt) $ sets_last ! (of_opd ! (load ! (through ! refl (stop !)) (look ! 0 refl))) refl good $
    exec ! T.C T.Λ (env fn.locals l) (after 1 fn.body) (at_ret (env fn.locals l) Post) $ sets ! (of_opd ! (get ! refl)) refl good $
    use1 𝓛 (‵ (froom (elτ E) b at)) (𝓛.laws.at_room (elτ E) b at v) $ move ! (0 ∷ 3 ∷ []) $ use2 𝓛 (‵ (room E b o len d.places))
    (unspare E 𝓛 b o len d.places less) $
    move ! (2 ∷ 0 ∷ 3 ∷ []) $ chunk_made E ! new b o len end.3 e small $ move ! (2 ∷ 0 ∷ 3 ∷ 4 ∷ 5 ∷ []) $ closes ! tt (RawChunk E) new
    (image (block_ptr b o) ∷ []) rb ro $
    -- [self, in two entries; the token; what the record owns; the other tokens]
    returns ! (look_at ! 0 refl) $ free_all ! refl $ keep ! (0 ∷ 1 ∷ 2 ∷ 3 ∷ 4 ∷ []) $
    let Items : Type 0 = d.items ≡ before ++ x ∷ [] in let Places : Type 0 = d.places ≡ d.places in
    move ! (2 ∷ 4 ∷ []) $ join ! $ move ! (1 ∷ 2 ∷ []) $ feq_i ! (List Val) (vptr rb ro ∷ []) (vptr rb ro ∷ []) refl $ fjoin3 ! $
    nothing ! $ nothing ! $ fjoin ! $ move ! (1 ∷ 0 ∷ []) $ fjoin ! $
    use0 𝓛 (raw (fact 𝓤 Places)) (fact_i 𝓤 Places (emp 𝓤) refl) $ use0 𝓛 (raw (fact 𝓤 Items)) (fact_i 𝓤 Items (emp 𝓤) end.2) $ join ! $ move !
    (2 ∷ 1 ∷ 3 ∷ 0 ∷ []) $
    by ! (leaves 𝓛 F kept c y v x (new, (tt, tt)) (tt, (tt, tt))))))))))))
