-- `get` returns the `&` to one record. Assumes `Logic`.
use Rattle.std.proofs.Common.{◌≡◌, ℕ, ◌+◌, ◌*◌, ◌<◌, ◌^◌, List, [], ◌∷◌, refl, sym, subst, arith, length, slice_get, Some}
use mir.Syntax.{w64}
use mir.Val.{Val, vptr, vint}
use mir.MapTy.{inst_fn}
use base.Logic.{SProp, ent, emp}
use base.Fml.{Lft, ftrue, flft}
use prog.Wp.{WpFn}
use contract.Running.{tables}
use contract.Monad.{fact, fact_i}
use contract.BorrowLft.{◌⊑◌}
use types.Kit.{‵, raw, ◌⊛◌, at_ret, ◌$◌, ◌∵◌, !, qed, by, move, keep, use0, split, join, fsplit, fjoin, feq_i, feq_l}
use types.Run.{addr, load, look, stop, fld, of_opd, first, blocks, exec, returns, enter, bin, size_lit}
use types.ByLocal.{alloc_all, pass_all, free_all, look_at, get, through, sets, sets_last, env}
use denote.RattleType.{owns}
use denote.Builtin.{usize, RefOf}
use denote.Signature.{plain, types_at}
use denote.Steps.{nothing, heard}
use denote.Triple.Walked.{Stays, stay_dropped, walk_of, Goes-dropped}
use Rattle.core.proofs.ptr.Rows.{times_below, one_below}
use Rattle.core.proofs.slots.Lent.{pointer_in, pointer_out}
use Rattle.std_alloc.proofs.VecSteps.El.{El, sz, args}
use Rattle.std_alloc.proofs.VecSteps.Shapes.{after}
use Rattle.std.proofs.raw_atomic.Walks.{proved_at, leaves}
use Rattle.des_arena.proofs.RawChunks.{RawChunk, lent_opens}
use Rattle.des_arena.proofs.Ends.{at_index}
use Rattle.des_arena.specs.contracts.raw_chunk.RawChunk.get.{ended, clauses}
use Rattle.des_arena.specs.contracts.raw_chunk.RawChunk.get.Key.{name as #self}
use Rattle.des_arena.proofs.raw_chunk.RawChunk.get.Statement.{statement}
use Rattle.des_arena.proofs.raw_chunk.RawChunk.get.Code as code

pub get_spec : {M : Type 1} → statement M
get_spec 𝓤 𝓛 𝓜 𝓡 wired X W LX LW g dict drops met meets_drop =
    let H = 𝓛.H in let T = tables 𝓤 H 𝓜 𝓡 𝓡.env in let E : El = record {
      row = X;
      laws = LX;
      al = record { row = W; laws = LW; g = g; d = dict; drops = drops };
    } in
    let F = ended X W g dict drops in let c = clauses X W g dict drops 𝓛 𝓜.mem 𝓡.returns in let fn = inst_fn (args E) code.function in
    let self_at = RefOf {n = 3} (0 ∷ []) tt (plain (λ _. RawChunk E)) (λ _. tt) in let index_at = plain {n = 3} (λ _. usize) in
    let kept : Stays F.signature.params F.kept = (stay_dropped self_at F.kept.0, (stay_dropped index_at F.kept.1.0, tt)) in
    proved_at 𝓛 F kept c 𝓜 𝓡 (Goes-dropped 𝓛 3 self_at F.kept.0 (λ κs x f. refl), (Goes-dropped 𝓛 3 index_at F.kept.1.0 (λ κs x f. refl), tt))
    (#self (args E)) fn (code.unfolded 𝓤 H 𝓜 𝓡 wired (X, (W, tt)) dict drops) (λ z are.
    let κs = z.0.0 in let κ : Lft = κs.0 in let qs = z.0.1 in let a = z.0.3 in let d : (RawChunk E).Denot = a.0.now in let index : ℕ = a.1.0 in
    let rb : ℕ = a.0.ref_ptr.0 in let ro : ℕ = a.0.ref_ptr.1 in let fits : index < 2 ^ 64 = are.1.0.1 in
    let W₀ = walk_of 𝓛 F kept c in let with_vals : List Val × (List Val × Unit {0}) → W₀.Ghost = λ vss. ((κs, qs, z.0.2, a, vss), z.1) in
    let y : W₀.Ghost = with_vals (vptr rb ro ∷ [], (vint w64 index ∷ [], tt)) in let Post : Val → SProp 𝓤 = W₀.post y in
    let Asked : Type 0 = index < length d.items in
    subst (λ (vss : List Val × (List Val × Unit {0})). ent 𝓤 (W₀.pre (with_vals vss))
    (WpFn 𝓤 H T.C T.Λ fn (W₀.args (with_vals vss)) (W₀.post (with_vals vss)))) (λ i. (sym are.0.0 i, (sym are.1.0.0 i, tt))) (
    qed 𝓛 (((‵ (flft κ qs.0) ⊛ ‵ (flft κs.1.0 qs.1.0) ⊛ ‵ (flft κs.1.1.0 qs.1.1.0) ⊛ ‵ ftrue) ⊛ ‵ (owns (types_at F.signature.params κs) a y.0.4))
    ∷ raw (fact 𝓤 (κs.1.0 ⊑ X.lives)) ∷ raw (fact 𝓤 (κs.1.1.0 ⊑ W.lives)) ∷ raw (fact 𝓤 Asked) ∷ []) ∵
    move ! (3 ∷ []) $ heard ! Asked (λ asked. keep ! (0 ∷ []) $ split ! $ split ! $ move ! (2 ∷ []) $ fsplit ! $ fsplit ! $ feq_l !
    (λ _. keep ! (0 ∷ 2 ∷ 3 ∷ []) $
    let s = sz E in let found = at_index d.items index asked in let x : X.Denot = found.0 in
    lent_opens E ! κ d rb ro index x asked found.2 (λ b o e small. move ! (0 ∷ 2 ∷ 1 ∷ 3 ∷ []) $
    let tiny : s < 2 ^ 64 = omega (arith, one_below d.places s (2 ^ 63) (omega (arith, asked, d.fits)) small) in
    let far : index * s < 2 ^ 64 = omega (arith, times_below index d.places s (2 ^ 63) (omega (arith, asked, d.fits)) small) in
    -- [a `&` to the pointer; the token; a `&` to the record; the other tokens]
    enter ! T.C T.Λ fn (vptr rb ro ∷ vint w64 index ∷ []) Post $ alloc_all ! (λ l. pass_all ! refl ((tt, tt), ((tt, record { fits = fits }), tt)) $
    first ! $ blocks ! $ pointer_in ! tt d.start b o e rb (ro + 0) (λ q.
    sets ! (of_opd ! (load ! (through ! refl (fld ! refl (stop !))) (look ! 0 refl))) refl (tt, tt) $ pointer_out ! tt d.start b o e rb (ro + 0) $
    sets ! (bin ! (get ! refl) (size_lit ! (record { fits = tiny })) (record { fits = far })) refl (tt, record { fits = far }) $
    sets ! (bin ! (get ! refl) (get ! refl) tt) refl (tt, tt) $ sets_last ! (addr ! (through ! refl (stop !))) refl (tt, tt) $
    exec ! T.C T.Λ (env fn.locals l) (after 1 fn.body) (at_ret (env fn.locals l) Post) $ sets ! (of_opd ! (get ! refl)) refl (tt, tt) $
    returns ! (look_at ! 0 refl) $ free_all ! refl $ keep ! (0 ∷ 1 ∷ 2 ∷ []) $
    -- [the token; a `&` to the record; the other tokens]
    let place = vptr b (index * s + o) in let Found : Type 0 = slice_get d.items index ≡ Some x in
    move ! (0 ∷ 2 ∷ []) $ join ! $ move ! (1 ∷ []) $ feq_i ! (List Val) (place ∷ []) (place ∷ []) refl $ fjoin ! $ nothing ! $ nothing ! $ fjoin ! $
    nothing ! $ fjoin ! $
    use0 𝓛 (raw (fact 𝓤 Found)) (fact_i 𝓤 Found (emp 𝓤) found.1) $ move ! (3 ∷ 1 ∷ 2 ∷ 0 ∷ []) $
    by ! (leaves 𝓛 F kept c y place (record { ref_ptr = (b, index * s + o); now = x }) (tt, (tt, tt)) (tt, (tt, tt))))))))))
