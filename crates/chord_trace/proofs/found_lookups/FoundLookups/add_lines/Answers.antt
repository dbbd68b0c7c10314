use Rattle.std.proofs.Common.{
  ◌≡◌,
  ◌∙◌,
  ◌+◌,
  ◌<◌,
  ℕ,
  List,
  [],
  ◌∷◌,
  ◌++◌,
  Option,
  Some,
  None,
  ap,
  sym,
  refl,
  subst,
  arith,
  append_assoc,
  append-nil,
  get_or,
  length,
  take,
}
use Rattle.std.specs.Prelude.{option_to_list}
use Rattle.std.specs.List.{filter_map}
use Rattle.std.proofs.lemmas.List.{take_more}
use Rattle.std.proofs.lemmas.List.Elements.{filter_map-append}
use Rattle.chord_event.specs.declared.line.Line.{Line}
use Rattle.chord_trace.specs.declared.found_lookups.FoundLookups.{FoundLookups}
use Rattle.chord_trace.specs.FoundLookups.{HasFound, found_len}
use Rattle.chord_trace.specs.Kinds.{found_in}
use Rattle.chord_trace.proofs.found_lookups.FoundLookups.add_lines.Goals as goal
use Rattle.chord_trace.proofs.found_lookups.FoundLookups.add_lines.Goals.{in-Some+in_ok-add, in_default}
use Rattle.chord_trace.specs.declared.found_lookups.Found.{Found}

single : (l : Line) (o : Option Found) → o ≡ found_in l → filter_map found_in (l ∷ []) ≡ option_to_list o
single l None is = rw (← is) refl
single l (Some found) is = rw (← is) refl

-- what one line more adds
step : (xs : List Line) (i : ℕ) (l : Line) (seen : List Found) (o : Option Found) (f : FoundLookups) → i < length xs → l ≡ get_or xs i l → o ≡ found_in l
    → HasFound ((seen ++ filter_map found_in (take i xs)) ++ option_to_list o) f → HasFound (seen ++ filter_map found_in (take (i + 1) xs)) f
step xs i l seen o f lt at is has =
    let before = filter_map found_in (take i xs) in
    let last = ap (λ x. filter_map found_in (x ∷ [])) (sym at) ∙ single l o is in
    let more = ap (filter_map found_in) (take_more xs i l lt) ∙ filter_map-append found_in (take i xs) (get_or xs i l ∷ []) ∙ ap (λ x. before ++ x) last in
    subst (λ x. HasFound x f) (append_assoc seen before (option_to_list o) ∙ ap (λ x. seen ++ x) (sym more)) has

pub loop-line-preserved : goal.loop-line-preserved
loop-line-preserved c = elim c.match-found_in.branch [
  | in-Some+in_ok-add w ↦ (
    (λ seen t.
        let has = w.in_ok-add.ensures.has _ (c.loop-line.invariant.0 seen t) in
        subst (HasFound _) (sym w.self-is) (step c.args.lines.now c.loop-line.line-index _ seen (Some w.in-Some.found) _ (omega arith)
        c.line-item.is w.in-Some.ensures has)),
    omega (arith, ap found_len w.self-is, w.in_ok-add.ensures.one_more, c.loop-line.invariant.1),
  )
  | in_default w ↦ (
    (λ seen t.
        subst (HasFound _) (sym w.self-is) (step c.args.lines.now c.loop-line.line-index _ seen None c.loop-line.self (omega arith) c.line-item.is
        w.in_default.ensures (rw append-nil (c.loop-line.invariant.0 seen t)))),
    omega (arith, ap found_len w.self-is, c.loop-line.invariant.1),
  )
]
