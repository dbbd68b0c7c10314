use Rattle.std.proofs.Common.{◌≡◌, ◌∙◌, ℕ, None, Option, Some, ap, option_map, refl, rules}
use Rattle.chord_ops.specs.declared.turn.Turn.{Turn}
use Rattle.chord_ops.specs.Procedures.{kept_via}
use Rattle.chord_ops.proofs.turn.Turn.go_down.Goals.{in-Some, in_default}
use Rattle.chord_ops.proofs.turn.Turn.go_down.Goals as goal

pub returns : goal.returns
returns c =
    let sc = c.args.scenario.now in let old = c.args.self.now in
    let keep : ℕ → ℕ = λ via. kept_via sc old.state.me via old.state.succ in
    let through : Option ℕ → Turn = λ via. record old { state = record old.state { via = via } } in
    let kept : c.match-self.self ≡ through (option_map keep old.state.via) = elim c.match-self.branch [
      | in-Some w ↦
          let same : Some w.kept_via.result ≡ option_map keep old.state.via = rw (w.in-Some.is, w.kept_via.ensures, w.as_slice-succ.ensures) refl in
          w.self-is ∙ ap through same
      | in_default w ↦
          let none : old.state.via ≡ None = search rules in
          let same : old.state.via ≡ option_map keep old.state.via = rw none refl in
          w.self-is ∙ ap through same
    ] in
    rw (c.clear.ensures, c.clear-2.ensures, c.clear-3.ensures, c.free.ensures, kept) refl
