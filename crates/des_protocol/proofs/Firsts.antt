-- The states at the start.
use Rattle.std.proofs.Common.{◌≡◌, ◌∙◌, List, [], length, map, ap, arith}
use Rattle.std.specs.Prelude.{slice_index_or}
use Rattle.std.proofs.lemmas.List.{get_or-map, length-map}
use Rattle.des_model.specs.Worlds.{AreStatesAfter}
use Rattle.des_protocol.specs.declared.numbered.Counted.{Counted}
use Rattle.des_protocol.specs.Laws.{AreFirst}
use Rattle.des_protocol.specs.Numbered.{numbered, uncounted}
use Rattle.des_protocol.specs.Protocols.{Protocol}

-- those of the protocol are those of its machine
pub first_states : {State Body Piece : Type 0} (p : Protocol State Body Piece) (states : List State) (counted : List (Counted State)) → AreFirst p states
    → counted ≡ map uncounted states → AreStatesAfter (numbered p) [] counted
first_states p states counted first is = record {
  nodes_are = ap length is ∙ (length-map states uncounted ∙ first.long);
  state_at = λ n d l. ap (λ ss. slice_index_or ss n d) is
      ∙ (get_or-map uncounted states n d.state d (omega (arith, l, first.long)) ∙ ap uncounted (first.each n d.state l));
}
