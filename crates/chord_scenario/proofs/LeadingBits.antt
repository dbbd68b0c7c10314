-- The leading bits of identifiers, in the order of the nodes.
use Rattle.std.proofs.Common.{◌≡◌, ◌∙◌, ℕ, ◌<◌, List, [], ◌∷◌, ap, arith, get_or, length, map, refl}
use Rattle.std.proofs.lemmas.List.{get_or-map, length-map}
use Rattle.std.specs.Prelude.{slice_index}
use Rattle.chord_circle.specs.Circle.{leading}
use Rattle.chord_scenario.specs.declared.setting.Node.{Node}

of_idents : (bits : ℕ) (nodes : List Node) → map (λ (n : Node). leading bits n.ident) nodes ≡ map (leading bits) (map (λ (n : Node). n.ident) nodes)
of_idents bits [] = refl
of_idents bits (n ∷ ns) = ap (λ rest. leading bits n.ident ∷ rest) (of_idents bits ns)

-- those of a node are at its place
pub leading_at : (bits : ℕ) (nodes : List Node) (table : List ℕ) (n d : ℕ) → table ≡ map (λ (n : Node). leading bits n.ident) nodes → n < length nodes
    → get_or table n d ≡ leading bits (slice_index (map (λ (n : Node). n.ident) nodes) n)
leading_at bits nodes table n d same within =
    ap (λ l. get_or l n d) (same ∙ of_idents bits nodes)
    ∙ get_or-map (leading bits) (map (λ (n : Node). n.ident) nodes) n 0 d (omega (arith, within, length-map nodes (λ (n : Node). n.ident)))
