-- The nodes by their names.
use Rattle.std.proofs.Common.{◌≡◌, ◌∙◌, sym, ap, ℕ, zero, suc, ◌+◌, ◌<◌, cond, List, [], ◌∷◌, Vec, Bool, Ordering, nat_cmp, Global, Some, bytes_eq, drop, length, option_map, unwrap_or, arith, refl}
use native.Mathlib.Numerals.{unary_clauses}
use Rattle.std.specs.BTreeMap.{BTreeMap, insert_entry, is_at}
use Rattle.std.specs.Cmp.Lexicographic.{slice_cmp}
use Rattle.std.specs.List.{slice_get}
use Rattle.std.specs.Map.{lookup}
use Rattle.std.proofs.lemmas.Map.Text.{is_eq-slice_cmp}
use Rattle.chord_scenario.specs.Index.{number_in}
use Rattle.chord_scenario.specs.Settings.{index_from}
use Rattle.chord_scenario.specs.Setup.{Setup}
use Rattle.chord_scenario.specs.World.{name_of}
use Rattle.chord_scenario.specs.declared.setting.Node.{Node}
use Rattle.chord_scenario.proofs.Indexes.{number_in-insert}

abbrev vec_cmp : Vec ℕ Global → Vec ℕ Global → Ordering
vec_cmp a b = slice_cmp nat_cmp a.items b.items

abbrev at : List ℕ → Vec ℕ Global → Bool
at name = is_at (λ k. slice_cmp nat_cmp name k.items)

-- the number of a name among the nodes from a place on
node_turn : (nodes : List Node) (i n : ℕ) (name : List ℕ) → i < length nodes
    → index_from n name (drop i nodes)
    ≡ cond (bytes_eq name (unwrap_or (option_map (λ (x : Node). x.name) (slice_get nodes i)) [])) (Some n) (index_from (n + 1) name (drop (i + 1) nodes))
node_turn [] i n name within = absurd (omega arith)
node_turn (x ∷ xs) zero n name within = refl
node_turn (x ∷ xs) (suc i) n name within = simp unary_clauses (simp unary_clauses at (node_turn xs i n name (omega (arith, within))))

-- a map of the nodes after a place, and of the node there
pub names_more : (sc : Setup) (i next : ℕ) (k : Vec ℕ Global) (m m2 : BTreeMap (Vec ℕ Global) ℕ) (name : List ℕ) → i < length sc.nodes → next ≡ i + 1
    → k.items ≡ name_of sc i
    → m2.entries ≡ insert_entry vec_cmp m.entries k i → number_in m name ≡ index_from next name (drop next sc.nodes)
    → number_in m2 name ≡ index_from i name (drop i sc.nodes)
unfolding name_of
names_more sc i next k m m2 name within after named entries before =
    let own = unwrap_or (option_map (λ (x : Node). x.name) (slice_get sc.nodes i)) [] in
    ap (lookup (at name)) entries
    ∙ number_in-insert m.entries k i name
    ∙ ap (λ b. cond b (Some i) (number_in m name)) (is_eq-slice_cmp name k.items ∙ ap (bytes_eq name) named)
    ∙ ap (cond (bytes_eq name own) (Some i)) (before ∙ ap (λ (j : ℕ). index_from j name (drop j sc.nodes)) after)
    ∙ sym (node_turn sc.nodes i i name within)
