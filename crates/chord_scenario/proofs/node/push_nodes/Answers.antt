use Rattle.std.proofs.Common.{◌≡◌, ◌∙◌, ◌<◌, ◌^◌, ◌++◌, [], ◌∷◌, ap, List, ℕ, refl, subst, sym}
use Rattle.std.proofs.lemmas.List.{append-nil}
use Rattle.std.proofs.lemmas.List.Elements.{All-push}
use Rattle.std.specs.List.{All}
use Rattle.toml.specs.Data.{Members}
use Rattle.toml.specs.View.{table_view}
use Rattle.chord_scenario.specs.declared.key.Place.{Place}
use Rattle.chord_scenario.specs.declared.key.Place.TheVariants as place
use Rattle.chord_scenario.specs.declared.setting.Node.{Node}
use Rattle.chord_scenario.specs.Settings.{nodes_at}
use Rattle.chord_scenario.proofs.node.push_nodes.Goals as goal

-- a table that is neither of a node nor of a class has no nodes
no_nodes : (circle : ℕ) (at : Place) (ms : Members) → ((n : ℕ) → at ≡ place.Node n → ⊥) → ((n : ℕ) → at ≡ place.Nodes n → ⊥)
    → nodes_at circle at ms ≡ []
no_nodes circle (place.Node n) ms node class = absurd (node n refl)
no_nodes circle (place.Nodes n) ms node class = absurd (class n refl)
no_nodes circle _ ms node class = refl

pub returns-in_ok-push-in-Node-clause-value : goal.returns-in_ok-push-in-Node-clause-value
returns-in_ok-push-in-Node-clause-value c =
    rw c.in-Node.is
    (c.in_ok-push-in-Node.ensures.items ∙ ap (λ (n : Node). c.args.nodes.now.items ++ n ∷ []) c.in_ok-node-in-Node.ensures.value)

pub returns-in_ok-push-in-Node-clause-on_circle : goal.returns-in_ok-push-in-Node-clause-on_circle
returns-in_ok-push-in-Node-clause-on_circle c =
    let OnCircle : Node → Type 0 = λ n. n.ident < 2 ^ c.args.circle in
    λ own. subst (All OnCircle) (sym {A = List Node} c.in_ok-push-in-Node.ensures.items)
    (All-push OnCircle c.args.nodes.now.items c.in_ok-node-in-Node.field-0 own c.in_ok-node-in-Node.ensures.on_circle)

pub returns-in_ok-push_class-in-Nodes-clause-value : goal.returns-in_ok-push_class-in-Nodes-clause-value
returns-in_ok-push_class-in-Nodes-clause-value c = rw c.in-Nodes.is c.in_ok-push_class-in-Nodes.ensures.value

pub returns-in_ok-push_class-in-Nodes-clause-on_circle : goal.returns-in_ok-push_class-in-Nodes-clause-on_circle
returns-in_ok-push_class-in-Nodes-clause-on_circle c = c.in_ok-push_class-in-Nodes.ensures.on_circle

pub returns-in_default : goal.returns-in_default
returns-in_default c =
    let olds = c.args.nodes.now.items in
    let none = no_nodes c.args.circle c.args.table.now.at (table_view c.args.table.now.table.now) (λ n e. c.in_default.not-Node n e)
    (λ n e. c.in_default.not-Nodes n e) in
    record {
      value = sym (append-nil olds) ∙ ap (λ (l : List Node). olds ++ l) (sym none);
      on_circle = λ own. own;
    }
