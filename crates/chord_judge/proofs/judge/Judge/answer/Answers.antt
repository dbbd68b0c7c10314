use Rattle.std.proofs.Common.{◌≡◌, ◌∙◌, ℕ, Bool, true, false, Option, refl, sym, ap}
use Rattle.std.proofs.lemmas.Bool.{false≢true}
use Rattle.chord_judge.proofs.Owned.{owner_is, owner_only, passes_only}
use Rattle.chord_judge.proofs.Undone.{right_now}
use Rattle.chord_judge.specs.Members.{is_member_after}
use Rattle.chord_judge.specs.Owners.{is_right_owner, right_owner, was_right_owner}
use Rattle.chord_judge.proofs.judge.Judge.answer.Goals as goal

pub returns-then-strict : goal.returns-then-strict
returns-then-strict c = λ lines hold told.
    let sc = c.args.self.now.members.scenario.now in let member = is_member_after sc lines in
    let found = c.owner-right_owner.ensures member hold in
    let is : is_right_owner sc member c.args.key c.args.named ≡ true = owner_only sc member c.args.key c.args.named (sym found ∙ c.is_this-strict.ensures.yes c.if-strict.true) in
    let was : was_right_owner sc c.args.begun c.args.key c.args.named lines ≡ true = right_now sc c.args.begun c.args.key c.args.named lines is in
    ap (λ (o : Option ℕ). record { named = c.args.named; hops = c.args.hops; timeouts = c.args.timeouts; right_owner = o; strict = c.is_this-strict.result; defensible = c.is_this-strict.result }) found
    ∙ ap (λ (b : Bool). record { named = c.args.named; hops = c.args.hops; timeouts = c.args.timeouts; right_owner = right_owner sc member c.args.key; strict = b; defensible = c.is_this-strict.result }) (c.if-strict.true ∙ sym is)
    ∙ ap (λ (b : Bool). record { named = c.args.named; hops = c.args.hops; timeouts = c.args.timeouts; right_owner = right_owner sc member c.args.key; strict = is_right_owner sc member c.args.key c.args.named; defensible = b }) (c.if-strict.true ∙ sym was)

pub returns-else-strict : goal.returns-else-strict
returns-else-strict c = λ lines hold told.
    let sc = c.args.self.now.members.scenario.now in let member = is_member_after sc lines in
    let found = c.owner-right_owner.ensures member hold in
    let wrong : is_right_owner sc member c.args.key c.args.named ≡ false =
    by_test (is_right_owner sc member c.args.key c.args.named)
    (λ e. false≢true (sym c.if-strict.false ∙ c.is_this-strict.ensures.no
    (found ∙ owner_is sc c.recall_range.ensures member c.args.key c.args.named c.requires.key (passes_only sc member c.args.key c.args.named c.requires.named e)))) in
    let was = c.was_right_owner-defensible.ensures lines hold told in
    ap (λ (o : Option ℕ). record { named = c.args.named; hops = c.args.hops; timeouts = c.args.timeouts; right_owner = o; strict = c.is_this-strict.result; defensible = c.was_right_owner-defensible.result }) found
    ∙ ap (λ (b : Bool). record { named = c.args.named; hops = c.args.hops; timeouts = c.args.timeouts; right_owner = right_owner sc member c.args.key; strict = b; defensible = c.was_right_owner-defensible.result }) (c.if-strict.false ∙ sym wrong)
    ∙ ap (λ (b : Bool). record { named = c.args.named; hops = c.args.hops; timeouts = c.args.timeouts; right_owner = right_owner sc member c.args.key; strict = is_right_owner sc member c.args.key c.args.named; defensible = b }) was
  where
    by_test : (b : Bool) → (b ≡ true → ⊥) → b ≡ false
    by_test true bad = absurd (bad refl)
    by_test false bad = refl
