use Rattle.std.proofs.Common.{◌≡◌, None, Result, Ok, IfOk, subst}
use Rattle.chord_examples.proofs.tests.team_windows.opened.Goals as goal

-- By variables: these facts speak of a whole team, in which a rewriting would search.
of_ok : {A E : Type 0} (P : A → Type 0) (r : Result A E) (a : A) → r ≡ Ok a → IfOk r P → P a
of_ok P r a is holds = subst (λ q. IfOk q P) is holds

-- nothing is known of the writer, and so nothing is said of it
pub opening-requires : goal.opening-requires
opening-requires g c = (None, None, (of_ok _ _ _ c.value_of-team.ensures c.start-started.ensures.at) None)

pub open_window-requires-clause-at : goal.open_window-requires-clause-at
open_window-requires-clause-at g c = (None, None, (of_ok _ _ _ c.value_of-team.ensures c.start-started.ensures.at) None)

pub returns : goal.returns
returns g c =
    ((of_ok _ _ _ c.value_of.ensures c.open_window.ensures.at) None None ((of_ok _ _ _ c.value_of-team.ensures c.start-started.ensures.at) None)).can_send
