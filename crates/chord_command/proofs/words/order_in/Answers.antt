use Rattle.std.proofs.Common.{rules, ◌≡◌, ◌∙◌, ◌∷◌, [], List, Option, Some, None, true, false, ap, arith, codes, drop, inl, inr, length, map, refl, string_bytes, subst, sym}
use Rattle.std.specs.Prelude.{option_map, slice_get, unwrap_or}
use Rattle.std.specs.Str.{bytes_eq}
use Rattle.std.proofs.lemmas.Option.{slice_get-map}
use Rattle.clap.specs.Words.{Text, fault_of, matches_of, takes}
use Rattle.chord_command.specs.Commands.{OptionNames, check_app, ids_app, judge_app, run_app}
use Rattle.chord_command.specs.Orders.{HasFiles, IsJudged, IsRunOf, TakesWords, command_word}
use Rattle.chord_command.proofs.CommandFacts.{differ}
use Rattle.chord_command.proofs.words.order_in.Goals as goal

-- the texts of the words after the first
texts_after : {X : Type 0} (text : X → Text) (words : List X) (first : X) (rest : List X) → words ≡ first ∷ rest → drop 1 (map text words) ≡ map text rest
texts_after text words first rest are = rw are refl

-- the text of the word after the first
text_after : {X : Type 0} (text : X → Text) (words : List X) (first : X) (rest : List X) (name : X) → words ≡ first ∷ rest
    → slice_get rest 0 ≡ Some name → command_word (map text words) ≡ Some (text name)
text_after text words first rest name are next =
    let second : slice_get words 1 ≡ Some name = rw are next in
    slice_get-map text words 1 ∙ ap (option_map text) second

-- no words have no command word
no_words : {X : Type 0} (text : X → Text) (words : List X) → length words ≡ 0 → command_word (map text words) ≡ None
no_words text [] none = refl
no_words text (w ∷ words) none = absurd (omega (arith, none))

-- a lone word has no command word after it
one_word : {X : Type 0} (text : X → Text) (words : List X) (first : X) (rest : List X) → words ≡ first ∷ rest → slice_get rest 0 ≡ None
    → command_word (map text words) ≡ None
one_word text words first rest are none =
    let second : slice_get words 1 ≡ None = rw are none in
    slice_get-map text words 1 ∙ ap (option_map text) second

-- a command word that clap takes is one of the three
not_taken : (words : List Text) (named : Option Text) → command_word words ≡ named → (named ≡ Some (codes "check") → ⊥)
    → (named ≡ Some (codes "ids") → ⊥) → (named ≡ Some (codes "judge") → ⊥) → (named ≡ Some (codes "run") → ⊥) → TakesWords words → ⊥
not_taken words named is no_check no_ids no_judge no_run taken = elim taken [
  | inl check ↦ no_check (sym is ∙ check.0)
  | inr other ↦ elim other [
    | inl ids ↦ no_ids (sym is ∙ ids.0)
    | inr another ↦ elim another [ inl judge ↦ no_judge (sym is ∙ judge.0) | inr run ↦ no_run (sym is ∙ run.0) ]
  ]
]

-- one word has one name
same_name : (a b : Text) → Some a ≡ Some b → a ≡ b
same_name a b same = ap (λ (o : Option Text). unwrap_or o a) same

-- the command word has not two names
two_names : {A : Type 0} (words : List Text) (a b : Text) → command_word words ≡ Some a → command_word words ≡ Some b → bytes_eq a b ≡ false → A
two_names words a b is other differs = absurd (differ a b differs (same_name a b (sym is ∙ other)))

-- what clap takes, where the command word is known
takes_check : (words : List Text) → command_word words ≡ Some (codes "check") → TakesWords words → takes check_app (drop 1 words) ≡ true
takes_check words is taken = elim taken [
  | inl check ↦ check.1
  | inr other ↦ elim other [
    | inl ids ↦ two_names words (codes "check") (codes "ids") is ids.0 refl
    | inr another ↦ elim another [ inl judge ↦ two_names words (codes "check") (codes "judge") is judge.0 refl | inr run ↦ two_names words (codes "check") (codes "run") is run.0 refl ]
  ]
]

takes_ids : (words : List Text) → command_word words ≡ Some (codes "ids") → TakesWords words → takes ids_app (drop 1 words) ≡ true
takes_ids words is taken = elim taken [
  | inl check ↦ two_names words (codes "ids") (codes "check") is check.0 refl
  | inr other ↦ elim other [
    | inl ids ↦ ids.1
    | inr another ↦ elim another [ inl judge ↦ two_names words (codes "ids") (codes "judge") is judge.0 refl | inr run ↦ two_names words (codes "ids") (codes "run") is run.0 refl ]
  ]
]

takes_judge : (words : List Text) → command_word words ≡ Some (codes "judge") → TakesWords words → takes judge_app (drop 1 words) ≡ true
takes_judge words is taken = elim taken [
  | inl check ↦ two_names words (codes "judge") (codes "check") is check.0 refl
  | inr other ↦ elim other [
    | inl ids ↦ two_names words (codes "judge") (codes "ids") is ids.0 refl
    | inr another ↦ elim another [ inl judge ↦ judge.1 | inr run ↦ two_names words (codes "judge") (codes "run") is run.0 refl ]
  ]
]

takes_run : (words : List Text) → command_word words ≡ Some (codes "run") → TakesWords words
    → (names : OptionNames) → takes (run_app names) (drop 1 words) ≡ true
takes_run words is taken = elim taken [
  | inl check ↦ two_names words (codes "run") (codes "check") is check.0 refl
  | inr other ↦ elim other [
    | inl ids ↦ two_names words (codes "run") (codes "ids") is ids.0 refl
    | inr another ↦ elim another [ inl judge ↦ two_names words (codes "run") (codes "judge") is judge.0 refl | inr run ↦ run.1 ]
  ]
]

-- clap takes nothing without a command word
no_word : (words : List Text) → command_word words ≡ None → TakesWords words → ⊥
no_word words is = not_taken words None is (λ same. cc) (λ same. cc) (λ same. cc) (λ same. cc)

pub returns-in_ok-files-in-run-clause-order : goal.returns-in_ok-files-in-run-clause-order
returns-in_ok-files-in-run-clause-order c =
    let words = c.args.words.now in
    let are = c.in-Some.ensures.cases.0 in
    let rest = texts_after string_bytes words c.in-Some.field-0-0.now c.in-Some.rest.now are in
    let word = text_after string_bytes words c.in-Some.field-0-0.now c.in-Some.rest.now c.in-Some-first.name.now are (sym c.in-Some-first.ensures.value) in
    let run = c.in_ok-files-in-run in (
      word ∙ ap (λ t. Some t) (sym c.as_str.ensures.value ∙ c.in-run.is),
      subst (λ given. IsRunOf given run.files run.plan run.trace) (sym rest) run.ensures.order,
    )

pub returns-in_ok-files_of_check-in-check-clause-order : goal.returns-in_ok-files_of_check-in-check-clause-order
returns-in_ok-files_of_check-in-check-clause-order c =
    let words = c.args.words.now in
    let are = c.in-Some.ensures.cases.0 in
    let rest = texts_after string_bytes words c.in-Some.field-0-0.now c.in-Some.rest.now are in
    let word = text_after string_bytes words c.in-Some.field-0-0.now c.in-Some.rest.now c.in-Some-first.name.now are (sym c.in-Some-first.ensures.value) in
    let check = c.in_ok-files_of_check-in-check in (
      word ∙ ap (λ t. Some t) (sym c.as_str.ensures.value ∙ c.in-check.is),
      subst (λ given. fault_of check_app given ≡ []) (sym rest) check.ensures.accepted,
      subst (λ given. HasFiles (matches_of check_app given) check.field-0) (sym rest) check.ensures.files,
    )

pub returns-in_ok-files_of_ids-in-ids-clause-order : goal.returns-in_ok-files_of_ids-in-ids-clause-order
returns-in_ok-files_of_ids-in-ids-clause-order c =
    let words = c.args.words.now in
    let are = c.in-Some.ensures.cases.0 in
    let rest = texts_after string_bytes words c.in-Some.field-0-0.now c.in-Some.rest.now are in
    let word = text_after string_bytes words c.in-Some.field-0-0.now c.in-Some.rest.now c.in-Some-first.name.now are (sym c.in-Some-first.ensures.value) in
    let ids = c.in_ok-files_of_ids-in-ids in (
      word ∙ ap (λ t. Some t) (sym c.as_str.ensures.value ∙ c.in-ids.is),
      subst (λ given. fault_of ids_app given ≡ []) (sym rest) ids.ensures.accepted,
      subst (λ given. HasFiles (matches_of ids_app given) ids.field-0) (sym rest) ids.ensures.files,
    )

pub returns-in_ok-files-in-judge-clause-order : goal.returns-in_ok-files-in-judge-clause-order
returns-in_ok-files-in-judge-clause-order c =
    let words = c.args.words.now in
    let are = c.in-Some.ensures.cases.0 in
    let rest = texts_after string_bytes words c.in-Some.field-0-0.now c.in-Some.rest.now are in
    let word = text_after string_bytes words c.in-Some.field-0-0.now c.in-Some.rest.now c.in-Some-first.name.now are (sym c.in-Some-first.ensures.value) in
    let judge = c.in_ok-files-in-judge in (
      word ∙ ap (λ t. Some t) (sym c.as_str.ensures.value ∙ c.in-judge.is),
      subst (λ given. fault_of judge_app given ≡ []) (sym rest) judge.ensures.accepted,
      subst (λ given. IsJudged (matches_of judge_app given) judge.files judge.judging) (sym rest) judge.ensures.options,
    )

pub returns-in_default-clause-taken : goal.returns-in_default-clause-taken
returns-in_default-clause-taken c taken =
    absurd (no_word (map string_bytes c.args.words.now) (no_words string_bytes c.args.words.now c.in_default.ensures.cases) taken)

pub returns-in_default-first-clause-taken : goal.returns-in_default-first-clause-taken
returns-in_default-first-clause-taken c taken =
    let are = c.in-Some.ensures.cases.0 in
    absurd (no_word (map string_bytes c.args.words.now)
    (one_word string_bytes c.args.words.now c.in-Some.field-0-0.now c.in-Some.rest.now are (sym c.in_default-first.ensures.value)) taken)

pub returns-in_err-files_of_check-in-check-clause-taken : goal.returns-in_err-files_of_check-in-check-clause-taken
returns-in_err-files_of_check-in-check-clause-taken c taken =
    let words = c.args.words.now in
    let are = c.in-Some.ensures.cases.0 in
    let rest = texts_after string_bytes words c.in-Some.field-0-0.now c.in-Some.rest.now are in
    let word = text_after string_bytes words c.in-Some.field-0-0.now c.in-Some.rest.now c.in-Some-first.name.now are (sym c.in-Some-first.ensures.value) in
    let named = word ∙ ap (λ t. Some t) (sym c.as_str.ensures.value ∙ c.in-check.is) in
    let passes = takes_check (map string_bytes words) named taken in
    let memory = c.in_err-files_of_check-in-check.ensures.taken (subst (λ given. takes check_app given ≡ true) rest passes) in
    search (rules, memory, c.from_residual.ensures)

pub returns-in_err-files_of_ids-in-ids-clause-taken : goal.returns-in_err-files_of_ids-in-ids-clause-taken
returns-in_err-files_of_ids-in-ids-clause-taken c taken =
    let words = c.args.words.now in
    let are = c.in-Some.ensures.cases.0 in
    let rest = texts_after string_bytes words c.in-Some.field-0-0.now c.in-Some.rest.now are in
    let word = text_after string_bytes words c.in-Some.field-0-0.now c.in-Some.rest.now c.in-Some-first.name.now are (sym c.in-Some-first.ensures.value) in
    let named = word ∙ ap (λ t. Some t) (sym c.as_str.ensures.value ∙ c.in-ids.is) in
    let passes = takes_ids (map string_bytes words) named taken in
    let memory = c.in_err-files_of_ids-in-ids.ensures.taken (subst (λ given. takes ids_app given ≡ true) rest passes) in
    search (rules, memory, c.from_residual-in_err-files_of_ids-in-ids.ensures)

pub returns-in_err-files-in-judge-clause-taken : goal.returns-in_err-files-in-judge-clause-taken
returns-in_err-files-in-judge-clause-taken c taken =
    let words = c.args.words.now in
    let are = c.in-Some.ensures.cases.0 in
    let rest = texts_after string_bytes words c.in-Some.field-0-0.now c.in-Some.rest.now are in
    let word = text_after string_bytes words c.in-Some.field-0-0.now c.in-Some.rest.now c.in-Some-first.name.now are (sym c.in-Some-first.ensures.value) in
    let named = word ∙ ap (λ t. Some t) (sym c.as_str.ensures.value ∙ c.in-judge.is) in
    let passes = takes_judge (map string_bytes words) named taken in
    let memory = c.in_err-files-in-judge.ensures.taken (subst (λ given. takes judge_app given ≡ true) rest passes) in
    search (rules, memory, c.from_residual-in_err-files-in-judge.ensures)

pub returns-in_err-files-in-run-clause-taken : goal.returns-in_err-files-in-run-clause-taken
returns-in_err-files-in-run-clause-taken c taken =
    let words = c.args.words.now in
    let are = c.in-Some.ensures.cases.0 in
    let rest = texts_after string_bytes words c.in-Some.field-0-0.now c.in-Some.rest.now are in
    let word = text_after string_bytes words c.in-Some.field-0-0.now c.in-Some.rest.now c.in-Some-first.name.now are (sym c.in-Some-first.ensures.value) in
    let named = word ∙ ap (λ t. Some t) (sym c.as_str.ensures.value ∙ c.in-run.is) in
    let all = takes_run (map string_bytes words) named taken in
    let memory = c.in_err-files-in-run.ensures.taken (λ names. subst (λ given. takes (run_app names) given ≡ true) rest (all names)) in
    search (rules, memory, c.from_residual-in_err-files-in-run.ensures)

pub returns-in_default-as_str-clause-taken : goal.returns-in_default-as_str-clause-taken
returns-in_default-as_str-clause-taken c taken =
    let words = c.args.words.now in
    let are = c.in-Some.ensures.cases.0 in
    let word = text_after string_bytes words c.in-Some.field-0-0.now c.in-Some.rest.now c.in-Some-first.name.now are (sym c.in-Some-first.ensures.value) in
    let named = word ∙ ap (λ t. Some t) (sym c.as_str.ensures.value) in
    absurd (not_taken (map string_bytes words) _ named
    (λ same. c.in_default-as_str.not-check (same_name _ _ same))
    (λ same. c.in_default-as_str.not-ids (same_name _ _ same))
    (λ same. c.in_default-as_str.not-judge (same_name _ _ same))
    (λ same. c.in_default-as_str.not-run (same_name _ _ same)) taken)
