-- What the matches of the commands of the program have at their options.
use Rattle.std.proofs.Common.{
  ◌≡◌,
  ◌∙◌,
  ◌<◌,
  ◌≤◌,
  ℕ,
  zero,
  suc,
  true,
  false,
  not,
  List,
  [],
  ◌∷◌,
  length,
  map,
  Option,
  Some,
  None,
  is_some,
  refl,
  sym,
  ap,
  subst,
  inl,
  inr,
  arith,
  codes,
}
use Rattle.std.specs.Prelude.{IfSome, pos}
use Rattle.chord_command.specs.Orders.{IsCountUpTo}
use Rattle.std.specs.List.{All, AllByRecursion as ByRecursion, list_all, slice_index_or}
use Rattle.std.specs.Str.{bytes_eq}
use Rattle.std.proofs.lemmas.Bool.{false≢true}
use Rattle.std.proofs.lemmas.List.Elements.{All-nil, All-cons}
use Rattle.std.proofs.lemmas.Slice.Eq.{bytes_eq-Decides}
use Rattle.clap.specs.Built.{IsParsedFrom, IsPlain}
use Rattle.clap.specs.Facts.{args_of, least_values}
use Rattle.clap.specs.Matches.{first_value, found_of, one_text}
use Rattle.clap.specs.Walk.{Rule, Text, is_empty, is_simple_arg, rule_of}
use Rattle.clap.specs.Faults.{is_simple_and_free}
use Rattle.clap.specs.Simple.{App, app_of, is_simple}
use Rattle.clap.proofs.OnLiterals.{clap_on_literals}
use Rattle.clap.proofs.CallerLemmas.{required_has_value}
use Rattle.chord_command.proofs.Options.{accepted_text, count_text, empty_list, from_rules, is_plain_rule, not_true, plain_from_rules}
use Rattle.chord_command.specs.Commands.{
  OptionNames,
  check_app,
  ids_app,
  judge_app,
  run_app,
  scenario_rule,
  latency_rule,
  workers_rule,
  parts_rule,
  split_rule,
  engine_rule,
  serial_rule,
  trace_rule,
  digest_rule,
  edges_rule,
}
use Rattle.clap.proofs.WalkLemmas.{both}
use Rattle.clap.specs.declared.builder.arg.Arg.{Arg}
use Rattle.clap.specs.declared.builder.command.Command.{Command}
use Rattle.clap.specs.declared.builder.command.Command.TheViews.{out-Command}
use Rattle.clap.specs.declared.builder.value_parser.ValueParser.{ValueParser}
use Rattle.clap.specs.declared.builder.value_parser.ValueParser.TheVariants as vp
use Rattle.clap.specs.declared.parser.matches.ArgMatches.{ArgMatches}

-- what a command has whose rules are known
pub record HasRules (c : Command) (rules : List Rule) : Type 0 where
  pub rules_are : map rule_of (args_of c) ≡ rules
  pub plain : IsPlain c
  pub local : (out-Command c).has_globals ≡ false
  pub negates : (out-Command c).subcommand_negates_reqs ≡ false

pub has_rules : (c : Command) (a : App) → app_of c ≡ a → a.top.is_plain ≡ true → a.top.subcommand_negates_reqs ≡ false
    → list_all is_plain_rule a.top.rules ≡ true → HasRules c a.top.rules
has_rules c a same plain negates rules =
    let is_plain = ap (λ (x : App). x.top.is_plain) same ∙ plain in
    let groups = both _ _ is_plain in
    let external = both _ _ groups.1 in
    let globals = both _ _ external.1 in
    let rules_are = ap (λ (x : App). x.top.rules) same in
    record {
      rules_are = rules_are;
      plain = plain_from_rules c a.top.rules rules_are rules (empty_list _ groups.0);
      local = not_true _ globals.0;
      negates = ap (λ (x : App). x.top.subcommand_negates_reqs) same ∙ negates;
    }

no_value : {X : Type 0} (o : Option X) → not (is_some o) ≡ true → o ≡ None
no_value None h = refl
no_value (Some y) h = cc

no_delimiter : (a : Arg) → is_simple_arg a ≡ true → a.val_delim ≡ None
no_delimiter a h =
    let ifs = both (is_empty a.overrides.items) _ h in
    let groups = both (is_empty a.default_vals_ifs.items) _ ifs.1 in
    let delimiter = both (is_empty a.groups.items) _ groups.1 in
    no_value a.val_delim (both (not (is_some a.val_delim)) _ delimiter.1).0

pub differ : (a b : Text) → bytes_eq a b ≡ false → a ≡ b → ⊥
differ a b test same = false≢true (sym test ∙ (bytes_eq-Decides a b).1 same)

-- the argument of the first rule, where no later one has its id
pub scenario_given : (c : Command) (m : ArgMatches) → IsParsedFrom c m → (rest : List Rule) → HasRules c (scenario_rule ∷ rest)
    → list_all (λ r. not (bytes_eq r.id (codes "scenario"))) rest ≡ true
    → is_some (first_value (found_of m) (codes "scenario")) ≡ true
scenario_given c m p rest has others = go (args_of c) refl has.rules_are
  where
    later : (xs : List Arg) → list_all (λ r. not (bytes_eq r.id (codes "scenario"))) (map rule_of xs) ≡ true
        → All (λ a. bytes_eq a.id.now (codes "scenario") ≡ false) xs
    later xs h = from_rules (λ a. bytes_eq a.id.now (codes "scenario") ≡ false) (λ r. not (bytes_eq r.id (codes "scenario"))) (λ a t. not_true _ t) xs h

    go : (xs : List Arg) → args_of c ≡ xs → map rule_of xs ≡ scenario_rule ∷ rest → is_some (first_value (found_of m) (codes "scenario")) ≡ true
    go [] is same = cc
    go (x ∷ xs) is same =
        let first : rule_of x ≡ scenario_rule = cc in
        let tail : map rule_of xs ≡ rest = cc in
        let none_later = later xs (rw tail others) in
        let here : slice_index_or (args_of c) 0 x ≡ x = rw is refl in
        let id : x.id.now ≡ codes "scenario" = ap (λ (r : Rule). r.id) first in
        let same_id : (slice_index_or (args_of c) 0 x).id.now ≡ codes "scenario" = ap (λ (a : Arg). a.id.now) here ∙ id in
        let simple : is_simple_arg x ≡ true = ap (λ (r : Rule). r.is_simple) first in
        let range : x.num_vals ≡ None = ap (λ (r : Rule). r.range) first in
        let least : 1 ≤ least_values x = rw range (omega arith) in
        let only : (j : ℕ) (e : Arg) → j < length (args_of c) → bytes_eq (slice_index_or (args_of c) j e).id.now
        (slice_index_or (args_of c) 0 x).id.now ≡ true → j ≡ 0 =
        λ j e lt equal. place xs none_later j e (subst (λ l. j < length l) is lt)
        (subst (λ (t : Text). bytes_eq (slice_index_or (x ∷ xs) j e).id.now t ≡ true) same_id
        (subst (λ (l : List Arg). bytes_eq (slice_index_or l j e).id.now (slice_index_or (args_of c) 0 x).id.now ≡ true) is equal)) in
        subst (λ (t : Text). is_some (first_value (found_of m) t) ≡ true) same_id
        (required_has_value c m p has.plain has.local has.negates 0 x (rw is (omega arith))
        (ap (λ (a : Arg). a.required) here ∙ ap (λ (r : Rule). r.required) first)
        (ap (λ (a : Arg). a.action) here ∙ ap (λ (r : Rule). r.action) first)
        (ap (λ (a : Arg). a.val_delim) here ∙ no_delimiter x simple)
        (subst (λ (a : Arg). 1 ≤ least_values a) (sym here) least)
        only
        (λ empty. differ (codes "scenario") [] refl (sym same_id ∙ empty))
        (λ auto. elim auto [
          | inl h ↦ differ (codes "scenario") (codes "help") refl (sym same_id ∙ h)
          | inr h ↦ differ (codes "scenario") (codes "version") refl (sym same_id ∙ h)
        ]))
      where
        place : (xs : List Arg) → All (λ a. bytes_eq a.id.now (codes "scenario") ≡ false) xs → (j : ℕ) (e : Arg) → j < length (x ∷ xs)
            → bytes_eq (slice_index_or (x ∷ xs) j e).id.now (codes "scenario") ≡ true → j ≡ 0
        place xs none zero e lt equal = refl
        place xs none (suc j) e lt equal = absurd (false≢true (sym (none j e (omega arith)) ∙ equal))

-- ---- what the commands are

pub check_is_simple : is_simple check_app ≡ true
unfolding check_app clap_on_literals
check_is_simple = refl

pub check_is_free : is_simple_and_free check_app ≡ true
unfolding check_app clap_on_literals
check_is_free = refl

pub check_rules : (c : Command) → app_of c ≡ check_app → HasRules c (scenario_rule ∷ latency_rule ∷ [])
unfolding check_app
check_rules c same = has_rules c check_app same refl refl refl

pub ids_is_simple : is_simple ids_app ≡ true
unfolding ids_app clap_on_literals
ids_is_simple = refl

pub ids_is_free : is_simple_and_free ids_app ≡ true
unfolding ids_app clap_on_literals
ids_is_free = refl

pub judge_is_simple : is_simple judge_app ≡ true
unfolding judge_app clap_on_literals
judge_is_simple = refl

pub judge_is_free : is_simple_and_free judge_app ≡ true
unfolding judge_app clap_on_literals
judge_is_free = refl

pub judge_rules : (c : Command) → app_of c ≡ judge_app → HasRules c (scenario_rule ∷ latency_rule ∷ trace_rule ∷ digest_rule ∷ edges_rule ∷ [])
unfolding judge_app
judge_rules c same = has_rules c judge_app same refl refl refl

pub ids_rules : (c : Command) → app_of c ≡ ids_app → HasRules c (scenario_rule ∷ latency_rule ∷ [])
unfolding ids_app
ids_rules c same = has_rules c ids_app same refl refl refl

pub run_is_simple : (names : OptionNames) → is_simple (run_app names) ≡ true
unfolding run_app clap_on_literals
run_is_simple names = refl

pub run_is_free : (names : OptionNames) → is_simple_and_free (run_app names) ≡ true
unfolding run_app clap_on_literals
run_is_free names = refl

pub run_rules : (c : Command) (names : OptionNames) → app_of c ≡ run_app names
    → HasRules c (scenario_rule ∷ latency_rule ∷ workers_rule ∷ parts_rule ∷ split_rule names.splits ∷ engine_rule names.engines ∷ serial_rule ∷ trace_rule ∷ [])
unfolding run_app
run_rules c names same = has_rules c (run_app names) same refl refl refl

-- a rule with this id has this parser
abbrev HasParser : Text → ValueParser → Rule → Type 0
HasParser id q r = bytes_eq r.id id ≡ true → (r.parser ≡ Some q) × (r.ignore_case ≡ false)

abbrev TakesBy : Text → ValueParser → Arg → Type 0
TakesBy id q a = bytes_eq a.id.now id ≡ true → (a.value_parser ≡ Some q) × (a.ignore_case ≡ false)

-- the rules of one option, as a fact of each argument
option_rules : (id : Text) (q : ValueParser) (xs : List Arg) (rules : List Rule) → map rule_of xs ≡ rules
    → ByRecursion (HasParser id q) rules → All (TakesBy id q) xs
option_rules id q [] rules same holds = All-nil (TakesBy id q)
option_rules id q (x ∷ xs) [] same holds = cc
option_rules id q (x ∷ xs) (r ∷ rules) same holds =
    let first : rule_of x ≡ r = cc in
    let rest : map rule_of xs ≡ rules = cc in
    All-cons (TakesBy id q) x xs (subst (HasParser id q) (sym first) holds.0) (option_rules id q xs rules rest holds.1)

other : {A : Type 0} → false ≡ true → A
other h = absurd (false≢true h)

-- the counts that a run was given
pub workers_given : (c : Command) (m : ArgMatches) → IsParsedFrom c m → (names : OptionNames) → app_of c ≡ run_app names
    → IfSome (one_text (found_of m) (codes "workers")) (IsCountUpTo 64)
workers_given c m p names same =
    let has = run_rules c names same in
    count_text 64 _ (accepted_text c m p (codes "workers") (differ (codes "workers") (codes "help") refl)
    (differ (codes "workers") (codes "version") refl) (vp.Signed (pos 1) (pos 64))
    (option_rules (codes "workers") (vp.Signed (pos 1) (pos 64)) (args_of c) _ has.rules_are
    (other, (other, ((λ _. (refl, refl)), (other, (other, (other, (other, (other, tt)))))))))
    has.plain has.local (differ (codes "workers") [] refl))

pub parts_given : (c : Command) (m : ArgMatches) → IsParsedFrom c m → (names : OptionNames) → app_of c ≡ run_app names
    → IfSome (one_text (found_of m) (codes "parts")) (IsCountUpTo 512)
parts_given c m p names same =
    let has = run_rules c names same in
    count_text 512 _ (accepted_text c m p (codes "parts") (differ (codes "parts") (codes "help") refl) (differ (codes "parts") (codes "version") refl)
    (vp.Signed (pos 1) (pos 512))
    (option_rules (codes "parts") (vp.Signed (pos 1) (pos 512)) (args_of c) _ has.rules_are
    (other, (other, (other, ((λ _. (refl, refl)), (other, (other, (other, (other, tt)))))))))
    has.plain has.local (differ (codes "parts") [] refl))
