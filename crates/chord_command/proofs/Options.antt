-- What the matches of a command have at an option, where the rules of its arguments are known.
use Rattle.std.proofs.Common.{
  ◌≡◌,
  ◌∙◌,
  ◌<◌,
  ◌&&◌,
  ℕ,
  suc,
  Bool,
  true,
  false,
  not,
  List,
  [],
  ◌∷◌,
  length,
  map,
  Option,
  Some,
  None,
  refl,
  sym,
  ap,
  subst,
  inl,
  inr,
  arith,
  codes,
}
use Rattle.std.specs.Prelude.{IfSome, Result, Ok, Err, cond, option_map, pos, slice_get, unwrap_or}
use Rattle.std.specs.Str.Parse.{ParsesUnsigned, starts_with_minus}
use Rattle.std.proofs.lemmas.Int.{ints}
use Rattle.clap.specs.Lexer.{without_minus}
use Rattle.chord_command.specs.Orders.{IsCountUpTo, count_or, number_of}
use Rattle.std.specs.Borrow.{Bor}
use Rattle.std.specs.List.{All, list_all, slice_index_or}
use Rattle.std.specs.Str.{bytes_eq}
use Rattle.std.proofs.lemmas.Bool.{cases_lt}
use Rattle.std.proofs.lemmas.List.Elements.{All-nil, All-cons}
use Rattle.std.proofs.lemmas.Slice.Eq.{bytes_eq-Decides}
use Rattle.clap.specs.Built.{IsParsedFrom, IsPlain, IsPlainArg, IsAuto, SameRules}
use Rattle.clap.specs.Facts.{args_of, groups_of, Entry, EntryPasses, IsParsed, PassesArg, HasReading, parser_of, parser_of_value}
use Rattle.clap.specs.Matches.{ReadsOne, found_of, has_subcommand, matched_of, one_text}
use Rattle.clap.specs.Values.{Accepts, IsSignedIn, read_as, reading_of}
use Rattle.clap.specs.Walk.{Rule, Text, is_empty, is_free_arg, is_simple_arg, rule_of}
use Rattle.clap.proofs.CallerLemmas.{entry_by_id}
use Rattle.clap.proofs.WalkLemmas.{both}
use Rattle.clap.specs.declared.builder.arg.Arg.{Arg}
use Rattle.clap.specs.declared.builder.command.Command.{Command}
use Rattle.clap.specs.declared.builder.command.Command.TheViews.{out-Command}
use Rattle.clap.specs.declared.builder.value_parser.Reading.{Reading}
use Rattle.clap.specs.declared.builder.value_parser.ValueParser.{ValueParser}
use Rattle.clap.specs.declared.builder.value_parser.ValueParser.TheVariants as vp
use Rattle.clap.specs.declared.parser.matches.ArgMatches.{ArgMatches}
use Rattle.clap.specs.declared.parser.matches.MatchedArg.{MatchedArg}

-- ---- from the rules of arguments to their fields

pub empty_list : {X : Type 0} (xs : List X) → is_empty xs ≡ true → xs ≡ []
empty_list [] h = refl
empty_list (x ∷ xs) h = let bad : suc (length xs) ≡ 0 = grind arith in absurd (omega arith)

pub not_true : (b : Bool) → not b ≡ true → b ≡ false
not_true true h = cc
not_true false h = refl

-- an argument with a simple rule that is on no other argument is plain
plain_arg : (a : Arg) → is_simple_arg a ≡ true → is_free_arg a ≡ true → IsPlainArg a
plain_arg a simple free =
    let overrides = both _ _ simple in
    let ifs = both _ _ overrides.1 in
    let groups = both _ _ ifs.1 in
    let exclusive = both _ _ free in
    let conflicts = both _ _ exclusive.1 in
    (not_true _ exclusive.0, empty_list _ conflicts.0, empty_list _ overrides.0, empty_list _ groups.0)

abbrev pub is_plain_rule : Rule → Bool
is_plain_rule r = r.is_simple && r.is_free

-- what each rule passes holds of each argument
pub from_rules : (P : Arg → Type 0) (test : Rule → Bool) → ((a : Arg) → test (rule_of a) ≡ true → P a)
    → (xs : List Arg) → list_all test (map rule_of xs) ≡ true → All P xs
from_rules P test holds [] h = All-nil P
from_rules P test holds (x ∷ xs) h =
    let parts = both _ _ h in
    All-cons P x xs (holds x parts.0) (from_rules P test holds xs parts.1)

pub plain_from_rules : (c : Command) (rules : List Rule) → map rule_of (args_of c) ≡ rules → list_all is_plain_rule rules ≡ true
    → groups_of c ≡ [] → IsPlain c
plain_from_rules c rules same plain groups =
    (from_rules IsPlainArg is_plain_rule (λ a h. let parts = both _ _ h in plain_arg a parts.0 parts.1) (args_of c) (rw same plain), groups)

-- ---- what an option's entry has

-- the rules that a lone argument with this id has in the built command
module _ (old : Command) (m : ArgMatches) (p : IsParsedFrom old m) (id : Text) (help : id ≡ codes "help" → ⊥) (version : id ≡ codes "version" → ⊥)
    (q : ValueParser) (only : All (λ a. bytes_eq a.id.now id ≡ true → (a.value_parser ≡ Some q) × (a.ignore_case ≡ false)) (args_of old)) where
  same_id : (a : Text) → bytes_eq a id ≡ true → a ≡ id
  same_id a h = (bytes_eq-Decides a id).0 h

  built_rules : (j : ℕ) (a : Arg) → slice_index_or (args_of p.built) j a ≡ a → j < length (args_of p.built)
      → bytes_eq a.id.now id ≡ true → (a.value_parser ≡ Some q) × (a.ignore_case ≡ false)
  built_rules j a at lt same = elim (cases_lt j (length (args_of old))) [
    | inl under ↦
        let s : SameRules (slice_index_or (args_of old) j a) a = subst (λ w. SameRules (slice_index_or (args_of old) j a) w) at (p.from.kept j a under).1 in
        let own : bytes_eq (slice_index_or (args_of old) j a).id.now id ≡ true = rw (← s.id) same in
        let rules = only j a under own in
        (s.parser q rules.0, s.ignore_case ∙ rules.1)
    | inr over ↦
        let auto : IsAuto a = subst IsAuto at (p.from.extra j a over lt) in
        elim auto [ inl h ↦ absurd (help (sym (same_id _ same) ∙ h)) | inr h ↦ absurd (version (sym (same_id _ same) ∙ h)) ]
  ]

  accepts_value : (w v : Text) → w ≡ id → PassesArg p.built w v → Accepts false q v
  accepts_value w v key pass =
      let same : bytes_eq pass.1.id.now id ≡ true = subst (λ (u : Text). bytes_eq pass.1.id.now u ≡ true) key pass.4.0 in
      let rules = built_rules pass.0 pass.1 pass.3 pass.2 same in
      let parser : parser_of pass.1 ≡ q = ap parser_of_value rules.0 in
      subst (λ (b : Bool). Accepts b q v) rules.1 (subst (λ (r : ValueParser). Accepts pass.1.ignore_case r v) parser pass.4.1)

  reads_value : (w : Text) (r : Reading) → w ≡ id → HasReading p.built w r → r ≡ reading_of q
  reads_value w r key any =
      let same : bytes_eq any.1.id.now id ≡ true = subst (λ (u : Text). bytes_eq any.1.id.now u ≡ true) key any.4.0 in
      let rules = built_rules any.0 any.1 any.3 any.2 same in
      sym any.4.1 ∙ ap reading_of (ap parser_of_value rules.0)

  -- the first value of an entry, which its argument's parser took, as the getters read it
  first_read : (x : MatchedArg) → (vs : List (Bor Text)) → x.vals.items ≡ vs → All (λ v. Accepts false q v.now) vs → x.reading ≡ reading_of q
      → IfSome (option_map (λ s. read_as x.reading s.now) (slice_get x.vals.items 0)) (λ t. (u : Text) × (t ≡ read_as (reading_of q) u) × Accepts false q u)
  first_read x [] is all how = rw is tt
  first_read x (v ∷ vs) is all how = rw (is, how) (v.now, refl, all 0 v (omega arith))

  entry_read : (x : MatchedArg) (e : Entry) → e.1 ≡ x → e.0.now ≡ id → EntryPasses p.built e → groups_of p.built ≡ [] → (id ≡ [] → ⊥)
      → IfSome (option_map (λ s. read_as x.reading s.now) (slice_get x.vals.items 0)) (λ t. (u : Text) × (t ≡ read_as (reading_of q) u) × Accepts false q u)
  entry_read x e same_x key pass groups named =
      let no_group : e.1.is_group ≡ true → ⊥ = λ g. elim (pass.3 g) [
        | inl empty ↦ named (sym key ∙ empty)
        | inr lots ↦ let bad : 0 < 0 = rw groups at lots in absurd (omega arith)
      ] in
      let all : All (λ v. Accepts false q v.now) e.1.vals.items = elim pass.0 [
        | inl g ↦ absurd (no_group g)
        | inr vals ↦ λ k d lt. accepts_value e.0.now (slice_index_or e.1.vals.items k d).now key (vals k d lt)
      ] in
      let how : e.1.reading ≡ reading_of q = elim pass.4 [
        | inl g ↦ absurd (no_group g)
        | inr h ↦ reads_value e.0.now e.1.reading key h
      ] in
      first_read x x.vals.items refl (subst (λ (y : MatchedArg). All (λ v. Accepts false q v.now) y.vals.items) same_x all)
      (ap (λ (y : MatchedArg). y.reading) (sym same_x) ∙ how)

  -- the text that a getter reads of the option is one that its parser took
  pub accepted_text : IsPlain old → (out-Command old).has_globals ≡ false → (id ≡ [] → ⊥)
      → IfSome (one_text (found_of m) id) (λ t. (u : Text) × (t ≡ read_as (reading_of q) u) × Accepts false q u)
  accepted_text plain globals named = go (matched_of (found_of m) id) refl
    where
      parsed : IsParsed p.built (found_of m) (has_subcommand m)
      parsed = p.parsed (p.from.globals ∙ globals)

      go : (o : Option MatchedArg) → matched_of (found_of m) id ≡ o
          → IfSome (one_text (found_of m) id) (λ t. (u : Text) × (t ≡ read_as (reading_of q) u) × Accepts false q u)
      go None e = rw e tt
      go (Some x) e =
          let got = entry_by_id (EntryPasses p.built) (found_of m).entries.items id x parsed.values e in
          rw e (entry_read x got.0 got.1 (same_id got.0.0.now got.2) got.3 (p.from.plain plain).1 named)

-- ---- counts

-- what a getter reads of a number at an option that was given
pub read_count : {E : Type 0} (G : Text → Result ℕ E → Type 0) (default : ℕ) (o : Option Text) (r : Option ℕ)
    → ((t : Text) (x : Result ℕ E) → G t x → ParsesUnsigned 32 10 t x)
    → (o ≡ None → r ≡ None) → ((t : Text) → o ≡ Some t → ReadsOne G t r) → IfSome o (IsCountUpTo 512) → unwrap_or r default ≡ count_or default o
read_count G default None r parses none some fits = rw (none refl) refl
read_count G default (Some t) r parses none some fits = go r (some t refl)
  where
    go : (r : Option ℕ) → ReadsOne G t r → unwrap_or r default ≡ number_of t
    go (Some n) read = (parses t (Ok n) read).1
    go None read = absurd (parses t (Err read.0) read.1 (fits.0, omega (arith, fits.2)))

without_minus-other : (t : Text) → starts_with_minus t ≡ false → without_minus t ≡ t
without_minus-other [] e = refl
without_minus-other (x ∷ xs) e = ap (λ b. unwrap_or (cond b (Some xs) None) (x ∷ xs)) e

-- a text that passed a range from 1 on writes a number in it
pub count_from_range : (most : ℕ) (t : Text) → IsSignedIn (pos 1) (pos most) t → IsCountUpTo most (without_minus t)
count_from_range most t passed = go (starts_with_minus t) refl
  where
    go : (b : Bool) → starts_with_minus t ≡ b → IsCountUpTo most (without_minus t)
    go true minus =
        let low = rw minus at passed.2 in
        absurd (omega (arith, ints))
    go false minus =
        let numeral = rw minus at passed.0 in
        let low = rw minus at passed.2 in
        let high = rw minus at passed.3 in
        rw (without_minus-other t minus) (numeral, omega (arith, ints), omega (arith, ints))

-- the option was given a count
pub count_text : (most : ℕ) (o : Option Text) → IfSome o (λ t. (u : Text) × (t ≡ read_as (reading_of (vp.Signed (pos 1) (pos most))) u)
    × Accepts false (vp.Signed (pos 1) (pos most)) u)
    → IfSome o (IsCountUpTo most)
count_text most None h = tt
count_text most (Some t) h = rw h.1 (count_from_range most h.0 h.2)
