use Rattle.std.proofs.Common.{◌≡◌, ◌+◌, ◌*◌, ◌%◌, ◌^◌, ◌<◌, ◌≤◌, ap, arith, lit<, ℕ, suc, ◌∙◌}
use Rattle.std.proofs.Math.Nat.{mod-eq_of_lt, pow-le-pow_right}
use Rattle.std.proofs.lemmas.Nat.{pow-add}
use Rattle.des_stream.specs.Word.{word}
use Rattle.chord_ops.specs.Rules.{words_number}
use Rattle.chord_ops.proofs.ticks.number_of_words.Goals as goal

pub loop-word-preserved : goal.loop-word-preserved
loop-word-preserved c =
    let n : ℕ = c.loop-word.word in
    let number : ℕ = c.loop-word.number in
    let next : suc n ≡ n + 1 = omega arith in
    let few : n < 4 = omega (arith, c.loop-word-test.true, c.requires.words) in
    let longer : 32 * (n + 1) ≡ 32 * n + 32 = omega arith in
    let wider : 2 ^ (32 * (n + 1)) ≡ 2 ^ (32 * n) * 2 ^ 32 = ap (λ (k : ℕ). 2 ^ k) longer ∙ pow-add 2 (32 * n) 32 in
    let upto : 32 * (n + 1) ≤ 128 = omega arith in
    let most : 2 ^ (32 * (n + 1)) ≤ 2 ^ 128 = pow-le-pow_right (lit< tt) upto in
    let fits : number * 4294967296 < 340282366920938463463374607431768211456 = omega (arith, c.loop-word.invariant.below, wider, most) in
    let shifted : number * 4294967296 % 340282366920938463463374607431768211456 ≡ number * 4294967296 = mod-eq_of_lt fits in
    let drawn : c.from-in-loop-word.result ≡ word c.args.stream.seed c.args.stream.number (c.args.place + n) =
    c.from-in-loop-word.ensures ∙ c.word_at.ensures ∙ ap (λ (k : ℕ). word c.args.stream.seed c.args.stream.number (c.args.place + k)) c.from.ensures in
    record {
      value = ap (λ (k : ℕ). k + c.from-in-loop-word.result) (shifted ∙ ap (λ (k : ℕ). k * 4294967296) c.loop-word.invariant.value)
          ∙ ap (λ (k : ℕ). words_number c.args.stream.seed c.args.stream.number c.args.place n * 4294967296 + k) drawn
          ∙ ap (λ (k : ℕ). words_number c.args.stream.seed c.args.stream.number c.args.place k) next;
      below = omega (arith, shifted, c.loop-word.invariant.below, wider, c.word_at.type_inv, c.from-in-loop-word.ensures);
    }
