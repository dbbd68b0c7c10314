use Rattle.std.proofs.Common.{◌≡◌, ℕ, Bool, false, ◌||◌, ◌&&◌, eqb, ◌∙◌, ◌++◌, ◌-◌, refl, ap, sym, subst, arith, length, take, drop, length-take, rules}
use Rattle.std.proofs.lemmas.Bool.Decides.{nat_tests}
use lib.Seq.{take-add, take-take}
use Rattle.std.specs.Io.KnownBytes.{Appends}
use Rattle.std.proofs.KnownBytes.{Appends-trans}
use Rattle.std.proofs.lemmas.Grind.{common_steps}
use Rattle.des_output.proofs.writing.write_text.Goals as goal

-- a writer that had not failed and took some bytes has not failed
sound_after : (new old has_bytes : Bool) (count : ℕ) → new ≡ (old || (eqb count 0 && has_bytes)) → old ≡ false → (count ≡ 0 → ⊥) → new ≡ false
sound_after new old has_bytes count noted sound some =
    let test : eqb count 0 ≡ false = grind (arith, nat_tests) in
    noted ∙ rw (sound, test) refl

pub loop-taken-preserved : goal.loop-taken-preserved
loop-taken-preserved g c =
    let taken = c.loop-taken.taken in
    let count = c.in-Ok.count in
    let text = c.args.text.now in
    let before = c.loop-taken.invariant in
    let fits = c.in-Ok.ensures.bound in
    let most = length-take (length text - taken) (drop taken text) in
    let joined = ap (λ l. take taken text ++ l) (take-take count (length text - taken) (drop taken text) (omega arith)) ∙ sym (take-add taken count text) in (
      omega arith,
      sound_after _ _ _ count c.in-Ok.ensures.noted before.1 c.in-Ok.count-test.1,
      subst (Appends _ _) joined
          (Appends-trans _ _ _ _ _ before.2 c.in-Ok.ensures.bytes),
    )

pub returns-in-Ok-eq0-clause-writer : goal.returns-in-Ok-eq0-clause-writer
returns-in-Ok-eq0-clause-writer g c = search rules

pub returns-in-Ok-eq0-clause-only : goal.returns-in-Ok-eq0-clause-only
returns-in-Ok-eq0-clause-only g c = search rules

pub returns-clause-whole : goal.returns-clause-whole
returns-clause-whole g c = grind (arith, common_steps)
