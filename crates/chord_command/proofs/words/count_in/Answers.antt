use Rattle.std.proofs.Common.{◌∙◌, ap}
use Rattle.clap.specs.Words.{found_of, one_text}
use Rattle.std.specs.Str.Parse.{ParsesUnsigned, ExplainsUnsignedError, HasUnsignedDigitsIfOk}
use Rattle.clap.proofs.WalkLemmas.{one_text-rows}
use Rattle.chord_command.specs.Orders.{count_or}
use Rattle.chord_command.proofs.Options.{read_count}
use Rattle.chord_command.proofs.words.count_in.Goals as goal

pub returns : goal.returns
returns c =
    let text = one_text (found_of c.args.matches.now) c.args.id.now in
    c.unwrap_or.ensures
    ∙ read_count (λ t x. ParsesUnsigned 32 10 t x × ExplainsUnsignedError 10 t x × HasUnsignedDigitsIfOk t x) c.args.default text c.get_one.result
    (λ t x given. given.0) c.get_one.ensures.none c.get_one.ensures.value c.requires
    ∙ ap (count_or c.args.default) (one_text-rows (found_of c.args.matches.now) c.args.id.now)
