use Rattle.chord_command.specs.Commands.{OptionNames}
use Rattle.chord_command.proofs.commands.run_arguments.Goals as goal

pub returns : goal.returns
returns c =
    let split = c.split_argument.ensures.rule in
    let engine = c.engine_argument.ensures.rule in
    let names : OptionNames = record { splits = split.0; engines = engine.0; are_splits = split.1; are_engines = engine.1 } in (
      names,
      rw c.in_ok-arguments.ensures.items (
        c.scenario_argument.ensures.rule,
        c.scenario_argument.ensures.local,
        (
          c.latency_argument.ensures.rule,
          c.latency_argument.ensures.local,
          (
            c.workers_argument.ensures.rule,
            c.workers_argument.ensures.local,
            (
              c.parts_argument.ensures.rule,
              c.parts_argument.ensures.local,
              (
                split.2,
                c.split_argument.ensures.local,
                (
                  engine.2,
                  c.engine_argument.ensures.local,
                  (
                    c.serial_argument.ensures.rule,
                    c.serial_argument.ensures.local,
                    (c.trace_argument.ensures.rule, c.trace_argument.ensures.local, tt),
                  ),
                ),
              ),
            ),
          ),
        ),
      ),
    )
