use Rattle.chord_command.proofs.commands.judge_arguments.Goals as goal

pub returns : goal.returns
returns c =
    rw c.in_ok-arguments.ensures.items (
      c.scenario_argument.ensures.rule,
      c.scenario_argument.ensures.local,
      (
        c.latency_argument.ensures.rule,
        c.latency_argument.ensures.local,
        (
          c.read_trace_argument.ensures.rule,
          c.read_trace_argument.ensures.local,
          (c.digest_argument.ensures.rule, c.digest_argument.ensures.local, (c.edges_argument.ensures.rule, c.edges_argument.ensures.local, tt)),
        ),
      ),
    )
