use Rattle.std.proofs.Common.{◌≡◌, ℕ, List, arith, subst}
use Rattle.std.specs.Prelude.{Result, Ok, Err, OnOk, if◌then◌else◌, is_ok}
use Rattle.std.proofs.lemmas.Grind.{common_steps}
use Rattle.chord_scenario.specs.Blocks.{IsLineOf}
use Rattle.chord_trace.proofs.block_text.push_words.Goals as goal

-- what was pushed, if it was
pushed : {A E : Type 0} (r : Result A E) (new more old : List ℕ) → new ≡ (if is_ok r then more else old) → OnOk r (new ≡ more)
pushed (Ok a) new more old is = is
pushed (Err e) new more old is = tt

pub returns-in-Join : goal.returns-in-Join
returns-in-Join c = rw c.in-Join.is c.push_node.ensures

pub returns-in-Member : goal.returns-in-Member
returns-in-Member c = rw c.in-Member.is c.push_node-in-Member.ensures

pub returns-in-Stranded : goal.returns-in-Stranded
returns-in-Stranded c = rw c.in-Stranded.is c.push_node-in-Stranded.ensures

pub returns-in-Drop : goal.returns-in-Drop
returns-in-Drop c = rw c.in-Drop.is c.push_message.ensures

pub returns-in-Late : goal.returns-in-Late
returns-in-Late c = rw c.in-Late.is c.push_message-in-Late.ensures

pub returns-in-Lose : goal.returns-in-Lose
returns-in-Lose c = rw c.in-Lose.is c.push_message-in-Lose.ensures

pub returns-in-Again : goal.returns-in-Again
returns-in-Again c = rw c.in-Again.is c.push_message-in-Again.ensures

pub returns-in-Timeout : goal.returns-in-Timeout
returns-in-Timeout c = rw c.in-Timeout.is c.push_node-in-Timeout.ensures

pub returns-in-Forget : goal.returns-in-Forget
returns-in-Forget c = rw c.in-Forget.is c.push_node-in-Forget.ensures

pub returns-in-Rescue : goal.returns-in-Rescue
returns-in-Rescue c = rw c.in-Rescue.is c.push_node-in-Rescue.ensures

pub returns-in-Ask : goal.returns-in-Ask
returns-in-Ask c = rw c.in-Ask.is c.push_ask.ensures

pub returns-in-Send : goal.returns-in-Send
returns-in-Send c = rw c.in-Send.is c.push_message-in-Send.ensures

pub returns-in-Lookup : goal.returns-in-Lookup
returns-in-Lookup c = rw (c.in-Lookup.is, ← c.raw-in-Lookup.ensures) c.write-in-Lookup.ensures.bytes

pub returns-in-Busy : goal.returns-in-Busy
returns-in-Busy c = rw (c.in-Busy.is, ← c.raw-in-Busy.ensures) c.write-in-Busy.ensures.bytes

pub returns-in-Ignored : goal.returns-in-Ignored
returns-in-Ignored c = rw (c.in-Ignored.is, ← c.command_text.ensures) c.write-in-Ignored.ensures.bytes

pub returns-in-Found : goal.returns-in-Found
returns-in-Found c = grind (arith, common_steps)

pub returns-in-JoinFailed : goal.returns-in-JoinFailed
returns-in-JoinFailed c = rw c.in-JoinFailed.is (pushed c.push_str.result _ _ _ c.push_str.ensures.bytes)

pub returns-in-Crash : goal.returns-in-Crash
returns-in-Crash c = rw c.in-Crash.is (pushed c.push_str-in-Crash.result _ _ _ c.push_str-in-Crash.ensures.bytes)

pub returns-in-Leave : goal.returns-in-Leave
returns-in-Leave c = rw c.in-Leave.is (pushed c.push_str-in-Leave.result _ _ _ c.push_str-in-Leave.ensures.bytes)

pub returns-in-Create : goal.returns-in-Create
returns-in-Create c = rw c.in-Create.is (pushed c.push_str-in-Create.result _ _ _ c.push_str-in-Create.ensures.bytes)

pub push_node-requires : goal.push_node-requires
push_node-requires c = subst (IsLineOf c.args.scenario.now) c.in-Join.is c.requires 0 0 (omega arith)

pub push_node-requires-in-Member : goal.push_node-requires-in-Member
push_node-requires-in-Member c = subst (IsLineOf c.args.scenario.now) c.in-Member.is c.requires 0 0 (omega arith)

pub push_node-requires-in-Stranded : goal.push_node-requires-in-Stranded
push_node-requires-in-Stranded c = subst (IsLineOf c.args.scenario.now) c.in-Stranded.is c.requires 0 0 (omega arith)

pub push_node-requires-in-Timeout : goal.push_node-requires-in-Timeout
push_node-requires-in-Timeout c = subst (IsLineOf c.args.scenario.now) c.in-Timeout.is c.requires 0 0 (omega arith)

pub push_node-requires-in-Forget : goal.push_node-requires-in-Forget
push_node-requires-in-Forget c = subst (IsLineOf c.args.scenario.now) c.in-Forget.is c.requires 0 0 (omega arith)

pub push_node-requires-in-Rescue : goal.push_node-requires-in-Rescue
push_node-requires-in-Rescue c = subst (IsLineOf c.args.scenario.now) c.in-Rescue.is c.requires 0 0 (omega arith)

pub push_message-requires : goal.push_message-requires
push_message-requires c = subst (IsLineOf c.args.scenario.now) c.in-Drop.is c.requires 0 0 (omega arith)

pub push_message-requires-in-Late : goal.push_message-requires-in-Late
push_message-requires-in-Late c = subst (IsLineOf c.args.scenario.now) c.in-Late.is c.requires 0 0 (omega arith)

pub push_message-requires-in-Lose : goal.push_message-requires-in-Lose
push_message-requires-in-Lose c = subst (IsLineOf c.args.scenario.now) c.in-Lose.is c.requires 0 0 (omega arith)

pub push_message-requires-in-Again : goal.push_message-requires-in-Again
push_message-requires-in-Again c = subst (IsLineOf c.args.scenario.now) c.in-Again.is c.requires 0 0 (omega arith)

pub push_message-requires-in-Send : goal.push_message-requires-in-Send
push_message-requires-in-Send c = subst (IsLineOf c.args.scenario.now) c.in-Send.is c.requires 0 0 (omega arith)

pub push_ask-requires : goal.push_ask-requires
push_ask-requires c = subst (IsLineOf c.args.scenario.now) c.in-Ask.is c.requires 0 0 (omega arith)

pub push_ask-requires-in-Seek : goal.push_ask-requires-in-Seek
push_ask-requires-in-Seek c = subst (IsLineOf c.args.scenario.now) c.in-Seek.is c.requires 0 0 (omega arith)

pub name-requires : goal.name-requires
name-requires c = subst (IsLineOf c.args.scenario.now) c.in-Found.is c.requires 0 0 (omega arith)
