-- The rules of PHOLD, and PHOLD as a discrete-event model.
use Rattle.std.specs.Prelude.{ℕ, zero, suc, ◌+◌, ◌-◌, ◌*◌, ◌/◌, ◌%◌, List, [], ◌∷◌, ◌++◌, if◌then◌else◌, nat_lt}
use Rattle.des_event.specs.declared.event.Event.{Event}
use Rattle.des_model.specs.Machine.{Machine}
use Rattle.des_stream.specs.Draws.{first_number, second_number}
use Rattle.phold_rules.specs.declared.hop.Hop.{Hop}
use Rattle.phold_rules.specs.declared.settings.Settings.{Settings}
use Rattle.phold_rules.specs.declared.rules.Job.{Job}
use Rattle.phold_rules.specs.declared.rules.Node.{Node}

-- the delay of the event of this number that a node makes: the lookahead, and a number drawn evenly from 0 to twice the mean
abbrev pub delay_of : Settings → (node number : ℕ) → ℕ
delay_of p node number = p.lookahead + first_number p.seed node number (2 * p.mean + 1)

-- the number that decides where the job of that event goes, drawn evenly from those below 1000000 * (nodes - 1)
abbrev pub way_of : Settings → (node number : ℕ) → ℕ
way_of p node number = second_number p.seed node number (1000000 * (p.nodes - 1))

-- the node to which the job goes: `remote` times in a million one of the others, each as likely, and else the node itself
abbrev pub receiver_of : Settings → (node number : ℕ) → ℕ
receiver_of p node number =
    if nat_lt (way_of p node number / (p.nodes - 1)) p.remote then (node + 1 + way_of p node number % (p.nodes - 1)) % p.nodes else node

-- the event by which a node sends a job on at a time: after the delay the job is at its receiver
abbrev pub job_of : Settings → (time node number : ℕ) → Event Job
job_of p time node number = record {
  key = record { time = time + delay_of p node number; origin = 2 + node; number = number };
  target = receiver_of p node number;
  body = record {};
}

-- the event by which a node sends a job to itself at the start
abbrev pub start_of : Settings → (node number : ℕ) → Event Job
start_of p node number = record {
  key = record { time = delay_of p node number; origin = 2 + node; number = number };
  target = node;
  body = record {};
}

-- the events at the start by which a node sends itself this many jobs, in the order of their numbers
abbrev pub jobs_of : Settings → (node jobs : ℕ) → List (Event Job)
jobs_of p node zero = []
jobs_of p node (suc k) = jobs_of p node k ++ start_of p node (k + 1) ∷ []

-- the events at the start of this many nodes, from node 0 on, each with the jobs of the settings
abbrev pub all_jobs : Settings → (nodes : ℕ) → List (Event Job)
all_jobs p zero = []
all_jobs p (suc n) = all_jobs p n ++ jobs_of p n p.jobs

-- PHOLD as a machine: each event sends its job on, and there are no audits
abbrev pub phold : Settings → Machine Node Job Hop
phold p = record {
  nodes = p.nodes;
  initial = λ n. record { made = p.jobs };
  start_events = all_jobs p p.nodes;
  effect = λ s e. record {
    state = record { made = s.made + 1 };
    events = job_of p e.key.time e.target (s.made + 1) ∷ [];
    piece = record { time = e.key.time; node = e.target; receiver = receiver_of p e.target (s.made + 1) };
  };
  events_made = λ s. s.made;
  lookahead = p.lookahead;
  duration = p.duration;
  max_events = p.max_events;
  audit_times = [];
  audit = λ time account. record { time = time; node = 0; receiver = 0 };
}
