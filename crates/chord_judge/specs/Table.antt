-- The table of lookups, as CSV.
use Rattle.std.specs.Prelude.{ℕ, ◌-◌, Bool, true, false, List, [], ◌∷◌, ◌++◌, Option, Some, None, codes, decimal}
use Rattle.std.specs.List.{concat, flat_map}
use Rattle.chord_judge.specs.declared.row.End.{End}
use Rattle.chord_judge.specs.declared.row.End.TheVariants as ended
use Rattle.chord_judge.specs.declared.row.Row.{Row}
use Rattle.chord_scenario.specs.Setup.{Setup}
use Rattle.chord_scenario.specs.World.{name_of}

-- the heading of the table
abbrev pub heading : List ℕ
heading = codes "asker,key,begun_us,ended_us,us,hops,timeouts,named,right_owner,strict,defensible\n"

-- whether an answer is right, as a word
abbrev pub verdict_text : Bool → List ℕ
verdict_text true = codes "right"
verdict_text false = codes "wrong"

-- the name of the right owner, and nothing if there was no member
abbrev pub owner_text : Setup → Option ℕ → List ℕ
owner_text sc None = []
owner_text sc (Some owner) = name_of sc owner

-- the columns of a lookup that its asker's end cuts off: its end, its duration, and why it has no answer
abbrev pub cut_text : (begun at : ℕ) → (why : List ℕ) → List ℕ
cut_text begun at why = concat (decimal at ∷ codes "," ∷ decimal (at - begun) ∷ codes ",,,,," ∷ why ∷ codes "," ∷ why ∷ codes "\n" ∷ [])

-- the columns from the end of a lookup on: end, duration, hops, timeouts, named node, right owner and the two verdicts
abbrev pub end_text : Setup → (begun : ℕ) → End → List ℕ
end_text sc begun (ended.Found at answer) =
    concat (
    decimal at ∷ codes "," ∷ decimal (at - begun) ∷ codes "," ∷ decimal answer.hops ∷ codes "," ∷ decimal answer.timeouts ∷ codes ","
    ∷ name_of sc answer.named ∷ codes "," ∷ owner_text sc answer.right_owner ∷ codes "," ∷ [])
    ++ concat (verdict_text answer.strict ∷ codes "," ∷ verdict_text answer.defensible ∷ codes "\n" ∷ [])
end_text sc begun (ended.Lost at hops timeouts) =
    concat (decimal at ∷ codes "," ∷ decimal (at - begun) ∷ codes "," ∷ decimal hops ∷ codes "," ∷ decimal timeouts ∷ codes ",,,lost,lost" ∷ codes "\n" ∷ [])
end_text sc begun (ended.Crash at) = cut_text begun at (codes "cut-by-crash")
end_text sc begun (ended.Leave at) = cut_text begun at (codes "cut-by-leave")
end_text sc begun ended.Trace = codes ",,,,,,cut-by-end,cut-by-end\n"

-- the row of a lookup: its asker, its key, its begin, and how it ended
abbrev pub row_text : Setup → Row → List ℕ
row_text sc row =
    concat (name_of sc row.lookup.asker ∷ codes "," ∷ decimal row.lookup.key ∷ codes "," ∷ decimal row.lookup.begun ∷ codes "," ∷ [])
    ++ end_text sc row.lookup.begun row.end

-- the rows, one after another
abbrev pub rows_text : Setup → List Row → List ℕ
rows_text sc = flat_map (row_text sc)
