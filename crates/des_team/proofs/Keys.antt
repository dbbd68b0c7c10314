-- The marks of outputs have the keys of their entries: if the lists of one reading of them can be merged, so can those of
use Rattle.std.proofs.Common.{◌≡◌, ◌∙◌, ℕ, ◌+◌, ◌<◌, List, [], ◌∷◌, ◌++◌, ap, arith, get_or, length, map, refl, subst, sym}
use Rattle.std.proofs.Math.ListN.{get_or-map as key_read}
use Rattle.std.proofs.lemmas.List.{get_or-map, length-map, map-append, same_lists}
use Rattle.std.specs.List.{AllByRecursion, AllPairs, flat_map}
use Rattle.std.specs.Prelude.{◌≢◌}
use Rattle.des_event.specs.declared.key.Key.{Key}
use Rattle.des_event.specs.KeyOrder.{InKeyOrder}
use Rattle.des_event.specs.Keys.{IsBefore}
use Rattle.des_team.specs.Entries.{Entry, entry_bytes, entry_key}
use Rattle.des_team.specs.Outputs.{AreTexts, CanMergeLists, joined, marks_from}
use Rattle.des_team.specs.declared.output.Mark.{Mark}
use Rattle.des_team.specs.declared.output.Output.{Output}

-- any other.

abbrev keys_of : List Entry → List Key
keys_of entries = map entry_key entries

abbrev mark_keys : Output → List Key
mark_keys o = map (λ (m : Mark). m.key) o.marks.items

abbrev list_keys : List (List Entry) → List (List Key)
list_keys lists = map keys_of lists

keys_marked : (start : ℕ) (entries : List Entry) → map (λ (m : Mark). m.key) (marks_from start entries) ≡ keys_of entries
keys_marked start [] = refl
keys_marked start (b ∷ entries) = ap (λ l. b.key ∷ l) (keys_marked (start + length (entry_bytes b)) entries)

-- an output, since there is one
some_output : (outputs : List Output) (k : ℕ) → k < length outputs → Output
some_output [] k lt = absurd (omega arith)
some_output (o ∷ outputs) k lt = o

same_keys : (lists : List (List Entry)) (outputs : List Output) → AreTexts lists outputs → list_keys lists ≡ map mark_keys outputs
same_keys lists outputs are =
    let many : length (list_keys lists) ≡ length lists = length-map lists keys_of in
    same_lists (list_keys lists) (map mark_keys outputs) (omega (arith, many, are.long, length-map outputs mark_keys)) (λ k d lt.
    let in_lists : k < length lists = omega (arith, lt, many) in
    let in_outputs : k < length outputs = omega (arith, in_lists, are.long) in
    let o : Output = some_output outputs k in_outputs in
    let at : keys_of (get_or lists k []) ≡ mark_keys (get_or outputs k o) =
    sym (ap (map (λ (m : Mark). m.key)) (are.each k o in_lists).marks_are ∙ keys_marked 0 (get_or lists k [])) in
    get_or-map keys_of lists k [] d in_lists ∙ at ∙ sym (get_or-map mark_keys outputs k o d in_outputs))

-- in key order by keys alone

abbrev AreInOrder : List Key → Type 0
AreInOrder keys = InKeyOrder (λ (k : Key). k) keys

all_to_keys : (P : Key → Type 0) (entries : List Entry) → AllByRecursion (λ (b : Entry). P b.key) entries → AllByRecursion P (keys_of entries)
all_to_keys P [] all = tt
all_to_keys P (b ∷ entries) all = (all.0, all_to_keys P entries all.1)

all_from_keys : (P : Key → Type 0) (entries : List Entry) → AllByRecursion P (keys_of entries) → AllByRecursion (λ (b : Entry). P b.key) entries
all_from_keys P [] all = tt
all_from_keys P (b ∷ entries) all = (all.0, all_from_keys P entries all.1)

order_to_keys : (entries : List Entry) → InKeyOrder entry_key entries → AreInOrder (keys_of entries)
order_to_keys [] o = tt
order_to_keys (b ∷ entries) o = (all_to_keys (IsBefore b.key) entries o.0, order_to_keys entries o.1)

order_from_keys : (entries : List Entry) → AreInOrder (keys_of entries) → InKeyOrder entry_key entries
order_from_keys [] o = tt
order_from_keys (b ∷ entries) o = (all_from_keys (IsBefore b.key) entries o.0, order_from_keys entries o.1)

lists_to_keys : (lists : List (List Entry)) → AllByRecursion (λ entries. InKeyOrder entry_key entries) lists
    → AllByRecursion AreInOrder (list_keys lists)
lists_to_keys [] o = tt
lists_to_keys (l ∷ lists) o = (order_to_keys l o.0, lists_to_keys lists o.1)

lists_from_keys : (lists : List (List Entry)) → AllByRecursion AreInOrder (list_keys lists)
    → AllByRecursion (λ entries. InKeyOrder entry_key entries) lists
lists_from_keys [] o = tt
lists_from_keys (l ∷ lists) o = (order_from_keys l o.0, lists_from_keys lists o.1)

-- no key twice

all_keys : (lists : List (List Entry)) → keys_of (joined lists) ≡ flat_map (λ (keys : List Key). keys) (list_keys lists)
all_keys [] = refl
all_keys (l ∷ lists) = map-append entry_key l (joined lists) ∙ ap (λ keys. keys_of l ++ keys) (all_keys lists)

apart_by_keys : (xs ys : List Entry) → keys_of xs ≡ keys_of ys → AllPairs (λ (a b : Entry). a.key ≢ b.key) ys → AllPairs (λ (a b : Entry). a.key ≢ b.key) xs
apart_by_keys xs ys same apart = λ i j d lt le e.
    let long : length xs ≡ length ys = sym (length-map xs entry_key) ∙ ap length same ∙ length-map ys entry_key in
    apart i j d lt (omega (arith, le, long)) (sym (at i d) ∙ e ∙ at j d)
  where
    at : (k : ℕ) (d : Entry) → (get_or xs k d).key ≡ (get_or ys k d).key
    at k d = sym (key_read entry_key xs k d) ∙ ap (λ l. get_or l k d.key) same ∙ key_read entry_key ys k d

pub can_merge : (lists others : List (List Entry)) (outputs : List Output) → AreTexts lists outputs → AreTexts others outputs
    → CanMergeLists others → CanMergeLists lists
can_merge lists others outputs are too can =
    let same : list_keys others ≡ list_keys lists = same_keys others outputs too ∙ sym (same_keys lists outputs are) in
    record {
      ordered = lists_from_keys lists (subst (AllByRecursion AreInOrder) same (lists_to_keys others can.ordered));
      apart = apart_by_keys (joined lists) (joined others) (all_keys lists ∙ ap (flat_map (λ (keys : List Key). keys)) (sym same) ∙ sym (all_keys others))
          can.apart;
    }
