-- The lookups in progress, node by node.
use Rattle.std.proofs.Common.{◌≡◌, ◌⊎◌, inl, inr, ℕ, ◌+◌, ◌==◌, ◌<◌, ◌&&◌, Bool, true, false, cond, not, List, [], ◌∷◌, ◌++◌, Vec, Global, filter, length, set, get_or, refl, sym, ap, ◌∙◌, arith, append-nil, count_by, Option, Some, None, IfNone}
use Rattle.std.specs.List.{All, list_any}
use Rattle.std.proofs.lemmas.Bool.{and_parts, cases_eq, eq-eqb, eqb-true, false≢true, ne_eqb}
use Rattle.std.proofs.lemmas.List.{get_or-set_other, get_or-set_same, length-set}
use Rattle.std.proofs.lemmas.List.Elements.{All-cons, All-filter, All-head, All-push, All-tail, filter-append}
use Rattle.std.proofs.lemmas.List.Sums.{sum_by-cons}
use Rattle.chord_event.specs.declared.line.Line.{Line}
use Rattle.chord_event.specs.declared.line.Line.TheVariants as line
use Rattle.chord_judge.specs.Judged.{first_alone, is_begin, is_ended_by, is_of, open_by, without_first}
use Rattle.chord_judge.specs.declared.row.Lookup.{Lookup}
use Rattle.chord_judge.specs.declared.told.Told.{Told}
use Rattle.chord_trace.specs.Kinds.{is_lookup}

-- the lists have the lookups of each node
abbrev pub HeldIn : List (Vec Lookup Global) → List Lookup → Type 0
HeldIn lists xs = (n : ℕ) (d : Vec Lookup Global) → n < length lists → (get_or lists n d).items ≡ filter (is_of n) xs

-- one list changes
pub held_set : (xs ys : List Lookup) (lists lists2 : List (Vec Lookup Global)) (m : ℕ) (v : Vec Lookup Global) → lists2 ≡ set lists m v → m < length lists
    → HeldIn lists xs → v.items ≡ filter (is_of m) ys → ((n : ℕ) → (n ≡ m → ⊥) → filter (is_of n) ys ≡ filter (is_of n) xs) → HeldIn lists2 ys
held_set xs ys lists lists2 m v is within held own others n d low = by_place (cases_eq n m)
  where
    by_place : (n ≡ m) ⊎ (n ≡ m → ⊥) → (get_or lists2 n d).items ≡ filter (is_of n) ys
    by_place (inl same) =
        ap (λ (l : List (Vec Lookup Global)). (get_or l n d).items) is
        ∙ ap (λ (k : ℕ). (get_or (set lists m v) k d).items) same
        ∙ ap (λ (w : Vec Lookup Global). w.items) (get_or-set_same lists m v d within)
        ∙ own ∙ ap (λ (k : ℕ). filter (is_of k) ys) (sym same)
    by_place (inr apart) =
        let long : length lists2 ≡ length lists = ap length is ∙ length-set lists m v in
        ap (λ (l : List (Vec Lookup Global)). (get_or l n d).items) is
        ∙ ap (λ (w : Vec Lookup Global). w.items) (get_or-set_other lists m n v d apart)
        ∙ held n d (omega (arith, low, long)) ∙ sym (others n apart)

-- a lookup begins
pub new_own : (xs : List Lookup) (x : Lookup) → filter (is_of x.asker) (xs ++ x ∷ []) ≡ filter (is_of x.asker) xs ++ x ∷ []
new_own xs x =
    filter-append (is_of x.asker) xs (x ∷ [])
    ∙ ap (λ (b : Bool). filter (is_of x.asker) xs ++ cond b (x ∷ []) []) (eq-eqb x.asker x.asker refl)

pub new_other : (xs : List Lookup) (x : Lookup) (n : ℕ) → (n ≡ x.asker → ⊥) → filter (is_of n) (xs ++ x ∷ []) ≡ filter (is_of n) xs
new_other xs x n apart =
    filter-append (is_of n) xs (x ∷ [])
    ∙ ap (λ (b : Bool). filter (is_of n) xs ++ cond b (x ∷ []) []) (ne_eqb x.asker n (λ s. apart (sym s)))
    ∙ append-nil (filter (is_of n) xs)

-- a lookup ends
first_same : (test : Lookup → Bool) (m : ℕ) (xs : List Lookup) → ((x : Lookup) → test x ≡ true → is_of m x ≡ true)
    → first_alone test xs ≡ first_alone test (filter (is_of m) xs)
first_same test m [] own = refl
first_same test m (x ∷ xs) own = by_node (first_same test m xs own) (is_of m x) refl (test x) refl
  where
    by_node : first_alone test xs ≡ first_alone test (filter (is_of m) xs) → (b : Bool) → is_of m x ≡ b → (t : Bool) → test x ≡ t
        → first_alone test (x ∷ xs) ≡ first_alone test (filter (is_of m) (x ∷ xs))
    by_node rest true e true f = rw (e, f) refl
    by_node rest true e false f = rw (e, f) rest
    by_node rest false e true f = absurd (false≢true (sym e ∙ own x f))
    by_node rest false e false f = rw (e, f) rest

without_same : (test : Lookup → Bool) (m : ℕ) (xs : List Lookup) → ((x : Lookup) → test x ≡ true → is_of m x ≡ true)
    → without_first test (filter (is_of m) xs) ≡ filter (is_of m) (without_first test xs)
without_same test m [] own = refl
without_same test m (x ∷ xs) own = by_node (without_same test m xs own) (is_of m x) refl (test x) refl
  where
    by_node : without_first test (filter (is_of m) xs) ≡ filter (is_of m) (without_first test xs) → (b : Bool) → is_of m x ≡ b → (t : Bool) → test x ≡ t
        → without_first test (filter (is_of m) (x ∷ xs)) ≡ filter (is_of m) (without_first test (x ∷ xs))
    by_node rest true e true f = rw (e, f) refl
    by_node rest true e false f = rw (e, f, e) (ap (λ (l : List Lookup). x ∷ l) rest)
    by_node rest false e true f = absurd (false≢true (sym e ∙ own x f))
    by_node rest false e false f = rw (e, f, e) rest

without_other : (test : Lookup → Bool) (n : ℕ) (xs : List Lookup) → ((x : Lookup) → test x ≡ true → is_of n x ≡ false)
    → filter (is_of n) (without_first test xs) ≡ filter (is_of n) xs
without_other test n [] other = refl
without_other test n (x ∷ xs) other = by_test (without_other test n xs other) (test x) refl
  where
    by_test : filter (is_of n) (without_first test xs) ≡ filter (is_of n) xs → (t : Bool) → test x ≡ t
        → filter (is_of n) (without_first test (x ∷ xs)) ≡ filter (is_of n) (x ∷ xs)
    by_test rest true f = rw (f, other x f) refl
    by_test rest false f = rw f (ap (λ (l : List Lookup). cond (is_of n x) (x ∷ l) l) rest)

ended_own : (node key time us : ℕ) (x : Lookup) → is_ended_by node key time us x ≡ true → is_of node x ≡ true
ended_own node key time us x h = (and_parts (x.asker == node) (x.key == key && x.begun + us == time) h).0

ended_other : (node key time us n : ℕ) → (n ≡ node → ⊥) → (x : Lookup) → is_ended_by node key time us x ≡ true → is_of n x ≡ false
ended_other node key time us n apart x h =
    let own : x.asker ≡ node = eqb-true x.asker node (ended_own node key time us x h) in ne_eqb x.asker n (λ s. apart (sym s ∙ own))

pub ended_first : (node key time us : ℕ) (xs ys : List Lookup) (x : Lookup) → ys ≡ filter (is_of node) xs → first_alone (is_ended_by node key time us) ys ≡ x ∷ []
    → first_alone (is_ended_by node key time us) xs ≡ x ∷ []
ended_first node key time us xs ys x is first =
    first_same (is_ended_by node key time us) node xs (ended_own node key time us) ∙ ap (first_alone (is_ended_by node key time us)) (sym is) ∙ first

pub ended_held : (node key time us : ℕ) (xs ys : List Lookup) (lists lists2 : List (Vec Lookup Global)) (v : Vec Lookup Global) → lists2 ≡ set lists node v
    → node < length lists → HeldIn lists xs → ys ≡ filter (is_of node) xs → v.items ≡ without_first (is_ended_by node key time us) ys
    → HeldIn lists2 (without_first (is_ended_by node key time us) xs)
ended_held node key time us xs ys lists lists2 v is within held own left =
    let test = is_ended_by node key time us in
    held_set xs (without_first test xs) lists lists2 node v is within held
    (left ∙ ap (without_first test) own ∙ without_same test node xs (ended_own node key time us))
    (λ n apart. without_other test n xs (ended_other node key time us n apart))

-- all lookups of a node end
cut_own : (m : ℕ) (xs : List Lookup) → [] ≡ filter (is_of m) (filter (λ x. not (is_of m x)) xs)
cut_own m [] = refl
cut_own m (x ∷ xs) = by_node (cut_own m xs) (is_of m x) refl
  where
    by_node : [] ≡ filter (is_of m) (filter (λ y. not (is_of m y)) xs) → (b : Bool) → is_of m x ≡ b
        → [] ≡ filter (is_of m) (filter (λ y. not (is_of m y)) (x ∷ xs))
    by_node rest true e = rw e rest
    by_node rest false e = rw (e, e) rest

pub cut_other : (m n : ℕ) → (n ≡ m → ⊥) → (xs : List Lookup) → filter (is_of n) (filter (λ x. not (is_of m x)) xs) ≡ filter (is_of n) xs
cut_other m n apart [] = refl
cut_other m n apart (x ∷ xs) = by_node (cut_other m n apart xs) (is_of m x) refl
  where
    by_node : filter (is_of n) (filter (λ y. not (is_of m y)) xs) ≡ filter (is_of n) xs → (b : Bool) → is_of m x ≡ b
        → filter (is_of n) (filter (λ y. not (is_of m y)) (x ∷ xs)) ≡ filter (is_of n) (x ∷ xs)
    by_node rest true e =
        let own : x.asker ≡ m = eqb-true x.asker m e in
        let other : is_of n x ≡ false = ne_eqb x.asker n (λ s. apart (sym s ∙ own)) in rw (e, other) rest
    by_node rest false e = rw e (ap (λ (l : List Lookup). cond (is_of n x) (x ∷ l) l) rest)

pub cut_held : (m : ℕ) (xs : List Lookup) (lists lists2 : List (Vec Lookup Global)) (v : Vec Lookup Global) → lists2 ≡ set lists m v → m < length lists
    → HeldIn lists xs → v.items ≡ [] → HeldIn lists2 (filter (λ x. not (is_of m x)) xs)
cut_held m xs lists lists2 v is within held none =
    held_set xs (filter (λ x. not (is_of m x)) xs) lists lists2 m v is within held (none ∙ cut_own m xs) (λ n apart. cut_other m n apart xs)

pub begun_held : (xs : List Lookup) (x : Lookup) (lists lists2 : List (Vec Lookup Global)) (v : Vec Lookup Global) (ys : List Lookup) → lists2 ≡ set lists x.asker v → x.asker < length lists
    → HeldIn lists xs → ys ≡ filter (is_of x.asker) xs → v.items ≡ ys ++ x ∷ [] → HeldIn lists2 (xs ++ x ∷ [])
begun_held xs x lists lists2 v ys is within held own more =
    held_set xs (xs ++ x ∷ []) lists lists2 x.asker v is within held
    (more ∙ ap (λ (l : List Lookup). l ++ x ∷ []) own ∙ sym (new_own xs x))
    (λ n apart. new_other xs x n apart)

-- what holds of all lookups in progress after a line
pub without_all : (P : Lookup → Type 0) (test : Lookup → Bool) (xs : List Lookup) → All P xs → All P (without_first test xs)
without_all P test [] h = h
without_all P test (x ∷ xs) h = by_test (without_all P test xs (All-tail P x xs h)) (test x) refl
  where
    by_test : All P (without_first test xs) → (t : Bool) → test x ≡ t → All P (without_first test (x ∷ xs))
    by_test rest true f = rw f (All-tail P x xs h)
    by_test rest false f = rw f (All-cons P x (without_first test xs) (All-head P x xs h) rest)

-- the lookups in progress after a line are those before it, some of these, or one more
pub open_cases : (P : List Lookup → Type 0) (l : Line) (number time node : ℕ) (xs : List Lookup) → P xs
    → ((test : Lookup → Bool) → P (without_first test xs)) → ((test : Lookup → Bool) → P (filter test xs))
    → ((key : ℕ) → is_lookup l ≡ true → P (xs ++ record { number = number; asker = node; key = key; begun = time } ∷ []))
    → P (open_by l number time node xs)
open_cases P (line.Join a) number time node xs h without some new = h
open_cases P (line.Member a) number time node xs h without some new = h
open_cases P line.JoinFailed number time node xs h without some new = h
open_cases P (line.Stranded a) number time node xs h without some new = h
open_cases P (line.Drop a b) number time node xs h without some new = h
open_cases P (line.Late a b) number time node xs h without some new = h
open_cases P (line.Timeout a) number time node xs h without some new = h
open_cases P (line.Lose a b) number time node xs h without some new = h
open_cases P (line.Again a b) number time node xs h without some new = h
open_cases P (line.Forget a) number time node xs h without some new = h
open_cases P (line.Rescue a) number time node xs h without some new = h
open_cases P line.Create number time node xs h without some new = h
open_cases P (line.Ask a b c) number time node xs h without some new = h
open_cases P (line.Seek a b c d e) number time node xs h without some new = h
open_cases P (line.Send a b) number time node xs h without some new = h
open_cases P (line.Busy a) number time node xs h without some new = h
open_cases P (line.Ignored a) number time node xs h without some new = h
open_cases P (line.Lookup key) number time node xs h without some new = new key refl
open_cases P (line.Found key owner hops timeouts us) number time node xs h without some new = without (is_ended_by node key time us)
open_cases P (line.Lost key hops timeouts us) number time node xs h without some new = without (is_ended_by node key time us)
open_cases P line.Crash number time node xs h without some new = some (λ lookup. not (is_of node lookup))
open_cases P line.Leave number time node xs h without some new = some (λ lookup. not (is_of node lookup))

pub askers_more : (nodes : ℕ) (l : Line) (number time node : ℕ) (xs : List Lookup) → node < nodes → All (λ x. x.asker < nodes) xs
    → All (λ x. x.asker < nodes) (open_by l number time node xs)
askers_more nodes l number time node xs there h =
    let P : Lookup → Type 0 = λ x. x.asker < nodes in
    open_cases (All P) l number time node xs h (λ test. without_all P test xs h) (λ test. All-filter test P xs h)
    (λ key _. All-push P xs (record { number = number; asker = node; key = key; begun = time }) h there)

pub begun_more : (told : Told) (lines : List Told) → count_by is_begin (told ∷ lines) ≡ cond (is_lookup told.line) 1 0 + count_by is_begin lines
begun_more told lines = sum_by-cons (λ (t : Told). cond (is_begin t) 1 0) told lines

-- the same, of some of the lookups
pub askers_filter : (nodes : ℕ) (test : Lookup → Bool) (xs : List Lookup) → All (λ x. x.asker < nodes) xs → All (λ x. x.asker < nodes) (filter test xs)
askers_filter nodes test xs h = All-filter test (λ x. x.asker < nodes) xs h

pub askers_without : (nodes : ℕ) (test : Lookup → Bool) (xs : List Lookup) → All (λ x. x.asker < nodes) xs → All (λ x. x.asker < nodes) (without_first test xs)
askers_without nodes test xs h = without_all (λ x. x.asker < nodes) test xs h

-- whether one of the lookups ends like this
pub any_first : (test : Lookup → Bool) (x : Lookup) (xs : List Lookup) → first_alone test xs ≡ x ∷ [] → list_any test xs ≡ true
any_first test x [] h = absurd (cc)
any_first test x (y ∷ ys) h = by_test (any_first test x ys) (test y) refl
  where
    by_test : (first_alone test ys ≡ x ∷ [] → list_any test ys ≡ true) → (t : Bool) → test y ≡ t → list_any test (y ∷ ys) ≡ true
    by_test rest true f = rw f refl
    by_test rest false f = rw f (rest (rw f at h))

pub any_none : (test : Lookup → Bool) (xs : List Lookup) → first_alone test xs ≡ [] → list_any test xs ≡ false
any_none test [] h = refl
any_none test (y ∷ ys) h = by_test (any_none test ys) (test y) refl
  where
    by_test : (first_alone test ys ≡ [] → list_any test ys ≡ false) → (t : Bool) → test y ≡ t → list_any test (y ∷ ys) ≡ false
    by_test rest true f = absurd (cc (rw f at h))
    by_test rest false f = rw f (rest (rw f at h))

pub ended_none : (node key time us : ℕ) (xs ys : List Lookup) → ys ≡ filter (is_of node) xs → first_alone (is_ended_by node key time us) ys ≡ []
    → first_alone (is_ended_by node key time us) xs ≡ []
ended_none node key time us xs ys is first =
    first_same (is_ended_by node key time us) node xs (ended_own node key time us) ∙ ap (first_alone (is_ended_by node key time us)) (sym is) ∙ first

pub on_none : {A : Type 0} (P Q : Type 0) (o : Option A) → (P → Q) → IfNone o P → IfNone o Q
on_none P Q None f h = f h
on_none P Q (Some x) f h = tt
