-- Rows of four words, read as their words.
use Rattle.std.proofs.Common.{◌≡◌, ℕ, ◌<◌, ◌+◌, ◌-◌, ◌%◌, ◌*◌, ◌/◌, ◌^◌, List, [], ◌∷◌, ◌++◌, length, map, slice_index, slice_index_or, bit_or, bit_xor, refl, subst, ap, ◌∙◌, arith}
use Rattle.std.proofs.lemmas.Simd.{pick_l_whole, get_or-zip2}
use Rattle.std.specs.List.{concat}
use Rattle.std.specs.Simd.Lanes.{zip2}
use Rattle.rand_chacha.specs.Block.{add32, xor_rotate, column_round, diagonal_round, quarter_round}

-- what holds of any four elements holds of each list of four
pub of_four : {A : Type 0} (d : A) (P : List A → Type 0) → ((w x y z : A) → P (w ∷ x ∷ y ∷ z ∷ [])) → (xs : List A) → length xs ≡ 4 → P xs
of_four d P p xs long = subst P (pick_l_whole d xs 4 long) (p _ _ _ _)

-- the same number in each lane
abbrev pub splat : ℕ → List ℕ
splat n = n ∷ n ∷ n ∷ n ∷ []

-- each lane's bits moved up, and those that fall out at the top put in at the bottom
abbrev Stirs : ℕ → List ℕ → List ℕ → Type 0
Stirs bits row other =
    let both = zip2 bit_xor row other in
    zip2 bit_or (zip2 (λ x n. x * 2 ^ n % 2 ^ 32) both (splat bits)) (zip2 (λ x n. x / 2 ^ n) both (splat (32 - bits)))
    ≡ zip2 (λ x y. xor_rotate x y bits) row other

pub stirs : (bits : ℕ) → 0 < bits → bits < 32 → (row other : List ℕ) → length row ≡ 4 → length other ≡ 4 → Stirs bits row other
stirs bits some few row other four four_others =
    let up : bits % 32 ≡ bits = omega arith in
    let down : (32 - bits) % 32 ≡ 32 - bits = omega arith in
    of_four 0 (λ row. Stirs bits row other)
    (λ a b c d. of_four 0 (Stirs bits (a ∷ b ∷ c ∷ d ∷ [])) (λ e f g h. rw (up, down) refl) other four_others) row four

-- four rows of four words
pub record Square (x : List (List ℕ)) : Type 0 where
  pub rows : length x ≡ 4
  pub lanes : map (λ row. length row) x ≡ splat 4

pub square : (a b c d : List ℕ) → length a ≡ 4 → length b ≡ 4 → length c ≡ 4 → length d ≡ 4 → Square (a ∷ b ∷ c ∷ d ∷ [])
square a b c d four_a four_b four_c four_d = record { rows = refl; lanes = rw (four_a, four_b, four_c, four_d) refl }

pub square_of : (x : List (List ℕ)) → length x ≡ 4
    → length (slice_index_or x 0 []) ≡ 4 → length (slice_index_or x 1 []) ≡ 4
    → length (slice_index_or x 2 []) ≡ 4 → length (slice_index_or x 3 []) ≡ 4 → Square x
square_of x rows four_a four_b four_c four_d =
    subst Square (pick_l_whole [] x 4 rows) (square _ _ _ _ four_a four_b four_c four_d)

-- what holds of any sixteen words in four rows
abbrev OfRows : (P : List (List ℕ) → Type 0) → Type 0
OfRows P = (a b c d e f g h i j k l m n o p : ℕ)
    → P ((a ∷ b ∷ c ∷ d ∷ []) ∷ (e ∷ f ∷ g ∷ h ∷ []) ∷ (i ∷ j ∷ k ∷ l ∷ []) ∷ (m ∷ n ∷ o ∷ p ∷ []) ∷ [])

-- holds of each square
pub of_square : (P : List (List ℕ) → Type 0) → OfRows P → (x : List (List ℕ)) → Square x → P x
of_square P all x square =
    of_four [] (λ x. map (λ row. length row) x ≡ splat 4 → P x)
    (λ first second third fourth lanes.
    of_four 0 (λ first. P (first ∷ second ∷ third ∷ fourth ∷ []))
    (λ a b c d. of_four 0 (λ second. P ((a ∷ b ∷ c ∷ d ∷ []) ∷ second ∷ third ∷ fourth ∷ []))
    (λ e f g h. of_four 0 (λ third. P ((a ∷ b ∷ c ∷ d ∷ []) ∷ (e ∷ f ∷ g ∷ h ∷ []) ∷ third ∷ fourth ∷ []))
    (λ i j k l. of_four 0 (λ fourth. P ((a ∷ b ∷ c ∷ d ∷ []) ∷ (e ∷ f ∷ g ∷ h ∷ []) ∷ (i ∷ j ∷ k ∷ l ∷ []) ∷ fourth ∷ []))
    (λ m n o p. all a b c d e f g h i j k l m n o p)
    fourth (ap (λ n. slice_index n 3) lanes))
    third (ap (λ n. slice_index n 2) lanes))
    second (ap (λ n. slice_index n 1) lanes))
    first (ap (λ n. slice_index n 0) lanes))
    x square.rows square.lanes

-- the words of a square, each looked up in its row
abbrev lane_words : List (List ℕ) → ℕ → List ℕ → List ℕ
lane_words x row rest =
    let lanes = slice_index_or x row [] in
    slice_index lanes 0 ∷ slice_index lanes 1 ∷ slice_index lanes 2 ∷ slice_index lanes 3 ∷ rest

pub looked_up : (x : List (List ℕ)) → length x ≡ 4
    → length (slice_index_or x 0 []) ≡ 4 → length (slice_index_or x 1 []) ≡ 4
    → length (slice_index_or x 2 []) ≡ 4 → length (slice_index_or x 3 []) ≡ 4
    → lane_words x 0 (lane_words x 1 (lane_words x 2 (lane_words x 3 []))) ≡ concat x
looked_up x rows four_a four_b four_c four_d =
    of_square (λ x. lane_words x 0 (lane_words x 1 (lane_words x 2 (lane_words x 3 []))) ≡ concat x)
    (λ a b c d e f g h i j k l m n o p. refl) x (square_of x rows four_a four_b four_c four_d)

-- the steps of a quarter round on whole rows
abbrev pub stirred : ℕ → List ℕ → List ℕ → List ℕ
stirred bits row other = zip2 (λ x y. xor_rotate x y bits) row other

abbrev pub added : List ℕ → List ℕ → List ℕ
added = zip2 (λ x y. (x + y) % 2 ^ 32)

abbrev pub mixed : (a b c d : List ℕ) → List (List ℕ)
mixed a b c d =
    let a1 = added a b in
    let d1 = stirred 16 d a1 in
    let c1 = added c d1 in
    let b1 = stirred 12 b c1 in
    let a2 = added a1 b1 in
    let d2 = stirred 8 d1 a2 in
    let c2 = added c1 d2 in
    a2 ∷ stirred 7 b1 c2 ∷ c2 ∷ d2 ∷ []

abbrev rows_mixed : List (List ℕ) → List (List ℕ)
rows_mixed x = mixed (slice_index_or x 0 []) (slice_index_or x 1 []) (slice_index_or x 2 []) (slice_index_or x 3 [])

-- they are a round on the columns, and leave rows of four
pub mixes : (x : List (List ℕ)) → Square x → concat (rows_mixed x) ≡ column_round (concat x)
unfolding column_round quarter_round
mixes = of_square (λ x. concat (rows_mixed x) ≡ column_round (concat x)) (λ a b c d e f g h i j k l m n o p. refl)

pub mixes_long : (x : List (List ℕ)) → Square x → map (λ row. length row) (rows_mixed x) ≡ splat 4
mixes_long = of_square (λ x. map (λ row. length row) (rows_mixed x) ≡ splat 4) (λ a b c d e f g h i j k l m n o p. refl)

-- a row turned: its lanes from a place on, and then those before
abbrev turn : List ℕ → (a b c d : ℕ) → List ℕ
turn row a b c d =
    let twice = row ++ row in
    slice_index twice a ∷ slice_index twice b ∷ slice_index twice c ∷ slice_index twice d ∷ []

-- the rows turned so that the diagonals are columns, and back
abbrev pub turned : List (List ℕ) → List (List ℕ)
turned x =
    slice_index_or x 0 [] ∷ turn (slice_index_or x 1 []) 1 2 3 0 ∷ turn (slice_index_or x 2 []) 2 3 0 1
    ∷ turn (slice_index_or x 3 []) 3 0 1 2 ∷ []

abbrev pub turned_back : List (List ℕ) → List (List ℕ)
turned_back x =
    slice_index_or x 0 [] ∷ turn (slice_index_or x 1 []) 3 0 1 2 ∷ turn (slice_index_or x 2 []) 2 3 0 1
    ∷ turn (slice_index_or x 3 []) 1 2 3 0 ∷ []

-- the same of the words of a state
abbrev pub words_back : List ℕ → List ℕ
words_back w =
    slice_index w 0 ∷ slice_index w 1 ∷ slice_index w 2 ∷ slice_index w 3
    ∷ slice_index w 7 ∷ slice_index w 4 ∷ slice_index w 5 ∷ slice_index w 6
    ∷ slice_index w 10 ∷ slice_index w 11 ∷ slice_index w 8 ∷ slice_index w 9
    ∷ slice_index w 13 ∷ slice_index w 14 ∷ slice_index w 15 ∷ slice_index w 12 ∷ []

pub back : (x : List (List ℕ)) → Square x → concat (turned_back x) ≡ words_back (concat x)
back = of_square (λ x. concat (turned_back x) ≡ words_back (concat x)) (λ a b c d e f g h i j k l m n o p. refl)

pub back_long : (x : List (List ℕ)) → Square x → map (λ row. length row) (turned_back x) ≡ splat 4
back_long = of_square (λ x. map (λ row. length row) (turned_back x) ≡ splat 4) (λ a b c d e f g h i j k l m n o p. refl)

-- a round on the columns of what was turned, turned back, is a round on the diagonals
pub diagonals : (x : List (List ℕ)) → Square x → words_back (column_round (concat (turned x))) ≡ diagonal_round (concat x)
unfolding column_round diagonal_round
diagonals = of_square (λ x. words_back (column_round (concat (turned x))) ≡ diagonal_round (concat x))
    (λ a b c d e f g h i j k l m n o p. refl)

-- the sums of two squares, row by row
abbrev pub sums : (x y : List (List ℕ)) → List (List ℕ)
sums x y =
    added (slice_index_or x 0 []) (slice_index_or y 0 []) ∷ added (slice_index_or x 1 []) (slice_index_or y 1 [])
    ∷ added (slice_index_or x 2 []) (slice_index_or y 2 []) ∷ added (slice_index_or x 3 []) (slice_index_or y 3 []) ∷ []

sums_of_words : (x y : List (List ℕ)) → Square x → Square y → concat (sums x y) ≡ added (concat x) (concat y)
sums_of_words x y square_x square_y =
    of_square (λ x. concat (sums x y) ≡ added (concat x) (concat y))
    (λ a b c d e f g h i j k l m n o p. of_square
    (λ y. let x = (a ∷ b ∷ c ∷ d ∷ []) ∷ (e ∷ f ∷ g ∷ h ∷ []) ∷ (i ∷ j ∷ k ∷ l ∷ []) ∷ (m ∷ n ∷ o ∷ p ∷ []) ∷ [] in
    concat (sums x y) ≡ added (concat x) (concat y))
    (λ a b c d e f g h i j k l m n o p. refl) y square_y) x square_x

sixteen_words : (x : List (List ℕ)) → Square x → length (concat x) ≡ 16
sixteen_words = of_square (λ x. length (concat x) ≡ 16) (λ a b c d e f g h i j k l m n o p. refl)

-- each word of the sums is the sum of two words
pub word_of_sums : (x y : List (List ℕ)) → Square x → Square y → (k : ℕ) → k < 16
    → slice_index (concat (sums x y)) k ≡ add32 (slice_index (concat x) k) (slice_index (concat y) k)
word_of_sums x y square_x square_y k below =
    let long_x = sixteen_words x square_x in
    let long_y = sixteen_words y square_y in
    ap (λ w. slice_index w k) (sums_of_words x y square_x square_y)
    ∙ get_or-zip2 (λ x y. (x + y) % 2 ^ 32) (concat x) (concat y) k 0 0 0 (omega arith) (omega arith)
