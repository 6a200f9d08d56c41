-- Where the words of lanes lie, and what they count.
use Rattle.std.specs.Prelude.{ℕ, ◌+◌, ◌*◌, ◌/◌, ◌%◌, List, max, slice_index}

-- the place of what actor a does toward actor b, among n actors
abbrev pub place : ℕ → ℕ → ℕ → ℕ
place n a b = a * n + b

-- the place of what the other does toward this one
abbrev pub opposite : ℕ → ℕ → ℕ
opposite n at = place n (at % n) (at / n)

-- how many words there are: two a lane, and one where there is no lane
abbrev pub word_count : ℕ → ℕ
word_count n = max 1 (n * n + n * n)

-- the word that counts what actor a put to actor b
abbrev pub put_word : ℕ → ℕ → ℕ → ℕ
put_word n a b = place n a b

-- the word that counts what actor a took from actor b
abbrev pub taken_word : ℕ → ℕ → ℕ → ℕ
taken_word n a b = n * n + place n a b

-- how many names of the lane from p to q were put, by the words
abbrev pub put_of : ℕ → List ℕ → ℕ → ℕ → ℕ
put_of n words p q = slice_index words (put_word n p q)

-- how many names of the lane from p to q were taken
abbrev pub taken_of : ℕ → List ℕ → ℕ → ℕ → ℕ
taken_of n words p q = slice_index words (taken_word n q p)

-- the slot of the name of a lane that so many come before: two a lane, by turns; a lane is told
-- here by its put word
abbrev pub slot : ℕ → ℕ → ℕ → ℕ
slot n lane k = (k % 2) * (n * n) + lane

-- how many slots there are
abbrev pub slot_count : ℕ → ℕ
slot_count n = n * n + n * n
