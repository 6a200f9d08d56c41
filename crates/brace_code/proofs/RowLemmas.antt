-- Lanes by their rows, lane by lane.
use Rattle.std.proofs.Common.{◌≡◌, ◌∙◌, sym, ap, subst, arith, ℕ, ◌<◌, ◌≤◌, ℤ, pos, List, map, length, take, slice_get, slice_index_or, Some}
use Rattle.std.specs.Prelude.{replicate}
use Rattle.std.proofs.lemmas.List.{ext_get_or, get_or-map, get_or-replicate, get_or-take, length-map, length-replicate, length-take-le}
use Rattle.std.proofs.lemmas.Option.{slice_get-get_or}
use Rattle.std.proofs.lemmas.List.FromFn.{get_or-map-range_with_len, length-map-range_with_len}
use Rattle.brace_code.specs.declared.lane.Lane.{Lane}
use Rattle.brace_code.specs.declared.lane.Row.{Row}
use Rattle.brace_code.specs.declared.lanes.Rows.{Rows}
use Rattle.brace_code.specs.Lanes.{row_at, words_at}
use Rattle.brace_code.specs.Columns.{ArePicked, no_lane}
use Rattle.brace_code.specs.RowLists.{lane_in, lanes_of, row_in}

module _ (count : ℕ) (this outer inner place : Rows) where
  pub long : length (lanes_of count this outer inner place) ≡ count
  long = length-map-range_with_len (lane_in this outer inner place) 0 count

  pub lane_at : (k : ℕ) (d : Lane) → k < count
      → slice_index_or (lanes_of count this outer inner place) k d
      ≡ lane_in this outer inner place k
  lane_at k d low =
      get_or-map-range_with_len (lane_in this outer inner place) 0 count k k d low (omega arith)

pub ruleset lane_rules = (long, lane_at)

-- lanes of the same rows
abbrev lane_with : ℕ → ℕ → ℕ → ℕ → Lane
lane_with this outer inner place =
    record { this = this; outer = outer; inner = inner; place = place }

same_lane : (a b c e w x y z : ℕ) → a ≡ w → b ≡ x → c ≡ y → e ≡ z
    → lane_with a b c e ≡ lane_with w x y z
same_lane a b c e w x y z p q r s =
    ap (λ (n : ℕ). lane_with n b c e) p ∙ ap (λ (n : ℕ). lane_with w n c e) q
    ∙ ap (λ (n : ℕ). lane_with w x n e) r ∙ ap (λ (n : ℕ). lane_with w x y n) s

module _ (lanes : List Lane) (count : ℕ) (this outer inner place : Rows)
    (is : lanes_of count this outer inner place ≡ lanes) where
  pub how_many : count ≡ length lanes
  how_many = sym (long count this outer inner place) ∙ ap (λ (l : List Lane). length l) is

  pub lane_got : (k a b c e : ℕ) → k < count → a ≡ row_in this k → b ≡ row_in outer k
      → c ≡ row_in inner k → e ≡ row_in place k → slice_get lanes k ≡ Some (lane_with a b c e)
  lane_got k a b c e low p q r s =
      let all = lanes_of count this outer inner place in
      let inside : k < length all =
      subst (λ (m : ℕ). k < m) (sym (long count this outer inner place)) low in
      ap (λ (l : List Lane). slice_get l k) (sym is) ∙ slice_get-get_or all k no_lane inside
      ∙ ap Some (lane_at count this outer inner place k no_lane low
      ∙ same_lane _ _ _ _ a b c e (sym p) (sym q) (sym r) (sym s))

  -- lanes of which each has the rows of the lane of a number
  pub lanes_picked : (numbers : List ℕ) (n : ℕ) (a b c e : Rows) → n ≡ length numbers
      → ((i : ℕ) → i < length numbers → slice_index_or numbers i 0 < count)
      → ((i : ℕ) → i < length numbers → row_in a i ≡ row_in this (slice_index_or numbers i 0))
      → ((i : ℕ) → i < length numbers → row_in b i ≡ row_in outer (slice_index_or numbers i 0))
      → ((i : ℕ) → i < length numbers → row_in c i ≡ row_in inner (slice_index_or numbers i 0))
      → ((i : ℕ) → i < length numbers → row_in e i ≡ row_in place (slice_index_or numbers i 0))
      → ArePicked lanes numbers (lanes_of n a b c e)
  lanes_picked numbers n a b c e many within p q r s =
      subst (λ (l : List Lane). ArePicked l numbers (lanes_of n a b c e)) is (record {
        long = long n a b c e ∙ many;
        each = λ i d low.
            let k = slice_index_or numbers i 0 in
            let inside : k < count = within i low in (
              subst (λ (m : ℕ). k < m) (sym (long count this outer inner place)) inside,
              lane_at n a b c e i d (omega (arith, many, low))
                  ∙ same_lane _ _ _ _ _ _ _ _ (p i low) (q i low) (r i low) (s i low)
                  ∙ sym (lane_at count this outer inner place k d inside),
            );
      })

-- ---- what lanes read at a row

module _ (lanes : List Lane) (row : Row) where
  -- a list that has the row of each lane
  pub rows_are : (rows : List ℕ) → length rows ≡ length lanes
      → ((k : ℕ) (d : Lane) → k < length lanes
      → slice_index_or rows k 0 ≡ row_at row (slice_index_or lanes k d))
      → rows ≡ map (row_at row) lanes
  rows_are rows long each = ext_get_or 0 rows (map (row_at row) lanes)
      (long ∙ sym (length-map lanes (row_at row)))
      (λ k low. each k no_lane (omega (arith, long, low))
      ∙ sym (get_or-map (row_at row) lanes k no_lane 0 (omega (arith, long, low))))

  module _ (column : List ℤ) where
    abbrev at_lane : Lane → ℤ
    at_lane = λ lane. slice_index_or column (row_at row lane) (pos 0)

    words_are : (words : List ℤ) → length words ≡ length lanes
        → ((k : ℕ) → k < length lanes
        → slice_index_or words k (pos 0) ≡ at_lane (slice_index_or lanes k no_lane))
        → words ≡ words_at column row lanes
    unfolding words_at
    words_are words long each = ext_get_or (pos 0) words (map at_lane lanes)
        (long ∙ sym (length-map lanes at_lane))
        (λ k low. each k (omega (arith, long, low))
        ∙ sym (get_or-map at_lane lanes k no_lane (pos 0) (omega (arith, long, low))))

    -- where the row of each lane is its number
    pub number_words : (words : List ℤ) (n : ℕ) → n ≡ length lanes → n ≤ length column
        → words ≡ take n column
        → ((k : ℕ) (d : Lane) → k < length lanes → k ≡ row_at row (slice_index_or lanes k d))
        → words ≡ words_at column row lanes
    number_words words n is le taken fits = taken ∙ words_are (take n column)
        (length-take-le n column le ∙ is)
        (λ k low. get_or-take n column k (pos 0) (omega (arith, is, low))
        ∙ ap (λ (j : ℕ). slice_index_or column j (pos 0)) (fits k no_lane low))

    -- where all have the same row
    pub same_words : (r : ℕ) (word : ℤ) → slice_index_or column r (pos 0) ≡ word
        → ((k : ℕ) (d : Lane) → k < length lanes → r ≡ row_at row (slice_index_or lanes k d))
        → replicate (length lanes) word ≡ words_at column row lanes
    same_words r word is fits = words_are (replicate (length lanes) word)
        (length-replicate (length lanes) word)
        (λ k low. get_or-replicate (length lanes) k word (pos 0) low ∙ sym is
        ∙ ap (λ (j : ℕ). slice_index_or column j (pos 0)) (fits k no_lane low))

    -- where the rows stand in a list
    pub each_words : (rows : List ℕ) → length rows ≡ length lanes
        → ((k : ℕ) (d : Lane) → k < length lanes
        → slice_index_or rows k 0 ≡ row_at row (slice_index_or lanes k d))
        → map (λ row. slice_index_or column row (pos 0)) rows ≡ words_at column row lanes
    each_words rows long fits =
        let read : ℕ → ℤ = λ j. slice_index_or column j (pos 0) in
        words_are (map read rows) (length-map rows read ∙ long)
        (λ k low. get_or-map read rows k 0 (pos 0) (omega (arith, long, low))
        ∙ ap read (fits k no_lane low))

-- the rows of lanes of some numbers
pub picked_row : (rows picked : List ℕ) (numbers : List ℕ)
    → picked ≡ map (λ number. slice_index_or rows number 0) numbers → (i : ℕ) → i < length numbers
    → slice_index_or picked i 0 ≡ slice_index_or rows (slice_index_or numbers i 0) 0
picked_row rows picked numbers is i low = ap (λ (l : List ℕ). slice_index_or l i 0) is
    ∙ get_or-map (λ number. slice_index_or rows number 0) numbers i 0 0 low

pub ruleset view_rules = (long, number_words)
