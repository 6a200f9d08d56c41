-- Sides of a test: which lanes are on them, and their words put back.
use Rattle.std.proofs.Common.{◌≡◌, ◌≢◌, ◌∙◌, refl, sym, ap, subst, arith, ℕ, ◌+◌, ◌<◌, ◌≤◌, ℤ, pos, Bool, true, false, if◌then◌else◌, List, [], ◌∷◌, ◌++◌, ⊎_elim, length, take, set, slice_index_or, add-zero}
use Rattle.std.proofs.lemmas.Bool.{cases_eq, cases_lt, true≢false, false≢true}
use Rattle.std.proofs.lemmas.List.{append-nil, get_or-set_same, get_or-set_other, get_or_append_left, get_or_at, length-append, length-set, take_more_set, take-set}
use Rattle.std.specs.Prelude.{not}
use Rattle.std.specs.Ordering.{int_eq}
use Rattle.brace_code.specs.declared.splitting.SideWords.{SideWords}
use Rattle.brace_code.specs.declared.splitting.SideWords.TheVariants.{Same, Each}
use Rattle.brace_code.specs.Columns.{AreMerged, AreNumbers, ArePut, HasWord, IsSame, IsSide, Puts, side}

-- a number written at the end of the front, and kept or not
pub put_kept : (out : List ℕ) (place number : ℕ) (keeps : Bool) → place < length out
    → take (place + (if keeps then 1 else 0)) (set out place number)
    ≡ take place out ++ (if keeps then number ∷ [] else [])
put_kept out place number true h = take_more_set out place number h
put_kept out place number false h = rw (add-zero, append-nil) (take-set out place number)

-- ---- the numbers of a side

module _ (on : Bool) (ts : List ℤ) where
  abbrev IsOn : ℕ → Type 0
  IsOn k = side on (slice_index_or ts k (pos 0)) ≡ true

  -- from a number to one that is the same
  moved : (m k : ℕ) → m ≡ k → IsOn m → IsOn k
  moved m k is held = subst IsOn is held

  pub no_numbers : AreNumbers on ts 0 []
  no_numbers = record {
    are = λ i low. absurd (omega (arith, low));
    all = λ k low held. absurd (omega (arith, low));
  }

  pub all_numbers : (n count : ℕ) (numbers : List ℕ) → n ≡ count → AreNumbers on ts n numbers
      → AreNumbers on ts count numbers
  all_numbers n count numbers is p = subst (λ (m : ℕ). AreNumbers on ts m numbers) is p

  -- one word more
  pub numbers_more : (n : ℕ) (before after : List ℕ) (keeps : Bool)
      → keeps ≡ side on (slice_index_or ts n (pos 0))
      → after ≡ before ++ (if keeps then n ∷ [] else []) → AreNumbers on ts n before
      → AreNumbers on ts (n + 1) after
  numbers_more n before after false off is p =
      let same : after ≡ before = is ∙ append-nil before in
      subst (λ (l : List ℕ). AreNumbers on ts (n + 1) l) (sym same) (record {
        are = λ i low. let (less, held) = p.are i low in (omega (arith, less), held);
        all = λ k low held. ⊎_elim (λ (l : k < n). p.all k l held)
            (λ (l : n ≤ k). let here : k ≡ n = omega (arith, low, l) in
            absurd (false≢true (off ∙ moved k n here held)))
            (cases_lt k n);
      })
  numbers_more n before after true kept is p =
      let long : length after ≡ length before + 1 =
      ap (λ (l : List ℕ). length l) is ∙ length-append before (n ∷ []) in
      let last : slice_index_or after (length before) 0 ≡ n =
      ap (λ (l : List ℕ). slice_index_or l (length before) 0) is
      ∙ get_or_at before n [] 0 (length before) refl in
      let front : (i : ℕ) → i < length before
      → slice_index_or after i 0 ≡ slice_index_or before i 0 =
      λ i l. ap (λ (l : List ℕ). slice_index_or l i 0) is
      ∙ get_or_append_left before (n ∷ []) 0 i l in
      record {
        are = λ i low. ⊎_elim
            (λ (l : i < length before). let (less, held) = p.are i l in
            subst (λ (m : ℕ). (m < n + 1) × IsOn m) (sym (front i l)) (omega (arith, less), held))
            (λ (l : length before ≤ i).
            let here : i ≡ length before = omega (arith, low, long, l) in
            let is : slice_index_or after i 0 ≡ n =
            ap (λ (m : ℕ). slice_index_or after m 0) here ∙ last in
            subst (λ (m : ℕ). (m < n + 1) × IsOn m) (sym is) (omega arith, sym kept))
            (cases_lt i (length before));
        all = λ k low held. ⊎_elim
            (λ (l : k < n). let (i, inside, at) = p.all k l held in
            (i, omega (arith, long, inside), front i inside ∙ at))
            (λ (l : n ≤ k). let here : k ≡ n = omega (arith, low, l) in
            (length before, omega (arith, long), last ∙ sym here))
            (cases_lt k n);
      }

pub ruleset number_rules = (no_numbers, all_numbers)

-- ---- words put in the places of some numbers

module _ (numbers : List ℕ) (words : List ℤ) where
  pub none_put : (old : List ℤ) → ArePut numbers words 0 old old
  none_put old = record {
    long = refl;
    put = λ i low. absurd (omega (arith, low));
    left = λ k none. refl;
  }

  -- one word more
  pub put_more : (n : ℕ) (old out : List ℤ) (place : ℕ) (word : ℤ) → n < length numbers
      → place ≡ slice_index_or numbers n 0 → word ≡ slice_index_or words n (pos 0)
      → place < length out → ArePut numbers words n old out
      → ArePut numbers words (n + 1) old (set out place word)
  put_more n old out place word low at is within p =
      let after = set out place word in
      record {
        long = length-set out place word ∙ p.long;
        put = λ i less.
            let x = slice_index_or numbers i 0 in
            ⊎_elim
            (λ (e : x ≡ place). (
              n,
              low,
              sym at ∙ sym e,
              ap (λ (m : ℕ). slice_index_or after m (pos 0)) e
                  ∙ get_or-set_same out place word (pos 0) within ∙ is,
            ))
            (λ (apart : x ≢ place).
            let before : i < n = ⊎_elim (λ (l : i < n). l)
            (λ (l : n ≤ i). let here : i ≡ n = omega (arith, less, l) in
            absurd (apart (ap (λ (m : ℕ). slice_index_or numbers m 0) here ∙ sym at)))
            (cases_lt i n) in
            subst (λ (w : ℤ). HasWord (Each numbers words) x w)
            (sym (get_or-set_other out place x word (pos 0) apart)) (p.put i before))
            (cases_eq x place);
        left = λ k none.
            let apart : k ≢ place = λ (e : k ≡ place). none n (omega arith) (sym at ∙ sym e) in
            get_or-set_other out place k word (pos 0) apart
            ∙ p.left k (λ i less. none i (omega (arith, less)));
      }

-- ---- both sides

-- a test is on one side
off-other : (on : Bool) (t : ℤ) → side on t ≡ true → side (not on) t ≡ false
off-other on t = by on (int_eq t (pos 0))
  where
    by : (on e : Bool) → (if e then not on else on) ≡ true
        → (if e then not (not on) else not on) ≡ false
    by true true held = absurd (false≢true held)
    by true false held = refl
    by false true held = refl
    by false false held = absurd (false≢true held)

puts-long : (s : SideWords) (old new : List ℤ) → Puts s old new → length new ≡ length old
puts-long (Same word) old new p = ap (λ (l : List ℤ). length l) p
puts-long (Each numbers words) old new p = p.long

module _ (on : Bool) (ts : List ℤ) (s : SideWords) (old new : List ℤ) (k : ℕ) where
  abbrev Here : Bool → Type 0
  Here b = side on (slice_index_or ts k (pos 0)) ≡ b

  -- where a test is not on a side, the word is left
  pub kept : IsSide on ts s → Puts s old new → Here false
      → slice_index_or new k (pos 0) ≡ slice_index_or old k (pos 0)
  kept = by s
    where
      by : (x : SideWords) → IsSide on ts x → Puts x old new → Here false
          → slice_index_or new k (pos 0) ≡ slice_index_or old k (pos 0)
      by (Same word) is p off = ap (λ (l : List ℤ). slice_index_or l k (pos 0)) p
      by (Each numbers words) is p off = p.left k (λ i low at.
          let held : Here true = moved on ts (slice_index_or numbers i 0) k at (is.are i low).1 in
          true≢false (sym held ∙ off))

  -- where it is, the word is the side's
  pub held : k < length ts → IsSide on ts s → Puts s old new → Here true
      → IsSame s (slice_index_or old k (pos 0)) → HasWord s k (slice_index_or new k (pos 0))
  held low = by s
    where
      by : (x : SideWords) → IsSide on ts x → Puts x old new → Here true
          → IsSame x (slice_index_or old k (pos 0)) → HasWord x k (slice_index_or new k (pos 0))
      by (Same word) is p here same = ap (λ (l : List ℤ). slice_index_or l k (pos 0)) p ∙ same
      by (Each numbers words) is p here same =
          let (i, inside, at) = is.all k low here in
          subst (λ (m : ℕ). HasWord (Each numbers words) m (slice_index_or new m (pos 0))) at
          (p.put i inside)

-- words that all lanes of a side have, and then the others in the places of their lanes
pub sides_merged : (ts base mid words : List ℤ) (ys ns : SideWords) → length base ≡ length ts
    → ((k : ℕ) → k < length ts → side true (slice_index_or ts k (pos 0)) ≡ true
    → IsSame ys (slice_index_or base k (pos 0)))
    → ((k : ℕ) → k < length ts → side false (slice_index_or ts k (pos 0)) ≡ true
    → IsSame ns (slice_index_or base k (pos 0)))
    → IsSide true ts ys → IsSide false ts ns → Puts ys base mid → Puts ns mid words
    → AreMerged ts ys ns words
sides_merged ts base mid words ys ns long first second left right p q = record {
  long = puts-long ns mid words q ∙ puts-long ys base mid p ∙ long;
  set = λ k low on.
      let off = off-other true (slice_index_or ts k (pos 0)) on in
      subst (λ (w : ℤ). HasWord ys k w) (sym (kept false ts ns mid words k right q off))
      (held true ts ys base mid k low left p on (first k low on));
  unset = λ k low on.
      let off = off-other false (slice_index_or ts k (pos 0)) on in
      let here = subst (IsSame ns) (sym (kept true ts ys base mid k left p off))
      (second k low on) in
      held false ts ns mid words k low right q on here;
}
