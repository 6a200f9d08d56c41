-- The lines of a text are the text, and where two texts differ first their lines do.
use Rattle.std.proofs.Common.{◌≡◌, ◌≢◌, ◌∙◌, refl, sym, ap, ap₂, subst, ℕ, suc, ◌+◌, ◌==◌, List, [], ◌∷◌, Bool, true, false, Option, Some, None, take, flat_map, Decides, arith}
use Rattle.std.specs.Str.{bytes_eq}
use Rattle.std.proofs.lemmas.Bool.{false≢true}
use Rattle.std.proofs.lemmas.Slice.Eq.{bytes_eq-Decides}
use Rattle.brace_audit.specs.Differs.{with_byte, lines, first_other, differs}
use Rattle.brace_audit.proofs.LineLemmas.{told}

abbrev joined : List (List ℕ) → List ℕ
joined ls = flat_map (λ l. l) ls

joined_with : (c : Bool) (b : ℕ) (ls : List (List ℕ)) → joined (with_byte c b ls) ≡ b ∷ joined ls
joined_with true b ls = refl
joined_with false b [] = refl
joined_with false b (l ∷ ls) = refl

-- the lines of a text, one behind another, are the text
pub joined_lines : (x : List ℕ) → joined (lines x) ≡ x
joined_lines [] = refl
joined_lines (b ∷ x) = joined_with (b == 10) b (lines x) ∙ ap (λ (t : List ℕ). b ∷ t) (joined_lines x)

-- so texts of the same lines are one
same_lines : (a b : List ℕ) → lines a ≡ lines b → a ≡ b
same_lines a b e = sym (joined_lines a) ∙ ap joined e ∙ joined_lines b

-- one line more that is the same
same_more : (n : ℕ) (t : Bool) (k l : List ℕ) (ks ls : List (List ℕ)) → Decides t (k ≡ l) → (first_other (n + 1) ks ls ≡ None → ks ≡ ls) → told n ks ls t ≡ None → k ∷ ks ≡ l ∷ ls
same_more n true k l ks ls d rest e = ap₂ (λ (x : List ℕ) (xs : List (List ℕ)). x ∷ xs) (d.0 refl) (rest e)
same_more n false k l ks ls d rest e = cc

all_same : (n : ℕ) (ks ls : List (List ℕ)) → first_other n ks ls ≡ None → ks ≡ ls
all_same n [] [] e = refl
all_same n [] (l ∷ ls) e = cc
all_same n (k ∷ ks) [] e = cc
all_same n (k ∷ ks) (l ∷ ls) e = same_more n (bytes_eq k l) k l ks ls (bytes_eq-Decides k l) (all_same (n + 1) ks ls) e

-- no line is another exactly where the texts are equal
pub no_line : (a b : List ℕ) → differs a b ≡ None → a ≡ b
no_line a b e = same_lines a b (all_same 1 (lines a) (lines b) e)

-- the first k lines are the same, and the next is another, or one of both lacks it
pub record Parted (m n k : ℕ) (ks ls : List (List ℕ)) : Type 0 where
  pub number : m ≡ n + k
  pub front : take k ks ≡ take k ls
  pub other : take (suc k) ks ≢ take (suc k) ls

abbrev Parting : ℕ → ℕ → List (List ℕ) → List (List ℕ) → Type 0
Parting m n ks ls = (k : ℕ) × Parted m n k ks ls

abbrev rest_of : List (List ℕ) → List (List ℕ)
rest_of [] = []
rest_of (l ∷ ls) = ls

abbrev head_of : List (List ℕ) → List ℕ
head_of [] = []
head_of (l ∷ ls) = l

abbrev line_or : ℕ → Option ℕ → ℕ
line_or n None = n
line_or n (Some m) = m

parts_here : (m n : ℕ) (ks ls : List (List ℕ)) → take 1 ks ≢ take 1 ls → Some n ≡ Some m → Parting m n ks ls
parts_here m n ks ls other e =
    let is : n ≡ m = ap (line_or n) e in
    (0, record { number = omega (arith, is); front = refl; other = other })

parts_later : (m n : ℕ) (k l : List ℕ) (ks ls : List (List ℕ)) → k ≡ l → Parting m (n + 1) ks ls → Parting m n (k ∷ ks) (l ∷ ls)
parts_later m n k l ks ls e (i, p) = (
  suc i,
  record {
    number = omega (arith, p.number);
    front = ap₂ (λ (x : List ℕ) (xs : List (List ℕ)). x ∷ xs) e p.front;
    other = λ same. p.other (ap rest_of same);
  },
)

parts_by : (m n : ℕ) (t : Bool) (k l : List ℕ) (ks ls : List (List ℕ)) → Decides t (k ≡ l) → (first_other (n + 1) ks ls ≡ Some m → Parting m (n + 1) ks ls) → told n ks ls t ≡ Some m → Parting m n (k ∷ ks) (l ∷ ls)
parts_by m n true k l ks ls d rest e = parts_later m n k l ks ls (d.0 refl) (rest e)
parts_by m n false k l ks ls d rest e =
    parts_here m n (k ∷ ks) (l ∷ ls) (λ same. false≢true (d.1 (ap head_of same))) e

parts : (m n : ℕ) (ks ls : List (List ℕ)) → first_other n ks ls ≡ Some m → Parting m n ks ls
parts m n [] [] e = cc
parts m n [] (l ∷ ls) e = parts_here m n [] (l ∷ ls) (λ same. cc) e
parts m n (k ∷ ks) [] e = parts_here m n (k ∷ ks) [] (λ same. cc) e
parts m n (k ∷ ks) (l ∷ ls) e = parts_by m n (bytes_eq k l) k l ks ls (bytes_eq-Decides k l) (parts m (n + 1) ks ls) e

-- the lines before the one that is told are the same, and with it they are not
pub lines_before : (a b : List ℕ) (n : ℕ) → differs a b ≡ Some (n + 1) → take n (lines a) ≡ take n (lines b)
lines_before a b n e =
    let (k, p) = parts (n + 1) 1 (lines a) (lines b) e in
    let is : k ≡ n = omega (arith, p.number) in
    subst (λ (i : ℕ). take i (lines a) ≡ take i (lines b)) is p.front

pub line_told : (a b : List ℕ) (n : ℕ) → differs a b ≡ Some (n + 1) → take (n + 1) (lines a) ≢ take (n + 1) (lines b)
line_told a b n e =
    let (k, p) = parts (n + 1) 1 (lines a) (lines b) e in
    let is : suc k ≡ n + 1 = omega (arith, p.number) in
    subst (λ (i : ℕ). take i (lines a) ≢ take i (lines b)) is p.other

-- lines are counted from 1
pub no_line_0 : (a b : List ℕ) → differs a b ≢ Some 0
no_line_0 a b e =
    let (k, p) = parts 0 1 (lines a) (lines b) e in omega (arith, p.number)
