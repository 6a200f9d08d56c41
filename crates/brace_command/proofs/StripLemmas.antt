-- Numbers that were sorted do not fall, and there is one order of them, and one answer for them.
use Rattle.std.proofs.Common.{◌≡◌, ◌∙◌, refl, sym, ap, ap₂, subst, ℕ, zero, suc, ◌+◌, ℤ, ◌≤ℤ◌, int_le, List, [], ◌∷◌, length, get_or, map, true, false, inl, inr, Result, Ok, Err, arith}
use Rattle.std.specs.Prelude.{int_lt}
use Rattle.std.specs.List.Sorted.{IsPermutation, IsSorted}
use Rattle.std.specs.Ordering.{int_eq, int_cmp, is_lt}
use Rattle.std.proofs.lemmas.Bool.{cases_Bool, and_from}
use Rattle.std.proofs.lemmas.Bool.Decides.{Decides-int_eq}
use Rattle.std.proofs.lemmas.Int.{ints}
use Rattle.std.proofs.lemmas.List.{length-map}
use Rattle.std.proofs.lemmas.List.Sorted.{sum_by-IsPermutation, length_permutation}
use Rattle.brace_balance.specs.declared.kinds.Balance.{Balance}
use Rattle.brace_balance.specs.declared.kinds.Proof.{Proof}
use Rattle.brace_balance.specs.declared.kinds.Proof.TheVariants.{Empty, Stack, Posts}
use Rattle.brace_balance.specs.Loads.{never_falls, times, IsLeast}
use Rattle.brace_balance.specs.Fillings.{filled, IsProof}
use Rattle.brace_balance.specs.Texts.{plan_line, certificate}
use Rattle.brace_balance.proofs.Counts.{eq_holds, le_both, not_lt, count_yes, count_no}
use Rattle.brace_balance.proofs.Ordered.{tail_sorted, first_below}
use Rattle.brace_model.specs.declared.program.Program.{Program}
use Rattle.brace_model.specs.declared.world.Agent.{Agent}
use Rattle.brace_model.specs.World.{World, x_of}
use Rattle.brace_desk.specs.Sums.{place_along}
use Rattle.brace_io.specs.Shelves.{Files}
use Rattle.brace_command.specs.Balances.{IsAlongX, IsBalance}
use Rattle.brace_command.specs.Commands.{BalanceCommand}
use Rattle.brace_command.specs.Outcome.{Outcome, Refusal, FollowedBy, refused, agents_of, IsBalanced, BalanceOutcome}

-- ---- one order

not_lower : (x y : ℤ) → is_lt (int_cmp x y) ≡ false → int_lt x y ≡ false
not_lower x y h = elim (cases_Bool (int_lt x y)) [
  | inl lt ↦ absurd (let e = rw lt at h in cc)
  | inr isnt ↦ isnt
]

rest_sorted : (x : ℤ) (xs : List ℤ) → IsSorted int_cmp (x ∷ xs) → IsSorted int_cmp xs
rest_sorted x xs up k d low within =
    let next : suc k + 1 ≡ suc (k + 1) = omega arith in
    subst (λ (n : ℕ). is_lt (int_cmp (get_or (x ∷ xs) n d) (get_or (x ∷ xs) (suc k) d)) ≡ false) next
    (up (suc k) d (omega arith) (omega (arith, within)))

-- what a sort of numbers gives
pub sorted_never_falls : (xs : List ℤ) → IsSorted int_cmp xs → never_falls xs ≡ true
sorted_never_falls (x ∷ y ∷ xs) up =
    and_from (int_le x y) (never_falls (y ∷ xs)) (not_lt y x (not_lower y x (up zero x (omega arith) (omega arith))))
    (sorted_never_falls (y ∷ xs) (rest_sorted x (y ∷ xs) up))
sorted_never_falls _ up = refl

apart : (q x : ℤ) → int_lt q x ≡ true → int_eq x q ≡ false
apart q x lt = grind (arith, ints, Decides-int_eq x q, lt)

lower_still : (q x y : ℤ) → int_lt q x ≡ true → int_le x y ≡ true → int_lt q y ≡ true
lower_still q x y lt le = grind (arith, ints, lt, le)

-- a number below the first is not there
none_below : (q x : ℤ) (xs : List ℤ) → int_lt q x ≡ true → never_falls (x ∷ xs) ≡ true → times q (x ∷ xs) ≡ 0
none_below q x [] lt up = count_no (λ v. int_eq v q) x [] (apart q x lt)
none_below q x (y ∷ xs) lt up =
    count_no (λ v. int_eq v q) x (y ∷ xs) (apart q x lt)
    ∙ none_below q y xs (lower_still q x y lt (first_below x y xs up)) (tail_sorted x (y ∷ xs) up)

once : (x : ℤ) (xs : List ℤ) → times x (x ∷ xs) ≡ suc (times x xs)
once x xs = count_yes (λ v. int_eq v x) x xs (eq_holds x x refl)

heads : (x y : ℤ) (xs ys : List ℤ) → never_falls (x ∷ xs) ≡ true → never_falls (y ∷ ys) ≡ true
    → ((p : ℤ) → times p (x ∷ xs) ≡ times p (y ∷ ys)) → x ≡ y
heads x y xs ys u v same = elim (cases_Bool (int_lt x y)) [
  | inl lt ↦ absurd (omega (arith, same x, none_below x y ys lt v, once x xs))
  | inr ge ↦ elim (cases_Bool (int_lt y x)) [
    | inl lt ↦ absurd (omega (arith, same y, none_below y x xs lt u, once y ys))
    | inr le ↦ le_both x y (not_lt y x le) (not_lt x y ge)
  ]
]

tails : (x y p : ℤ) (xs ys : List ℤ) → x ≡ y → times p (x ∷ xs) ≡ times p (y ∷ ys) → times p xs ≡ times p ys
tails x y p xs ys e same = elim (cases_Bool (int_eq x p)) [
  | inl is ↦ omega (arith, same, count_yes (λ v. int_eq v p) x xs is, count_yes (λ v. int_eq v p) y ys (subst (λ (z : ℤ). int_eq z p ≡ true) e is))
  | inr isnt ↦ omega (arith, same, count_no (λ v. int_eq v p) x xs isnt, count_no (λ v. int_eq v p) y ys (subst (λ (z : ℤ). int_eq z p ≡ false) e isnt))
]

-- numbers that do not fall, each there as often as in the other list, are the same
one_by_counts : (xs ys : List ℤ) → never_falls xs ≡ true → never_falls ys ≡ true → ((p : ℤ) → times p xs ≡ times p ys) → xs ≡ ys
one_by_counts [] [] u v same = refl
one_by_counts [] (y ∷ ys) u v same = absurd (omega (arith, same y, once y ys))
one_by_counts (x ∷ xs) [] u v same = absurd (omega (arith, same x, once x xs))
one_by_counts (x ∷ xs) (y ∷ ys) u v same =
    let e : x ≡ y = heads x y xs ys u v same in
    ap₂ (λ (a : ℤ) (l : List ℤ). a ∷ l) e
    (one_by_counts xs ys (tail_sorted x xs u) (tail_sorted y ys v) (λ p. tails x y p xs ys e (same p)))

-- numbers have one order in which they do not fall
pub one_order : (numbers xs ys : List ℤ) → never_falls xs ≡ true → never_falls ys ≡ true → IsPermutation numbers xs → IsPermutation numbers ys → xs ≡ ys
one_order numbers xs ys u v p q =
    one_by_counts xs ys u v (λ n. sum_by-IsPermutation _ numbers xs p ∙ sym (sum_by-IsPermutation _ numbers ys q))

-- ---- where agents stand

-- what a sort of the places of agents gives
pub along_sorted : (program : Program) (agents : List Agent) (places xs : List ℤ) → places ≡ map (place_along x_of program) agents
    → IsPermutation places xs → IsSorted int_cmp xs → IsAlongX program agents xs
along_sorted program agents places xs are moved up = record {
  sorted = sorted_never_falls xs up;
  all = subst (λ (numbers : List ℤ). IsPermutation numbers xs) are moved;
}

-- as many numbers as agents
pub along_length : (program : Program) (agents : List Agent) (xs : List ℤ) → IsAlongX program agents xs → length xs ≡ length agents
along_length program agents xs along = length_permutation _ xs along.all ∙ length-map agents (place_along x_of program)

-- ---- one answer

one_load : (xs : List ℤ) (strips n m : ℕ) → IsLeast xs strips n → IsLeast xs strips m → n ≡ m
one_load xs strips n m a b =
    omega (arith, a.lowest b.cuts b.rising b.few, b.reached, b.lowest a.cuts a.rising a.few, a.reached)

both_lowest : (p q : ℤ) → p ≤ℤ q → q ≤ℤ p → p ≡ q
both_lowest p q le ge = grind (arith, ints, le, ge)

one_proof : (xs : List ℤ) (strips n : ℕ) (a b : Proof) → IsProof xs strips n a → IsProof xs strips n b → a ≡ b
one_proof xs strips n Empty Empty f g = refl
one_proof xs strips n (Stack p) Empty f g = absurd (f.0 g)
one_proof xs strips n (Posts ps) Empty f g = absurd (f.0 g)
one_proof xs strips n (Stack p) (Stack q) f g = ap Stack (both_lowest p q (f.1.least q g.1.stands) (g.1.least p f.1.stands))
one_proof xs strips n (Stack p) (Posts qs) f g = absurd (omega (arith, f.1.stands, g.1 p))
one_proof xs strips n (Posts ps) (Stack q) f g = absurd (omega (arith, g.1.stands, f.1 q))
one_proof xs strips n (Posts ps) (Posts qs) f g = ap Posts (f.2 ∙ sym g.2)
one_proof xs strips n Empty _ f g = absurd (g.0 f)

module _ (xs : List ℤ) (strips : ℕ) (a b : Balance) (f : IsBalance xs strips a) (g : IsBalance xs strips b) where
  one_least : a.load ≡ b.load
  one_least = one_load xs strips a.load b.load f.least g.least

  pub one_plan : plan_line a.cuts ≡ plan_line b.cuts
  one_plan = ap plan_line (f.cuts ∙ ap (λ (n : ℕ). filled n strips xs) one_least ∙ sym g.cuts)

  pub one_certificate : certificate a.load a.proof ≡ certificate b.load b.proof
  one_certificate =
      ap₂ (λ (n : ℕ) (p : Proof). certificate n p) one_least
      (one_proof xs strips b.load a.proof b.proof (subst (λ (n : ℕ). IsProof xs strips n a.proof) one_least f.proof) g.proof)

-- ---- the outcomes of balanced strips

-- an agent file that is refused
pub agents_refused : (files : Files) (balance : BalanceCommand) (program : Program) (r : Refusal) → agents_of files program balance.agents ≡ Err r
    → BalanceOutcome files balance program (refused r)
agents_refused files balance program r e =
    subst (λ (found : Result World Refusal). FollowedBy (IsBalanced balance.strips program) found (refused r)) (sym e) refl

-- strips over the world of an agent file
pub world_balanced : (files : Files) (balance : BalanceCommand) (program : Program) (world : World) (o : Outcome) → agents_of files program balance.agents ≡ Ok world
    → IsBalanced balance.strips program world o → BalanceOutcome files balance program o
world_balanced files balance program world o e is =
    subst (λ (found : Result World Refusal). FollowedBy (IsBalanced balance.strips program) found o) (sym e) is
