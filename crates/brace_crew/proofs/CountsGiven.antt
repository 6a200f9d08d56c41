-- What all parts of a run gave, where all went to its end.
use Rattle.std.proofs.Common.{◌≡◌, ◌∙◌, sym, ap, ap₂, subst, ℕ, ◌+◌, ◌<◌, ◌≤◌, List, take, take_all, length, get_or, sum_by, All, Contains, arith}
use Rattle.std.proofs.lemmas.List.Sums.{sum_by_more}
use Rattle.std.proofs.lemmas.List.Elements.{All-contains, Contains-get_or}
use Rattle.brace_pieces.specs.declared.setting.Setting.{Setting}
use Rattle.brace_pieces.specs.Steps.{steps}
use Rattle.brace_pieces.specs.Courses.{IsCourse}
use Rattle.brace_pieces.specs.declared.counts.Counts.{Counts}
use Rattle.brace_part.specs.Parts.{OnPart}
use Rattle.brace_crew.specs.declared.member.Member.{Member}
use Rattle.brace_crew.specs.declared.member.Member.TheVariants as member
use Rattle.brace_pieces.specs.Given.{summed, together, given_in, counts_up_to}
use Rattle.brace_crew.specs.Members.{course_of, IsAt}
use Rattle.brace_crew.specs.inner.Crews.{AreParts}
use Rattle.brace_pieces.proofs.CourseLemmas.{stands_there}

-- what a member gives in all steps of a run
abbrev pub gives : {P : Type 0} → Setting → Member P → Counts
gives s m = counts_up_to s (course_of m).actor (length (steps s))

one_sum : {A : Type 0} (f : A → ℕ) (xs : List A) (i : ℕ) (x : A) → i < length xs → get_or xs i x ≡ x → sum_by f (take (i + 1) xs) ≡ sum_by f (take i xs) + f x
one_sum f xs i x low is = sum_by_more f xs i x low ∙ ap (λ y. sum_by f (take i xs) + f y) is

pub one_summed : {A : Type 0} (f : A → Counts) (xs : List A) (i : ℕ) (x : A) → i < length xs → get_or xs i x ≡ x → summed f (take (i + 1) xs) ≡ together (summed f (take i xs)) (f x)
one_summed f xs i x low is = λ j. record {
  border = one_sum (λ x. (f x).border) xs i x low is j;
  effects = one_sum (λ x. (f x).effects) xs i x low is j;
  moved = one_sum (λ x. (f x).moved) xs i x low is j;
  handed = one_sum (λ x. (f x).handed) xs i x low is j;
}

-- behind the last step nothing more is given
ends_given : (s : Setting) (p number : ℕ) → length (steps s) ≤ number → counts_up_to s p number ≡ counts_up_to s p (length (steps s))
ends_given s p number high = ap (summed (given_in s p)) (take_all (number + 1) (steps s) (omega (arith, high)) ∙ sym (take_all (length (steps s) + 1) (steps s) (omega arith)))

module _ {P : Type 0} (s : Setting) (members : List (Member P)) (are : AreParts s members) (at_end : All (IsAt (length (steps s))) members) where
  pub part_gave : (m : Member P) → IsAt (length (steps s)) m → (course_of m).setting ≡ s → (p : OnPart) → m ≡ member.Part p → IsCourse p.course → p.counts ≡ counts_up_to p.course.setting p.course.actor p.course.number → p.counts ≡ gives s m
  part_gave m stands of p is on_course counted =
      let at_there = subst (IsAt (length (steps s))) is stands in
      let of_there : p.course.setting ≡ s = ap (λ n. (course_of n).setting) (sym is) ∙ of in
      let all : length (steps s) ≡ length (steps p.course.setting) = ap (λ r. length (steps r)) (sym of_there) in
      let behind = (stands_there p.course on_course (length (steps s)) (omega (arith, all)) at_there).behind in
      counted ∙ ends_given p.course.setting p.course.actor p.course.number (omega (arith, behind, all))
      ∙ ap (λ r. counts_up_to r p.course.actor (length (steps r))) of_there
      ∙ ap (gives s) (sym is)

  -- one more part
  pub one_given : (i : ℕ) (m : Member P) → i < length members → get_or members i m ≡ m → (p : OnPart) → m ≡ member.Part p → IsCourse p.course → p.counts ≡ counts_up_to p.course.setting p.course.actor p.course.number → (all : Counts)
      → all ≡ summed (gives s) (take i members) → together all p.counts ≡ summed (gives s) (take (i + 1) members)
  one_given i m low at p is on_course counted all so =
      let has = subst (Contains members) at (Contains-get_or members i m low) in
      ap₂ together so (part_gave m (All-contains (IsAt (length (steps s))) members m at_end has) (All-contains (λ m. (course_of m).setting ≡ s) members m are.settings has) p is on_course counted)
      ∙ sym (one_summed (gives s) members i m low at)
