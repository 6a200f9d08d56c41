-- The members behind a run are as many as before it.
use Rattle.std.proofs.Common.{◌≡◌, ◌∙◌, sym, ap, subst, ℕ, List, ◌++◌, length, map, take}
use Rattle.std.proofs.Math.Seq.{take-append_seam}
use Rattle.std.proofs.lemmas.List.{length-map}
use Rattle.brace_pieces.specs.declared.setting.Setting.{Setting}
use Rattle.brace_crew.specs.declared.member.Member.{Member}
use Rattle.brace_crew.specs.Members.{course_of, opening_of}
use Rattle.brace_crew.specs.inner.Crews.{AreMembers, AreNew, AreEnded, Begin, all_numbers}
use Rattle.brace_crew.proofs.RunMembers.{are_later}

as_many : {A B : Type 0} (f : A → B) (after before : List A) → map f after ≡ map f before → length after ≡ length before
as_many f after before same = sym (length-map after f) ∙ ap length same ∙ length-map before f

-- of a vector that was written back whole all is kept
pub all_back : {A B : Type 0} (f : A → B) (after before rest : List A) (n : ℕ) → map f after ≡ map f before → n ≡ length before → take n (after ++ rest) ≡ after
all_back f after before rest n same is =
    ap (λ k. take k (after ++ rest)) (is ∙ sym (as_many f after before same)) ∙ take-append_seam after rest

-- the members that are lent to a run
pub begin_lent : {P : Type 0} (s : Setting) (publisher : P) (members lent : List (Member P))
    → lent ≡ members → AreMembers s publisher (all_numbers s) members → AreNew members
    → Begin s lent
begin_lent s publisher members lent value are new = record {
  publisher = publisher;
  are = subst (AreMembers s publisher (all_numbers s)) (sym value) are;
  first_turns = subst AreNew (sym value) new;
}

-- the members that were lent to a run, and that came back
module _ {P : Type 0} (before lent after rest : List (Member P)) (n : ℕ) (value : lent ≡ before) (many : length lent ≡ n)
    (settings : map (λ m. (course_of m).setting) after ≡ map (λ m. (course_of m).setting) lent) where
  same_setting : map (λ m. (course_of m).setting) after ≡ map (λ m. (course_of m).setting) before
  same_setting = settings ∙ ap (map (λ m. (course_of m).setting)) value

  is : take n (after ++ rest) ≡ after
  is = all_back (λ m. (course_of m).setting) after before rest n same_setting (sym many ∙ ap length value)

  pub members_back : (s : Setting) (publisher : P) (numbers : List ℕ) → AreMembers s publisher numbers before
      → map (λ m. (course_of m).actor) after ≡ map (λ m. (course_of m).actor) lent
      → map opening_of after ≡ map opening_of lent → AreMembers s publisher numbers (take n (after ++ rest))
  members_back s publisher numbers are actors opened = subst (AreMembers s publisher numbers) (sym is)
      (are_later s publisher numbers before after are same_setting (actors ∙ ap (map (λ m. (course_of m).actor)) value) (opened ∙ ap (map opening_of) value))

  -- of some publisher
  pub some_back : (s : Setting) (publisher : P) → AreMembers s publisher (all_numbers s) before
      → map (λ m. (course_of m).actor) after ≡ map (λ m. (course_of m).actor) lent
      → map opening_of after ≡ map opening_of lent → (q : P) × AreMembers s q (all_numbers s) (take n (after ++ rest))
  some_back s publisher are actors opened = (publisher, members_back s publisher (all_numbers s) are actors opened)

  pub ended_back : (s : Setting) (end : ℕ) → AreEnded s end after → AreEnded s end (take n (after ++ rest))
  ended_back s end = subst (AreEnded s end) (sym is)
