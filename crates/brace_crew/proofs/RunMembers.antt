-- The members of a run behind it: its parts, and its desk behind them.
use Rattle.std.proofs.Common.{◌≡◌, ◌∙◌, refl, sym, ap, subst, ℕ, ◌+◌, ◌<◌, ◌≤◌, List, [], ◌∷◌, ◌++◌, length, get_or, set, map, Option, Some, None, IfSome, All, arith, inl, inr}
use Rattle.std.specs.List.{range_with_len}
use Rattle.std.proofs.lemmas.Bool.{cases_eq}
use Rattle.std.proofs.lemmas.List.{map-append, same_from_push, length-map, length-set, get_or-set_same, get_or-set_other, set-get_or}
use Rattle.std.proofs.lemmas.List.Elements.{All-map, All-pop}
use Rattle.std.proofs.lemmas.List.FromFn.{length-map-range_with_len, get_or-map-range_with_len}
use Rattle.brace_pieces.specs.declared.setting.Setting.{Setting}
use Rattle.brace_pieces.specs.Settings.{parts}
use Rattle.brace_crew.specs.declared.member.Member.{Member}
use Rattle.brace_crew.specs.declared.member.Member.TheVariants as member
use Rattle.brace_desk.specs.Desks.{OnDesk, ends_before}
use Rattle.brace_crew.specs.Members.{course_of, opening_of, kept_of, IsAt, IsLast, WasUntold}
use Rattle.brace_crew.specs.inner.Crews.{AreParts, AreMembers, AreEnded, IsDeskOf, opening_in, all_numbers}
use Rattle.brace_crew.proofs.MemberLemmas.{of_all_map, row_more, part_opens, desk_opens}

-- ---- lists

all_front : {A : Type 0} (P : A → Type 0) (xs : List A) (x : A) → All P (xs ++ x ∷ []) → All P xs
all_front P xs x all = (All-pop P (xs ++ x ∷ []) xs (Some x) refl all).0

all_last : {A : Type 0} (P : A → Type 0) (xs : List A) (x : A) → All P (xs ++ x ∷ []) → P x
all_last P xs x all = (All-pop P (xs ++ x ∷ []) xs (Some x) refl all).1

mapped : {A B C : Type 0} (f : A → B) (g : B → C) (xs : List A) → map g (map f xs) ≡ map (λ x. g (f x)) xs
mapped f g [] = refl
mapped f g (x ∷ xs) = ap (λ ys. g (f x) ∷ ys) (mapped f g xs)

pub same_of : {A B C : Type 0} (f : A → B) (g : B → C) (xs ys : List A) → map f ys ≡ map f xs → map (λ x. g (f x)) ys ≡ map (λ x. g (f x)) xs
same_of f g xs ys same = sym (mapped f g ys) ∙ ap (map g) same ∙ mapped f g xs

-- what holds by what is the same of all holds still
pub all_same : {A B : Type 0} (f : A → B) (Q : B → Type 0) (xs ys : List A) → map f ys ≡ map f xs → All (λ x. Q (f x)) xs → All (λ x. Q (f x)) ys
all_same f Q xs ys same all = of_all_map f Q ys (subst (All Q) (sym same) (All-map Q f xs all))

-- what holds of all but one holds of all, where that is another now
pub others_set : {A : Type 0} (Q : A → Type 0) (xs : List A) (w : ℕ) (b : A) → w < length xs → Q b → ((k : ℕ) (d : A) → k < length xs → (k ≡ w → ⊥) → Q (get_or xs k d)) → All Q (set xs w b)
others_set Q xs w b low here others k d within = elim (cases_eq k w) [
  | inl is ↦ subst Q (sym (ap (λ j. get_or (set xs w b) j d) is ∙ get_or-set_same xs w b d low)) here
  | inr other ↦ subst Q (sym (get_or-set_other xs w k b d other)) (others k d (subst (λ n. k < n) (length-set xs w b) within) other)
]

pub set_back : {A : Type 0} (xs : List A) (w : ℕ) (a b : A) → a ≡ get_or xs w a → b ≡ a → set xs w b ≡ xs
set_back xs w a b at same = ap (set xs w) (same ∙ at) ∙ set-get_or xs w a

-- ---- what no turn changes

module _ {P : Type 0} where
  abbrev opening_kept : Option (P × ℕ) → Option P
  opening_kept None = None
  opening_kept (Some kept) = Some kept.0

  opens : (members : List (Member P)) → map opening_of members ≡ map opening_kept (map kept_of members)
  opens [] = refl
  opens (member.Part p ∷ members) = ap (λ os. None ∷ os) (opens members)
  opens (member.Desk d ∷ members) = ap (λ os. Some d.opening ∷ os) (opens members)

  pub same_openings : (before after : List (Member P)) → map kept_of after ≡ map kept_of before → map opening_of after ≡ map opening_of before
  same_openings before after same = opens after ∙ ap (map opening_kept) same ∙ sym (opens before)

  pub still_untold : (s : Setting) (n : ℕ) (before after : List (Member P)) → map kept_of after ≡ map kept_of before → All (WasUntold s n) before → All (WasUntold s n) after
  still_untold s n = all_same kept_of (λ o. IfSome o (λ kept. ends_before s n ≤ ends_before s kept.1))

-- ---- the members behind a run

module _ {P : Type 0} (s : Setting) (publisher : P) where
  -- members at a later time
  pub are_later : (numbers : List ℕ) (before after : List (Member P)) → AreMembers s publisher numbers before
      → map (λ m. (course_of m).setting) after ≡ map (λ m. (course_of m).setting) before
      → map (λ m. (course_of m).actor) after ≡ map (λ m. (course_of m).actor) before
      → map opening_of after ≡ map opening_of before → AreMembers s publisher numbers after
  are_later numbers before after are settings actors opened = record {
    settings = of_all_map (λ m. (course_of m).setting) (λ r. r ≡ s) after
        (subst (All (λ r. r ≡ s)) (sym settings) (All-map (λ r. r ≡ s) (λ m. (course_of m).setting) before are.settings));
    numbered = actors ∙ are.numbered;
    openings = opened ∙ are.openings;
  }

-- there are some
pub some_member : {P : Type 0} (s : Setting) (publisher : P) (members : List (Member P)) → AreMembers s publisher (all_numbers s) members → length members ≡ 0 → ⊥
some_member s publisher members are none =
    let many = sym (length-map members opening_of) ∙ ap length are.openings ∙ length-map-range_with_len (opening_in s publisher) 0 (parts s + 1) in
    omega (arith, many, none)

module _ {P : Type 0} (s : Setting) (publisher : P) (members : List (Member P)) (are : AreMembers s publisher (all_numbers s) members)
    (front : List (Member P)) (last : Member P) (is : members ≡ front ++ last ∷ []) where
  abbrev setting_of : Member P → Setting
  setting_of m = (course_of m).setting

  of_setting : All (λ m. setting_of m ≡ s) (front ++ last ∷ [])
  of_setting = subst (All (λ m. setting_of m ≡ s)) is are.settings

  abbrev number_of : Member P → ℕ
  number_of m = (course_of m).actor

  in_order : (map number_of front ≡ range_with_len 0 (parts s)) × (number_of last ≡ parts s)
  in_order =
      same_from_push (map number_of front) (range_with_len 0 (parts s)) (number_of last) (parts s)
      (sym (map-append number_of front (last ∷ [])) ∙ ap (map number_of) (sym is) ∙ are.numbered ∙ sym (row_more (parts s)))

  opened : (map opening_of front ≡ map (opening_in s publisher) (range_with_len 0 (parts s))) × (opening_of last ≡ opening_in s publisher (parts s))
  opened =
      same_from_push (map opening_of front) (map (opening_in s publisher) (range_with_len 0 (parts s))) (opening_of last) (opening_in s publisher (parts s))
      (sym (map-append opening_of front (last ∷ [])) ∙ ap (map opening_of) (sym is) ∙ are.openings
      ∙ ap (map (opening_in s publisher)) (sym (row_more (parts s))) ∙ map-append (opening_in s publisher) (range_with_len 0 (parts s)) (parts s ∷ []))

  opens_none : All (λ o. o ≡ None) (map (opening_in s publisher) (range_with_len 0 (parts s)))
  opens_none k d low =
      let within : k < parts s = subst (λ n. k < n) (length-map-range_with_len (opening_in s publisher) 0 (parts s)) low in
      get_or-map-range_with_len (opening_in s publisher) 0 (parts s) k k d within (omega arith) ∙ part_opens s publisher k within

  opens_desk : opening_of last ≡ Some publisher
  opens_desk = opened.1 ∙ desk_opens s publisher

  -- the last one is the desk
  pub no_part : opening_of last ≡ None → ⊥
  no_part none = let both : Some publisher ≡ None = sym opens_desk ∙ none in absurd (cc)

  pub desk_opening : (d : OnDesk P) → last ≡ member.Desk d → d.opening ≡ publisher
  desk_opening d desk = let opens : Some d.opening ≡ Some publisher = ap opening_of (sym desk) ∙ opens_desk in cc

  pub desk_setting : (d : OnDesk P) → last ≡ member.Desk d → d.course.setting ≡ s
  desk_setting d desk = ap setting_of (sym desk) ∙ all_last (λ m. setting_of m ≡ s) front last of_setting

  pub parts_behind : AreParts s front
  parts_behind = record {
    settings = all_front (λ m. setting_of m ≡ s) front last of_setting;
    numbers = in_order.0;
    are_parts = of_all_map opening_of (λ o. o ≡ None) front (subst (All (λ o. o ≡ None)) (sym opened.0) opens_none);
  }

  -- where the run ends
  module _ (n : ℕ) (ended : AreEnded s n members) where
    abbrev Last : Member P → Type 0
    Last = IsLast s ended.reached.before n

    all_last_there : All (IsLast s ended.reached.before n) (front ++ last ∷ [])
    all_last_there = subst (All (IsLast s ended.reached.before n)) is ended.last

    pub parts_at : All (IsAt n) front
    parts_at i d low = (all_front Last front last all_last_there i d low).0

    pub desk_behind : (d : OnDesk P) → last ≡ member.Desk d → IsDeskOf s n d
    desk_behind d desk = record {
      setting_is = ap setting_of (sym desk) ∙ all_last (λ m. setting_of m ≡ s) front last of_setting;
      reached = ended.reached;
      last = subst (IsLast s ended.reached.before n) desk (all_last Last front last all_last_there);
    }
