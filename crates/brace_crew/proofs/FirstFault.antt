-- What the parts of a run tell: where they tell faults and nothing else, the least of these is the run's first.
use Rattle.std.proofs.Common.{◌≡◌, ◌∙◌, refl, sym, ap, subst, ℕ, ◌<◌, ◌≤◌, List, [], flat_map, length, Bool, true, false, if◌then◌else◌, Option, Some, None, IfSome, slice_get, All, Contains, arith, ⊎_elim}
use Rattle.std.proofs.lemmas.Option.{slice_get_within}
use Rattle.std.proofs.lemmas.List.Elements.{All-contains, All-contains_itself, All-weaker, Contains-append_left, Contains-append_right}
use Rattle.brace_core.specs.Schedule.{front, turns}
use Rattle.brace_model.specs.declared.fault.Fault.{Fault}
use Rattle.brace_model.specs.declared.fault.Phase.{Phase}
use Rattle.brace_model.specs.declared.fault.Phase.TheVariants.{Query, Update, Birth}
use Rattle.brace_model.specs.FaultOrder.{comes_before, least}
use Rattle.brace_model.specs.Run.{first_fault}
use Rattle.brace_model.proofs.FaultLemmas.{one_before, least_is, least_none}
use Rattle.brace_invert.proofs.Sites.{none_within, only_one}
use Rattle.brace_pieces.specs.declared.setting.Setting.{Setting}
use Rattle.brace_pieces.specs.declared.setting.Stage.TheVariants as stage
use Rattle.brace_pieces.specs.declared.piece.Cause.{Cause}
use Rattle.brace_pieces.specs.declared.piece.Cause.TheVariants as cause
use Rattle.brace_pieces.specs.Settings.{LawfulSetting, parts}
use Rattle.brace_pieces.specs.Numbers.{NumbersFit}
use Rattle.brace_pieces.specs.Steps.{steps, schedule}
use Rattle.brace_pieces.specs.Continued.{on}
use Rattle.brace_pieces.specs.Finds.{queries_found, updates_found, found_at, stage_of, found_by}
use Rattle.brace_pieces.specs.Right.{IsTold, IsRightCause}
use Rattle.brace_pieces.specs.Halts.{StandsFirst, FollowsFirst}
use Rattle.brace_pieces.specs.Courses.{OnCourse, IsCourse, past_of}
use Rattle.brace_pieces.proofs.CourseLemmas.{StandsThere, stands_there}
use Rattle.brace_pieces.proofs.HaltLemmas.{halt_found}
use Rattle.brace_pieces.proofs.Origins.{of_map, of_flat_map, flat_map_of}
use Rattle.brace_pieces.proofs.OrderLemmas.{stands_once}
use Rattle.brace_pieces.proofs.FoundLemmas.{found_by_part, first_found}
use Rattle.brace_herd.specs.Works.{found_in_work}
use Rattle.brace_crew.specs.declared.member.Member.{Member}
use Rattle.brace_crew.specs.declared.member.Member.TheVariants as member
use Rattle.brace_crew.specs.Members.{course_of, IsAt}
use Rattle.brace_crew.specs.inner.Crews.{AreParts, fault_in, told_by, TellsAll, IsTelling}
use Rattle.brace_num.proofs.Rows.{row_has}

-- a lawful run
pub record IsRun (s : Setting) : Type 0 where
  pub lawful : LawfulSetting s
  pub numbers : NumbersFit s

-- a run that ends in a fault
pub record EndsIn (s : Setting) (g : Fault) : Type 0 where
  pub run : IsRun s
  pub first : first_fault s.job ≡ Some g

-- ---- faults that are told

-- what a part finds in a phase it finds in the work of the phase's step
in_work : (s : Setting) (t p : ℕ) (phase : Phase) (f : Fault) → Contains (found_by s t p phase) f → Contains (found_in_work s p (stage_of s phase) t) f
in_work s t p Query f has = Contains-append_left (queries_found s t p (on s t).agents) (if s.invert then updates_found s t p (on s t).agents else []) f has
in_work s t p Update f has = by_test s.invert refl
  where
    by_test : (b : Bool) → s.invert ≡ b → Contains (found_in_work s p (if b then stage.Border else stage.Effects) t) f
    by_test true is =
        let told = updates_found s t p (on s t).agents in
        Contains-append_right (queries_found s t p (on s t).agents) (if s.invert then told else []) f (subst (λ b. Contains (if b then told else []) f) (sym is) has)
    by_test false is = has
in_work s t p Birth f has = has

some_least : (faults : List Fault) (f : Fault) → Contains faults f → (g : Fault) × (least faults ≡ Some g)
some_least faults f has = (elim (least faults) as (λ o. least faults ≡ o → (g : Fault) × (o ≡ Some g)) [
  | Some g ↦ λ is. (g, refl)
  | None ↦ λ is. absurd (none_within ⊥ f (subst (λ faults. Contains faults f) ((least_none faults).0 is) has))
]) refl

pub told_follows : (s : Setting) → LawfulSetting s → (number : ℕ) (f : Fault) → IsTold s number f → FollowsFirst s f
told_follows s lawful number f told = halt_found s lawful f told.not_before told.within told.found

module _ (s : Setting) (g : Fault) (e : EndsIn s g) (number : ℕ) (f : Fault) (told : IsTold s number f) where
  follows : FollowsFirst s f
  follows = told_follows s e.run.lawful number f told

  first_is : follows.first ≡ g
  first_is = let both : Some follows.first ≡ Some g = sym follows.ends_there ∙ e.first in cc

  -- no fault that is told is less than the first one
  pub none_less : comes_before f g ≡ false
  none_less = subst (λ x. comes_before f x ≡ false) first_is follows.not_less

  -- nor is it found before that
  pub none_sooner : StandsFirst s (found_at s g) (found_at s f)
  none_sooner = subst (λ x. StandsFirst s (found_at s x) (found_at s f)) first_is follows.no_later

-- ---- a part that finds the first fault tells it

module _ (c : OnCourse) (o : Option Cause) (tells : TellsAll c o) (g : Fault) where
  -- it tells nothing that it had before
  nothing_before : EndsIn c.setting g → (k : ℕ) → slice_get (steps c.setting) k ≡ Some (found_at c.setting g) → (f : Fault) → IsTold c.setting k f → ⊥
  nothing_before e k stands f told =
      let h = none_sooner c.setting g e k f told in
      let there = stands_once c.setting h.place k (found_at c.setting g) h.stands_there stands in
      let low = told.behind.before in
      let least = h.none_before told.behind.place told.behind.stands_there in
      omega (arith, there, low, least)

  pub tells_first : EndsIn c.setting g → (k : ℕ) → slice_get (steps c.setting) k ≡ Some (found_at c.setting g) → k < c.number → Contains (found_by c.setting g.tick c.actor g.phase) g → o ≡ Some (cause.Fault g)
  tells_first e k stands low finds =
      let work = found_in_work c.setting c.actor (stage_of c.setting g.phase) g.tick in
      let has : Contains work g = in_work c.setting g.tick c.actor g.phase g finds in
      let (f, is) = some_least work g has in
      let (among, no_less) = (least_is work f).0 is in
      ⊎_elim (λ (told : o ≡ Some (cause.Fault f)).
      let right : IsTold c.setting c.number f = subst (λ v. IfSome v (IsRightCause c.setting c.number)) told tells.right in
      told ∙ ap (λ x. Some (cause.Fault x)) (one_before f g (none_less c.setting g e c.number f right) (All-contains (λ x. comes_before x f ≡ false) work g no_less has)))
      (λ (had : (d : Cause) × ((o ≡ Some d) × IsRightCause c.setting k d)).
      let (f, is) = tells.no_other had.0 had.1.0 in
      absurd (nothing_before e k stands f (subst (IsRightCause c.setting k) is had.1.1)))
      (tells.found k (found_at c.setting g) (omega (arith, low)) stands f is)

-- ---- all parts together

told_cause : (o : Option Cause) (f : Fault) → Contains (fault_in o) f → o ≡ Some (cause.Fault f)
told_cause (Some (cause.Fault g)) f has = only_one (λ x. Some (cause.Fault g) ≡ Some (cause.Fault x)) g f refl has
told_cause _ f has = none_within _ f has

-- the parts stand at the end of the first steps of their run, so many
there : (s : Setting) (n : ℕ) → n ≤ length (steps s) → (c : OnCourse) → IsCourse c → c.setting ≡ s → past_of c ≡ length (turns (front (schedule c.setting) n) c.actor) → StandsThere c n
there s n within c course of at = stands_there c course n (subst (λ r. n ≤ length (steps r)) (sym of) within) at

module _ {P : Type 0} (s : Setting) (n : ℕ) (within : n ≤ length (steps s)) where
  -- what a member tells is told in its run, before that end
  told_right : (m : Member P) → IsTelling m → IsAt n m → (course_of m).setting ≡ s → (f : Fault) → Contains (told_by m) f
      → (number : ℕ) × (IsTold s number f × ((k : ℕ) → k < number → k < length (steps s) → k < n))
  told_right (member.Part p) tells at of f has =
      let right : IsTold p.course.setting p.course.number f = subst (λ o. IfSome o (IsRightCause p.course.setting p.course.number)) (told_cause p.cause f has) tells.right in
      let early = (there s n within p.course tells.on_course of at).no_later in (
        p.course.number,
        (
          subst (λ r. IsTold r p.course.number f) of right,
          subst (λ r. (k : ℕ) → k < p.course.number → k < length (steps r) → k < n) of early,
        ),
      )
  told_right (member.Desk d) tells at of f has = absurd tells

  finder_tells : (m : Member P) → IsTelling m → IsAt n m → (course_of m).setting ≡ s → (g : Fault) → EndsIn s g → (k : ℕ) → slice_get (steps s) k ≡ Some (found_at s g) → k < n
      → Contains (found_by s g.tick (course_of m).actor g.phase) g → Contains (told_by m) g
  finder_tells (member.Part p) tells at of g e k stands low finds =
      let c = p.course in
      let behind = (there s n within p.course tells.on_course of at).behind in
      let cause_is = subst (λ r. EndsIn r g → slice_get (steps r) k ≡ Some (found_at r g) → Contains (found_by r g.tick c.actor g.phase) g → p.cause ≡ Some (cause.Fault g)) of
      (λ e stands finds. tells_first c p.cause tells g e k stands (omega (arith, low, behind)) finds) e stands finds in
      subst (λ o. Contains (fault_in o) g) (sym cause_is) (0, omega arith, refl)
  finder_tells (member.Desk d) tells at of g e k stands low finds = absurd tells

  module _ (members : List (Member P)) (are : AreParts s members) (telling : All IsTelling members) (at : All (IsAt n) members) where
    -- each fault that is told is told by one of them
    told_of : (f : Fault) → Contains (flat_map told_by members) f → (number : ℕ) × (IsTold s number f × ((k : ℕ) → k < number → k < length (steps s) → k < n))
    told_of f has =
        let by = of_flat_map told_by members f has in
        told_right by.from (All-contains IsTelling members by.from telling by.there) (All-contains (IsAt n) members by.from at by.there)
        (All-contains (λ m. (course_of m).setting ≡ s) members by.from are.settings by.there) f by.gives

    first_among : (g : Fault) → EndsIn s g → (number : ℕ) (f : Fault) → IsTold s number f → ((k : ℕ) → k < number → k < length (steps s) → k < n) → Contains (flat_map told_by members) g
    first_among g e number f told early =
        let found = found_by_part s e.run.lawful e.run.numbers g.tick g.phase g (first_found s e.run.lawful g e.first) in
        let by = of_map (λ m. (course_of m).actor) members found.part (subst (λ numbers. Contains numbers found.part) (sym are.numbers) (row_has 0 (parts s) found.part (omega arith) (omega (arith, found.is_part)))) in
        let actor : (course_of by.from).actor ≡ found.part = some_same _ _ by.made in
        let sooner = none_sooner s g e number f told in
        let before = told.behind.before in
        let least = sooner.none_before told.behind.place told.behind.stands_there in
        let low : sooner.place < n = early sooner.place (omega (arith, before, least)) (omega (arith, slice_get_within (steps s) sooner.place (found_at s g) sooner.stands_there)) in
        flat_map_of told_by members by.from g by.there
        (finder_tells by.from (All-contains IsTelling members by.from telling by.there) (All-contains (IsAt n) members by.from at by.there)
        (All-contains (λ m. (course_of m).setting ≡ s) members by.from are.settings by.there)
        g e sooner.place sooner.stands_there low (subst (λ p. Contains (found_by s g.tick p g.phase) g) (sym actor) found.finds))
      where
        some_same : (a b : ℕ) → Some a ≡ Some b → a ≡ b
        some_same a b is = cc

    -- the least fault that is told is the run's first
    pub first_told : IsRun s → (f : Fault) → least (flat_map told_by members) ≡ Some f → EndsIn s f
    first_told run f is =
        let told = flat_map told_by members in
        let among = ((least_is told f).0 is).0 in
        let (number, (right, early)) = told_of f among in
        let h = told_follows s run.lawful number f right in
        let g = h.first in
        let e : EndsIn s g = record { run = run; first = h.ends_there } in
        let low : All (λ x. comes_before x g ≡ false) told =
        All-weaker (Contains told) (λ x. comes_before x g ≡ false) (λ x has. let (n, (r, b)) = told_of x has in none_less s g e n x r) told (All-contains_itself told) in
        let least_too = (least_is told g).1 (first_among g e number f right early, low) in
        let both : Some g ≡ Some f = sym least_too ∙ is in
        let same : g ≡ f = cc in
        subst (EndsIn s) same e
