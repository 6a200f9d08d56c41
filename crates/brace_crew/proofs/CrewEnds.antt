-- What a run comes to, by what its desk published and where it halted.
use Rattle.std.proofs.Common.{◌≡◌, ◌∙◌, refl, sym, ap, subst, ℕ, suc, ◌+◌, ◌-◌, ◌%◌, ◌<◌, ◌≤◌, List, [], ◌∷◌, ◌++◌, map, filter, take, take_all, take_at, length-take-le, length, Bool, true, false, if◌then◌else◌, Some, None, Ok, Err, slice_get, All, Contains, IsTrue, ◌==◌, ◌||◌, ◌⊎◌, append-nil, arith, inl, inr}
use Rattle.std.specs.List.{range_with_len}
use Rattle.std.specs.Result.{result_err}
use Rattle.std.proofs.lemmas.Bool.{cases_lt, or_right}
use Rattle.std.proofs.lemmas.Option.{slice_get_within, get_or_from_slice_get}
use Rattle.std.proofs.lemmas.List.Sums.{fold-append}
use Rattle.std.proofs.lemmas.List.Elements.{All-contains}
use Rattle.brace_io.specs.Counts.{Rose}
use Rattle.brace_model.specs.declared.fault.Fault.{Fault}
use Rattle.brace_model.specs.declared.fault.Phase.{Phase}
use Rattle.brace_model.specs.declared.fault.Phase.TheVariants.{Update}
use Rattle.brace_model.specs.Run.{world_after, first_fault}
use Rattle.brace_invert.proofs.Heard.{seen_in}
use Rattle.brace_pieces.specs.declared.setting.Setting.{Setting}
use Rattle.brace_pieces.specs.declared.setting.Stage.TheVariants as stage
use Rattle.brace_pieces.specs.declared.piece.Cause.{Cause}
use Rattle.brace_pieces.specs.declared.piece.Cause.TheVariants as cause
use Rattle.brace_pieces.specs.declared.piece.Shown.{Shown}
use Rattle.brace_pieces.specs.Settings.{parts, is_end, ends, shown_from, shown_ticks}
use Rattle.brace_pieces.specs.Steps.{step, steps, is_show}
use Rattle.brace_pieces.specs.Continued.{on}
use Rattle.brace_pieces.specs.Finds.{stage_of, found_at}
use Rattle.brace_pieces.specs.Right.{IsFaultless, IsShown, IsRightCause}
use Rattle.brace_pieces.specs.declared.counts.Counts.{Counts}
use Rattle.brace_pieces.specs.Given.{all_given}
use Rattle.brace_pieces.proofs.AllGave.{border_counted, effects_counted, moved_counted, handed_counted}
use Rattle.brace_desk.specs.declared.publisher.Publisher as publisher
use Rattle.brace_desk.specs.declared.publisher.PubFault.{PubFault}
use Rattle.brace_desk.specs.declared.publisher.PubFault.TheVariants as refusal
use Rattle.brace_crew.specs.declared.crew.CrewFault.{CrewFault}
use Rattle.brace_crew.specs.declared.crew.CrewFault.TheVariants as fault
use Rattle.brace_desk.specs.declared.desk.Lot.{Lot}
use Rattle.brace_desk.specs.Refusals.{tick_of}
use Rattle.brace_desk.specs.Calls.{Call, ticks_left, call_of, calls_to, calls, call_at, behind, IsCut, IsFront, Rises}
use Rattle.brace_crew.specs.Came.{HasRun, refused_by, CameBy, CameTo}
use Rattle.brace_desk.specs.Desks.{OnDesk, stop_of, whole_at, end_calls, ends_before, AreFaultless, StoppedAt, HasShown, HasHalted, HasRefused}
use Rattle.brace_crew.specs.declared.member.Member.TheVariants as member
use Rattle.brace_crew.specs.Members.{IsAt, WasUntold}
use Rattle.brace_crew.specs.Workers.{ends_until, EndsBehind}
use Rattle.brace_crew.specs.inner.Crews.{IsReached, IsDeskOf}
use Rattle.brace_desk.proofs.EndCalls.{few_shown, end_there, ends_all, whole_call, call_there}
use Rattle.brace_pieces.specs.Courses.{IsCourse}
use Rattle.brace_pieces.specs.Fronts.{steps_to}
use Rattle.brace_pieces.proofs.CourseLemmas.{StandsThere, stands_there}
use Rattle.brace_pieces.proofs.FrontLemmas.{steps_within, shown_few, shown_all, steps_over}
use Rattle.brace_pieces.proofs.EpochLemmas.{last_is_end}
use Rattle.brace_pieces.proofs.OrderLemmas.{shows_later}
use Rattle.brace_crew.proofs.FirstFault.{IsRun, EndsIn, none_sooner}
use Rattle.brace_crew.proofs.CallsMade.{StopsAt, ends_up_to, all_calls, same_from, calls_begin, calls_front, worlds_there, cut_of_run}
use Rattle.brace_desk.proofs.RiseLemmas.{rose_from, then_rises}
use Rattle.brace_num.proofs.Lists.{All-from_contains, in_filter, none_long, at_seam}
use Rattle.brace_num.proofs.Rows.{in_row, row_has}

-- ---- where a desk halted

all_taken : {A : Type 0} (es : List A) (c : ℕ) (x : A) → slice_get es c ≡ Some x → length (take c es) ≡ c
all_taken es c x is = length-take-le c es (omega (arith, slice_get_within es c x is))

-- a publisher was shown all ends before that of a step, in which a cause was told
pub record HaltedAt {P : Type 0} (of : publisher.Ghosts P) (s : Setting) (opening now : P) (lots : List Lot) (x : Cause) : Type 0 where
  pub number : ℕ
  pub end : ℕ
  pub stands : slice_get (steps s) number ≡ Some (step stage.Show end)
  pub is_behind : of.state now ≡ behind of s opening (take (ends_before s number) (end_calls s))
  pub faultless : AreFaultless s (ends_before s number)
  pub right : IsRightCause s number x
  pub brought : All (λ lot. IsShown s end lot.part lot.worlds) lots

halted_so : {P : Type 0} (of : publisher.Ghosts P) (s : Setting) (d : OnDesk P) (x : Cause) → d.course.setting ≡ s → (h : HasHalted of d x)
    → (at : HaltedAt of s d.opening d.publisher d.lots x) × (ends_before d.course.setting h.number ≡ ends_before s at.number)
halted_so of s d x is h =
    subst (λ r. (at : HaltedAt of r d.opening d.publisher d.lots x) × (ends_before d.course.setting h.number ≡ ends_before r at.number)) is (
      record {
        number = h.number;
        end = h.end;
        stands = h.stands;
        is_behind = h.shown.is_behind;
        faultless = h.shown.faultless;
        right = h.right;
        brought = h.brought;
      },
      refl,
    )

pub halted_at : {P : Type 0} (of : publisher.Ghosts P) (s : Setting) (d : OnDesk P) (x : Cause) → d.course.setting ≡ s → HasHalted of d x → HaltedAt of s d.opening d.publisher d.lots x
halted_at of s d x is h = (halted_so of s d x is h).0

no_show : (s : Setting) (phase : Phase) → is_show (stage_of s phase) ≡ false
no_show s Update = by_test s.invert
  where
    by_test : (b : Bool) → is_show (if b then stage.Border else stage.Effects) ≡ false
    by_test true = refl
    by_test false = refl
no_show s _ = refl

module _ {P : Type 0} (of : publisher.Ghosts P) (s : Setting) (run : IsRun s) (opening : P) where
  -- a publisher that was shown the first ends was made the first calls of the run
  made_first : (now : P) (count : ℕ) → AreFaultless s count → of.state now ≡ behind of s opening (take count (end_calls s)) → (front : IsFront of s opening now (calls s)) × (front.made ≡ length (take count (ends s)))
  made_first now count none is = (record { made = length (take count (ends s)); is_behind = is ∙ ap (behind of s opening) (sym (calls_begin s run count none)) }, refl)

  pub in_front : (now : P) (count : ℕ) → AreFaultless s count → of.state now ≡ behind of s opening (take count (end_calls s)) → IsFront of s opening now (calls s)
  in_front now count none is = (made_first now count none is).0

  -- where a fault was told the run ends in one, before the end that was next
  module _ (now : P) (lots : List Lot) (f g : Fault) (h : HaltedAt of s opening now lots (cause.Fault f)) (e : EndsIn s g) where
    pub stops_at : StopsAt s g (ends_before s h.number) h.end
    stops_at =
        let sooner = none_sooner s g e h.number f h.right in
        let low = h.right.behind.before in
        let first = sooner.none_before h.right.behind.place h.right.behind.stands_there in
        record {
          ended = e;
          faultless = h.faultless;
          next = end_there s h.number h.end h.stands;
          behind = shows_later s sooner.place h.number (found_at s g) h.end sooner.stands_there (no_show s g.phase) h.stands (omega (arith, low, first));
        }

    pub end_is : IsTrue (is_end s h.end)
    end_is =
        let there = end_there s h.number h.end h.stands in
        let within = slice_get_within (ends s) (ends_before s h.number) h.end there in
        (seen_in (is_end s) (range_with_len s.job.first (s.job.last + 1 - s.job.first)) h.end (ends_before s h.number, within, get_or_from_slice_get (ends s) (ends_before s h.number) h.end h.end there)).1

    pub from_same : shown_from s h.end ≡ shown_from s (g.tick + 1)
    from_same = same_from s g (ends_before s h.number) h.end stops_at

    -- and all that is left to be shown is the worlds since the end before
    module _ (worlds : List Shown) (are : worlds ≡ map (whole_at s) (ticks_left s g.tick)) where
      abbrev published : List Call
      published = take (ends_before s h.number) (end_calls s)

      rest_is : calls s ≡ published ++ call_of g.tick worlds
      rest_is = all_calls s g (ends_before s h.number) h.end stops_at ∙ ap (λ ws. published ++ call_of g.tick ws) (sym are)

      one_call : (x : Shown) (xs : List Shown) → worlds ≡ x ∷ xs → call_of g.tick worlds ≡ record { tick = g.tick; worlds = worlds } ∷ []
      one_call x xs is = ap (call_of g.tick) is ∙ ap (λ ws. record { tick = g.tick; worlds = ws } ∷ []) (sym is)

      pub nothing_left : worlds ≡ [] → of.state now ≡ behind of s opening (calls s)
      nothing_left none = h.is_behind ∙ ap (behind of s opening) (sym (rest_is ∙ ap (λ ws. published ++ call_of g.tick ws) none ∙ append-nil published))

      pub rest_shown : (x : Shown) (xs : List Shown) → worlds ≡ x ∷ xs → (last : P) → of.state last ≡ of.after (of.state now) s g.tick worlds → of.state last ≡ behind of s opening (calls s)
      rest_shown x xs is last done =
          done ∙ ap (λ v. of.after v s g.tick worlds) h.is_behind
          ∙ sym (ap (behind of s opening) (rest_is ∙ ap (λ cs. published ++ cs) (one_call x xs is))
          ∙ fold-append (λ v c. of.after v s c.tick c.worlds) (of.state opening) published (record { tick = g.tick; worlds = worlds } ∷ []))

      pub rest_cut : (x : Shown) (xs : List Shown) → worlds ≡ x ∷ xs → Rises of opening now
          → (last : P) (y : PubFault) → of.cut (of.state now) s g.tick worlds y (of.state last)
          → (y ≡ refusal.NoMemory → ⊥)
          → ((k : ℕ) → tick_of y ≡ Some k → (k ≡ g.tick) × Rose (of.saves now) (of.saves last))
          → (y ≡ refusal.Write → Rose (of.writes now) (of.writes last)) → (cut : IsCut of s opening last (calls s) y) × (cut.made ≡ ends_before s h.number)
      rest_cut x xs is rises last y cut found saved written =
          let all = rest_is ∙ ap (λ cs. published ++ cs) (one_call x xs is) in
          let writes = rises.writes_rise in
          let saves = rises.saves_rise in
          let made = front_length published (record { tick = g.tick; worlds = worlds }) in (
            record {
              made = length published;
              call = record { tick = g.tick; worlds = worlds };
              is_next = ap (λ cs. slice_get cs (length published)) all ∙ made.0;
              is_cut = subst (λ v. of.cut v s g.tick worlds y (of.state last)) (h.is_behind ∙ ap (behind of s opening) (sym (ap (take (length published)) all ∙ made.1))) cut;
              found_memory = found;
              is_named = λ k named. (saved k named).0;
              written = λ named. rose_from _ _ _ writes (written named);
              saved = λ k named. rose_from _ _ _ saves (saved k named).1;
            },
            all_taken (end_calls s) (ends_before s h.number) (whole_call s h.end) (call_there s h.number h.end h.stands),
          )
        where
          front_length : (cs : List Call) (c : Call) → (slice_get (cs ++ c ∷ []) (length cs) ≡ Some c) × (take (length cs) (cs ++ c ∷ []) ≡ cs)
          front_length cs c = (at_seam cs c [], take_at cs (c ∷ []) (length cs) refl)

-- ---- what is left is shown at the next end

left_shown : (s : Setting) (end tick : ℕ) → tick < end → shown_from s end ≡ shown_from s (tick + 1) → (t : ℕ) → Contains (ticks_left s tick) t → Contains (shown_ticks s end) t
left_shown s end tick high same t has =
    let from = shown_from s (tick + 1) in
    let (in_row_there, passes) = seen_in (λ t. t % s.job.every == 0) (range_with_len from (tick + 1 - from)) t has in
    let (low, below) = in_row from (tick + 1 - from) t in_row_there in
    let to = shown_from s end in
    in_filter (λ t. (t == end) || (t % s.job.every == 0)) (range_with_len to (end + 1 - to)) t (row_has to (end + 1 - to) t (omega (arith, same, low)) (omega (arith, same, low, below, high)))
    (or_right (t == end) (t % s.job.every == 0) passes)

pub left_all : (s : Setting) (end tick : ℕ) → tick < end → shown_from s end ≡ shown_from s (tick + 1) → All (Contains (shown_ticks s end)) (ticks_left s tick)
left_all s end tick high same = All-from_contains (Contains (shown_ticks s end)) (ticks_left s tick) (left_shown s end tick high same)

-- ---- a run without a fault

module _ {P : Type 0} (of : publisher.Ghosts P) (s : Setting) (run : IsRun s) (none : AreFaultless s (length (ends s))) where
  last_faultless : s.job.first ≤ s.job.last → (p : ℕ) → p < parts s → IsFaultless s s.job.last p
  last_faultless up = All-contains (λ e. (p : ℕ) → p < parts s → IsFaultless s e p) (ends s) s.job.last (subst (All (λ e. (p : ℕ) → p < parts s → IsFaultless s e p)) (take_all (length (ends s)) (ends s) (omega arith)) none) (last_is_end s up)

  pub all_there : (t : ℕ) → s.job.first ≤ t → t ≤ s.job.last → world_after s.job (t - s.job.first) ≡ Ok (on s t)
  all_there t low high = worlds_there s run s.job.last (last_faultless (omega (arith, low, high))) t low high

  pub no_fault : first_fault s.job ≡ None
  unfolding world_after
  no_fault = elim (cases_lt s.job.last s.job.first) [
    | inl down ↦ let no_tick : s.job.last - s.job.first ≡ 0 = omega (arith, down) in ap (λ n. result_err (world_after s.job n)) no_tick
    | inr up ↦ ap result_err (all_there s.job.last (omega (arith, up)) (omega arith))
  ]

  pub all_shown : (opening now : P) → of.state now ≡ behind of s opening (take (length (ends s)) (end_calls s)) → of.state now ≡ behind of s opening (calls s)
  all_shown opening now is =
      is ∙ ap (behind of s opening) (calls_front s run (length (ends s)) none ∙ ap (map (call_at s)) (take_all (length (ends s)) (ends s) (omega arith)) ∙ sym (ap (calls_to s) no_fault))

-- ---- what a desk tells where its run ends

module _ {P : Type 0} (of : publisher.Ghosts P) (s : Setting) (d : OnDesk P) (of_run : d.course.setting ≡ s) where
  shown_so : (count : ℕ) → HasShown of d count → (of.state d.publisher ≡ behind of s d.opening (take count (end_calls s))) × AreFaultless s count
  shown_so count h = subst (λ r. (of.state d.publisher ≡ behind of r d.opening (take count (end_calls r))) × AreFaultless r count) of_run (h.is_behind, h.faultless)

  refused_so : (x : PubFault) (h : HasRefused of d x) → (cut : IsCut of s d.opening d.publisher (end_calls s) x) × (AreFaultless s (cut.made + 1) × (cut.made ≡ h.cut_there.made))
  refused_so x h = subst (λ r. (cut : IsCut of r d.opening d.publisher (end_calls r) x) × (AreFaultless r (cut.made + 1) × (cut.made ≡ h.cut_there.made))) of_run (h.cut_there, (h.faultless, refl))

  module _ (run : IsRun s) where
    pub has_run : HasShown of d (length (ends s)) → (counts : Counts) → counts ≡ all_given s → HasRun of s d.opening d.publisher counts
    has_run h counts are =
        let (shown, none) = shown_so (length (ends s)) h in
        let worlds = all_there of s run none in
        record {
          no_fault = no_fault of s run none;
          is_behind = all_shown of s run none d.opening d.publisher shown;
          border = ap (λ c. c.border) are ∙ border_counted s run.lawful run.numbers worlds;
          effects = ap (λ c. c.effects) are ∙ effects_counted s run.lawful run.numbers worlds;
          moved = ap (λ c. c.moved) are ∙ moved_counted s run.lawful run.numbers worlds;
          handed = ap (λ c. c.handed) are ∙ handed_counted s run.lawful run.numbers worlds;
        }

    pub shown_front : (count : ℕ) → HasShown of d count → IsFront of s d.opening d.publisher (calls s)
    shown_front count h = let (shown, none) = shown_so count h in in_front of s run d.opening d.publisher count none shown

    pub halted_front : (x : Cause) → HasHalted of d x → IsFront of s d.opening d.publisher (calls s)
    halted_front x h =
        let there = halted_at of s d x of_run h in
        in_front of s run d.opening d.publisher (ends_before s there.number) there.faultless there.is_behind

    -- a publisher that refused refused a call of the run, behind as many
    refused_made : (x : PubFault) (h : HasRefused of d x) → (cut : IsCut of s d.opening d.publisher (calls s) x) × (cut.made ≡ h.cut_there.made)
    refused_made x h =
        let (cut, (none, same)) = refused_so x h in
        let (one, as_many) = cut_of_run s run of d.opening d.publisher x cut none in
        (one, as_many ∙ same)

    pub refused_cut : (x : PubFault) → HasRefused of d x → IsCut of s d.opening d.publisher (calls s) x
    refused_cut x h = (refused_made x h).0

    -- and that is what the run came to
    pub refused_came : (x : PubFault) (v : P) → v ≡ d.publisher → HasRefused of d x
        → Rises of d.opening d.publisher → CameTo of s d.opening v (Err (fault.Publish x))
    refused_came x v is h rises =
        subst (λ v. CameTo of s d.opening v (Err (fault.Publish x))) (sym is)
        (record { came = refused_cut x h; rises = rises })

-- ---- behind how many steps a run ends

-- so behind more ends than there are no step is left
steps_gone : (s : Setting) (k : ℕ) → ends_before s (length (steps s)) < k → steps_to s k ≡ length (steps s)
steps_gone s k over = elim (cases_lt (steps_to s k) (length (steps s))) [
  | inl left ↦
      let whole : ends_before s (length (steps s)) ≡ length (filter (λ at. is_show at.stage) (steps s)) = ap (λ ats. length (filter (λ at. is_show at.stage) ats)) (take_all (length (steps s)) (steps s) (omega arith)) in
      absurd (omega (arith, shown_all s k left, few_shown (steps s) (steps_to s k), whole, over))
  | inr gone ↦ omega (arith, gone, steps_within s k)
]

-- a run that was driven from end to end has steps up to there
pub reached_within : (s : Setting) (n : ℕ) → IsReached s n → n ≤ length (steps s)
reached_within s n at = let within = steps_within s (suc at.count) in omega (arith, within, at.is)

-- the run ends at the second end behind some, where the desk has told by then, or no step is left, and at the end before it had not
ends_second : (s : Setting) (n c : ℕ) (at : IsReached s n) → ends_before s at.before ≤ c + 1 → ((c + 2 ≤ ends_before s n) ⊎ (n ≡ length (steps s))) → n ≡ steps_to s (c + 2)
ends_second s n c at early over = elim (cases_lt at.before (length (steps s))) [
  | inl left ↦
      let there : ends_before s at.before ≡ ends_before s (steps_to s at.count) = ap (ends_before s) at.was in
      let few : at.count ≤ c + 1 = omega (arith, shown_all s at.count (omega (arith, left, at.was)), there, early) in
      elim over [
        | inl told ↦
            let here : ends_before s n ≡ ends_before s (steps_to s (suc at.count)) = ap (ends_before s) at.is in
            let one : suc at.count ≡ c + 2 = omega (arith, told, few, here, shown_few s (suc at.count)) in
            at.is ∙ ap (steps_to s) one
        | inr all ↦ all ∙ sym (steps_over s (suc at.count) (c + 2) (omega (arith, few)) (sym at.is ∙ all))
      ]
  | inr gone ↦
      let whole : steps_to s at.count ≡ length (steps s) = omega (arith, gone, at.was, steps_within s at.count) in
      let there : ends_before s at.before ≡ ends_before s (length (steps s)) = ap (ends_before s) (at.was ∙ whole) in
      at.is ∙ steps_over s at.count (suc at.count) (omega arith) whole ∙ sym (steps_gone s (c + 2) (omega (arith, early, there)))
]

-- a desk that stands at the end of the first steps was seen there
pub untold_there : {P : Type 0} (d : OnDesk P) → IsCourse d.course → (n : ℕ) → n ≤ length (steps d.course.setting) → IsAt n (member.Desk d) → WasUntold d.course.setting n (member.Desk (record d { untold = d.course.number }))
untold_there d course n within at =
    let same : ends_before d.course.setting d.course.number ≡ ends_before d.course.setting n = ap (λ ats. length (filter (λ at. is_show at.stage) ats)) (stands_there d.course course n within at).same_steps in
    omega (arith, same)

-- a desk where its run ends
module _ {P : Type 0} (s : Setting) (n : ℕ) (d : OnDesk P) (desk : IsDeskOf s n d) (course : IsCourse d.course) where
  stands : StandsThere d.course n
  stands = stands_there d.course course n (subst (λ r. n ≤ length (steps r)) (sym desk.setting_is) (reached_within s n desk.reached)) desk.last.0

  pub between : d.course.made ≡ 0
  between = stands.no_turn

  ends_there : ends_before d.course.setting d.course.number ≡ ends_before d.course.setting n
  ends_there = ap (λ ats. length (filter (λ at. is_show at.stage) ats)) stands.same_steps

  -- where nothing stopped, it is behind the last step, and all ends were shown
  module _ (none : stop_of d ≡ None) (no_told : d.told ≡ true → stop_of d ≡ None → ⊥) where
    pub goes_through : n ≡ length (steps s)
    goes_through = elim desk.last.1.0 [
      | inl told ↦ absurd (no_told told none)
      | inr all ↦ all ∙ ap (λ r. length (steps r)) desk.setting_is
    ]

    pub all_were_shown : (of : publisher.Ghosts P) → HasShown of d (ends_before d.course.setting d.course.number) → HasShown of d (length (ends s))
    all_were_shown of = subst (HasShown of d) (ends_there ∙ ap (λ r. ends_before r n) desk.setting_is ∙ ends_all s n (omega (arith, goes_through)))

    -- what it shows ends behind the second end behind all, too, since there is none
    pub shown_ends : (of : publisher.Ghosts P) → IsRun s → HasShown of d (length (ends s)) → EndsBehind of s d.opening d.publisher n (Err fault.NoMemory)
    shown_ends of run h =
        let (shown, faultless) = shown_so of s d desk.setting_is (length (ends s)) h in
        let (front, made) = made_first of s run d.opening d.publisher (length (ends s)) faultless shown in
        let all : front.made ≡ length (ends s) = made ∙ ap length (take_all (length (ends s)) (ends s) (omega arith)) in
        (front, goes_through ∙ sym (steps_gone s (front.made + 2) (omega (arith, all, ends_all s (length (steps s)) (omega arith)))))

  -- where it stopped behind some ends, it ends at the second end behind these
  pub stop_ends : (c : ℕ) → StoppedAt d c → n ≡ steps_to s (c + 2)
  stop_ends c h =
      let here : ends_before d.course.setting d.course.number ≡ ends_before s n = ends_there ∙ ap (λ r. ends_before r n) desk.setting_is in
      let seen : ends_before d.course.setting d.untold ≡ ends_before s d.untold = ap (λ r. ends_before r d.untold) desk.setting_is in
      let was : ends_before s desk.reached.before ≤ ends_before s d.untold = desk.last.1.1 in
      let few = h.seen in
      ends_second s n c desk.reached (omega (arith, was, seen, few)) (elim desk.last.1.0 [
        | inl told ↦ inl (let up = h.has_told told in omega (arith, up, here))
        | inr all ↦ inr (all ∙ ap (λ r. length (steps r)) desk.setting_is)
      ])

  module _ (of : publisher.Ghosts P) (run : IsRun s) where
    -- where something stopped, its publisher was shown all ends before
    module _ (x : Cause) (h : HasHalted of d x) where
      halt_so : (at : HaltedAt of s d.opening d.publisher d.lots x) × (ends_before d.course.setting h.number ≡ ends_before s at.number)
      halt_so = halted_so of s d x desk.setting_is h

      abbrev halt : HaltedAt of s d.opening d.publisher d.lots x
      halt = halt_so.0

      halt_ends : n ≡ steps_to s (ends_before s halt.number + 2)
      halt_ends = stop_ends (ends_before d.course.setting h.number) h.stopped ∙ ap (λ k. steps_to s (k + 2)) halt_so.1

      pub halted_ends : (v : P) → v ≡ d.publisher → EndsBehind of s d.opening v n (Err fault.NoMemory)
      halted_ends v is =
          let (front, made) = made_first of s run d.opening d.publisher (ends_before s halt.number) halt.faultless halt.is_behind in
          let all : length (take (ends_before s halt.number) (ends s)) ≡ ends_before s halt.number = all_taken (ends s) (ends_before s halt.number) halt.end (end_there s halt.number halt.end halt.stands) in
          subst (λ v. EndsBehind of s d.opening v n (Err fault.NoMemory)) (sym is) (front, halt_ends ∙ ap (λ k. steps_to s (k + 2)) (sym (made ∙ all)))

    -- the publisher refused
    pub refused_ends : (x : PubFault) → HasRefused of d x → EndsBehind of s d.opening d.publisher n (Err (fault.Publish x))
    refused_ends x h =
        let (cut, made) = refused_made of s d desk.setting_is run x h in
        (cut, stop_ends h.cut_there.made h.stopped ∙ ap (λ k. steps_to s (k + 2)) (sym made))

    -- a fault was told
    pub fault_ends : (f g : Fault) → HasHalted of d (cause.Fault f) → EndsIn s g → n ≡ steps_to s (ends_until s g.tick + 2)
    fault_ends f g h e =
        let at = (halt_so (cause.Fault f) h).0 in
        let stops = stops_at of s run d.opening d.publisher d.lots f g at e in
        let are : ends_until s g.tick ≡ ends_before s at.number = ap length (ends_up_to s g (ends_before s at.number) at.end stops) ∙ all_taken (ends s) (ends_before s at.number) at.end stops.next in
        halt_ends (cause.Fault f) h ∙ ap (λ k. steps_to s (k + 2)) (sym are)

-- ---- where a part told a fault

-- a publisher refused for want of memory, or the answer tells for what
told_as : (y : PubFault) → (y ≡ refusal.NoMemory)
    ⊎ ((y ≡ refusal.NoMemory → ⊥) × (refused_by y ≡ fault.Publish y))
told_as refusal.NoMemory = inl refl
told_as _ = inr ((λ e. cc), refl)

some_of : (ws : List Shown) → (length ws ≡ 0 → ⊥) → (x : Shown) × ((xs : List Shown) × (ws ≡ x ∷ xs))
some_of [] e = absurd (e refl)
some_of (w ∷ ws) e = (w, (ws, refl))

module _ {P : Type 0} (of : publisher.Ghosts P) (s : Setting) (run : IsRun s) (d : OnDesk P) (of_run : d.course.setting ≡ s) (halted : (f : Fault) × HasHalted of d (cause.Fault f)) (rises : Rises of d.opening d.publisher) where
  there_so : (at : HaltedAt of s d.opening d.publisher d.lots (cause.Fault halted.0)) × (ends_before d.course.setting halted.1.number ≡ ends_before s at.number)
  there_so = halted_so of s d (cause.Fault halted.0) of_run halted.1

  abbrev there : HaltedAt of s d.opening d.publisher d.lots (cause.Fault halted.0)
  there = there_so.0

  pub gave_up : (v : P) → v ≡ d.publisher → CameTo of s d.opening v (Err fault.NoMemory)
  gave_up v is =
      subst (λ v. CameTo of s d.opening v (Err fault.NoMemory)) (sym is)
      (record { came = in_front of s run d.opening d.publisher (ends_before s there.number) there.faultless there.is_behind; rises = rises })

  module _ (f : Fault) (e : EndsIn s f) (v : P) (is : v ≡ d.publisher) (worlds : List Shown)
      (left : (end : ℕ) → IsTrue (is_end s end) → f.tick < end → shown_from s end ≡ shown_from s (f.tick + 1) → All (λ lot. IsShown s end lot.part lot.worlds) d.lots → worlds ≡ map (whole_at s) (ticks_left s f.tick)) where
    halts_so : (at : HaltedAt of s d.opening v d.lots (cause.Fault halted.0)) × (ends_before d.course.setting halted.1.number ≡ ends_before s at.number)
    halts_so = subst (λ v. (at : HaltedAt of s d.opening v d.lots (cause.Fault halted.0)) × (ends_before d.course.setting halted.1.number ≡ ends_before s at.number)) (sym is) there_so

    abbrev halts : HaltedAt of s d.opening v d.lots (cause.Fault halted.0)
    halts = halts_so.0

    rises_there : Rises of d.opening v
    rises_there = subst (Rises of d.opening) (sym is) rises

    are : worlds ≡ map (whole_at s) (ticks_left s f.tick)
    are =
        left halts.end (end_is of s run d.opening v d.lots halted.0 f halts e) (stops_at of s run d.opening v d.lots halted.0 f halts e).behind
        (from_same of s run d.opening v d.lots halted.0 f halts e) halts.brought

    pub all_was_shown : length worlds ≡ 0 → CameTo of s d.opening v (Err (fault.Fault f))
    all_was_shown none = record {
      came = record { is_first = e.first; is_behind = nothing_left of s run d.opening v d.lots halted.0 f halts e worlds are (none_long worlds none) };
      rises = rises_there;
    }

    module _ (some : length worlds ≡ 0 → ⊥) (last : P) (more : Rises of v last) where
      pub rest_was_shown : of.state last ≡ of.after (of.state v) s f.tick worlds → CameTo of s d.opening last (Err (fault.Fault f))
      rest_was_shown done =
          let (x, (xs, filled)) = some_of worlds some in
          record {
            came = record { is_first = e.first; is_behind = rest_shown of s run d.opening v d.lots halted.0 f halts e worlds are x xs filled last done };
            rises = then_rises of d.opening v last rises_there more;
          }

      module _ (y : PubFault) (cut : of.cut (of.state v) s f.tick worlds y (of.state last))
          (unmoved : y ≡ refusal.NoMemory → of.state last ≡ of.state v)
          (saved : (k : ℕ) → tick_of y ≡ Some k
          → (k ≡ f.tick) × Rose (of.saves v) (of.saves last))
          (written : y ≡ refusal.Write → Rose (of.writes v) (of.writes last)) where
        abbrev count : ℕ
        count = ends_before s halts.number

        refused_there : (y ≡ refusal.NoMemory → ⊥)
            → (cut : IsCut of s d.opening last (calls s) y) × (cut.made ≡ count)
        refused_there found =
            let (x, (xs, filled)) = some_of worlds some in
            rest_cut of s run d.opening v d.lots halted.0 f halts e worlds are x xs filled
            rises_there last y cut found saved written

        -- without memory it is as it was
        still_there : y ≡ refusal.NoMemory
            → (front : IsFront of s d.opening last (calls s)) × (front.made ≡ count)
        still_there none =
            let (front, made) = made_first of s run d.opening last count halts.faultless
            (unmoved none ∙ halts.is_behind) in
            let there = end_there s halts.number halts.end halts.stands in
            (front, made ∙ all_taken (ends s) count halts.end there)

        rest_was_refused : CameTo of s d.opening last (Err (refused_by y))
        rest_was_refused = record {
          came = elim (told_as y) [
            | inl none ↦
                subst (λ z. CameBy of s d.opening last (Err (refused_by z))) (sym none)
                (still_there none).0
            | inr other ↦
                subst (λ x. CameBy of s d.opening last (Err x)) (sym other.1)
                (refused_there other.0).0
          ];
          rises = then_rises of d.opening v last rises_there more;
        }

        -- and there it ends where it ends for all that was shown in full
        rest_ends : (n : ℕ)
            → n ≡ steps_to s (ends_before d.course.setting halted.1.number + 2)
            → EndsBehind of s d.opening last n (Err (refused_by y))
        rest_ends n at = elim (told_as y) [
          | inl none ↦
              let (front, made) = still_there none in
              subst (λ z. EndsBehind of s d.opening last n (Err (refused_by z))) (sym none)
              (front, at ∙ ap (λ k. steps_to s (k + 2)) (halts_so.1 ∙ sym made))
          | inr other ↦
              let (refused, made) = refused_there other.0 in
              subst (λ x. EndsBehind of s d.opening last n (Err x)) (sym other.1)
              (refused, at ∙ ap (λ k. steps_to s (k + 2)) (halts_so.1 ∙ sym made))
        ]

        -- both, of what tells of the refusal
        pub rest_told : (x : CrewFault) → x ≡ refused_by y → CameTo of s d.opening last (Err x)
            × ((n : ℕ) → n ≡ steps_to s (ends_before d.course.setting halted.1.number + 2)
            → EndsBehind of s d.opening last n (Err x))
        rest_told x told = (
          subst (λ z. CameTo of s d.opening last (Err z)) (sym told) rest_was_refused,
          λ n at. subst (λ z. EndsBehind of s d.opening last n (Err z)) (sym told) (rest_ends n at),
        )
