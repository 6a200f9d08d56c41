-- Which calls a publisher was made where parts found no fault before the first ends of a run: the first calls of the run.
use Rattle.std.proofs.Common.{◌≡◌, ◌∙◌, refl, sym, ap, ap₂, subst, ℕ, zero, suc, ◌+◌, ◌-◌, ◌%◌, ◌<◌, ◌≤◌, List, [], ◌∷◌, ◌++◌, map, filter, take, drop, take-append-drop, take-take, get_or-drop, length-drop, length-take-le, get_or, length, nat_le, Bool, true, false, cond, Option, Some, None, Ok, slice_get, All, Contains, ◌==◌, ◌||◌, append-nil, true≢false, arith, inl, inr}
use Rattle.std.specs.List.{range_with_len}
use Rattle.std.proofs.lemmas.Bool.{cases_lt, cases_eq, cases_Bool, lt-leb, le-leb}
use Rattle.std.proofs.lemmas.Option.{slice_get_within, get_or_from_slice_get}
use Rattle.std.proofs.lemmas.List.{take-map, length-map}
use Rattle.std.proofs.lemmas.List.Concat.{flat_map-cons}
use Rattle.std.proofs.lemmas.List.Elements.{All-head, All-tail, All-contains, Contains-append_left, Contains-append_right, filter-append}
use Rattle.brace_model.specs.declared.fault.Fault.{Fault}
use Rattle.brace_model.specs.declared.fault.Phase.{Phase}
use Rattle.brace_model.specs.declared.fault.Phase.TheVariants.{Query, Update, Birth}
use Rattle.brace_model.specs.Run.{world_after, first_fault}
use Rattle.brace_invert.proofs.Heard.{seen_in}
use Rattle.brace_invert.proofs.Sites.{none_within}
use Rattle.brace_pieces.specs.declared.setting.Setting.{Setting}
use Rattle.brace_pieces.specs.Settings.{parts, is_end, ends, shown_from, shown_ticks}
use Rattle.brace_pieces.specs.Continued.{on, birth_faults}
use Rattle.brace_pieces.specs.Finds.{finds, found_by, queries_found, updates_found}
use Rattle.brace_pieces.specs.Right.{IsFaultless}
use Rattle.brace_pieces.proofs.Origins.{of_take}
use Rattle.brace_pieces.proofs.EpochLemmas.{since, from_one}
use Rattle.brace_pieces.proofs.FoundLemmas.{found_by_part, run_reaches, first_not_before, first_found, before_first}
use Rattle.brace_desk.specs.declared.publisher.Publisher as publisher
use Rattle.brace_desk.specs.declared.publisher.PubFault.{PubFault}
use Rattle.brace_desk.specs.Calls.{world_shown, worlds_at, call_at, ticks_left, call_of, calls_to, calls, behind, IsCut}
use Rattle.brace_desk.specs.Desks.{whole_at, end_calls, AreFaultless}
use Rattle.brace_desk.proofs.EndCalls.{whole_call}
use Rattle.brace_crew.proofs.FirstFault.{IsRun, EndsIn}
use Rattle.brace_crew.proofs.MemberLemmas.{kept_rise}
use Rattle.brace_num.proofs.Lists.{All-from_contains, filter_all, filter_none, filter_alike}
use Rattle.brace_num.proofs.Rows.{in_row}

-- ---- lists and their first items

front_made : {A B : Type 0} (f : A → B) (xs ys : List A) (rest : List B) → take (length xs) (map f (xs ++ ys) ++ rest) ≡ map f xs
front_made f [] ys rest = refl
front_made f (x ∷ xs) ys rest = ap (λ zs. f x ∷ zs) (front_made f xs ys rest)

-- lists with the same first items have the same last one of these
get_front : {A : Type 0} (m : ℕ) (xs : List A) → slice_get (take (suc m) xs) m ≡ slice_get xs m
get_front m [] = refl
get_front zero (x ∷ xs) = refl
get_front (suc m) (x ∷ xs) = get_front m xs

-- ---- numbers of a row that pass a test

module _ (t : ℕ → Bool) where
  abbrev kept : ℕ → ℕ → List ℕ
  kept n a = filter t (range_with_len a n)

  no_place : {A : Type 0} (x : ℕ) (i : ℕ) → slice_get [] i ≡ Some x → A
  no_place x i is = absurd (cc)

  -- what passes before the one at a place is among the first
  pub early : (Q : ℕ → Type 0) (n a i end v : ℕ) → slice_get (kept n a) i ≡ Some end → All Q (take i (kept n a)) → t v ≡ true → a ≤ v → v < end → Q v
  early Q zero a i end v is all passes low high = no_place end i is
  early Q (suc n) a i end v is all passes low high = by_test (t a) refl i is all (λ up j is all. early Q n (a + 1) j end v is all passes up high)
    where
      rest : List ℕ
      rest = kept n (a + 1)

      by_test : (c : Bool) → t a ≡ c → (i : ℕ) → slice_get (cond c (a ∷ rest) rest) i ≡ Some end → All Q (take i (cond c (a ∷ rest) rest))
          → (a + 1 ≤ v → (j : ℕ) → slice_get rest j ≡ Some end → All Q (take j rest) → Q v) → Q v
      by_test true here zero is all later = let same : a ≡ end = cc in absurd (omega (arith, same, low, high))
      by_test true here (suc i) is all later = elim (cases_eq a v) [
        | inl same ↦ subst Q same (All-head Q a (take i rest) all)
        | inr other ↦ later (omega (arith, low, other)) i is (All-tail Q a (take i rest) all)
      ]
      by_test false here i is all later = elim (cases_eq a v) [
        | inl same ↦ absurd (true≢false (sym passes ∙ ap t (sym same) ∙ here))
        | inr other ↦ later (omega (arith, low, other)) i is all
      ]

  -- where those before a place are low, and the one there is not, they are all that are low
  pub low_first : (n a i end bound : ℕ) → slice_get (kept n a) i ≡ Some end → bound < end → All (λ v. v ≤ bound) (take i (kept n a)) → filter (λ v. nat_le v bound) (kept n a) ≡ take i (kept n a)
  low_first n a i end bound is high all =
      let q : ℕ → Bool = λ v. nat_le v bound in
      let xs : List ℕ = kept n a in
      ap (filter q) (sym (take-append-drop i xs)) ∙ filter-append q (take i xs) (drop i xs)
      ∙ ap₂ (λ ys zs. ys ++ zs)
      (filter_alike q (λ v. true) (take i xs)
      (λ v has. le-leb v bound (All-contains (λ v. v ≤ bound) (take i xs) v all has))
      ∙ filter_all (take i xs))
      (filter_alike q (λ v. false) (drop i xs) (λ v has. lt-leb v bound (above v has))
      ∙ filter_none (drop i xs))
      ∙ append-nil (take i xs)
    where
      above : (v : ℕ) → Contains (drop i (kept n a)) v → bound < v
      above v (k, low, is_v) =
          let first : get_or (kept n a) i v ≡ end = get_or_from_slice_get (kept n a) i end v is in
          let there : get_or (kept n a) (i + k) v ≡ v = sym (get_or-drop i (kept n a) k v) ∙ is_v in
          let within : i + k < length (kept n a) = omega (arith, low, length-drop i (kept n a)) in
          elim (cases_lt i (i + k)) [
            | inl up ↦ omega (arith, kept_rise t n a i (i + k) v up within, first, there, high)
            | inr back ↦
                let same : i + k ≡ i = omega (arith, back) in
                omega (arith, ap (λ m. get_or (kept n a) m v) same, first, there, high)
          ]

-- ---- worlds that are shown

module _ (s : Setting) where
  -- the run has the continued world of a tick
  abbrev HasWorld : ℕ → Type 0
  HasWorld t = world_after s.job (t - s.job.first) ≡ Ok (on s t)

  pub worlds_are : (ticks : List ℕ) → All HasWorld ticks → worlds_at s ticks ≡ map (whole_at s) ticks
  worlds_are [] all = refl
  worlds_are (t ∷ ticks) all =
      flat_map-cons (λ t. world_shown t (world_after s.job (t - s.job.first))) t ticks
      ∙ ap₂ (λ xs ys. xs ++ ys) (ap (world_shown t) (All-head HasWorld t ticks all)) (worlds_are ticks (All-tail HasWorld t ticks all))

  calls_are : (es : List ℕ) → All (λ e. All HasWorld (shown_ticks s e)) es → map (whole_call s) es ≡ map (call_at s) es
  calls_are [] all = refl
  calls_are (e ∷ es) all =
      let P : ℕ → Type 0 = λ e. All HasWorld (shown_ticks s e) in
      ap₂ (λ worlds calls. record { tick = e; worlds = worlds } ∷ calls) (sym (worlds_are (shown_ticks s e) (All-head P e es all))) (calls_are es (All-tail P e es all))

  end_within : (e : ℕ) → Contains (ends s) e → (s.job.first ≤ e) × (e ≤ s.job.last)
  end_within e has =
      let n : ℕ = s.job.last + 1 - s.job.first in
      let (low, high) = in_row s.job.first n e (seen_in (is_end s) (range_with_len s.job.first n) e has).0 in
      (low, omega (arith, low, high))

  shown_within : (e t : ℕ) → s.job.first ≤ e → Contains (shown_ticks s e) t → (s.job.first ≤ t) × (t ≤ e)
  shown_within e t low has =
      let from = shown_from s e in
      let row = in_row from (e + 1 - from) t (seen_in (λ t. (t == e) || (t % s.job.every == 0)) (range_with_len from (e + 1 - from)) t has).0 in
      let at_least = (since s e low).low in
      (omega (arith, row.0, at_least), omega (arith, row.0, row.1))

  -- no part found a fault before a tick
  abbrev NoneBefore : ℕ → Type 0
  NoneBefore e = (p : ℕ) → p < parts s → IsFaultless s e p

  up_to : (e t : ℕ) → t ≤ e → NoneBefore e → NoneBefore t
  up_to e t low none p is_part tick from to = none p is_part tick from (omega (arith, to, low))

  -- what a part finds in a phase is among all that it finds in the tick
  in_tick : (t p : ℕ) (phase : Phase) (f : Fault) → Contains (found_by s t p phase) f → Contains (finds s t p) f
  in_tick t p phase f = by_phase phase
    where
      born : List Fault
      born = birth_faults s t (on s t)

      told : List Fault
      told = updates_found s t p (on s t).agents

      asked : List Fault
      asked = queries_found s t p (on s t).agents

      by_phase : (phase : Phase) → Contains (found_by s t p phase) f → Contains (asked ++ told ++ born) f
      by_phase Query has = Contains-append_left (asked ++ told) born f (Contains-append_left asked told f has)
      by_phase Update has = Contains-append_left (asked ++ told) born f (Contains-append_right asked told f has)
      by_phase Birth has = Contains-append_right (asked ++ told) born f has

  module _ (run : IsRun s) where
    pub worlds_there : (e : ℕ) → NoneBefore e → (t : ℕ) → s.job.first ≤ t → t ≤ e → HasWorld t
    worlds_there e none t low high = run_reaches s run.lawful run.numbers t low (up_to e t high none)

    worlds_shown : (e : ℕ) → s.job.first ≤ e → NoneBefore e → All HasWorld (shown_ticks s e)
    worlds_shown e low none = All-from_contains HasWorld (shown_ticks s e) (λ t has. let (from, to) = shown_within e t low has in worlds_there e none t from to)

    -- the calls at ends before which no part found a fault are calls with the run's worlds
    pub calls_front : (count : ℕ) → AreFaultless s count → take count (end_calls s) ≡ map (call_at s) (take count (ends s))
    calls_front count none =
        take-map (whole_call s) count (ends s)
        ∙ calls_are (take count (ends s))
        (All-from_contains (λ e. All HasWorld (shown_ticks s e)) (take count (ends s)) (λ e has. worlds_shown e (end_within e (of_take count (ends s) e has)).0 (All-contains NoneBefore (take count (ends s)) e none has)))

    -- these ends are not behind the first fault
    pub ends_low : (count : ℕ) → AreFaultless s count → (g : Fault) → first_fault s.job ≡ Some g → All (λ e. e ≤ g.tick) (take count (ends s))
    ends_low count none g first = All-from_contains (λ e. e ≤ g.tick) (take count (ends s)) (λ e has. not_behind e (All-contains NoneBefore (take count (ends s)) e none has))
      where
        not_behind : (e : ℕ) → NoneBefore e → e ≤ g.tick
        not_behind e none = elim (cases_lt g.tick e) [
          | inl behind ↦
              let by = found_by_part s run.lawful run.numbers g.tick g.phase g (first_found s run.lawful g first) in
              let nothing = none by.part by.is_part g.tick (first_not_before s run.lawful g first) behind in
              absurd (none_within ⊥ g (subst (λ faults. Contains faults g) nothing (in_tick g.tick by.part g.phase g by.finds)))
          | inr up ↦ omega (arith, up)
        ]

    -- so they are the first of the run
    front_of : (count : ℕ) → AreFaultless s count → (o : Option Fault) → first_fault s.job ≡ o → take (length (take count (ends s))) (calls_to s o) ≡ map (call_at s) (take count (ends s))
    front_of count none None first =
        let front = take count (ends s) in
        let back = drop count (ends s) in
        ap (λ es. take (length front) (map (call_at s) es)) (sym (take-append-drop count (ends s)))
        ∙ ap (take (length front)) (sym (append-nil (map (call_at s) (front ++ back))))
        ∙ front_made (call_at s) front back []
    front_of count none (Some g) first =
        let front = take count (ends s) in
        let back = drop count (ends s) in
        let q : ℕ → Bool = λ e. nat_le e g.tick in
        let rest = call_of g.tick (worlds_at s (ticks_left s g.tick)) in
        let low = ends_low count none g first in
        let all : filter q front ≡ front =
        filter_alike q (λ e. true) front
        (λ e has. le-leb e g.tick (All-contains (λ e. e ≤ g.tick) front e low has))
        ∙ filter_all front in
        ap (λ es. take (length front) (map (call_at s) es ++ rest)) (ap (filter q) (sym (take-append-drop count (ends s))) ∙ filter-append q front back ∙ ap (λ es. es ++ filter q back) all)
        ∙ front_made (call_at s) front (filter q back) rest

    pub calls_begin : (count : ℕ) → AreFaultless s count → take (length (take count (ends s))) (calls s) ≡ take count (end_calls s)
    calls_begin count none = front_of count none (first_fault s.job) refl ∙ sym (calls_front count none)

    -- a publisher that refused a call at an end refused one of the run
    pub cut_of_run : {P : Type 0} (of : publisher.Ghosts P) (opening now : P) (x : PubFault) → (cut : IsCut of s opening now (end_calls s) x) → AreFaultless s (cut.made + 1)
        → (one : IsCut of s opening now (calls s) x) × (one.made ≡ cut.made)
    cut_of_run of opening now x cut none =
        let m = cut.made in
        let within : m < length (ends s) = subst (λ n. m < n) (length-map (ends s) (whole_call s)) (slice_get_within (end_calls s) m cut.call cut.is_next) in
        let long : length (take (m + 1) (ends s)) ≡ m + 1 = length-take-le (m + 1) (ends s) (omega (arith, within)) in
        let more : m + 1 ≡ suc m = omega arith in
        let same : take (suc m) (calls s) ≡ take (suc m) (end_calls s) =
        subst (λ n. take n (calls s) ≡ take n (end_calls s)) more (subst (λ n. take n (calls s) ≡ take (m + 1) (end_calls s)) long (calls_begin (m + 1) none)) in (
          record {
            made = m;
            call = cut.call;
            is_next = sym (get_front m (calls s)) ∙ ap (λ all. slice_get all m) same ∙ get_front m (end_calls s) ∙ cut.is_next;
            is_cut = subst (λ made. of.cut (behind of s opening made) s cut.call.tick cut.call.worlds x (of.state now)) (sym (take-take m (suc m) (end_calls s) (omega arith)) ∙ ap (take m) (sym same) ∙ take-take m (suc m) (calls s) (omega arith)) cut.is_cut;
            found_memory = cut.found_memory;
            is_named = cut.is_named;
            written = cut.written;
            saved = cut.saved;
          },
          refl,
        )

  -- ---- a run that ends in a fault before an end

  -- the first ends were shown, none behind the fault, and the next one is behind it
  pub record StopsAt (g : Fault) (count end : ℕ) : Type 0 where
    pub ended : EndsIn s g
    pub faultless : AreFaultless s count
    pub next : slice_get (ends s) count ≡ Some end
    pub behind : g.tick < end

  module _ (g : Fault) (count end : ℕ) (h : StopsAt g count end) where
    abbrev first : ℕ
    first = s.job.first

    not_before : first ≤ g.tick
    not_before = first_not_before s h.ended.run.lawful g h.ended.first

    front_low : All (λ e. e ≤ g.tick) (take count (ends s))
    front_low = ends_low h.ended.run count h.faultless g h.ended.first

    pub ends_up_to : filter (λ e. nat_le e g.tick) (ends s) ≡ take count (ends s)
    ends_up_to = low_first (is_end s) (s.job.last + 1 - first) first count end g.tick h.next h.behind front_low

    -- no end stands between the fault and the next end
    none_between : (v : ℕ) → g.tick < v → v < end → is_end s v ≡ false
    none_between v low high = elim (cases_Bool (is_end s v)) [
      | inl ends ↦ absurd (omega (arith, low, early (is_end s) (λ e. e ≤ g.tick) (s.job.last + 1 - first) first count end v h.next front_low ends (omega (arith, low, not_before)) high))
      | inr other ↦ other
    ]

    from_behind : (n t : ℕ) → t ≡ g.tick + 1 + n → t ≤ end → shown_from s t ≡ shown_from s (g.tick + 1)
    from_behind zero t is high = let same : t ≡ g.tick + 1 = omega (arith, is) in ap (shown_from s) same
    from_behind (suc n) t is high =
        let before : ℕ = g.tick + 1 + n in
        from_one s before t (omega (arith, is)) (omega (arith, not_before))
        ∙ ap (λ c. cond c (before + 1) (shown_from s before)) (none_between before (omega arith) (omega (arith, is, high)))
        ∙ from_behind n before refl (omega (arith, is, high))

    pub same_from : shown_from s end ≡ shown_from s (g.tick + 1)
    same_from = from_behind (end - (g.tick + 1)) end (omega (arith, h.behind)) (omega arith)

    left_within : (t : ℕ) → Contains (ticks_left s g.tick) t → (first ≤ t) × (t ≤ g.tick)
    left_within t has =
        let from = shown_from s (g.tick + 1) in
        let row = in_row from (g.tick + 1 - from) t (seen_in (λ t. t % s.job.every == 0) (range_with_len from (g.tick + 1 - from)) t has).0 in
        let at_least = (since s (g.tick + 1) (omega (arith, not_before))).low in
        (omega (arith, row.0, at_least), omega (arith, row.0, row.1))

    -- the worlds that are left are the run's
    left_are : worlds_at s (ticks_left s g.tick) ≡ map (whole_at s) (ticks_left s g.tick)
    left_are =
        worlds_are (ticks_left s g.tick)
        (All-from_contains HasWorld (ticks_left s g.tick) (λ t has. let (low, high) = left_within t has in before_first s h.ended.run.lawful g h.ended.first t low high))

    -- all calls of the run: those at the first ends, and one of what is left
    pub all_calls : calls s ≡ take count (end_calls s) ++ call_of g.tick (map (whole_at s) (ticks_left s g.tick))
    all_calls =
        ap (calls_to s) h.ended.first
        ∙ ap₂ (λ es worlds. map (call_at s) es ++ call_of g.tick worlds) ends_up_to left_are
        ∙ ap (λ made. made ++ call_of g.tick (map (whole_at s) (ticks_left s g.tick))) (sym (calls_front h.ended.run count h.faultless))
