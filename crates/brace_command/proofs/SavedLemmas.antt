-- The files that a publisher of rows, checkpoints and figures saves, call by call, are the savings of its run.
use Rattle.std.proofs.Common.{◌≡◌, ◌∙◌, refl, sym, ap, ap₂, subst, ℕ, zero, suc, ◌+◌, ◌-◌, ◌<◌, ◌≤◌, List, [], ◌∷◌, ◌++◌, map, filter, flat_map, append_assoc, Bool, true, false, cond, Option, Some, None, Result, Ok, Err, All, arith}
use Rattle.std.specs.Prelude.{option_map, ◌%◌, ◌==◌}
use Rattle.std.specs.List.{Contains, range_with_len}
use Rattle.std.specs.Result.{result_err}
use Rattle.std.proofs.lemmas.Grind.{flat_map-append}
use Rattle.std.proofs.lemmas.List.{append-nil, map-append}
use Rattle.std.proofs.lemmas.List.Elements.{filter-append, All-nil, All-cons}
use Rattle.std.proofs.lemmas.List.Concat.{flat_map-cons}
use Rattle.std.proofs.lemmas.List.Folds.{flat_map-map}
use Rattle.brace_model.specs.declared.fault.Fault.{Fault}
use Rattle.brace_model.specs.World.{World}
use Rattle.brace_model.specs.Run.{world_after, end_of}
use Rattle.brace_model.proofs.RunLemmas.{world_after-next, world_after-ended}
use Rattle.brace_pieces.specs.declared.setting.Setting.{Setting}
use Rattle.brace_pieces.specs.declared.piece.Shown.{Shown}
use Rattle.brace_pieces.specs.Settings.{LawfulSetting, is_end, ends, shown_from, shown_ticks}
use Rattle.brace_pieces.proofs.EpochLemmas.{row_one, from_one}
use Rattle.brace_pieces.proofs.FaultLemmas.{step_is_of}
use Rattle.brace_pieces.proofs.HaltLemmas.{ended}
use Rattle.brace_num.proofs.Rows.{row_has, row_joined}
use Rattle.brace_watch.specs.declared.kinds.Watch.{Watch}
use Rattle.brace_desk.specs.Calls.{Call, world_shown, worlds_at, call_at, ticks_left, call_of, calls_to, calls}
use Rattle.brace_desk.specs.Shows.{Named, shown_text, saved_world, saved_file, checkpoint_file, file_name}
use Rattle.brace_desk.specs.Watched.{figures_text, watched_file}
use Rattle.brace_desk.specs.Watched as watched
use Rattle.brace_desk.proofs.TextLemmas.{up_to, cut_row, shown_at, told, text_at_end, all_saved}
use Rattle.brace_command.specs.Savings.{Saves, Saving, figures_of, checkpoint_at, figures_at, files_at, savings_at, savings}
use Rattle.brace_num.proofs.Lists.{in_filter}

-- ---- what calls save

-- the rows of a call
abbrev pub text_of : Setting → Bool → Call → List ℕ
text_of s fresh c = shown_text s.job fresh c.worlds

-- the file that there may be
abbrev pub listed : Option Named → List Named
listed None = []
listed (Some file) = file ∷ []

-- the files of a call: the checkpoint, and the figures behind it
abbrev pub files_of : Setting → Saves → Bool → Call → List Named
files_of s saves fresh c =
    listed (saved_file saves.save s c.tick c.worlds) ++ listed (watched_file saves.watch saves.watches fresh s c.tick c.worlds)

-- files behind a text
abbrev pub saving_of : List ℕ → Named → Saving
saving_of text file = record { file = file; behind = text }

abbrev pub saving_in : List ℕ → List Named → List Saving
saving_in text files = map (saving_of text) files

-- the files of some calls, each behind all text up to its call
abbrev pub saved_by : Setting → Saves → Bool → List ℕ → List Call → List Saving
saved_by s saves fresh text [] = []
saved_by s saves fresh text (c ∷ cs) =
    saving_in (text ++ text_of s fresh c) (files_of s saves fresh c) ++ saved_by s saves fresh (text ++ text_of s fresh c) cs

-- what more calls save stands behind
pub saved_by-append : (s : Setting) (saves : Saves) (fresh : Bool) (text : List ℕ) (xs ys : List Call)
    → saved_by s saves fresh text (xs ++ ys) ≡ saved_by s saves fresh text xs ++ saved_by s saves fresh (text ++ flat_map (text_of s fresh) xs) ys
saved_by-append s saves fresh text [] ys = ap (λ t. saved_by s saves fresh t ys) (sym (append-nil text))
saved_by-append s saves fresh text (c ∷ xs) ys =
    let more : List ℕ = text ++ text_of s fresh c in
    let all : List ℕ = flat_map (text_of s fresh) xs in
    ap (λ l. saving_in more (files_of s saves fresh c) ++ l)
    (saved_by-append s saves fresh more xs ys ∙ ap (λ t. saved_by s saves fresh more xs ++ saved_by s saves fresh t ys) (append_assoc text (text_of s fresh c) all))
    ∙ sym (append_assoc (saving_in more (files_of s saves fresh c)) (saved_by s saves fresh more xs) (saved_by s saves fresh (text ++ (text_of s fresh c ++ all)) ys))

-- with no name a call has no file, and nothing is saved
pub no_files_of : (s : Setting) (saves : Saves) (fresh : Bool) (c : Call) → saves.save ≡ None → saves.watch ≡ None → files_of s saves fresh c ≡ []
no_files_of s saves fresh c save watch =
    ap₂ (λ (a b : Option (List ℕ)). listed (saved_file a s c.tick c.worlds) ++ listed (watched_file b saves.watches fresh s c.tick c.worlds)) save watch

pub saves_none : (s : Setting) (saves : Saves) (fresh : Bool) (text : List ℕ) (cs : List Call) → saves.save ≡ None → saves.watch ≡ None → saved_by s saves fresh text cs ≡ []
saves_none s saves fresh text [] save watch = refl
saves_none s saves fresh text (c ∷ cs) save watch =
    let more : List ℕ = text ++ text_of s fresh c in
    ap (λ (files : List Named). saving_in more files ++ saved_by s saves fresh more cs) (no_files_of s saves fresh c save watch) ∙ saves_none s saves fresh more cs save watch

-- all text before a file is a front of the text of all calls
abbrev pub StandsIn : List ℕ → Saving → Type 0
StandsIn text saving = (more : List ℕ) × (text ≡ saving.behind ++ more)

stands_first : (text piece all : List ℕ) (files : List Named) (rest : List Saving)
    → All (StandsIn (text ++ (piece ++ all))) rest → All (StandsIn (text ++ (piece ++ all))) (saving_in (text ++ piece) files ++ rest)
stands_first text piece all [] rest h = h
stands_first text piece all (file ∷ files) rest h =
    All-cons (StandsIn (text ++ (piece ++ all))) (record { file = file; behind = text ++ piece }) (saving_in (text ++ piece) files ++ rest) (all, sym (append_assoc text piece all))
    (stands_first text piece all files rest h)

pub stand_in : (s : Setting) (saves : Saves) (fresh : Bool) (text : List ℕ) (cs : List Call)
    → All (StandsIn (text ++ flat_map (text_of s fresh) cs)) (saved_by s saves fresh text cs)
stand_in s saves fresh text [] = All-nil (StandsIn (text ++ []))
stand_in s saves fresh text (c ∷ cs) =
    let piece : List ℕ = text_of s fresh c in
    let all : List ℕ = flat_map (text_of s fresh) cs in
    let rest : List Saving = saved_by s saves fresh (text ++ piece) cs in
    stands_first text piece all (files_of s saves fresh c) rest
    (subst (λ (t : List ℕ). All (StandsIn t) rest) (append_assoc text piece all) (stand_in s saves fresh (text ++ piece) cs))

-- ---- the figures of an end

module _ (s : Setting) (fresh : Bool) (watches : List Watch) where
  -- the figures of a tick that is shown are those of its world
  one_figure : (t : ℕ) (r : Result World Fault) → figures_text s fresh watches (world_shown t r) ≡ figures_of s fresh watches t r
  one_figure t (Ok w) =
      let shown : Shown = record { tick = t; agents = w.agents; next = w.next } in
      flat_map-cons (watched.figures_at s fresh watches) shown [] ∙ append-nil (watched.figures_at s fresh watches shown)
  one_figure t (Err f) = refl

  pub figures_are : (ticks : List ℕ) → figures_text s fresh watches (worlds_at s ticks) ≡ flat_map (λ t. figures_of s fresh watches t (world_after s.job (t - s.job.first))) ticks
  figures_are [] = refl
  figures_are (t ∷ ticks) =
      let worlds : ℕ → List Shown = λ t. world_shown t (world_after s.job (t - s.job.first)) in
      let figures : ℕ → List ℕ = λ t. figures_of s fresh watches t (world_after s.job (t - s.job.first)) in
      ap (figures_text s fresh watches) (flat_map-cons worlds t ticks)
      ∙ flat_map-append (watched.figures_at s fresh watches) (worlds t) (worlds_at s ticks)
      ∙ ap₂ (λ (a b : List ℕ). a ++ b) (one_figure t (world_after s.job (t - s.job.first))) (figures_are ticks)
      ∙ sym (flat_map-cons figures t ticks)

-- ---- the files of the ends up to a tick

module _ (s : Setting) (saves : Saves) (fresh : Bool) where
  -- what is saved at an end
  abbrev saved_at : ℕ → List Saving
  saved_at end = savings_at saves fresh s end (world_after s.job (end - s.job.first))

  -- what calls save
  abbrev by_calls : List ℕ → List Call → List Saving
  by_calls = saved_by s saves fresh

  -- the ends among the first ticks
  abbrev ends_to : ℕ → List ℕ
  ends_to n = filter (is_end s) (range_with_len s.job.first n)

  checkpoint_there : (save : Option (List ℕ)) (t : ℕ) (worlds : List Shown) (w : World) → saved_world s t worlds ≡ Some w → listed (saved_file save s t worlds) ≡ checkpoint_at save s t w
  checkpoint_there None t worlds w is = refl
  checkpoint_there (Some name) t worlds w is = ap (λ (world : Option World). listed (option_map (checkpoint_file name s t) world)) is

  figures_there : (watch : Option (List ℕ)) (t : ℕ) (w : World) → saved_world s t (call_at s t).worlds ≡ Some w
      → listed (watched_file watch saves.watches fresh s t (call_at s t).worlds) ≡ figures_at watch saves.watches fresh s t
  figures_there None t w is = refl
  figures_there (Some name) t w is =
      ap (λ (world : Option World). listed (option_map (λ (v : World). (file_name name t, figures_text s fresh saves.watches (call_at s t).worlds)) world)) is
      ∙ ap (λ (text : List ℕ). (file_name name t, text) ∷ []) (figures_are s fresh saves.watches (shown_ticks s t))

  -- the files of the call at an end are those of the end
  files_there : (t : ℕ) (w : World) → s.job.first ≤ t → t ≤ s.job.last → is_end s t ≡ true → world_after s.job (t - s.job.first) ≡ Ok w
      → files_of s saves fresh (call_at s t) ≡ files_at saves fresh s t w
  files_there t w low high is there =
      let among : Contains (ends s) t = in_filter (is_end s) (range_with_len s.job.first (s.job.last + 1 - s.job.first)) t (row_has s.job.first (s.job.last + 1 - s.job.first) t low (omega (arith, low, high))) is in
      let world = all_saved s t w among there in
      ap₂ (λ (a b : List Named). a ++ b) (checkpoint_there saves.save t (call_at s t).worlds w world) (figures_there saves.watch t w world)

  -- the call at an end saves its files behind all text up to it
  saved_here : (n t : ℕ) (w : World) → s.job.first + n ≡ t → t ≤ s.job.last → is_end s t ≡ true → world_after s.job n ≡ Ok w
      → by_calls (told s fresh n) (call_at s t ∷ []) ≡ saved_at t
  saved_here n t w is high at_end world =
      let back : t - s.job.first ≡ n = omega (arith, is) in
      let there : world_after s.job (t - s.job.first) ≡ Ok w = ap (world_after s.job) back ∙ world in
      let files : List Named = files_at saves fresh s t w in
      ap (λ (l : List Named). saving_in (told s fresh n ++ shown_at s fresh t) l ++ []) (files_there t w (omega (arith, is)) high at_end there)
      ∙ append-nil (saving_in (told s fresh n ++ shown_at s fresh t) files)
      ∙ ap (λ (text : List ℕ). saving_in text files) (text_at_end s fresh n t is high at_end)
      ∙ sym (ap (savings_at saves fresh s t) there)

  one_more : (n t : ℕ) (xs : List ℕ) (c : Bool) → flat_map (shown_at s fresh) xs ≡ told s fresh n → by_calls [] (map (call_at s) xs) ≡ flat_map saved_at xs
      → (c ≡ true → by_calls (told s fresh n) (call_at s t ∷ []) ≡ saved_at t)
      → by_calls [] (map (call_at s) (xs ++ cond c (t ∷ []) [])) ≡ flat_map saved_at (xs ++ cond c (t ∷ []) [])
  one_more n t xs false text before here = ap (λ l. by_calls [] (map (call_at s) l)) (append-nil xs) ∙ before ∙ sym (ap (flat_map saved_at) (append-nil xs))
  one_more n t xs true text before here =
      ap (by_calls []) (map-append (call_at s) xs (t ∷ []))
      ∙ saved_by-append s saves fresh [] (map (call_at s) xs) (call_at s t ∷ [])
      ∙ ap₂ (λ (a : List Saving) (l : List ℕ). a ++ by_calls l (call_at s t ∷ [])) before (flat_map-map (text_of s fresh) (call_at s) xs ∙ text)
      ∙ ap (λ l. flat_map saved_at xs ++ l) (here refl ∙ sym (append-nil (saved_at t)))
      ∙ sym (flat_map-append saved_at xs (t ∷ []))

  -- the calls at the ends among the first ticks save the worlds of these ends
  saved_to : (n : ℕ) → s.job.first + n ≤ s.job.last + 1 → ((k : ℕ) → k < n → (w : World) × (world_after s.job k ≡ Ok w)) → by_calls [] (map (call_at s) (ends_to n)) ≡ flat_map saved_at (ends_to n)
  saved_to zero within worlds = refl
  saved_to (suc n) within worlds =
      let t : ℕ = s.job.first + n in
      let row : List ℕ = range_with_len s.job.first n in
      let (w, world) = worlds n (omega arith) in
      let on : ends_to (suc n) ≡ ends_to n ++ cond (is_end s t) (t ∷ []) [] = ap (filter (is_end s)) (row_one n s.job.first) ∙ filter-append (is_end s) row (t ∷ []) in
      subst (λ xs. by_calls [] (map (call_at s) xs) ≡ flat_map saved_at xs) (sym on)
      (one_more n t (ends_to n) (is_end s t) refl (saved_to n (omega (arith, within)) (λ k low. worlds k (omega (arith, low))))
      (λ at_end. saved_here n t w refl (omega (arith, within)) at_end world))

  -- where the run has no world nothing is saved
  one_gone : (a : ℕ) (xs : List ℕ) (c : Bool) → saved_at a ≡ [] → flat_map saved_at xs ≡ [] → flat_map saved_at (cond c (a ∷ xs) xs) ≡ []
  one_gone a xs true here rest = ap₂ (λ (x y : List Saving). x ++ y) here rest
  one_gone a xs false here rest = rest

  gone : (f : Fault) (m a : ℕ) → ((t : ℕ) → a ≤ t → world_after s.job (t - s.job.first) ≡ Err f) → flat_map saved_at (filter (is_end s) (range_with_len a m)) ≡ []
  gone f zero a none = refl
  gone f (suc m) a none =
      one_gone a (filter (is_end s) (range_with_len (a + 1) m)) (is_end s a) (ap (savings_at saves fresh s a) (none a (omega arith))) (gone f m (a + 1) (λ t low. none t (omega (arith, low))))

  -- ---- the call behind the last end before a fault

  not_saved : (t : ℕ) (shown : List Shown) → is_end s t ≡ false → saved_world s t shown ≡ None
  not_saved t shown out = rw out refl

  no_checkpoint : (save : Option (List ℕ)) (t : ℕ) (shown : List Shown) → saved_world s t shown ≡ None → listed (saved_file save s t shown) ≡ []
  no_checkpoint None t shown none = refl
  no_checkpoint (Some name) t shown none = ap (λ (world : Option World). listed (option_map (checkpoint_file name s t) world)) none

  no_figures : (watch : Option (List ℕ)) (t : ℕ) (shown : List Shown) → saved_world s t shown ≡ None → listed (watched_file watch saves.watches fresh s t shown) ≡ []
  no_figures None t shown none = refl
  no_figures (Some name) t shown none = ap (λ (world : Option World). listed (option_map (λ (v : World). (file_name name t, figures_text s fresh saves.watches shown)) world)) none

  no_file : (text : List ℕ) (t : ℕ) (shown : List Shown) → is_end s t ≡ false → by_calls text (call_of t shown) ≡ []
  no_file text t [] out = refl
  no_file text t (w ∷ ws) out =
      let none = not_saved t (w ∷ ws) out in
      ap₂ (λ (a b : List Named). saving_in (text ++ shown_text s.job fresh (w ∷ ws)) (a ++ b) ++ []) (no_checkpoint saves.save t (w ∷ ws) none) (no_figures saves.watch t (w ∷ ws) none)

  left_none : (text : List ℕ) (t : ℕ) → s.job.first ≤ t → (c : Bool) → is_end s t ≡ c → by_calls text (call_of t (worlds_at s (ticks_left s t))) ≡ []
  left_none text t low false out = no_file text t (worlds_at s (ticks_left s t)) out
  left_none text t low true at_end =
      let from : shown_from s (t + 1) ≡ t + 1 = from_one s t (t + 1) refl low ∙ ap (λ c. cond c (t + 1) (shown_from s t)) at_end in
      let none : t + 1 - shown_from s (t + 1) ≡ 0 = omega (arith, from) in
      let no_ticks : ticks_left s t ≡ [] = ap (λ m. filter (λ v. v % s.job.every == 0) (range_with_len (shown_from s (t + 1)) m)) none in
      ap (λ ticks. by_calls text (call_of t (worlds_at s ticks))) no_ticks

  -- ---- all calls of a run

  -- a run has a world in each tick before one in which it has one
  has_world : (n : ℕ) (w : World) → world_after s.job n ≡ Ok w → (k : ℕ) → k ≤ n → (v : World) × (world_after s.job k ≡ Ok v)
  has_world n w is k low =
      (elim (world_after s.job k) as (λ r. world_after s.job k ≡ r → (v : World) × (world_after s.job k ≡ Ok v)) [
        | Ok v ↦ λ there. (v, there)
        | Err f ↦ λ there.
            let d : ℕ = n - k in
            let whole : k + d ≡ n = omega (arith, low) in
            let over : world_after s.job n ≡ Err f = ap (world_after s.job) (sym whole) ∙ world_after-ended s.job k d f there in
            absurd (let e = sym is ∙ over in cc)
      ]) refl

  saved_whole : (w : World) → s.job.first ≤ s.job.last → end_of s.job ≡ Ok w → by_calls [] (calls_to s None) ≡ savings saves fresh s
  saved_whole w up is =
      saved_to (s.job.last + 1 - s.job.first) (omega (arith, up)) (λ k low. has_world (s.job.last - s.job.first) w is k (omega (arith, low, up)))

  saved_to_fault : (f : Fault) → LawfulSetting s → end_of s.job ≡ Err f → by_calls [] (calls_to s (Some f)) ≡ savings saves fresh s
  saved_to_fault f lawful is =
      let all : ℕ = s.job.last - s.job.first in
      let h = ended s all f is in
      let before = h.before in
      let k : ℕ = h.ticks in
      let n : ℕ = k + 1 in
      let m : ℕ = s.job.last + 1 - s.job.first - n in
      let t : ℕ = f.tick in
      let (phase, of) = step_is_of s (s.job.first + k) h.world lawful.job_is_lawful.program_is_lawful f h.ends in
      let at : t ≡ s.job.first + k = of.tick in
      let over : world_after s.job n ≡ Err f = world_after-next s.job k h.world h.there ∙ h.ends in
      let left : List Call = call_of t (worlds_at s (ticks_left s t)) in
      let cut : filter (up_to t) (ends s) ≡ ends_to n = cut_row (is_end s) t n (s.job.last + 1 - s.job.first) s.job.first (omega (arith, before)) (omega (arith, at)) in
      let rest : List ℕ = filter (is_end s) (range_with_len (s.job.first + n) m) in
      let whole : s.job.last + 1 - s.job.first ≡ n + m = omega (arith, before) in
      let split : ends s ≡ ends_to n ++ rest =
      ap (λ v. filter (is_end s) (range_with_len s.job.first v)) whole ∙ ap (filter (is_end s)) (sym (row_joined s.job.first n m)) ∙ filter-append (is_end s) (range_with_len s.job.first n) (range_with_len (s.job.first + n) m) in
      let none : flat_map saved_at rest ≡ [] =
      gone f m (s.job.first + n) (λ v low. let d : ℕ = v - s.job.first - n in let there : v - s.job.first ≡ n + d = omega (arith, low) in ap (world_after s.job) there ∙ world_after-ended s.job n d f over) in
      ap (λ xs. by_calls [] (map (call_at s) xs ++ left)) cut
      ∙ saved_by-append s saves fresh [] (map (call_at s) (ends_to n)) left
      ∙ ap₂ (λ (a b : List Saving). a ++ b)
      (saved_to n (omega (arith, before)) (λ j low. has_world k h.world h.there j (omega (arith, low))))
      (left_none (flat_map (text_of s fresh) (map (call_at s) (ends_to n))) t (omega (arith, at)) (is_end s t) refl ∙ sym none)
      ∙ sym (flat_map-append saved_at (ends_to n) rest)
      ∙ sym (ap (flat_map saved_at) split)

-- what all calls of a run save are its savings
pub calls_save : (s : Setting) (saves : Saves) (fresh : Bool) → LawfulSetting s → s.job.first ≤ s.job.last → saved_by s saves fresh [] (calls s) ≡ savings saves fresh s
calls_save s saves fresh lawful up =
    (elim (end_of s.job) as (λ r. end_of s.job ≡ r → saved_by s saves fresh [] (calls_to s (result_err r)) ≡ savings saves fresh s) [
      | Ok w ↦ λ is. saved_whole s saves fresh w up is
      | Err f ↦ λ is. saved_to_fault s saves fresh f lawful is
    ]) refl
