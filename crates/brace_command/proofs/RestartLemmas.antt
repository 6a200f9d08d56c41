-- A run that is begun anew from one of its own worlds: its worlds, its text and its end.
use Rattle.std.proofs.Common.{◌≡◌, ◌∙◌, sym, refl, ap, ℕ, zero, suc, ◌+◌, ◌-◌, ◌%◌, ◌==◌, ◌≤◌, ◌<◌, nat_lt, List, [], ◌++◌, Bool, true, false, ◌&&◌, ◌||◌, if◌then◌else◌, Result, Ok, Err, append_assoc, add-suc, add-zero, arith}
use Rattle.std.specs.Result.{result_err}
use Rattle.std.proofs.lemmas.List.{append-nil}
use Rattle.std.proofs.lemmas.Bool.Decides.{nat_tests}
use Rattle.brace_model.specs.declared.fault.Fault.{Fault}
use Rattle.brace_model.specs.declared.job.Job.{Job}
use Rattle.brace_model.specs.World.{World}
use Rattle.brace_model.specs.Run.{world_after, stepped, first_fault}
use Rattle.brace_model.specs.Published.{rows, tick_text, text_of_ticks, published}
use Rattle.brace_model.proofs.RunLemmas.{text-next}
use Rattle.brace_command.specs.Restarts.{from_tick}

-- both runs step alike
stepped-alike : (job : Job) (tick : ℕ) (world : World) (at : ℕ) (r : Result World Fault) → stepped job at r ≡ stepped (from_tick job tick world) at r
stepped-alike job tick world at (Ok w) = refl
stepped-alike job tick world at (Err fault) = refl

-- a tick that is not published has no rows
not_published : (test : Bool) (text : List ℕ) → (if test && false then text else []) ≡ []
not_published true text = refl
not_published false text = refl

-- the first tick of the later run is not published again
first-silent : (job : Job) (tick : ℕ) (world : World) (r : Result World Fault) → tick_text (from_tick job tick world) false tick r ≡ []
first-silent job tick world (Err fault) = refl
first-silent job tick world (Ok w) =
    let early : nat_lt tick tick ≡ false = grind (arith, nat_tests) in
    let divides = (tick % job.every == 0) || (tick == job.last) in
    ap (λ (b : Bool). if divides && b then rows job.program tick w.agents else []) early ∙ not_published divides (rows job.program tick w.agents)

-- a run that is not fresh has no text of its first tick
pub silent : (job : Job) → text_of_ticks job false (0 + 1) ≡ []
silent job =
    text-next job false 0
    ∙ ap (λ (m : ℕ). tick_text job false m (world_after job 0)) (add-zero job.first)
    ∙ first-silent job job.first job.start (world_after job 0)

-- a later tick is published by both runs or by none
text-alike : (job : Job) (tick : ℕ) (world : World) (at : ℕ) (r : Result World Fault) → tick < at → tick_text job true at r ≡ tick_text (from_tick job tick world) false at r
text-alike job tick world at (Err fault) lt = refl
text-alike job tick world at (Ok w) lt =
    let late : nat_lt tick at ≡ true = grind (arith, nat_tests, lt) in
    let divides = (at % job.every == 0) || (at == job.last) in
    ap (λ (b : Bool). if divides && b then rows job.program at w.agents else []) (sym late)

module _ (job : Job) (tick : ℕ) (world : World) (d : ℕ) (here : job.first + d ≡ tick) (reached : world_after job d ≡ Ok world) where
  -- the worlds of the later run are those of the first one
  world-anew : (n : ℕ) → world_after job (d + n) ≡ world_after (from_tick job tick world) n
  unfolding world_after
  world-anew zero = ap (world_after job) (add-zero d) ∙ reached
  world-anew (suc n) =
      let at : job.first + (d + n) ≡ tick + n = omega (arith, here) in
      ap (world_after job) (add-suc d n)
      ∙ ap (stepped job (job.first + (d + n))) (world-anew n)
      ∙ ap (λ (m : ℕ). stepped job m (world_after (from_tick job tick world) n)) at
      ∙ stepped-alike job tick world (tick + n) (world_after (from_tick job tick world) n)

  -- a later tick has the same text in both runs
  tick-anew : (n : ℕ) → tick_text job true (job.first + (d + 1 + n)) (world_after job (d + 1 + n)) ≡ tick_text (from_tick job tick world) false (tick + (n + 1)) (world_after (from_tick job tick world) (n + 1))
  tick-anew n =
      let at : job.first + (d + 1 + n) ≡ tick + (n + 1) = omega (arith, here) in
      let count : d + 1 + n ≡ d + (n + 1) = omega arith in
      ap (λ (m : ℕ). tick_text job true m (world_after job (d + 1 + n))) at
      ∙ ap (tick_text job true (tick + (n + 1))) (ap (world_after job) count ∙ world-anew (n + 1))
      ∙ text-alike job tick world (tick + (n + 1)) (world_after (from_tick job tick world) (n + 1)) (omega arith)

  -- the text up to the tick and that of the later run are the text of the first one
  text-anew : (n : ℕ) → text_of_ticks job true (d + 1 + n) ≡ text_of_ticks job true (d + 1) ++ text_of_ticks (from_tick job tick world) false (n + 1)
  text-anew zero =
      ap (λ (m : ℕ). text_of_ticks job true m) (add-zero (d + 1))
      ∙ sym (append-nil (text_of_ticks job true (d + 1)))
      ∙ ap (λ (l : List ℕ). text_of_ticks job true (d + 1) ++ l) (sym (silent (from_tick job tick world)))
  text-anew (suc n) =
      let count : d + 1 + suc n ≡ d + 1 + n + 1 = omega arith in
      let back : n + 1 + 1 ≡ suc n + 1 = omega arith in
      let before = text_of_ticks job true (d + 1) in
      let last = tick_text job true (job.first + (d + 1 + n)) (world_after job (d + 1 + n)) in
      let later = text_of_ticks (from_tick job tick world) false (n + 1) in
      ap (λ (m : ℕ). text_of_ticks job true m) count
      ∙ text-next job true (d + 1 + n)
      ∙ ap (λ (l : List ℕ). l ++ last) (text-anew n)
      ∙ append_assoc before later last
      ∙ ap (λ (l : List ℕ). before ++ (later ++ l)) (tick-anew n)
      ∙ ap (λ (l : List ℕ). before ++ l) (sym (text-next (from_tick job tick world) false (n + 1)) ∙ ap (λ (m : ℕ). text_of_ticks (from_tick job tick world) false m) back)

-- the rows up to a tick and those of the run begun anew there are all rows
pub rows-anew : (job : Job) (tick : ℕ) (world : World) → job.first ≤ tick → tick ≤ job.last → world_after job (tick - job.first) ≡ Ok world
    → published job true ≡ text_of_ticks job true (1 + (tick - job.first)) ++ published (from_tick job tick world) false
rows-anew job tick world from to reached =
    let here : job.first + (tick - job.first) ≡ tick = omega (arith, from) in
    let whole : 1 + (job.last - job.first) ≡ tick - job.first + 1 + (job.last - tick) = omega (arith, from, to) in
    let front : tick - job.first + 1 ≡ 1 + (tick - job.first) = omega arith in
    let rest : job.last - tick + 1 ≡ 1 + (job.last - tick) = omega arith in
    ap (λ (m : ℕ). text_of_ticks job true m) whole
    ∙ text-anew job tick world (tick - job.first) here reached (job.last - tick)
    ∙ ap (λ (m : ℕ). text_of_ticks job true m ++ text_of_ticks (from_tick job tick world) false (job.last - tick + 1)) front
    ∙ ap (λ (m : ℕ). text_of_ticks job true (1 + (tick - job.first)) ++ text_of_ticks (from_tick job tick world) false m) rest

-- both end in the same fault or in none
pub fault-anew : (job : Job) (tick : ℕ) (world : World) → job.first ≤ tick → tick ≤ job.last → world_after job (tick - job.first) ≡ Ok world
    → first_fault (from_tick job tick world) ≡ first_fault job
fault-anew job tick world from to reached =
    let here : job.first + (tick - job.first) ≡ tick = omega (arith, from) in
    let whole : job.last - job.first ≡ tick - job.first + (job.last - tick) = omega (arith, from, to) in
    ap result_err (sym (ap (world_after job) whole ∙ world-anew job tick world (tick - job.first) here reached (job.last - tick)))
