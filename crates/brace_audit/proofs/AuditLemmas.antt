-- What follows of a run's text up to a tick for its whole text, and for what an audit answers.
use Rattle.std.proofs.Common.{◌≡◌, ◌∙◌, sym, ap, ap₂, ℕ, ◌+◌, ◌-◌, ◌<◌, ◌≤◌, List, ◌++◌, true, Option, Some, Result, Ok, Err, append_assoc, arith}
use Rattle.brace_model.specs.declared.fault.Fault.{Fault}
use Rattle.brace_model.specs.declared.job.Job.{Job}
use Rattle.brace_model.specs.World.{World}
use Rattle.brace_model.specs.Step.{step}
use Rattle.brace_model.specs.Run.{world_after, end_of}
use Rattle.brace_model.specs.Published.{tick_text, text_of_ticks, published}
use Rattle.brace_model.proofs.RunLemmas.{world_after-zero, world_after-next, world_after-ended, text-next, text-ended, text-front}
use Rattle.brace_audit.specs.declared.fault.AuditFault.TheVariants as found
use Rattle.brace_audit.specs.Differs.{differs}
use Rattle.brace_audit.specs.Outcome.{judged, outcome}

module _ (job : Job) where
  -- the text of the first tick, and of one tick more
  pub text_of_first : text_of_ticks job true 1 ≡ tick_text job true job.first (Ok job.start)
  text_of_first =
      text-next job true 0 ∙ ap₂ (λ (t : ℕ) (r : Result World Fault). tick_text job true t r) (omega arith) (world_after-zero job)

  pub text_of_more : (n t : ℕ) (world : World) → job.first + n ≡ t → world_after job n ≡ Ok world → text_of_ticks job true (n + 1) ≡ text_of_ticks job true n ++ tick_text job true t (Ok world)
  text_of_more n t world is there =
      text-next job true n ∙ ap₂ (λ (t : ℕ) (r : Result World Fault). text_of_ticks job true n ++ tick_text job true t r) is there

  pub next_world : (n t : ℕ) (world : World) (r : Result World Fault) → job.first + n ≡ t → world_after job n ≡ Ok world → step job.program job.seed t world ≡ r → world_after job (n + 1) ≡ r
  next_world n t world r is there stepped =
      world_after-next job n world there ∙ ap (λ (t : ℕ). step job.program job.seed t world) is ∙ stepped

  -- the text of some ticks begins the whole text
  pub whole_text : (n : ℕ) → n ≤ 1 + (job.last - job.first) → (rest : List ℕ) × (published job true ≡ text_of_ticks job true n ++ rest)
  whole_text n within =
      let (rest, e) = text-front job true n (1 + (job.last - job.first) - n) in
      let all : 1 + (job.last - job.first) ≡ n + (1 + (job.last - job.first) - n) = omega (arith, within) in
      (rest, ap (λ (m : ℕ). text_of_ticks job true m) all ∙ e)

  -- where a file differs from what goes on in the text, it differs from the whole text
  pub differs_whole : (file : List ℕ) (n line : ℕ) → n ≤ 1 + (job.last - job.first) → ((more : List ℕ) → differs file (text_of_ticks job true n ++ more) ≡ Some line) → outcome (Some file) job ≡ Err (found.Differs line)
  differs_whole file n line within apart =
      let (rest, e) = whole_text n within in
      ap (λ (o : Option ℕ). judged o (end_of job)) (ap (λ (t : List ℕ). differs file t) e ∙ apart rest)

  -- a run that ends in a fault has no text and no world behind it
  pub ended_text : (n : ℕ) (f : Fault) → n ≤ job.last - job.first → world_after job n ≡ Err f → published job true ≡ text_of_ticks job true n
  ended_text n f within ends =
      let all : 1 + (job.last - job.first) ≡ n + (1 + (job.last - job.first) - n) = omega (arith, within) in
      ap (λ (m : ℕ). text_of_ticks job true m) all ∙ text-ended job true n (1 + (job.last - job.first) - n) f ends

  pub ended_run : (n : ℕ) (f : Fault) → n ≤ job.last - job.first → world_after job n ≡ Err f → end_of job ≡ Err f
  ended_run n f within ends =
      let all : job.last - job.first ≡ n + (job.last - job.first - n) = omega (arith, within) in
      ap (λ (m : ℕ). world_after job m) all ∙ world_after-ended job n (job.last - job.first - n) f ends

  -- ---- by the tick

  pub text_at_first : text_of_ticks job true (job.first - job.first + 1) ≡ tick_text job true job.first (Ok job.start)
  text_at_first =
      let one : job.first - job.first + 1 ≡ 1 = omega arith in
      ap (λ (n : ℕ). text_of_ticks job true n) one ∙ text_of_first

  pub world_at_first : world_after job (job.first - job.first) ≡ Ok job.start
  world_at_first =
      let none : job.first - job.first ≡ 0 = omega arith in
      ap (λ (n : ℕ). world_after job n) none ∙ world_after-zero job

  pub after_step : (tick : ℕ) (world now : World) (r : Result World Fault) → job.first ≤ tick → world_after job (tick - job.first) ≡ Ok world → now ≡ world → step job.program job.seed tick now ≡ r → world_after job (tick + 1 - job.first) ≡ r
  after_step tick world now r begun there same stepped =
      let next : tick + 1 - job.first ≡ tick - job.first + 1 = omega (arith, begun) in
      ap (λ (n : ℕ). world_after job n) next
      ∙ next_world (tick - job.first) tick world r (omega (arith, begun)) there (ap (λ (w : World). step job.program job.seed tick w) (sym same) ∙ stepped)

  pub text_after : (tick : ℕ) (world : World) → job.first ≤ tick → world_after job (tick + 1 - job.first) ≡ Ok world → text_of_ticks job true (tick + 1 - job.first + 1) ≡ text_of_ticks job true (tick - job.first + 1) ++ tick_text job true (tick + 1) (Ok world)
  text_after tick world begun there =
      let next : tick + 1 - job.first ≡ tick - job.first + 1 = omega (arith, begun) in
      text_of_more (tick + 1 - job.first) (tick + 1) world (omega (arith, begun)) there
      ∙ ap (λ (n : ℕ). text_of_ticks job true n ++ tick_text job true (tick + 1) (Ok world)) next

  -- a file that departs from the text of some ticks departs from the whole text
  pub departs_at : (text piece file : List ℕ) (n line : ℕ) → text_of_ticks job true n ≡ text ++ piece → n ≤ 1 + (job.last - job.first) → ((more : List ℕ) → differs file (text ++ (piece ++ more)) ≡ Some line) → outcome (Some file) job ≡ Err (found.Differs line)
  departs_at text piece file n line is within apart =
      differs_whole file n line within (λ more. ap (λ (t : List ℕ). differs file t) (ap (λ (t : List ℕ). t ++ more) is ∙ append_assoc text piece more) ∙ apart more)

  -- a file beside the whole text
  pub judged_by : (text file : List ℕ) (o : Option ℕ) (r : Result World Fault) → published job true ≡ text → differs file text ≡ o → end_of job ≡ r → outcome (Some file) job ≡ judged o r
  judged_by text file o r all is ends = ap₂ (λ (o : Option ℕ) (r : Result World Fault). judged o r) (ap (λ (t : List ℕ). differs file t) all ∙ is) ends

  -- the text of all ticks up to the last one
  pub all_ticks : (tick : ℕ) → tick - job.first ≡ job.last - job.first → published job true ≡ text_of_ticks job true (tick - job.first + 1)
  all_ticks tick is =
      let all : 1 + (job.last - job.first) ≡ tick - job.first + 1 = omega (arith, is) in
      ap (λ (n : ℕ). text_of_ticks job true n) all

  -- the text up to the tick that ends in a fault
  pub fault_text : (tick : ℕ) (f : Fault) → job.first ≤ tick → tick < job.last → world_after job (tick + 1 - job.first) ≡ Err f → published job true ≡ text_of_ticks job true (tick - job.first + 1)
  fault_text tick f begun before ends =
      let next : tick + 1 - job.first ≡ tick - job.first + 1 = omega (arith, begun) in
      ended_text (tick + 1 - job.first) f (omega (arith, begun, before)) ends ∙ ap (λ (n : ℕ). text_of_ticks job true n) next

  pub fault_end : (tick : ℕ) (f : Fault) → job.first ≤ tick → tick < job.last → world_after job (tick + 1 - job.first) ≡ Err f → end_of job ≡ Err f
  fault_end tick f begun before ends = ended_run (tick + 1 - job.first) f (omega (arith, begun, before)) ends
