-- A run tick by tick: its worlds, and the text published so far.
use Rattle.std.proofs.Common.{◌≡◌, ◌∙◌, sym, refl, ap, ℕ, zero, suc, ◌+◌, List, [], ◌∷◌, ◌++◌, Bool, Result, Ok, Err, flat_map, append_assoc, add-suc, add-zero, add-one, zero-add}
use Rattle.std.specs.List.{range_with_len}
use Rattle.std.proofs.lemmas.Grind.{flat_map-append}
use Rattle.std.proofs.lemmas.List.{append-nil}
use Rattle.brace_model.specs.declared.fault.Fault.{Fault}
use Rattle.brace_model.specs.declared.job.Job.{Job}
use Rattle.brace_model.specs.World.{World}
use Rattle.brace_model.specs.Step.{step}
use Rattle.brace_model.specs.Run.{world_after, stepped}
use Rattle.brace_model.specs.Published.{tick_text, text_of_ticks}
use Rattle.brace_num.proofs.Rows.{row_more}

-- the start world, and one more tick
pub world_after-zero : (job : Job) → world_after job 0 ≡ Ok job.start
unfolding world_after
world_after-zero job = refl

pub world_after-next : (job : Job) (n : ℕ) (world : World) → world_after job n ≡ Ok world → world_after job (n + 1) ≡ step job.program job.seed (job.first + n) world
unfolding world_after
world_after-next job n world e = rw add-one (ap (stepped job (job.first + n)) e)

-- once ended, a run has no further world
pub world_after-ended : (job : Job) (n k : ℕ) (fault : Fault) → world_after job n ≡ Err fault → world_after job (n + k) ≡ Err fault
unfolding world_after
world_after-ended job n zero fault e = rw add-zero e
world_after-ended job n (suc k) fault e = rw add-suc (ap (stepped job (job.first + (n + k))) (world_after-ended job n k fault e))

-- the text of one tick more
pub text-next : (job : Job) (fresh : Bool) (n : ℕ) → text_of_ticks job fresh (n + 1) ≡ text_of_ticks job fresh n ++ tick_text job fresh (job.first + n) (world_after job n)
text-next job fresh n =
    let text : ℕ → List ℕ = λ k. tick_text job fresh (job.first + k) (world_after job k) in
    ap (λ (m : ℕ). text_of_ticks job fresh m) (add-one n) ∙ ap (flat_map text) (row_more 0 n ∙ ap (λ (m : ℕ). range_with_len 0 n ++ m ∷ []) (zero-add n)) ∙ flat_map-append text (range_with_len 0 n) (n ∷ []) ∙ ap (λ (l : List ℕ). flat_map text (range_with_len 0 n) ++ l) (append-nil (text n))

-- no text after the end of a run
pub text-ended : (job : Job) (fresh : Bool) (n k : ℕ) (fault : Fault) → world_after job n ≡ Err fault → text_of_ticks job fresh (n + k) ≡ text_of_ticks job fresh n
text-ended job fresh n zero fault e = rw add-zero refl
text-ended job fresh n (suc k) fault e =
    let more : text_of_ticks job fresh (n + k + 1) ≡ text_of_ticks job fresh (n + k) ++ tick_text job fresh (job.first + (n + k)) (Err fault) =
    text-next job fresh (n + k) ∙ ap (λ (r : Result (World) Fault). text_of_ticks job fresh (n + k) ++ tick_text job fresh (job.first + (n + k)) r) (world_after-ended job n k fault e) in
    ap (λ (m : ℕ). text_of_ticks job fresh m) (add-suc n k ∙ sym (add-one (n + k))) ∙ more ∙ append-nil _ ∙ text-ended job fresh n k fault e

-- the text so far begins the text of more ticks
pub text-front : (job : Job) (fresh : Bool) (n k : ℕ) → (rest : List ℕ) × (text_of_ticks job fresh (n + k) ≡ text_of_ticks job fresh n ++ rest)
text-front job fresh n zero = ([], rw add-zero (sym (append-nil _)))
text-front job fresh n (suc k) =
    let (rest, e) = text-front job fresh n k in
    let last = tick_text job fresh (job.first + (n + k)) (world_after job (n + k)) in
    (rest ++ last, ap (λ (m : ℕ). text_of_ticks job fresh m) (add-suc n k ∙ sym (add-one (n + k))) ∙ text-next job fresh (n + k) ∙ ap (λ (l : List ℕ). l ++ last) e ∙ append_assoc _ rest last)
