-- What is heard of the queries that a part asks, by the script or by both programs of its inversion.
use Rattle.std.proofs.Common.{◌≡◌, sym, subst, ℕ, List, ◌++◌, Bool, true, false, if◌then◌else◌}
use Rattle.brace_model.specs.declared.program.Program.{Program}
use Rattle.brace_model.specs.declared.fault.Fault.{Fault}
use Rattle.brace_model.specs.declared.world.Agent.{Agent}
use Rattle.brace_model.specs.Query.{Saying}
use Rattle.brace_eval.specs.declared.heard.Heard.{Heard}
use Rattle.brace_eval.specs.Heard.{IsHeard, said_by, faults_by}
use Rattle.brace_invert.specs.Split.{forward_program, inverse_program}
use Rattle.brace_pieces.specs.declared.setting.Setting.{Setting}
use Rattle.brace_herd.specs.Said.{said_over, faults_over}

module _ (s : Setting) (tick : ℕ) (own held : List Agent) (heard : Heard) where
  abbrev m : Program
  m = s.job.program

  abbrev by_script : Program → List Agent → List Saying
  by_script p asking = said_by p s.job.seed tick held asking

  abbrev faults_of_script : Program → List Agent → List Fault
  faults_of_script p asking = faults_by p s.job.seed tick held asking

  abbrev Hears : Bool → Type 0
  Hears b = IsHeard m held
      (if b then (by_script (forward_program m) own ++ by_script (inverse_program m) held) else by_script m own)
      (if b then (faults_of_script (forward_program m) own ++ faults_of_script (inverse_program m) held) else faults_of_script m own) heard

  pub over_script : s.invert ≡ false → IsHeard m held (by_script m own) (faults_of_script m own) heard
      → IsHeard m held (said_over s tick own held) (faults_over s tick own held) heard
  over_script is h = subst Hears (sym is) h

  pub over_both : (p q : Program) → s.invert ≡ true → p ≡ forward_program m → q ≡ inverse_program m
      → IsHeard m held (by_script p own ++ by_script q held) (faults_of_script p own ++ faults_of_script q held) heard
      → IsHeard m held (said_over s tick own held) (faults_over s tick own held) heard
  over_both p q is forward inverse h =
      subst Hears (sym is)
      (subst (λ (x : Program). IsHeard m held (by_script (forward_program m) own ++ by_script x held) (faults_of_script (forward_program m) own ++ faults_of_script x held) heard) inverse
      (subst (λ (x : Program). IsHeard m held (by_script x own ++ by_script q held) (faults_of_script x own ++ faults_of_script q held) heard) forward h))
