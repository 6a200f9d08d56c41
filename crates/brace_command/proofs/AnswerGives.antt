-- What holds of each way in which a command may be answered holds of its answer.
use Rattle.std.proofs.Common.{◌≡◌, ◌∙◌, refl, sym, ap₂, subst, ℕ, List, Bool, true, false, Result, Ok, Err}
use Rattle.brace_pieces.specs.declared.setting.Setting.{Setting}
use Rattle.brace_pieces.specs.Counts.{count_border, count_effects, count_moved, count_handed}
use Rattle.brace_pieces.specs.declared.counts.Counts.{Counts}
use Rattle.brace_command.specs.declared.answer.Answer.{Answer}
use Rattle.brace_command.specs.declared.answer.Stopped.{Stopped}
use Rattle.brace_command.specs.declared.answer.Stopped.TheVariants as stopped
use Rattle.brace_command.specs.declared.status.Status.{Status}
use Rattle.brace_command.specs.declared.status.Status.TheVariants.{NoMemory}
use Rattle.brace_command.specs.Messages.{stats_message, no_memory_message}
use Rattle.brace_command.specs.Outcome.{stats_of}
use Rattle.brace_command.specs.Settled.{stopped_status, stopped_message, status_in, message_in, IsRefusedAs, IsToldAs, told_counts}

-- the counts that parts gave, told as the whole worlds have them
pub counts_told : (stats : Bool) (s : Setting) (c : Counts) → c.border ≡ count_border s → c.effects ≡ count_effects s → c.moved ≡ count_moved s → c.handed ≡ count_handed s → told_counts stats c ≡ stats_of stats s
counts_told false s c border effects moved handed = refl
counts_told true s c border effects moved handed =
    ap₂ (λ (a b : ℕ). stats_message a b c.moved c.handed) border effects ∙ ap₂ (λ (a b : ℕ). stats_message (count_border s) (count_effects s) a b) moved handed

-- ---- what an answer says

pub told_gives : (P : List ℕ → Status → Type 0) (status : Status) (message : List ℕ) (r : Result Answer Stopped) → IsToldAs status message r → P message status → P no_memory_message NoMemory → P (message_in r) (status_in r)
told_gives P status message (Ok a) h told none = subst (λ (m : List ℕ). P m a.status) (sym h.says) (subst (P message) (sym h.ends) told)
told_gives P status message (Err stop) h told none = subst (λ (x : Stopped). P (stopped_message x) (stopped_status x)) (sym h) none

pub refused_gives : (P : List ℕ → Status → Type 0) (status : Status) (message : List ℕ) (stop : Stopped) → IsRefusedAs status message stop → P message status → P no_memory_message NoMemory
    → P (stopped_message stop) (stopped_status stop)
refused_gives P status message (stopped.Refused a) h told none = subst (λ (m : List ℕ). P m a.status) (sym h.says) (subst (P message) (sym h.ends) told)
refused_gives P status message stopped.NoMemory h told none = none
refused_gives P status message _ h told none = absurd h

pub stop_gives : (P : List ℕ → Status → Type 0) (stop other : Stopped) → other ≡ stop → P (stopped_message stop) (stopped_status stop) → P (stopped_message other) (stopped_status other)
stop_gives P stop other is given = subst (λ (x : Stopped). P (stopped_message x) (stopped_status x)) (sym is) given

pub stopped_gives : (P : List ℕ → Status → Type 0) (stop : Stopped) (r : Result Answer Stopped) → r ≡ Err stop → P (stopped_message stop) (stopped_status stop) → P (message_in r) (status_in r)
stopped_gives P stop r is given = subst (λ (x : Result Answer Stopped). P (message_in x) (status_in x)) (sym is) given
