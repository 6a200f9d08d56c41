-- What holds of each way in which a run may be answered, by what its crew came to, holds of its answer.
use Rattle.std.proofs.Common.{◌≡◌, ◌∙◌, refl, sym, ap, ℕ, List, Bool, true, false, Option, Some, None, Result, Ok, Err}
use Rattle.std.specs.Prelude.{is_some, ◌||◌}
use Rattle.brace_model.specs.declared.fault.Fault.{Fault as RunFault}
use Rattle.brace_pieces.specs.declared.counts.Counts.{Counts}
use Rattle.brace_crew.specs.declared.crew.CrewFault.{CrewFault}
use Rattle.brace_crew.specs.declared.crew.CrewFault.TheVariants as crew
use Rattle.brace_desk.specs.declared.publisher.PubFault.{PubFault}
use Rattle.brace_desk.specs.declared.publisher.PubFault.TheVariants as refusal
use Rattle.brace_desk.specs.Refusals.{tick_of}
use Rattle.brace_desk.specs.Shows.{file_name}
use Rattle.brace_command.specs.declared.answer.Answer.{Answer}
use Rattle.brace_command.specs.declared.answer.Stopped.{Stopped}
use Rattle.brace_command.specs.declared.answer.Stopped.TheVariants as stopped
use Rattle.brace_command.specs.declared.status.Status.{Status}
use Rattle.brace_command.specs.declared.status.Status.TheVariants.{Done, Fault, WriteFault, SaveFault, NoMemory}
use Rattle.brace_command.specs.Messages.{fault_message, write_fault_message, save_fault_message, no_memory_message}
use Rattle.brace_command.specs.Savings.{Saves}
use Rattle.brace_command.specs.Settled.{stopped_status, stopped_message, status_in, message_in, told_counts, saves_files, is_work, is_plain_work}
use Rattle.brace_top.specs.inner.Settled.{IsUnsavedAs, IsRefusedBy, IsSettled}
use Rattle.brace_command.proofs.AnswerGives.{told_gives, refused_gives, stop_gives, stopped_gives}

-- a publisher without names saves nothing
pub both_none : (a b : Option (List ℕ)) → (is_some a || is_some b) ≡ false → (a ≡ None) × (b ≡ None)
both_none None None e = (refl, refl)
both_none None (Some name) e = absurd (cc)
both_none (Some name) b e = absurd (cc)

-- the name under which the file is saved that was not
abbrev pub name_in : Saves → PubFault → Option (List ℕ)
name_in saves (refusal.Save k) = saves.save
name_in saves (refusal.Watch k) = saves.watch
name_in saves _ = None

pub no_name : (saves : Saves) (x : PubFault) (name : List ℕ) → saves_files saves ≡ false → name_in saves x ≡ Some name → ⊥
no_name saves (refusal.Save k) name bare named = let e : None ≡ Some name = sym (both_none saves.save saves.watch bare).0 ∙ named in absurd cc
no_name saves (refusal.Watch k) name bare named = let e : None ≡ Some name = sym (both_none saves.save saves.watch bare).1 ∙ named in absurd cc
no_name saves _ name bare named = absurd (cc)

-- ---- what an answer says

pub unsaved_gives : (P : List ℕ → Status → Type 0) (name : Option (List ℕ)) (k : ℕ) (stop : Stopped) → IsUnsavedAs name k stop
    → ((given : List ℕ) → name ≡ Some given → P (save_fault_message (file_name given k)) SaveFault) → P no_memory_message NoMemory → P (stopped_message stop) (stopped_status stop)
unsaved_gives P None k stop h told none = stop_gives P stopped.NoMemory stop h none
unsaved_gives P (Some name) k stop h told none = refused_gives P SaveFault (save_fault_message (file_name name k)) stop h (told name refl) none

pub refusal_gives : (P : List ℕ → Status → Type 0) (saves : Saves) (x : PubFault) (stop : Stopped) → IsRefusedBy saves x stop → (x ≡ refusal.Write → P write_fault_message WriteFault)
    → ((name : List ℕ) (k : ℕ) → tick_of x ≡ Some k → name_in saves x ≡ Some name → P (save_fault_message (file_name name k)) SaveFault)
    → P no_memory_message NoMemory → P (stopped_message stop) (stopped_status stop)
refusal_gives P saves refusal.Write stop h write unsaved none = stop_gives P stopped.WriteFault stop h (write refl)
refusal_gives P saves (refusal.Save k) stop h write unsaved none = unsaved_gives P saves.save k stop h (λ name named. unsaved name k refl named) none
refusal_gives P saves (refusal.Watch k) stop h write unsaved none = unsaved_gives P saves.watch k stop h (λ name named. unsaved name k refl named) none
refusal_gives P saves refusal.NoMemory stop h write unsaved none = stop_gives P stopped.NoMemory stop h none

-- what holds of each way in which a run may be answered holds of its answer
pub settled_gives : (P : List ℕ → Status → Type 0) (stats : Bool) (saves : Saves) (came : Result Counts CrewFault) (r : Result Answer Stopped) → IsSettled stats saves came r
    → ((c : Counts) → came ≡ Ok c → P (told_counts stats c) Done) → ((f : RunFault) → came ≡ Err (crew.Fault f) → P (fault_message f) Fault)
    → (came ≡ Err (crew.Publish refusal.Write) → P write_fault_message WriteFault)
    → ((x : PubFault) (name : List ℕ) (k : ℕ) → tick_of x ≡ Some k → name_in saves x ≡ Some name → came ≡ Err (crew.Publish x) → P (save_fault_message (file_name name k)) SaveFault)
    → P no_memory_message NoMemory → P (message_in r) (status_in r)
settled_gives P stats saves (Ok c) r settled done fault write unsaved none = told_gives P Done (told_counts stats c) r settled (done c refl) none
settled_gives P stats saves (Err (crew.Fault f)) r settled done fault write unsaved none = told_gives P Fault (fault_message f) r settled (fault f refl) none
settled_gives P stats saves (Err (crew.Publish x)) (Ok a) settled done fault write unsaved none = absurd settled
settled_gives P stats saves (Err (crew.Publish x)) (Err stop) settled done fault write unsaved none =
    refusal_gives P saves x stop settled (λ is. write (ap (λ (y : PubFault). Err (crew.Publish y)) is)) (λ name k at named. unsaved x name k at named refl) none
settled_gives P stats saves (Err crew.NoMemory) r settled done fault write unsaved none = stopped_gives P stopped.NoMemory r settled none

-- a run that is answered by what its crew came to did its work
pub settled_work : (stats : Bool) (saves : Saves) (came : Result Counts CrewFault) (r : Result Answer Stopped) → IsSettled stats saves came r → is_work (status_in r) ≡ true
settled_work stats saves came r settled =
    settled_gives (λ m status. is_work status ≡ true) stats saves came r settled (λ c is. refl) (λ f is. refl) (λ is. refl) (λ x name k at named is. refl) refl

-- one that saves nothing did no more
pub settled_plain : (stats : Bool) (saves : Saves) (came : Result Counts CrewFault) (r : Result Answer Stopped) → saves_files saves ≡ false → IsSettled stats saves came r → is_plain_work (status_in r) ≡ true
settled_plain stats saves came r bare settled =
    settled_gives (λ m status. is_plain_work status ≡ true) stats saves came r settled (λ c is. refl) (λ f is. refl) (λ is. refl)
    (λ x name k at named is. absurd (no_name saves x name bare named)) refl
