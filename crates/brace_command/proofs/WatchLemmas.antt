-- The watches of a watch file, and the refusal of one.
use Rattle.std.proofs.Common.{◌≡◌, ◌∙◌, refl, sym, ap, subst, ℕ, List, [], Some, None, Ok}
use Rattle.brace_io.specs.Shelves.{Files}
use Rattle.brace_model.specs.declared.program.Program.{Program}
use Rattle.brace_watch.specs.declared.kinds.Watch.{Watch}
use Rattle.brace_watch.specs.declared.kinds.WatchFault.{WatchFault}
use Rattle.brace_watch.specs.declared.kinds.WatchFault.TheVariants as watch_fault
use Rattle.brace_watch.specs.declared.kinds.WatchKind.{WatchKind}
use Rattle.brace_watch.specs.Lines.{texts_of}
use Rattle.brace_watch.specs.Watches.{AreWatches, watches_in, first_fault}
use Rattle.brace_command.specs.declared.answer.Stopped.{Stopped}
use Rattle.brace_command.specs.Limits.{watch_limit}
use Rattle.brace_command.specs.declared.status.Status.TheVariants.{Watches}
use Rattle.brace_command.specs.Answer.{ShelfCall}
use Rattle.brace_command.specs.Outcome.{loaded, unless_wrong, watches_from, watches_of}
use Rattle.brace_command.specs.Settled.{IsWatchRefused, IsUnloaded}
use Rattle.brace_command.proofs.AnswerLemmas.{refusal_unloads, memory_unloads}

-- the watches of a watch file
pub watches_read : (program : Program) (files : Files) (name bytes : List ℕ) (watches : List Watch) → loaded Watches watch_limit name (files name) ≡ Ok bytes
    → first_fault program (texts_of bytes) ≡ None → watches ≡ watches_in program (texts_of bytes) → watches_of files program (Some name) ≡ Ok watches
watches_read program files name bytes watches e none is =
    ap (watches_from program name) e ∙ ap (unless_wrong name (watches_in program (texts_of bytes))) none ∙ ap (λ (all : List Watch). Ok all) (sym is)

-- a watch file that is refused for a line
pub watch_unloads : (program : Program) (name bytes : List ℕ) (shelf : ShelfCall) (fault : WatchFault) (stopped : Stopped)
    → shelf.faults_after ≡ shelf.faults_before → ((files : Files) → shelf.held ≡ Some files → loaded Watches watch_limit name (files name) ≡ Ok bytes)
    → ((number : ℕ) (kind : WatchKind) → fault ≡ watch_fault.Bad number kind → first_fault program (texts_of bytes) ≡ Some (number, kind))
    → IsWatchRefused name fault stopped → IsUnloaded (λ files found. watches_of files program (Some name) ≡ found) name shelf stopped
watch_unloads program name bytes shelf (watch_fault.Bad number kind) stopped same source first is =
    refusal_unloads _ name shelf Watches _ stopped refl same is
    (λ files told. ap (watches_from program name) (source files told) ∙ ap (unless_wrong name _) (first number kind refl))
watch_unloads program name bytes shelf watch_fault.NoMemory stopped same source first is =
    subst (λ (e : Stopped). IsUnloaded (λ files found. watches_of files program (Some name) ≡ found) name shelf e) (sym is) (memory_unloads _ name shelf)

-- an empty watch file watches nothing
pub none_watched : (program : Program) (watches : List Watch) → watches ≡ [] → AreWatches program watches
none_watched program watches none = record { bytes = []; faultless = refl; asks = none }
