use Rattle.std.proofs.Common.{◌≡◌, ◌∙◌, ℕ, List, Bool, true, codes, Option, Some, Result, Err, Ok, if◌then◌else◌, length, nat_lt, ap, refl, sym, subst, arith}
use Rattle.std.proofs.lemmas.Bool.Decides.{nat_tests}
use Rattle.brace_io.specs.Shelves.{Files, HoldsOver}
use Rattle.brace_command.specs.declared.status.Status.{Status}
use Rattle.brace_command.specs.declared.status.Status.TheVariants.{ReadFault}
use Rattle.brace_command.specs.declared.answer.Stopped.{Stopped}
use Rattle.brace_command.specs.declared.answer.Stopped.TheVariants as stop
use Rattle.brace_command.specs.Answer.{ShelfCall, IsUnread, CountsShelf}
use Rattle.brace_command.specs.Messages.{named_message}
use Rattle.brace_command.specs.Outcome.{Refusal, loaded, refusal}
use Rattle.brace_command.specs.Settled.{GivesNothing, IsRefusedAs, IsUnloaded}
use Rattle.brace_command.proofs.AnswerLemmas.{file_loaded, memory_unloads, refusal_unloads}
use Rattle.brace_command.proofs.load.load_file.Goals as goal

-- a file that the shelf tells, past its limit
file_too_long : (held : Option Files) (files : Files) (status : Status) (limit : ℕ) (name : List ℕ) → held ≡ Some files → HoldsOver held name limit
    → loaded status limit name (files name) ≡ Err (refusal status name (codes ": TooLong"))
file_too_long held files status limit name told over =
    let (bytes, (there, more)) = subst (λ (h : Option Files). HoldsOver h name limit) told over refl in
    let past : nat_lt limit (length bytes) ≡ true = grind (arith, nat_tests, more) in
    ap (loaded status limit name) there ∙ ap (λ (b : Bool). if b then Err (refusal status name (codes ": TooLong")) else Ok bytes) past

-- a file whose reading failed, as it is owed
read_fails : {A : Type 0} (comes_to : Files → Result A Refusal → Type 0) (name : List ℕ) (shelf : ShelfCall) (stopped : Stopped)
    → IsUnread shelf (named_message name (codes ": read fault")) name → IsRefusedAs ReadFault (named_message name (codes ": read fault")) stopped
    → IsUnloaded comes_to name shelf stopped
read_fails comes_to name shelf (stop.Refused a) unread is = record {
  nothing =
      subst (λ (s : Status). GivesNothing (λ files x. comes_to files (Err x)) name shelf a.message.items s) (sym is.ends)
      (subst (λ (m : List ℕ). IsUnread shelf m name) (sym is.says) unread);
  counts = subst (CountsShelf shelf) (sym is.ends) unread.failed;
}
read_fails comes_to name shelf stop.NoMemory unread is = memory_unloads comes_to name shelf
read_fails comes_to name shelf _ unread is = absurd is

pub returns-in-Ok-clause-loads : goal.returns-in-Ok-clause-loads
returns-in-Ok-clause-loads g c = record {
  found = λ files told. file_loaded _ files c.args.status c.args.limit c.args.name.now _ told c.in-Ok.ensures.all c.in-Ok.ensures.within;
  counts = c.in-Ok.ensures.faults_alone (λ e. absurd cc);
}

pub returns-in-Err-TooLong-clause-loads : goal.returns-in-Err-TooLong-clause-loads
returns-in-Err-TooLong-clause-loads g c =
    refusal_unloads (λ files found. loaded c.args.status c.args.limit c.args.name.now (files c.args.name.now) ≡ found) c.args.name.now _ c.args.status _ _ c.requires.refusal
    (c.in-Err-TooLong.ensures.faults_alone (λ e. absurd cc)) c.refuse_file-in-Err-TooLong.ensures
    (λ files told. file_too_long _ files c.args.status c.args.limit c.args.name.now told (c.in-Err-TooLong.ensures.long c.in-Err-TooLong.field-0-is))

pub returns-in-Err-Failed-clause-loads : goal.returns-in-Err-Failed-clause-loads
returns-in-Err-Failed-clause-loads g c =
    let e = c.in-Err-Failed.ensures in
    let is = c.in-Err-Failed.field-0-is in
    read_fails (λ files found. loaded c.args.status c.args.limit c.args.name.now (files c.args.name.now) ≡ found) c.args.name.now _ _
    (record { failed = e.rose is; same = e.held_alone; stopped = e.stops is; says = refl }) c.refuse_file-in-Err-Failed.ensures
