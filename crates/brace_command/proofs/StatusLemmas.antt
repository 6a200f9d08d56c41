-- What the kinds of statuses leave out.
use Rattle.std.proofs.Common.{◌≡◌, subst, true, arith}
use Rattle.brace_command.specs.declared.status.Status.{Status}
use Rattle.brace_command.specs.declared.status.Status.TheVariants.{Done, Usage, Fault, ReadFault, WriteFault, SaveFault, NoMemory}
use Rattle.brace_command.specs.Answer.{ShelfCall, SinkCall, StopsShelf, CountsShelf, CountsReads, CountsWrites}
use Rattle.brace_command.specs.Status.{has_run, is_refusal, saves_nothing}
use Rattle.brace_command.specs.Settled.{is_stop, is_work, is_plain_work}

-- a command that was stopped did not run
pub stop_runs : (P : Type 0) (status : Status) → is_stop status ≡ true → has_run status ≡ true → P
stop_runs P Done s h = absurd cc
stop_runs P _ s h = absurd cc

-- a command that was stopped had words that are one
pub stop_usage : (status : Status) → is_stop status ≡ true → status ≡ Usage → ⊥
stop_usage status s e = let f : is_stop Usage ≡ true = subst (λ (x : Status). is_stop x ≡ true) e s in absurd cc

-- no write of a command that was stopped failed
pub stop_writes : (sink : SinkCall) (status : Status) → is_stop status ≡ true → CountsWrites sink status
stop_writes sink status s e =
    let f : is_stop WriteFault ≡ true = subst (λ (x : Status). is_stop x ≡ true) e s in absurd cc

-- a command whose work was begun is no refusal
pub work_refusal : (P : Type 0) (status : Status) → is_work status ≡ true → is_refusal status ≡ true → P
work_refusal P Done w r = absurd cc
work_refusal P _ w r = absurd cc

-- a command whose work was begun may save files
pub work_saves : (P : Type 0) (status : Status) → is_work status ≡ true → saves_nothing status ≡ true → P
work_saves P Done w r = absurd cc
work_saves P _ w r = absurd cc

-- a command whose work was begun had words that are one
pub work_usage : (status : Status) → is_work status ≡ true → status ≡ Usage → ⊥
work_usage status w e = let f : is_work Usage ≡ true = subst (λ (x : Status). is_work x ≡ true) e w in absurd cc

-- no read of a command whose work was begun failed
pub work_reads : (status : Status) → is_work status ≡ true → status ≡ ReadFault → ⊥
work_reads status w e = let f : is_work ReadFault ≡ true = subst (λ (x : Status). is_work x ≡ true) e w in absurd cc

-- work that saves nothing is work
pub plain_works : (status : Status) → is_plain_work status ≡ true → is_work status ≡ true
plain_works SaveFault w = absurd cc
plain_works _ w = w

-- work that saves nothing stops no shelf
pub plain_stops : (shelf : ShelfCall) (status : Status) → is_plain_work status ≡ true → StopsShelf shelf status
plain_stops shelf status w = record {
  read = λ e. absurd (work_reads status (plain_works status w) e);
  saved = λ e. let f : is_plain_work SaveFault ≡ true = subst (λ (x : Status). is_plain_work x ≡ true) e w in absurd cc;
}

-- no call to the shelf failed in work that saves nothing
pub plain_counts : (shelf : ShelfCall) (status : Status) → is_plain_work status ≡ true → shelf.faults_after ≡ shelf.faults_before → CountsShelf shelf status
plain_counts shelf Done w same = omega (arith, same)
plain_counts shelf Fault w same = omega (arith, same)
plain_counts shelf ReadFault w same = absurd cc
plain_counts shelf WriteFault w same = omega (arith, same)
plain_counts shelf SaveFault w same = absurd cc
plain_counts shelf NoMemory w same = tt
plain_counts shelf _ w same = same

-- a command that was stopped did nothing to its shelf but read
pub stop_reads : (shelf : ShelfCall) (status : Status) → is_stop status ≡ true → CountsShelf shelf status → CountsReads shelf status
stop_reads shelf Done s counts = absurd cc
stop_reads shelf Fault s counts = absurd cc
stop_reads shelf WriteFault s counts = absurd cc
stop_reads shelf SaveFault s counts = absurd cc
stop_reads shelf _ s counts = counts

-- work that saves nothing reads nothing
pub plain_reads : (shelf : ShelfCall) (status : Status) → is_plain_work status ≡ true → shelf.faults_after ≡ shelf.faults_before → CountsReads shelf status
plain_reads shelf ReadFault w same = absurd cc
plain_reads shelf NoMemory w same = tt
plain_reads shelf _ w same = same
