-- What a checkpoint comes to is one; a file that was loaded as one.
use Rattle.std.proofs.Common.{◌≡◌, ◌∙◌, refl, sym, ap, subst, ℕ, ◌-◌, ◌<◌, ◌≤◌, List, ◌++◌, length, take, drop, Bool, true, false, nat_lt, append_assoc, inl, inr, Some, Result, Ok, Err, arith}
use Rattle.std.proofs.lemmas.Bool.Decides.{nat_tests}
use Rattle.std.proofs.lemmas.List.{take-append-drop, take-take, take_all}
use Rattle.brace_io.specs.Shelves.{Files}
use Rattle.brace_model.specs.declared.program.Program.{Program}
use Rattle.brace_model.specs.Lawful.{LawfulProgram}
use Rattle.brace_save.specs.declared.kinds.PointFault.{PointFault}
use Rattle.brace_save.specs.declared.kinds.PointFault.TheVariants as point_fault
use Rattle.brace_save.specs.Lines.{AreAll, Begin, IsFirstBad, IsRead, read, bad, cut, fault_of, whole_lines, unfinished}
use Rattle.brace_save.specs.Texts.{Moment}
use Rattle.brace_save.proofs.Begins.{front_begins}
use Rattle.brace_save.proofs.TextsRead.{text_read, read_text}
use Rattle.brace_command.specs.declared.answer.Stopped.{Stopped}
use Rattle.brace_command.specs.Limits.{checkpoint_limit}
use Rattle.brace_command.specs.declared.status.Status.TheVariants.{Checkpoint}
use Rattle.brace_command.specs.Answer.{ShelfCall}
use Rattle.brace_command.specs.Commands.{Start, Anew, Resumed}
use Rattle.brace_command.specs.Messages.{point_message}
use Rattle.brace_command.specs.Outcome.{Refusal, loaded, unless_other, PointFrom, PointOf, BeginsAt}
use Rattle.brace_command.specs.Settled.{IsPointRefused, IsRefusedAs, IsUnloaded}
use Rattle.brace_command.proofs.AnswerLemmas.{refusal_unloads, memory_unloads}

pub equal_by : (a b : Bool) (m n : ℕ) → nat_lt m n ≡ a → nat_lt n m ≡ b → (m < n → ⊥) → (n < m → ⊥) → m ≡ n
equal_by true b m n e f below above = let l : m < n = grind (arith, nat_tests) in absurd (below l)
equal_by false true m n e f below above = let l : n < m = grind (arith, nat_tests) in absurd (above l)
equal_by false false m n e f below above = grind (arith, nat_tests)

-- of lines with which a checkpoint begins the first ones begin it
sooner : (program : Program) (all : List (List ℕ)) (m n : ℕ) → m ≤ n → Begin program (take n all) → Begin program (take m all)
sooner program all m n le (moment, rest, of_) =
    let front = take n all in
    front_begins program of_.tells_next moment (take m all) (drop m front ++ rest) of_.moment_is
    (ap (λ (l : List (List ℕ)). l ++ (drop m front ++ rest)) (sym (take-take m n all le))
    ∙ sym (append_assoc (take m front) (drop m front) rest) ∙ ap (λ (l : List (List ℕ)). l ++ rest) (take-append-drop m front) ∙ of_.same)

-- no line is the first bad one behind another
no_later : (program : Program) (all : List (List ℕ)) (rest : List ℕ) (m n : ℕ) → IsFirstBad program all rest m → IsFirstBad program all rest n → m < n → ⊥
no_later program all rest m n f g lt = elim f.bad [
  | inl one ↦ one.1 (sooner program all m (n - 1) (omega (arith, lt)) g.before)
  | inr two ↦ elim g.bad [
    | inl other ↦ absurd (omega (arith, lt, two.0, other.0))
    | inr other ↦ absurd (omega (arith, lt, two.0, other.0))
  ]
]

one_bad : (program : Program) (all : List (List ℕ)) (rest : List ℕ) (m n : ℕ) → IsFirstBad program all rest m → IsFirstBad program all rest n → m ≡ n
one_bad program all rest m n f g = equal_by _ _ m n refl refl (no_later program all rest m n f g) (no_later program all rest n m g f)

-- lines that end before those of a checkpoint do have no bad one
not_cut : (program : Program) (all : List (List ℕ)) (rest : List ℕ) (n : ℕ) → IsFirstBad program all rest n → Begin program all → (AreAll program all → ⊥) → ⊥
not_cut program all rest n f begun never = elim f.bad [
  | inl one ↦ one.1 (sooner program all n (length all) one.0 (subst (Begin program) (sym (take_all (length all) all (omega arith))) begun))
  | inr two ↦ never two.2
]

one_read : (program : Program) (bytes : List ℕ) (a b : Result Moment PointFault) → LawfulProgram program
    → IsRead program (whole_lines bytes) (unfinished bytes) a → IsRead program (whole_lines bytes) (unfinished bytes) b → a ≡ b
one_read program bytes _ b lawful (read m are none) y = sym (text_read program m bytes b lawful (read_text program m bytes (read m are none)) y)
one_read program bytes _ _ lawful (bad m f) (read w are none) = text_read program w bytes _ lawful (read_text program w bytes (read w are none)) (bad m f)
one_read program bytes _ _ lawful (cut begun never) (read w are none) = text_read program w bytes _ lawful (read_text program w bytes (read w are none)) (cut begun never)
one_read program bytes _ _ lawful (bad m f) (bad n g) = ap (λ (k : ℕ). Err (fault_of program (whole_lines bytes) k)) (one_bad program (whole_lines bytes) (unfinished bytes) m n f g)
one_read program bytes _ _ lawful (bad m f) (cut begun never) = absurd (not_cut program (whole_lines bytes) (unfinished bytes) m f begun never)
one_read program bytes _ _ lawful (cut begun never) (bad n g) = absurd (not_cut program (whole_lines bytes) (unfinished bytes) n g begun never)
one_read program bytes _ _ lawful (cut begun never) (cut again none) = refl

one_from : (program : Program) (name : List ℕ) (source : Result (List ℕ) Refusal) (a b : Result Moment Refusal) → LawfulProgram program
    → PointFrom program name source a → PointFrom program name source b → a ≡ b
one_from program name (Err r) a b lawful x y = x ∙ sym y
one_from program name (Ok bytes) a b lawful x y = x.is ∙ ap (unless_other name) (one_read program bytes x.judged y.judged lawful x.reads y.reads) ∙ sym y.is

-- a run begins at one moment, or is refused for one reason
pub one_beginning : (files : Files) (program : Program) (start : Start) (a b : Result Moment Refusal) → LawfulProgram program
    → BeginsAt files program start a → BeginsAt files program start b → a ≡ b
one_beginning files program (Anew name seed) a b lawful x y = sym x ∙ y
one_beginning files program (Resumed name) a b lawful x y = one_from program name (loaded Checkpoint checkpoint_limit name (files name)) a b lawful x y

-- a file that was not loaded is no checkpoint
pub unloaded_point : (program : Program) (files : Files) (name : List ℕ) (r : Refusal) → loaded Checkpoint checkpoint_limit name (files name) ≡ Err r → PointOf files program name (Err r)
unloaded_point program files name r e = subst (λ (source : Result (List ℕ) Refusal). PointFrom program name source (Err r)) (sym e) refl

-- a file that is read as a checkpoint
pub point_read : (program : Program) (files : Files) (name bytes : List ℕ) (moment : Moment) → loaded Checkpoint checkpoint_limit name (files name) ≡ Ok bytes
    → IsRead program (whole_lines bytes) (unfinished bytes) (Ok moment) → PointOf files program name (Ok moment)
point_read program files name bytes moment e is =
    subst (λ (source : Result (List ℕ) Refusal). PointFrom program name source (Ok moment)) (sym e) (record { judged = Ok moment; reads = is; is = refl })

-- a refusal that names the fault refuses the checkpoint
pub refused_point : (name : List ℕ) (fault : PointFault) (stopped : Stopped) → (fault ≡ point_fault.NoMemory → ⊥)
    → IsRefusedAs Checkpoint (point_message name fault) stopped → IsPointRefused name fault stopped
refused_point name point_fault.NoMemory stopped never is = absurd (never refl)
refused_point name _ stopped never is = is

told : (program : Program) (name bytes : List ℕ) (shelf : ShelfCall) (fault : PointFault) (stopped : Stopped)
    → shelf.faults_after ≡ shelf.faults_before → ((files : Files) → shelf.held ≡ Some files → loaded Checkpoint checkpoint_limit name (files name) ≡ Ok bytes)
    → IsRead program (whole_lines bytes) (unfinished bytes) (Err fault)
    → IsRefusedAs Checkpoint (point_message name fault) stopped → IsUnloaded (λ files. PointOf files program name) name shelf stopped
told program name bytes shelf fault stopped same source reads is =
    refusal_unloads _ name shelf Checkpoint _ stopped refl same is
    (λ files held. subst (λ (from_ : Result (List ℕ) Refusal). PointFrom program name from_ (Err (record { status = Checkpoint; message = point_message name fault })))
    (sym (source files held)) (record { judged = Err fault; reads = reads; is = refl }))

-- a file that is no checkpoint
pub point_unloads : (program : Program) (name bytes : List ℕ) (shelf : ShelfCall) (fault : PointFault) (stopped : Stopped)
    → shelf.faults_after ≡ shelf.faults_before → ((files : Files) → shelf.held ≡ Some files → loaded Checkpoint checkpoint_limit name (files name) ≡ Ok bytes)
    → ((fault ≡ point_fault.NoMemory → ⊥) → IsRead program (whole_lines bytes) (unfinished bytes) (Err fault))
    → IsPointRefused name fault stopped → IsUnloaded (λ files. PointOf files program name) name shelf stopped
point_unloads program name bytes shelf point_fault.NoMemory stopped same source judged is =
    subst (λ (e : Stopped). IsUnloaded (λ files. PointOf files program name) name shelf e) (sym is) (memory_unloads _ name shelf)
point_unloads program name bytes shelf point_fault.Incomplete stopped same source judged is = told program name bytes shelf point_fault.Incomplete stopped same source (judged (λ e. absurd cc)) is
point_unloads program name bytes shelf (point_fault.BadLine n) stopped same source judged is = told program name bytes shelf (point_fault.BadLine n) stopped same source (judged (λ e. absurd cc)) is
point_unloads program name bytes shelf point_fault.OtherClasses stopped same source judged is = told program name bytes shelf point_fault.OtherClasses stopped same source (judged (λ e. absurd cc)) is
point_unloads program name bytes shelf point_fault.BadVersion stopped same source judged is = told program name bytes shelf point_fault.BadVersion stopped same source (judged (λ e. absurd cc)) is
