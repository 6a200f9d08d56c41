-- A command over files has at most one status, one text, one list of saved files, and one message.
use Rattle.std.proofs.Common.{◌≡◌, ◌∙◌, refl, sym, ap, ap₂, subst, ℕ, ◌+◌, ◌<◌, ℤ, List, [], map, true, false, codes, slice_get, Option, Some, None, Result, Ok, Err, arith}
use Rattle.std.specs.Prelude.{⊤}
use Rattle.brace_io.specs.Shelves.{Files}
use Rattle.brace_tok.specs.declared.kinds.Token.{Token}
use Rattle.brace_tok.specs.declared.fault.TokFault.{TokFault}
use Rattle.brace_tok.specs.declared.fault.TokFault.TheVariants as tok
use Rattle.brace_tok.specs.Answers.{IsFault}
use Rattle.brace_tok.specs.Spells.{FirstFault}
use Rattle.brace_tok.proofs.Unique.{one_list, no_list, one_fault}
use Rattle.brace_syntax.specs.declared.fault.SynFault.{SynFault}
use Rattle.brace_syntax.specs.declared.fault.SynFault.TheVariants as syn
use Rattle.brace_syntax.specs.declared.tree.Tree.{Tree}
use Rattle.brace_syntax.specs.Depth.{NowhereDeep, FirstDeepAt}
use Rattle.brace_syntax.specs.Reads.{Reads}
use Rattle.brace_syntax.specs.Refusals as grammar
use Rattle.brace_syntax.proofs.ClassFound.{one_tree}
use Rattle.brace_syntax.proofs.Unfit.{one_place}
use Rattle.brace_names.specs.declared.fault.NameFault.{NameFault}
use Rattle.brace_names.specs.declared.fault.NameFault.TheVariants as name
use Rattle.brace_names.specs.Faults as names
use Rattle.brace_check.specs.declared.fault.CheckFault.{CheckFault}
use Rattle.brace_check.specs.declared.fault.CheckFault.TheVariants as check
use Rattle.brace_check.specs.Faults as checks
use Rattle.brace_check.specs.Programs.{program_of}
use Rattle.brace_model.specs.declared.fault.Fault.{Fault}
use Rattle.brace_model.specs.declared.program.Program.{Program}
use Rattle.brace_cuts.specs.declared.plan.CutPlan.{CutPlan}
use Rattle.brace_watch.specs.declared.kinds.Watch.{Watch}
use Rattle.brace_model.specs.Lawful.{LawfulProgram}
use Rattle.brace_model.specs.World.{World, x_of}
use Rattle.brace_balance.specs.Texts.{plan_line, certificate}
use Rattle.brace_desk.specs.Sums.{place_along}
use Rattle.brace_save.specs.Texts.{Moment}
use Rattle.brace_show.specs.Canonical.{canonical}
use Rattle.brace_command.specs.declared.script_fault.ScriptKind.TheVariants as kind
use Rattle.brace_command.specs.declared.script_fault.ScriptFault.{ScriptFault}
use Rattle.brace_command.specs.declared.script_fault.ScriptFault.TheVariants.{Refused, NoMemory}
use Rattle.brace_command.specs.Commands.{Command, RunCommand, AuditCommand, Run, Format, Check, Planning, Trial, Balancing, Auditing}
use Rattle.brace_command.proofs.PointLemmas.{equal_by, one_beginning}
use Rattle.brace_command.proofs.ScriptLemmas.{meant_lawful}
use Rattle.brace_command.proofs.StripLemmas.{one_order, one_plan, one_certificate}
use Rattle.brace_command.specs.Scripts.{IsTree, Means, resolved, NoTree, in_tokens, in_grammar, Refuses, without_tree, in_names, in_checks, token_fault, grammar_fault, name_fault, check_fault}
use Rattle.brace_command.specs.Trials.{trial_script}
use Rattle.brace_command.specs.Outcome.{Outcome, Refusal, ComesTo, unloaded, refused_at, stands_for, Follows, FollowedBy, RunOver, RunFrom, RunOutcome, CommandOutcome, source_of, script_message, refused, told, shown, agents_of, plan_of, watches_of, trial_outcome, audit_job, compared, agreed, AuditFrom, IsBalanced, Judged, IsJudged}
use Rattle.brace_command.specs.Balances.{IsBalance}
use Rattle.brace_command.specs.PlanText.{plan_text}

pub record Agree (o p : Outcome) : Type 0 where
  pub status : o.status ≡ p.status
  pub out : o.out ≡ p.out
  pub err : o.err ≡ p.err
  pub saved : o.saved ≡ p.saved

same : (o p q : Outcome) → o ≡ q → p ≡ q → Agree o p
same o p q e f = let g : o ≡ p = e ∙ sym f in record { status = ap (λ (x : Outcome). x.status) g; out = ap (λ (x : Outcome). x.out) g; err = ap (λ (x : Outcome). x.err) g; saved = ap (λ (x : Outcome). x.saved) g }

-- tokens that are nowhere too deep have no first place at which they are
not_deep : (toks : List Token) (at_ : ℕ) → NowhereDeep toks → FirstDeepAt toks at_ → ⊥
not_deep toks at_ shallow first = let e : true ≡ false = sym first.deep ∙ shallow (first.number + 1) in absurd cc

-- no token before the first one that is too deep is too deep
later : (toks : List Token) (a b : ℕ) → (d : FirstDeepAt toks a) → (e : FirstDeepAt toks b) → d.number < e.number → ⊥
later toks a b d e l = let f : true ≡ false = sym d.deep ∙ e.first (d.number + 1) (omega arith) in absurd cc

-- where a token that may be there stands
abbrev from_of : Option Token → ℕ
from_of None = 0
from_of (Some t) = t.from

one_deep : (toks : List Token) (a b : ℕ) → FirstDeepAt toks a → FirstDeepAt toks b → a ≡ b
one_deep toks a b d e =
    let n : d.number ≡ e.number = equal_by _ _ d.number e.number refl refl (later toks a b d e) (later toks b a e d) in
    let s : Some d.token ≡ Some e.token = sym d.stands ∙ ap (slice_get toks) n ∙ e.stands in
    sym d.place ∙ ap (λ (t : Option Token). from_of t) s ∙ e.place

-- a fault of the script, and no want of memory
abbrev IsTold : ScriptFault → Type 0
IsTold (Refused kind at) = ⊤
IsTold NoMemory = ⊥

-- the message of a fault
abbrev message_of : List ℕ → List ℕ → ScriptFault → List ℕ
message_of name src (Refused kind at) = script_message name src kind at
message_of name src NoMemory = []

-- ---- tokens, depth and grammar

first_of_tokens : (src : List ℕ) (f : TokFault) → IsTold (token_fault f) → IsFault src f → FirstFault src f
first_of_tokens src tok.NoMemory t r = absurd t
first_of_tokens src _ t r = r

one_of_grammar : (src : List ℕ) (toks : List Token) (f g : SynFault) → IsTold (grammar_fault f) → IsTold (grammar_fault g)
    → grammar.Refuses src toks f → grammar.Refuses src toks g → grammar.StandsIn src toks f → grammar.StandsIn src toks g → grammar_fault f ≡ grammar_fault g
one_of_grammar src toks (syn.TooDeep a) (syn.TooDeep b) t u r s p q = ap (λ (n : ℕ). Refused kind.TooDeep n) (one_deep toks a b r s)
one_of_grammar src toks (syn.TooDeep a) (syn.NoReading b) t u r s p q = absurd (not_deep toks a s.0 r)
one_of_grammar src toks (syn.NoReading a) (syn.TooDeep b) t u r s p q = absurd (not_deep toks b r.0 s)
one_of_grammar src toks (syn.NoReading a) (syn.NoReading b) t u r s p q = ap (λ (n : ℕ). Refused kind.NoReading n) (one_place src toks a b p q)
one_of_grammar src toks syn.NoMemory g t u r s p q = absurd t
one_of_grammar src toks _ syn.NoMemory t u r s p q = absurd u

one_without_tree : (src : List ℕ) (x y : ScriptFault) → IsTold x → IsTold y → NoTree src x → NoTree src y → x ≡ y
one_without_tree src _ _ t u (in_tokens f r) (in_tokens g s) =
    ap (λ (z : TokFault). token_fault z) (one_fault src f g (first_of_tokens src f t r) (first_of_tokens src g u s))
one_without_tree src _ _ t u (in_tokens f r) (in_grammar toks g spells s at_) = absurd (no_list src toks f spells (first_of_tokens src f t r))
one_without_tree src _ _ t u (in_grammar toks g spells s at_) (in_tokens f r) = absurd (no_list src toks f spells (first_of_tokens src f u r))
one_without_tree src _ _ t u (in_grammar toks f spells r at_) (in_grammar others g spelled s to_) =
    let one = one_list src others toks spelled spells in
    one_of_grammar src toks f g t u r (subst (λ (l : List Token). grammar.Refuses src l g) one s) at_ (subst (λ (l : List Token). grammar.StandsIn src l g) one to_)

-- a script that has a tree is not refused by its tokens or the grammar
read_by_grammar : (src : List ℕ) (toks : List Token) (tree : Tree) (f : SynFault) → IsTold (grammar_fault f) → NowhereDeep toks → Reads src toks tree → grammar.Refuses src toks f → ⊥
read_by_grammar src toks tree (syn.TooDeep at) t shallow reads r = not_deep toks at shallow r
read_by_grammar src toks tree (syn.NoReading at) t shallow reads r = r.1 tree reads
read_by_grammar src toks tree syn.NoMemory t shallow reads r = absurd t

has_tree : (src : List ℕ) (tree : Tree) (x : ScriptFault) → IsTold x → IsTree src tree → NoTree src x → ⊥
has_tree src tree _ t is (in_tokens f r) = no_list src is.tokens f is.spells (first_of_tokens src f t r)
has_tree src tree _ t is (in_grammar toks f spells r at_) =
    read_by_grammar src is.tokens tree f t is.shallow is.reads (subst (λ (l : List Token). grammar.Refuses src l f) (one_list src toks is.tokens spells is.spells) r)

one_tree_of : (src : List ℕ) (a b : Tree) → IsTree src a → IsTree src b → a ≡ b
one_tree_of src a b t u = one_tree src t.tokens a b t.reads (subst (λ (l : List Token). Reads src l b) (one_list src u.tokens t.tokens u.spells t.spells) u.reads)

-- ---- names and checks

first_of_names : (tree : Tree) (f : NameFault) → IsTold (name_fault f) → names.Refuses tree f → names.first (names.faults tree) ≡ Some f
first_of_names tree name.NoMemory t r = absurd t
first_of_names tree _ t r = r

first_of_checks : (tree : Tree) (f : CheckFault) → IsTold (check_fault f) → checks.Refuses (resolved tree) f → checks.first (checks.faults (resolved tree)) ≡ Some f
first_of_checks tree check.NoMemory t r = absurd t
first_of_checks tree _ t r = r

-- no list has both no fault and a first one
no_first : {A : Type 0} (f : A) → None ≡ Some f → ⊥
no_first f e = absurd cc

faultless_names : (all : List NameFault) (f : NameFault) → all ≡ [] → names.first all ≡ Some f → ⊥
faultless_names all f none e = no_first f (sym (ap names.first none) ∙ e)

faultless_checks : (all : List CheckFault) (f : CheckFault) → all ≡ [] → checks.first all ≡ Some f → ⊥
faultless_checks all f none e = no_first f (sym (ap checks.first none) ∙ e)

abbrev from_some : {A : Type 0} → A → Option A → A
from_some other None = other
from_some other (Some a) = a

-- two first faults of one list
one_first : {A : Type 0} (a b : A) (x : Option A) → x ≡ Some a → x ≡ Some b → a ≡ b
one_first a b x e f = ap (from_some a) (sym e ∙ f)

one_refusal : (src : List ℕ) (x y : ScriptFault) → IsTold x → IsTold y → Refuses src x → Refuses src y → x ≡ y
one_refusal src _ _ t u (without_tree x r) (without_tree y s) = one_without_tree src x y t u r s
one_refusal src _ _ t u (without_tree x r) (in_names tree g is s) = absurd (has_tree src tree x t is r)
one_refusal src _ _ t u (without_tree x r) (in_checks tree g is named s) = absurd (has_tree src tree x t is r)
one_refusal src _ _ t u (in_names tree f is r) (without_tree y s) = absurd (has_tree src tree y u is s)
one_refusal src _ _ t u (in_checks tree f is named r) (without_tree y s) = absurd (has_tree src tree y u is s)
one_refusal src _ _ t u (in_names tree f is r) (in_names other g it s) =
    let moved = one_tree_of src other tree it is in
    ap (λ (z : NameFault). name_fault z)
    (one_first f g _ (first_of_names tree f t r) (subst (λ (w : Tree). names.first (names.faults w) ≡ Some g) moved (first_of_names other g u s)))
one_refusal src _ _ t u (in_names tree f is r) (in_checks other g it named s) =
    let moved = one_tree_of src other tree it is in
    absurd (faultless_names _ f (subst (λ (w : Tree). names.faults w ≡ []) moved named) (first_of_names tree f t r))
one_refusal src _ _ t u (in_checks other g it named s) (in_names tree f is r) =
    let moved = one_tree_of src other tree it is in
    absurd (faultless_names _ f (subst (λ (w : Tree). names.faults w ≡ []) moved named) (first_of_names tree f u r))
one_refusal src _ _ t u (in_checks tree f is named r) (in_checks other g it faultless s) =
    let moved = one_tree_of src other tree it is in
    ap (λ (z : CheckFault). check_fault z)
    (one_first f g _ (first_of_checks tree f t r) (subst (λ (w : Tree). checks.first (checks.faults (resolved w)) ≡ Some g) moved (first_of_checks other g u s)))

-- a script that has a program is not refused
not_refused : (src : List ℕ) (program : Program) (x : ScriptFault) → IsTold x → Means src program → Refuses src x → ⊥
not_refused src program _ t m (without_tree x r) = has_tree src m.tree x t m.is r
not_refused src program _ t m (in_names tree f is r) =
    faultless_names _ f (subst (λ (w : Tree). names.faults w ≡ []) (one_tree_of src m.tree tree m.is is) m.named) (first_of_names tree f t r)
not_refused src program _ t m (in_checks tree f is named r) =
    faultless_checks _ f (subst (λ (w : Tree). checks.faults (resolved w) ≡ []) (one_tree_of src m.tree tree m.is is) m.checked) (first_of_checks tree f t r)

one_program : (src : List ℕ) (a b : Program) → Means src a → Means src b → a ≡ b
one_program src a b m n = m.stands_for ∙ ap (λ (t : Tree). program_of (resolved t)) (one_tree_of src m.tree n.tree m.is n.is) ∙ sym n.stands_for

-- ---- one outcome

-- what one script means, and why it is refused, exclude one another, and each is one
record Decides {A : Type 0} (means : List ℕ → A → Type 0) (refuses : List ℕ → ScriptFault → Type 0) : Type 0 where
  one : (src : List ℕ) (a b : A) → means src a → means src b → a ≡ b
  never : (src : List ℕ) (a : A) (x : ScriptFault) → IsTold x → means src a → refuses src x → ⊥
  alike : (src : List ℕ) (x y : ScriptFault) → IsTold x → IsTold y → refuses src x → refuses src y → x ≡ y

-- the bytes of a script that was loaded twice
abbrev bytes_of : Result (List ℕ) Refusal → List ℕ
bytes_of (Ok src) = src
bytes_of (Err r) = []

abbrev why : Refusal → Result (List ℕ) Refusal → Refusal
why other (Ok src) = other
why other (Err r) = r

one_source : (source : Result (List ℕ) Refusal) (src to_ : List ℕ) → source ≡ Ok src → source ≡ Ok to_ → to_ ≡ src
one_source source src to_ e f = ap bytes_of (sym f ∙ e)

one_why : (source : Result (List ℕ) Refusal) (r s : Refusal) → source ≡ Err r → source ≡ Err s → r ≡ s
one_why source r s e f = ap (why r) (sym e ∙ f)

not_both : (source : Result (List ℕ) Refusal) (src : List ℕ) (r : Refusal) → source ≡ Ok src → source ≡ Err r → ⊥
not_both source src r e f = let g : Ok src ≡ Err r = sym e ∙ f in absurd cc

module _ {A : Type 0} (means : List ℕ → A → Type 0) (refuses : List ℕ → ScriptFault → Type 0) (decides : Decides means refuses) (name : List ℕ) (source : Result (List ℕ) Refusal) where
  -- a script that means one thing comes to nothing else
  one_found : (a : A) (found : Result A Refusal) → ComesTo means refuses name source (Ok a) → ComesTo means refuses name source found → Ok a ≡ found
  one_found _ _ (stands_for src a e m) (unloaded r f) = absurd (not_both source src r e f)
  one_found _ _ (stands_for src a e m) (refused_at to_ k at_ f n) = absurd (decides.never to_ a (Refused k at_) tt (subst (λ (s : List ℕ). means s a) (one_source source to_ src f e) m) n)
  one_found _ _ (stands_for src a e m) (stands_for to_ b f n) = ap (λ (x : A). Ok x) (decides.one src a b m (subst (λ (s : List ℕ). means s b) (one_source source src to_ e f) n))

module _ {A : Type 0} (means : List ℕ → A → Type 0) (refuses : List ℕ → ScriptFault → Type 0) (decides : Decides means refuses) (name : List ℕ) (source : Result (List ℕ) Refusal)
    (next : A → Outcome → Type 0) (alike : (src : List ℕ) (a : A) (o p : Outcome) → means src a → next a o → next a p → Agree o p) where
  found_agree : (a b : Result A Refusal) (o p : Outcome) → ComesTo means refuses name source a → ComesTo means refuses name source b → FollowedBy next a o → FollowedBy next b p → Agree o p
  found_agree _ _ o p (unloaded r e) (unloaded s f) x y = same o p (refused r) x (y ∙ sym (ap refused (one_why source r s e f)))
  found_agree _ _ o p (unloaded r e) (refused_at src k at_ f n) x y = absurd (not_both source src r f e)
  found_agree _ _ o p (unloaded r e) (stands_for src a f m) x y = absurd (not_both source src r f e)
  found_agree _ _ o p (refused_at src k at_ f n) (unloaded r e) x y = absurd (not_both source src r f e)
  found_agree _ _ o p (stands_for src a f m) (unloaded r e) x y = absurd (not_both source src r f e)
  found_agree _ _ o p (refused_at src k at_ e n) (refused_at to_ l at'_ f m) x y =
      let moved = subst (λ (s : List ℕ). refuses s (Refused l at'_)) (one_source source src to_ e f) m in
      let from_ : script_message name src l at'_ ≡ script_message name to_ l at'_ = ap (λ (s : List ℕ). script_message name s l at'_) (sym (one_source source src to_ e f)) in
      rw (x, y) (record {
        status = refl;
        out = refl;
        err = ap (message_of name src) (decides.alike src (Refused k at_) (Refused l at'_) tt tt n moved) ∙ from_;
        saved = refl;
      })
  found_agree _ _ o p (refused_at src k at_ e n) (stands_for to_ a f m) x y =
      absurd (decides.never src a (Refused k at_) tt (subst (λ (s : List ℕ). means s a) (one_source source src to_ e f) m) n)
  found_agree _ _ o p (stands_for to_ a f m) (refused_at src k at_ e n) x y =
      absurd (decides.never src a (Refused k at_) tt (subst (λ (s : List ℕ). means s a) (one_source source src to_ e f) m) n)
  found_agree _ _ o p (stands_for src a e m) (stands_for to_ b f n) x y =
      let one : a ≡ b = decides.one src a b m (subst (λ (s : List ℕ). means s b) (one_source source src to_ e f) n) in
      alike src a o p m x (subst (λ (c : A). next c p) (sym one) y)

  follows_agree : (o p : Outcome) → Follows (ComesTo means refuses name source) next o → Follows (ComesTo means refuses name source) next p → Agree o p
  follows_agree o p f g = found_agree f.found g.found o p f.is g.is f.follows g.follows

trees : Decides IsTree NoTree
trees = record { one = one_tree_of; never = λ src a x t m r. has_tree src a x t m r; alike = one_without_tree }

programs : Decides Means Refuses
programs = record { one = one_program; never = λ src a x t m r. not_refused src a x t m r; alike = one_refusal }

-- a script with its program
abbrev judged_as : List ℕ → Program → Judged
judged_as source program = record { source = source; program = program }

one_judged : (src : List ℕ) (a b : Judged) → IsJudged src a → IsJudged src b → a ≡ b
one_judged src a b m n =
    ap (λ (s : List ℕ). judged_as s a.program) (m.source ∙ sym n.source)
    ∙ ap (λ (p : Program). judged_as b.source p) (one_program src a.program b.program m.means n.means)

judgements : Decides IsJudged Refuses
judgements = record { one = one_judged; never = λ src a x t m r. not_refused src a.program x t m.means r; alike = one_refusal }

-- a script that means one program comes to nothing else
pub one_program_found : (name : List ℕ) (source : Result (List ℕ) Refusal) (program : Program) (found : Result Program Refusal)
    → ComesTo Means Refuses name source (Ok program) → ComesTo Means Refuses name source found → Ok program ≡ found
one_program_found name source program found means is = one_found Means Refuses programs name source program found means is

-- one thing follows
one_follows : {A : Type 0} (of_ : A → Outcome) (a : A) (o p : Outcome) → o ≡ of_ a → p ≡ of_ a → Agree o p
one_follows of_ a o p x y = same o p (of_ a) x y

-- what a watch file comes to is one, and so is what follows on it
watches_agree : (found : Result (List Watch) Refusal) (of_ : List Watch → Outcome) (o p : Outcome) → FollowedBy (λ watches o. o ≡ of_ watches) found o
    → FollowedBy (λ watches o. o ≡ of_ watches) found p → Agree o p
watches_agree (Ok watches) of_ o p x y = same o p (of_ watches) x y
watches_agree (Err r) of_ o p x y = same o p (refused r) x y

-- what a plan comes to is one, and so is what follows on it
plans_agree : (files : Files) (run : RunCommand) (program : Program) (moment : Moment) (found : Result CutPlan Refusal) (o p : Outcome)
    → FollowedBy (RunOver files run program moment) found o → FollowedBy (RunOver files run program moment) found p → Agree o p
plans_agree files run program moment (Ok plan) o p x y = watches_agree (watches_of files program run.watch) _ o p x y
plans_agree files run program moment (Err r) o p x y = same o p (refused r) x y

-- what follows on the moment at which a run begins
moments_agree : (files : Files) (run : RunCommand) (program : Program) (found : Result Moment Refusal) (o p : Outcome)
    → FollowedBy (RunFrom files run program) found o → FollowedBy (RunFrom files run program) found p → Agree o p
moments_agree files run program (Ok moment) o p x y = plans_agree files run program moment (plan_of files run.manner.epoch run.cuts) o p x y
moments_agree files run program (Err r) o p x y = same o p (refused r) x y

runs_agree : (files : Files) (run : RunCommand) (program : Program) (o p : Outcome) → LawfulProgram program → RunOutcome files run program o → RunOutcome files run program p → Agree o p
runs_agree files run program o p lawful x y =
    moments_agree files run program x.found o p x.follows
    (subst (λ (found : Result Moment Refusal). FollowedBy (RunFrom files run program) found p) (sym (one_beginning files program run.start x.found y.found lawful x.is y.is)) y.follows)

-- what an agent file comes to is one, and so are its balanced strips
balances_agree : (strips : ℕ) (program : Program) (found : Result World Refusal) (o p : Outcome)
    → FollowedBy (IsBalanced strips program) found o → FollowedBy (IsBalanced strips program) found p → Agree o p
balances_agree strips program (Ok world) o p x y =
    let one : x.xs ≡ y.xs = one_order (map (place_along x_of program) world.agents) x.xs y.xs x.along.sorted y.along.sorted x.along.all y.along.all in
    let is = subst (λ (xs : List ℤ). IsBalance xs strips y.balance) (sym one) y.is in
    same o p (told (plan_line x.balance.cuts) (certificate x.balance.load x.balance.proof)) x.tells
    (y.tells ∙ ap₂ (λ (a b : List ℕ). told a b) (one_plan x.xs strips y.balance x.balance is x.is) (one_certificate x.xs strips y.balance x.balance is x.is))
balances_agree strips program (Err r) o p x y = same o p (refused r) x y

-- what a published file comes to is one, and so is what follows on it
published_agree : (found : Result (Option Fault) Refusal) (o p : Outcome) → FollowedBy (λ found o. o ≡ agreed found) found o
    → FollowedBy (λ found o. o ≡ agreed found) found p → Agree o p
published_agree (Ok found) o p x y = same o p (agreed found) x y
published_agree (Err r) o p x y = same o p (refused r) x y

audits_agree : (files : Files) (audit : AuditCommand) (program : Program) (found : Result World Refusal) (o p : Outcome)
    → FollowedBy (AuditFrom files audit program) found o → FollowedBy (AuditFrom files audit program) found p → Agree o p
audits_agree files audit program (Ok world) o p x y = published_agree (compared audit.published (audit_job audit program world) (files audit.published)) o p x y
audits_agree files audit program (Err r) o p x y = same o p (refused r) x y

pub commands_agree : (files : Files) (command : Option Command) (o p : Outcome) → CommandOutcome files command o → CommandOutcome files command p → Agree o p
commands_agree files None o p e f = same o p _ e f
commands_agree files (Some (Run run)) o p e f =
    follows_agree Means Refuses programs run.script (source_of files run.script) _
    (λ src program o p means x y. runs_agree files run program o p (meant_lawful src program means) x y) o p e f
commands_agree files (Some (Format name)) o p e f = follows_agree IsTree NoTree trees name (source_of files name) _ (λ src tree o p means. one_follows (λ tree. shown (canonical tree)) tree o p) o p e f
commands_agree files (Some (Check name)) o p e f = follows_agree Means Refuses programs name (source_of files name) _ (λ src program o p means. one_follows (λ program. shown []) program o p) o p e f
commands_agree files (Some (Planning name invert)) o p e f =
    follows_agree IsJudged Refuses judgements name (source_of files name) _
    (λ src judged o p means. one_follows (λ judged. shown (plan_text judged.source judged.program invert)) judged o p) o p e f
commands_agree files (Some (Trial trial)) o p e f =
    follows_agree Means Refuses programs (codes "trial") (Ok trial_script) _ (λ src program o p means. one_follows (trial_outcome trial) program o p) o p e f
commands_agree files (Some (Balancing balance)) o p e f =
    follows_agree Means Refuses programs balance.script (source_of files balance.script) _
    (λ src program o p means x y. balances_agree balance.strips program (agents_of files program balance.agents) o p x y) o p e f
commands_agree files (Some (Auditing audit)) o p e f =
    follows_agree Means Refuses programs audit.script (source_of files audit.script) _
    (λ src program o p means x y. audits_agree files audit program (agents_of files program audit.agents) o p x y) o p e f
