-- What `fmt` writes is a script of its own, with the same canonical text.
use Rattle.std.proofs.Common.{◌≡◌, ◌∙◌, refl, sym, ap, subst, ℕ, ◌≤◌, List, length, Bool, true, false, nat_lt, codes, if◌then◌else◌, Option, Some, None, Result, Ok, Err}
use Rattle.std.specs.Prelude.{⊤}
use Rattle.brace_io.specs.Shelves.{Files}
use Rattle.brace_syntax.specs.declared.tree.Tree.{Tree}
use Rattle.brace_show.specs.Back.{ReadsBack}
use Rattle.brace_show.specs.Canonical.{canonical}
use Rattle.brace_show.proofs.ReadBack.{canonical_reads_back}
use Rattle.brace_show.proofs.ScriptDepth.{canonical_is_shallow}
use Rattle.brace_show.proofs.Unplaced.{one_text}
use Rattle.brace_command.specs.Limits.{script_limit}
use Rattle.brace_command.specs.declared.status.Status.TheVariants.{Done, Script}
use Rattle.brace_command.specs.Commands.{Format}
use Rattle.brace_command.specs.Outcome.{Outcome, Refusal, refusal, refused, shown, loaded, script_refusal, unloaded, refused_at, stands_for, TreeOf, FollowedBy, CommandOutcome}
use Rattle.brace_command.specs.Scripts.{IsTree}
use Rattle.brace_command.proofs.AnswerLemmas.{file_loaded}
use Rattle.brace_command.proofs.OneOutcome.{Agree, commands_agree}

-- ---- what was written

-- a script is loaded, or refused with another status than that of a text that is written whole
abbrev NotDone : Result (List ℕ) Refusal → Type 0
NotDone (Ok bytes) = ⊤
NotDone (Err r) = r.status ≡ Done → ⊥

not_done_if : (name bytes : List ℕ) (b : Bool) → NotDone (if b then Err (refusal Script name (codes ": TooLong")) else Ok bytes)
not_done_if name bytes true = λ e. cc
not_done_if name bytes false = tt

not_done : (limit : ℕ) (name : List ℕ) (file : Option (List ℕ)) → NotDone (loaded Script limit name file)
not_done limit name None = λ e. cc
not_done limit name (Some bytes) = not_done_if name bytes (nat_lt limit (length bytes))

refusal_not_done : Script ≡ Done → ⊥
refusal_not_done e = cc

-- the script whose canonical text was written
record Writes (o : Outcome) : Type 0 where
  src : List ℕ
  tree : Tree
  is : IsTree src tree
  wrote : o ≡ shown (canonical tree)

no_text : (r : Refusal) (o : Outcome) → (r.status ≡ Done → ⊥) → o ≡ refused r → o.status ≡ Done → Writes o
no_text r o other follows done = absurd (other (sym (ap (λ (x : Outcome). x.status) follows) ∙ done))

written_by : (files : Files) (name : List ℕ) (o : Outcome) (found : Result Tree Refusal) → TreeOf files name found
    → FollowedBy (λ tree o. o ≡ shown (canonical tree)) found o → o.status ≡ Done → Writes o
written_by files name o _ (unloaded r e) follows done =
    no_text r o (subst NotDone e (not_done script_limit name (files name))) follows done
written_by files name o _ (refused_at src kind at_ e why) follows done =
    no_text (script_refusal name src kind at_) o refusal_not_done follows done
written_by files name o _ (stands_for src tree e is) follows done =
    record { src = src; tree = tree; is = is; wrote = follows }

written : (files : Files) (name : List ℕ) (o : Outcome) → CommandOutcome files (Some (Format name)) o → o.status ≡ Done → Writes o
written files name o f done = written_by files name o f.found f.is f.follows done

-- ---- and is written again

-- the script that the canonical text of a script is
record IsAgain (tree : Tree) : Type 0 where
  back : Tree
  is : IsTree (canonical tree) back
  text : canonical tree ≡ canonical back

read_again : (src : List ℕ) (tree : Tree) → IsTree src tree → IsAgain tree
read_again src tree is =
    let r : ReadsBack (canonical tree) tree = canonical_reads_back src is.tokens tree is.spells is.reads in
    record {
      back = r.1;
      is = record { tokens = r.0; spells = r.2; shallow = canonical_is_shallow src is.tokens tree is.spells is.reads is.shallow r.0 r.2; reads = r.3 };
      text = one_text tree r.1 r.4;
    }

shown_again : (others : Files) (other src : List ℕ) (tree : Tree) → IsTree src tree
    → others other ≡ Some (canonical tree) → length (canonical tree) ≤ script_limit
    → CommandOutcome others (Some (Format other)) (shown (canonical tree))
shown_again others other src tree is held within =
    let again = read_again src tree is in
    record {
      found = Ok again.back;
      is = stands_for (canonical tree) again.back (file_loaded (Some others) others Script script_limit other (canonical tree) refl (λ told. held) within) again.is;
      follows = ap shown again.text;
    }

-- an outcome of `fmt` is one of `fmt` of the text that it writes
pub written_again : (files others : Files) (name other : List ℕ) (o : Outcome) → CommandOutcome files (Some (Format name)) o → o.status ≡ Done
    → others other ≡ Some o.out → length o.out ≤ script_limit → CommandOutcome others (Some (Format other)) o
written_again files others name other o f done held within =
    let w = written files name o f done in
    let text : o.out ≡ canonical w.tree = ap (λ (x : Outcome). x.out) w.wrote in
    subst (CommandOutcome others (Some (Format other))) (sym w.wrote)
    (shown_again others other w.src w.tree w.is (held ∙ ap (λ (t : List ℕ). Some t) text) (subst (λ (t : List ℕ). length t ≤ script_limit) text within))

-- a text that is written whole is the only outcome of its script
pub only_written : (files : Files) (name : List ℕ) (o p : Outcome) → CommandOutcome files (Some (Format name)) o → o.status ≡ Done
    → CommandOutcome files (Some (Format name)) p → p ≡ o
only_written files name o p f done g =
    let alike : Agree o p = commands_agree files (Some (Format name)) o p f g in
    let w = written files name o f done in
    let v = written files name p g (sym alike.status ∙ done) in
    let texts : canonical v.tree ≡ canonical w.tree =
    sym (ap (λ (x : Outcome). x.out) v.wrote) ∙ sym alike.out ∙ ap (λ (x : Outcome). x.out) w.wrote in
    v.wrote ∙ ap shown texts ∙ sym w.wrote
