-- What entries and pieces tell, one by one.
use Rattle.std.proofs.Common.{◌≡◌, ◌∙◌, refl, sym, ap, subst, ℕ, ◌+◌, ◌<◌, ◌≤◌, List, [], ◌∷◌, ◌++◌, length, drop, get_or, arith, append_assoc, append-nil, Result, Ok, Err, OnOk}
use Rattle.std.proofs.lemmas.Grind.{common_steps}
use Rattle.brace_model.specs.declared.program.Program.{Program}
use Rattle.brace_model.specs.declared.fault.Fault.{Fault}
use Rattle.brace_model.specs.declared.world.Agent.{Agent}
use Rattle.brace_model.specs.Query.{Saying}
use Rattle.brace_comb.specs.declared.entry.Entry.{Entry}
use Rattle.brace_eval.specs.declared.heard.Heard.{Heard}
use Rattle.brace_eval.specs.Heard.{IsHeard}
use Rattle.brace_pieces.specs.declared.piece.Piece.{Piece}
use Rattle.brace_pieces.specs.declared.piece.Piece.TheVariants as piece
use Rattle.brace_herd.specs.inner.Tables.{TellsOf, TellsBy, no_entry, one_entry, TellBy, no_piece, one_piece}
use Rattle.std.proofs.lemmas.List.{drop_more}

-- what is told so far was heard, and the rest is still told
pub record SoFarTold (program : Program) (held : List Agent) (said told : List Saying) (faults : List Fault) (heard : Heard)
    (Tell : List Saying → Type 0) : Type 0 where
  pub done : List Saying
  pub rest : List Saying
  pub all : told ≡ done ++ rest
  pub hears : IsHeard program held (said ++ done) faults heard
  pub tells : Tell rest

-- of what one more and others tell
pub record OneMore (One More : List Saying → Type 0) (told : List Saying) : Type 0 where
  pub first : List Saying
  pub others : List Saying
  pub all : told ≡ first ++ others
  pub one : One first
  pub more : More others

module _ (program : Program) (held : List Agent) where
  pub entry_more : (entry : Entry) (entries : List Entry) (told : List Saying) → TellsBy program held (entry ∷ entries) told
      → OneMore (TellsOf program held entry) (TellsBy program held entries) told
  entry_more _ _ _ (one_entry entry entries told more of rest) = record { first = told; others = more; all = refl; one = of; more = rest }

  pub no_entries : (told : List Saying) → TellsBy program held [] told → told ≡ []
  no_entries _ no_entry = refl

  pub piece_more : (entries : List Entry) (pieces : List Piece) (told : List Saying) → TellBy program held (piece.Effects entries ∷ pieces) told
      → OneMore (TellsBy program held entries) (TellBy program held pieces) told
  piece_more _ _ _ (one_piece entries pieces told more of rest) = record { first = told; others = more; all = refl; one = of; more = rest }

  pub no_pieces : (told : List Saying) → TellBy program held [] told → told ≡ []
  no_pieces _ no_piece = refl

  -- a piece that tells is one of entries
  pub is_telling : (x : Piece) (pieces : List Piece) (told : List Saying) → TellBy program held (x ∷ pieces) told
      → ((entries : List Entry) → x ≡ piece.Effects entries → ⊥) → ⊥
  is_telling _ _ _ (one_piece entries pieces told more of rest) none = none entries refl

-- what is not heard yet of a list
pub next_of : {A : Type 0} (xs : List A) (i : ℕ) (x : A) → i < length xs → x ≡ get_or xs i x → drop i xs ≡ x ∷ drop (i + 1) xs
next_of xs i x le is =
    drop_more xs i x le ∙ ap (λ y. y ∷ drop (i + 1) xs) (sym is)

module _ (program : Program) (held : List Agent) (said told : List Saying) (faults : List Fault) where
  -- one more is heard
  pub told_next : (before after : Heard) (Tell One More : List Saying → Type 0)
      → ((rest : List Saying) → Tell rest → OneMore One More rest)
      → ((first xs : List Saying) → IsHeard program held xs faults before → One first → IsHeard program held (xs ++ first) faults after)
      → SoFarTold program held said told faults before Tell → SoFarTold program held said told faults after More
  told_next before after Tell One More parts hears so =
      let next = parts so.rest so.tells in
      record {
        done = so.done ++ next.first;
        rest = next.others;
        all = so.all ∙ ap (λ (l : List Saying). so.done ++ l) next.all ∙ sym (append_assoc so.done next.first next.others);
        hears = subst (λ (l : List Saying). IsHeard program held l faults after) (append_assoc said so.done next.first)
            (hears next.first (said ++ so.done) so.hears next.one);
        tells = next.more;
      }

  -- the next entry is heard
  pub entry_heard : (before after : Heard) (entries : List Entry) (i : ℕ) (d : Entry) → i < length entries
      → ((xs first : List Saying) (found : List Fault) → IsHeard program held xs found before → TellsOf program held (get_or entries i d) first
      → IsHeard program held (xs ++ first) found after)
      → SoFarTold program held said told faults before (TellsBy program held (drop i entries))
      → SoFarTold program held said told faults after (TellsBy program held (drop (i + 1) entries))
  entry_heard before after entries i d le hears so =
      told_next before after (TellsBy program held (drop i entries)) (TellsOf program held (get_or entries i d))
      (TellsBy program held (drop (i + 1) entries))
      (λ rest t. entry_more program held (get_or entries i d) (drop (i + 1) entries) rest
      (subst (λ (l : List Entry). TellsBy program held l rest) (drop_more entries i d le) t))
      (λ first xs h one. hears xs first faults h one) so

  -- all is heard
  pub told_last : (heard : Heard) (Tell : List Saying → Type 0) → ((rest : List Saying) → Tell rest → rest ≡ [])
      → SoFarTold program held said told faults heard Tell → IsHeard program held (said ++ told) faults heard
  told_last heard Tell none so =
      let all : said ++ so.done ≡ said ++ told =
      ap (λ (l : List Saying). said ++ l) (sym (so.all ∙ ap (λ (l : List Saying). so.done ++ l) (none so.rest so.tells) ∙ append-nil so.done)) in
      subst (λ (l : List Saying). IsHeard program held l faults heard) all so.hears

-- what holds where a call succeeds
pub on_ok : {A E : Type 0} {P Q : Type 0} (r : Result A E) → OnOk r P → (P → Q) → OnOk r Q
on_ok (Ok x) h f = f h
on_ok (Err e) h f = h

-- behind the last nothing is left
pub none_left : {A : Type 0} (xs : List A) (i : ℕ) → length xs ≤ i → drop i xs ≡ []
none_left xs i le = grind (arith, le, common_steps)
