-- The lines of watches, printed one by one.
use Rattle.std.proofs.Common.{◌≡◌, ◌∙◌, refl, sym, ap, ap₂, ℕ, zero, suc, ◌+◌, ◌<◌, ◌≤◌, List, [], ◌∷◌, ◌++◌, length, get_or, take, flat_map, arith, append_assoc}
use Rattle.std.specs.List.{enumerate_from}
use Rattle.std.proofs.lemmas.List.{take_all}
use Rattle.std.proofs.lemmas.List.FromFn.{length-enumerate_from, get_or-enumerate_from}
use Rattle.brace_num.proofs.Lists.{flat_map_next}
use Rattle.brace_model.specs.declared.program.Program.{Program}
use Rattle.brace_model.specs.declared.program.Ty.{Ty}
use Rattle.brace_model.specs.declared.world.Agent.{Agent}
use Rattle.brace_cuts.specs.declared.space.Cuts.{Cuts}
use Rattle.brace_comb.specs.Totals.{Tally}
use Rattle.brace_watch.specs.declared.kinds.Watch.{Watch}
use Rattle.brace_watch.specs.Figures.{figure, box_figures}
use Rattle.brace_watch.specs.Texts.{type_of, line_text, watch_text, watched_text}

same_default : {X : Type 0} (xs : List X) (i : ℕ) (d e : X) → i < length xs → get_or xs i d ≡ get_or xs i e
same_default [] i d e low = absurd (omega (arith, low))
same_default (x ∷ xs) zero d e low = refl
same_default (x ∷ xs) (suc i) d e low = same_default xs i d e (omega (arith, low))

module _ (program : Program) (cuts : Cuts) (tick : ℕ) (agents : List Agent) where
  -- the line of a watch, by its figures
  pub line_is : (i : ℕ) (w : Watch) (ty : Ty) (whole : Tally) (boxes : List Tally) → ty ≡ type_of program w → whole ≡ figure w agents → boxes ≡ box_figures program cuts w agents
      → line_text ty tick (i + 1) whole boxes ≡ watch_text program cuts tick agents (i, w)
  line_is i w ty whole boxes of all each =
      ap (λ t. line_text t tick (i + 1) whole boxes) of ∙ ap₂ (line_text (type_of program w) tick (i + 1)) all each

  -- one more line
  pub lines_more : (watches : List Watch) (i : ℕ) (d : Watch) (before out after : List ℕ) → i < length watches
      → out ≡ before ++ flat_map (watch_text program cuts tick agents) (take i (enumerate_from 0 watches))
      → after ≡ out ++ watch_text program cuts tick agents (i, get_or watches i d)
      → after ≡ before ++ flat_map (watch_text program cuts tick agents) (take (i + 1) (enumerate_from 0 watches))
  lines_more watches i d before out after low so_far more =
      let w : Watch = get_or watches i d in
      let f = watch_text program cuts tick agents in
      let here : get_or (enumerate_from 0 watches) i (i, w) ≡ (i, w) =
      get_or-enumerate_from 0 watches i (i, w) low ∙ ap₂ (λ (m : ℕ) (x : Watch). (m, x)) (omega arith) (same_default watches i w d low) in
      more ∙ ap (λ l. l ++ f (i, w)) so_far ∙ append_assoc before (flat_map f (take i (enumerate_from 0 watches))) (f (i, w))
      ∙ ap (λ l. before ++ l) (sym (flat_map_next f (enumerate_from 0 watches) i (i, w) (omega (arith, low, length-enumerate_from 0 watches)) (sym here)))

  -- all lines
  pub lines_all : (watches : List Watch) (i : ℕ) (before out : List ℕ) → length watches ≤ i
      → out ≡ before ++ flat_map (watch_text program cuts tick agents) (take i (enumerate_from 0 watches))
      → out ≡ before ++ watched_text program watches cuts tick agents
  lines_all watches i before out over so_far =
      so_far ∙ ap (λ l. before ++ flat_map (watch_text program cuts tick agents) l) (take_all i (enumerate_from 0 watches) (omega (arith, over, length-enumerate_from 0 watches)))
