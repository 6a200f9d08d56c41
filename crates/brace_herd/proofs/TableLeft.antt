-- What the agents of a part leave, one after another.
use Rattle.std.proofs.Common.{◌≡◌, ◌∙◌, refl, sym, ap, subst, ℕ, ◌+◌, ◌<◌, ◌≤◌, ℤ, List, [], ◌∷◌, ◌++◌, filter, length, take, get_or, map, Bool, true, Option, Some, None, Result, Ok, Err, inl}
use Rattle.std.specs.List.{list_all}
use Rattle.std.proofs.lemmas.List.{get_or-map, map_more, take_all}
use Rattle.brace_model.specs.declared.program.Class.{Class}
use Rattle.brace_model.specs.declared.fault.Fault.{Fault}
use Rattle.brace_model.specs.declared.program.Program.{Program}
use Rattle.brace_model.specs.declared.world.Agent.{Agent}
use Rattle.brace_model.specs.Lawful.{is_lawful_agent}
use Rattle.brace_model.specs.World.{class_of}
use Rattle.brace_model.specs.FaultOrder.{least, with_earlier}
use Rattle.brace_model.specs.Query.{Saying}
use Rattle.brace_model.specs.Total.{totals_from}
use Rattle.brace_model.specs.Next.{Next, next_in}
use Rattle.brace_eval.specs.Heard.{effects_in, row_of}
use Rattle.brace_eval.specs.inner.Updates.{with_one}
use Rattle.brace_eval.proofs.StepLemmas.{SoFar, so_far-ok, so_far-err}
use Rattle.brace_fold.specs.Becoming.{becomes_by}
use Rattle.brace_pieces.specs.declared.setting.Setting.{Setting}
use Rattle.brace_pieces.specs.declared.piece.Cause.TheVariants as cause
use Rattle.brace_pieces.specs.Continued.{becomes, totals_of}
use Rattle.brace_herd.specs.Works.{IsCauseOf, cause_of}
use Rattle.brace_herd.specs.inner.Asked.{HasRulesOf}
use denote.Ref.{Bor}
use Rattle.brace_herd.proofs.LawfulOn.{some_pass}

totals_are : (said : List Saying) (a : Agent) (o : Option Class) → totals_of said a o ≡ totals_from 0 a.id (effects_in o) said
totals_are said a None = refl
totals_are said a (Some class) = refl

-- what becomes of an agent, by its row
pub becomes_row : (s : Setting) (tick : ℕ) (said : List Saying) (a : Agent) (row : List ℤ) → row ≡ row_of s.job.program said a
    → becomes s tick said a ≡ next_in s.job.seed tick (class_of s.job.program a) row a
becomes_row s tick said a row is =
    ap (λ (l : List ℤ). next_in s.job.seed tick (class_of s.job.program a) l a) (totals_are said a (class_of s.job.program a) ∙ sym is)

-- the row of an agent
pub row_at : (totals : Agent → List ℤ) (rows : List (Bor (List ℤ))) (agents : List Agent) (i : ℕ) (a : Agent) (row : Bor (List ℤ)) → i < length agents → i < length rows
    → a ≡ get_or agents i a → row.now ≡ (get_or rows i row).now → map (λ r. r.now) rows ≡ map totals agents → row.now ≡ totals a
row_at totals rows agents i a row low within is at are =
    at
    ∙ sym (get_or-map (λ (r : Bor (List ℤ)). r.now) rows i row row.now within)
    ∙ ap (λ (l : List (List ℤ)). get_or l i row.now) are
    ∙ get_or-map totals agents i a row.now low
    ∙ ap totals (sym is)

module _ (s : Setting) (tick : ℕ) (said : List Saying) (agents : List Agent) where
  -- what becomes of the first agents
  abbrev pub becoming : ℕ → List (Result Next Fault)
  becoming i = map (becomes s tick said) (take i agents)

  module _ (i : ℕ) (a : Agent) (le : i < length agents) (is : a ≡ get_or agents i a) where
    grown : (r : Result Next Fault) → becomes s tick said a ≡ r → becoming (i + 1) ≡ becoming i ++ r ∷ []
    grown r so =
        map_more (becomes s tick said) agents i a le
        ∙ ap (λ (x : Result Next Fault). becoming i ++ x ∷ []) (ap (becomes s tick said) (sym is) ∙ so)

    module _ (stay born : List Agent) (found : Option Fault) (row : List ℤ) (seed : ℕ) (its : row ≡ row_of s.job.program said a) (seeded : seed ≡ s.job.seed)
        (h : SoFar (becoming i) stay born found) where
      pub leaves : (n : Next) → next_in seed tick (class_of s.job.program a) row a ≡ Ok n → SoFar (becoming (i + 1)) (with_one stay n.agent) (with_one born n.child) found
      leaves n so =
          let by_row : becomes s tick said a ≡ Ok n = becomes_row s tick said a row its
          ∙ subst (λ (k : ℕ). next_in k tick (class_of s.job.program a) row a ≡ Ok n) seeded so in
          subst (λ (l : List (Result Next Fault)). SoFar l (with_one stay n.agent) (with_one born n.child) found) (sym (grown (Ok n) by_row))
          (so_far-ok (becoming i) n stay born found h)

      pub faults : (g : Fault) → next_in seed tick (class_of s.job.program a) row a ≡ Err g → SoFar (becoming (i + 1)) stay born (Some (with_earlier found g))
      faults g so =
          let by_row : becomes s tick said a ≡ Err g = becomes_row s tick said a row its
          ∙ subst (λ (k : ℕ). next_in k tick (class_of s.job.program a) row a ≡ Err g) seeded so in
          subst (λ (l : List (Result Next Fault)). SoFar l stay born (Some (with_earlier found g))) (sym (grown (Err g) by_row))
          (so_far-err (becoming i) g stay born found h)

  -- behind the last agent
  pub all_left : (i : ℕ) (stay born : List Agent) (found : Option Fault) → length agents ≤ i → SoFar (becoming i) stay born found
      → SoFar (map (becomes s tick said) agents) stay born found
  all_left i stay born found over h =
      subst (λ (l : List Agent). SoFar (map (becomes s tick said) l) stay born found) (take_all i agents over) h

-- the least fault is the cause
pub caused : (found : List Fault) (f : Fault) → Some f ≡ least found → IsCauseOf found (cause.Fault f)
caused found f is = inl (ap cause_of is)

-- the same, by other names
pub same_left : (rs : List (Result Next Fault)) (stay after born more : List Agent) (found last : Option Fault) → after ≡ stay → more ≡ born → last ≡ found
    → SoFar rs stay born found → SoFar rs after more last
same_left rs stay after born more found last lives bears first h = record { lives = lives ∙ h.lives; births = bears ∙ h.births; first = first ∙ h.first }

-- ---- by a program that has the rules of a script

module _ (s : Setting) (p : Program) (has : HasRulesOf s.job.program p) where
  -- those of its agents that are chosen are lawful
  pub own_lawful : (Q : Agent → Bool) (held own : List Agent) → own ≡ filter Q held → list_all (is_lawful_agent s.job.program) held ≡ true
      → list_all (is_lawful_agent s.job.program) own ≡ true
  own_lawful Q held own is all =
      ap (list_all (is_lawful_agent s.job.program)) is ∙ some_pass (is_lawful_agent s.job.program) Q held all

  pub lawful_too : (own : List Agent) → list_all (is_lawful_agent s.job.program) own ≡ true → list_all (is_lawful_agent p) own ≡ true
  lawful_too own all = ap (λ (f : Agent → Bool). list_all f own) (λ i a. has.lawful a i) ∙ all

  -- the same becomes of each
  becomes_alike : (tick : ℕ) (said : List Saying) (a : Agent) → becomes_by p s.job.seed tick (row_of s.job.program said) a ≡ becomes s tick said a
  becomes_alike tick said a =
      has.next s.job.seed tick (row_of s.job.program said a) a ∙ sym (becomes_row s tick said a (row_of s.job.program said a) refl)

  pub all_alike : (tick : ℕ) (said : List Saying) (own : List Agent)
      → map (becomes_by p s.job.seed tick (row_of s.job.program said)) own ≡ map (becomes s tick said) own
  all_alike tick said own = ap (λ (f : Agent → Result Next Fault). map f own) (λ i a. becomes_alike tick said a i)

  -- what is so of what becomes of own agents by the program is so of what becomes of them by the script
  pub by_script : (tick : ℕ) (said : List Saying) (own all : List Agent) → own ≡ all → (P : List (Result Next Fault) → Type 0)
      → P (map (becomes_by p s.job.seed tick (row_of s.job.program said)) own) → P (map (becomes s tick said) all)
  by_script tick said own all is P = subst P (all_alike tick said own ∙ ap (map (becomes s tick said)) is)
