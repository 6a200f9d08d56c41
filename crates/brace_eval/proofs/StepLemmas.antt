-- What the agents of a world leave, one after another.
use Rattle.std.proofs.Common.{◌≡◌, ◌∙◌, sym, refl, ap, subst, ℕ, suc, ◌+◌, ◌<◌, ◌≤◌, ℤ, List, [], ◌∷◌, ◌++◌, length, take, drop, get_or, filter_map, add-one, arith, Option, Some, None, Result, Ok, Err}
use Rattle.std.specs.Result.{result_ok, result_err}
use Rattle.std.proofs.lemmas.List.{append-nil, length-append}
use Rattle.std.proofs.lemmas.List.Elements.{filter_map-append}
use Rattle.std.proofs.Math.Seq.{drop-cons, take-append_seam, drop-append_seam}
use Rattle.brace_model.specs.declared.program.Class.{Class}
use Rattle.brace_model.specs.declared.program.Program.{Program}
use Rattle.brace_model.specs.declared.fault.Fault.{Fault}
use Rattle.brace_model.specs.declared.world.Agent.{Agent}
use Rattle.std.specs.Prelude.{option_map, IsTrue, pos, negsuc, ◌≤ℤ◌}
use Rattle.std.proofs.lemmas.Int.{ints}
use Rattle.brace_model.specs.Lawful.{is_distance}
use Rattle.brace_model.specs.World.{World, class_of}
use Rattle.brace_model.specs.FaultOrder.{least, with_earlier}
use Rattle.brace_model.specs.Query.{Saying, said_in, query_faults}
use Rattle.brace_model.specs.Total.{totals_from}
use Rattle.brace_model.specs.Next.{Next, next, next_in, totals_in}
use Rattle.brace_model.specs.Step.{step, all_next, living, children, first_too_far, birth_fault, grown, unless_faulty}
use Rattle.brace_eval.specs.Heard.{effects_in, row_of, table_of}
use Rattle.brace_eval.specs.inner.Updates.{with_one}
use Rattle.brace_eval.proofs.TableLemmas.{row-length}
use Rattle.brace_eval.proofs.DeedLemmas.{least-snoc}

-- what became of the agents so far: those that live on, the children, and the least fault
pub record SoFar (results : List (Result Next Fault)) (stay : List Agent) (born : List Agent) (found : Option Fault) : Type 0 where
  pub lives : stay ≡ living (filter_map result_ok results)
  pub births : born ≡ children (filter_map result_ok results)
  pub first : found ≡ least (filter_map result_err results)

one-more : {A B : Type 0} (f : A → Option B) (xs : List A) (x : A) (o : Option B) → f x ≡ o
    → filter_map f (xs ++ x ∷ []) ≡ with_one (filter_map f xs) o
one-more f xs x None is =
    let none : filter_map f (x ∷ []) ≡ [] = rw is refl in
    filter_map-append f xs (x ∷ []) ∙ ap (λ l. filter_map f xs ++ l) none ∙ append-nil _
one-more f xs x (Some y) is =
    let one : filter_map f (x ∷ []) ≡ y ∷ [] = rw is refl in
    filter_map-append f xs (x ∷ []) ∙ ap (λ l. filter_map f xs ++ l) one

-- an agent leaves what it leaves
pub so_far-ok : (rs : List (Result Next Fault)) (n : Next) (stay born : List Agent) (found : Option Fault) → SoFar rs stay born found
    → SoFar (rs ++ Ok n ∷ []) (with_one stay n.agent) (with_one born n.child) found
so_far-ok rs n stay born found s =
    let oks : filter_map result_ok (rs ++ Ok n ∷ []) ≡ filter_map result_ok rs ++ n ∷ [] = filter_map-append result_ok rs (Ok n ∷ []) in
    record {
      lives = ap (λ (l : List Agent). with_one l n.agent) s.lives
          ∙ sym (ap living oks ∙ one-more (λ (m : Next). m.agent) (filter_map result_ok rs) n _ refl);
      births = ap (λ (l : List Agent). with_one l n.child) s.births
          ∙ sym (ap children oks ∙ one-more (λ (m : Next). m.child) (filter_map result_ok rs) n _ refl);
      first = s.first ∙ sym (ap least (filter_map-append result_err rs (Ok n ∷ []) ∙ append-nil _));
    }

-- it has a fault
pub so_far-err : (rs : List (Result Next Fault)) (g : Fault) (stay born : List Agent) (found : Option Fault) → SoFar rs stay born found
    → SoFar (rs ++ Err g ∷ []) stay born (Some (with_earlier found g))
so_far-err rs g stay born found s =
    let oks : filter_map result_ok (rs ++ Err g ∷ []) ≡ filter_map result_ok rs = filter_map-append result_ok rs (Err g ∷ []) ∙ append-nil _ in
    record {
      lives = s.lives ∙ sym (ap living oks);
      births = s.births ∙ sym (ap children oks);
      first = ap (λ (o : Option Fault). Some (with_earlier o g)) s.first
          ∙ sym (ap least (filter_map-append result_err rs (Err g ∷ [])) ∙ least-snoc (filter_map result_err rs) g);
    }

-- the row of the next agent stands at the beginning of what is left of the table
module _ (program : Program) (said : List Saying) (agents : List Agent) (i : ℕ) (a : Agent) (rest : List ℤ) (le : i < length agents)
    (is : a ≡ get_or agents i a) (so : rest ≡ table_of program said (drop i agents)) where
  pub rest-is : rest ≡ row_of program said a ++ table_of program said (drop (i + 1) agents)
  rest-is =
      so ∙ ap (table_of program said) (drop-cons agents i a le)
      ∙ ap (λ (b : Agent). row_of program said b ++ table_of program said (drop (suc i) agents)) (sym is)
      ∙ ap (λ (n : ℕ). row_of program said a ++ table_of program said (drop n agents)) (sym (add-one i))

  width : length (row_of program said a) ≡ length (effects_in (class_of program a))
  width = row-length 0 a.id (effects_in (class_of program a)) said

  pub rest-long : length (effects_in (class_of program a)) ≤ length rest
  rest-long =
      let long = ap length rest-is ∙ length-append (row_of program said a) (table_of program said (drop (i + 1) agents)) in
      omega (arith, long, width)

  pub row-first : take (length (effects_in (class_of program a))) rest ≡ row_of program said a
  row-first =
      ap (λ (n : ℕ). take n rest) (sym width) ∙ ap (take (length (row_of program said a))) rest-is
      ∙ take-append_seam (row_of program said a) (table_of program said (drop (i + 1) agents))

  pub rest-behind : drop (length (effects_in (class_of program a))) rest ≡ table_of program said (drop (i + 1) agents)
  rest-behind =
      ap (λ (n : ℕ). drop n rest) (sym width) ∙ ap (drop (length (row_of program said a))) rest-is
      ∙ drop-append_seam (row_of program said a) (table_of program said (drop (i + 1) agents))

-- an agent's row is its totals
module _ (program : Program) (seed tick : ℕ) (world : List Agent) (a : Agent) where
  row-totals : (o : Option Class) → totals_in program seed tick world a o
      ≡ totals_from 0 a.id (effects_in o) (said_in program seed tick world)
  row-totals None = refl
  row-totals (Some class) = refl

  pub next-row : (row : List ℤ) → row ≡ row_of program (said_in program seed tick world) a
      → next program seed tick world a ≡ next_in seed tick (class_of program a) row a
  next-row row is =
      ap (λ (totals : List ℤ). next_in seed tick (class_of program a) totals a) (row-totals (class_of program a) ∙ sym is)

-- a step whose queries and updates have no fault
module _ (program : Program) (seed tick : ℕ) (world : World) where
  pub step-born : (ls bs : List Agent) (o : Option Agent)
      → least (query_faults program seed tick world.agents) ≡ None
      → least (filter_map result_err (all_next program seed tick world.agents)) ≡ None
      → living (filter_map result_ok (all_next program seed tick world.agents)) ≡ ls
      → children (filter_map result_ok (all_next program seed tick world.agents)) ≡ bs
      → first_too_far ls world.next bs ≡ o
      → step program seed tick world ≡ unless_faulty None None (option_map (birth_fault program tick) o) (grown world.next ls bs)
  step-born ls bs o queries updates lives births far =
      let left = filter_map result_ok (all_next program seed tick world.agents) in
      let last : Option Fault → Option Fault → List Agent → List Agent → Option Agent → Result World Fault =
      λ q u l b r. unless_faulty q u (option_map (birth_fault program tick) r) (grown world.next l b) in
      let u = least (filter_map result_err (all_next program seed tick world.agents)) in
      ap (λ (q : Option Fault). last q u (living left) (children left) (first_too_far (living left) world.next (children left))) queries
      ∙ ap (λ (v : Option Fault). last None v (living left) (children left) (first_too_far (living left) world.next (children left))) updates
      ∙ ap (λ (l : List Agent). last None None l (children left) (first_too_far l world.next (children left))) lives
      ∙ ap (λ (b : List Agent). last None None ls b (first_too_far ls world.next b)) births
      ∙ ap (last None None ls bs) far

-- what the updates of all agents leave
pub record Leaves (program : Program) (seed tick : ℕ) (agents ls bs : List Agent) : Type 0 where
  pub passes : least (filter_map result_err (all_next program seed tick agents)) ≡ None
  pub living : living (filter_map result_ok (all_next program seed tick agents)) ≡ ls
  pub born : children (filter_map result_ok (all_next program seed tick agents)) ≡ bs

-- the same, by other names of the seed and of the agents
module _ (program : Program) (seed tick : ℕ) (world : World) where
  pub quiet-told : (agents : List Agent) → agents ≡ world.agents
      → least (query_faults program seed tick agents) ≡ None → least (query_faults program seed tick world.agents) ≡ None
  quiet-told agents agents_are quiet = subst (λ (l : List Agent). least (query_faults program seed tick l) ≡ None) agents_are quiet

  pub leaves-told : (n : ℕ) (agents ls bs : List Agent) → n ≡ seed → agents ≡ world.agents
      → Leaves program n tick agents ls bs → Leaves program seed tick world.agents ls bs
  leaves-told n agents ls bs seed_is agents_are leaves =
      subst (λ (m : ℕ). Leaves program m tick world.agents ls bs) seed_is
      (subst (λ (l : List Agent). Leaves program n tick l ls bs) agents_are leaves)

  pub step-told : (ls bs stay born : List Agent) (next : ℕ) (o : Option Agent)
      → least (query_faults program seed tick world.agents) ≡ None → Leaves program seed tick world.agents ls bs
      → stay ≡ ls → next ≡ world.next → born ≡ bs → o ≡ first_too_far stay next born
      → step program seed tick world ≡ unless_faulty None None (option_map (birth_fault program tick) o) (grown world.next ls bs)
  step-told ls bs stay born next o quiet leaves stay_is next_is born_is far =
      step-born program seed tick world ls bs o quiet leaves.passes leaves.living leaves.born
      (sym (far ∙ ap (λ (l : List Agent). first_too_far l next born) stay_is
      ∙ ap (λ (n : ℕ). first_too_far ls n born) next_is ∙ ap (first_too_far ls world.next) born_is))

-- a distance is not negative
pub reach_fits : (reach : ℤ) → IsTrue (is_distance reach) → pos 0 ≤ℤ reach
reach_fits (pos n) is = grind (arith, ints)
reach_fits (negsuc n) is = absurd (cc)
