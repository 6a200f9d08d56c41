-- Where a run has a world of a tick, the continued world of that tick is that world.
use Rattle.std.proofs.Common.{◌≡◌, ◌∙◌, refl, sym, ap, ap₂, ℕ, zero, suc, ◌+◌, ◌<◌, List, [], ◌∷◌, ◌++◌, map, filter_map, zip, take, length, Bool, true, false, cond, Option, Some, None, Result, Ok, Err, arith, take_all}
use Rattle.std.specs.Prelude.{option_map, unwrap_or, slice_get, if◌then◌else◌}
use Rattle.std.specs.List.{find, range_with_len, cons_option}
use Rattle.std.specs.List.Sorted.{IsPermutation}
use Rattle.std.specs.Option.{option_and_then}
use Rattle.std.specs.Result.{result_ok, result_err}
use Rattle.brace_model.specs.declared.program.Effect.{Effect}
use Rattle.brace_model.specs.declared.program.Class.{Class}
use Rattle.brace_model.specs.declared.program.Program.{Program}
use Rattle.brace_model.specs.declared.fault.Fault.{Fault}
use Rattle.brace_model.specs.declared.world.Agent.{Agent}
use Rattle.brace_model.specs.World.{World, class_of}
use Rattle.brace_model.specs.FaultOrder.{least}
use Rattle.brace_model.specs.Query.{Saying, said_in, query_faults}
use Rattle.brace_model.specs.Total.{said_to, totals_from}
use Rattle.brace_model.specs.Next.{Next, next, next_in, totals_in}
use Rattle.brace_model.specs.Step.{all_next, living, children, numbered, goes_too_far, first_too_far, birth_fault, grown, unless_faulty, step}
use Rattle.brace_model.specs.Run.{world_after, stepped}
use Rattle.brace_model.proofs.FaultLemmas.{least_none}
use Rattle.brace_comb.proofs.Joins.{tally_of-IsPermutation}
use Rattle.brace_invert.specs.Inversion.{said_by_both}
use Rattle.brace_invert.proofs.Inverting.{said_to_each}
use Rattle.brace_pieces.specs.declared.setting.Setting.{Setting}
use Rattle.brace_pieces.specs.Continued.{said, totals_of, becomes, left_or_kept, all_becoming, all_left, fitting, continued, continued_after}
use Rattle.brace_num.proofs.Options.{none_mapped}

-- totals hang on what is said to each effect, in whatever order
pub totals_same : (n id : ℕ) (effects : List Effect) (xs ys : List Saying)
    → ((effect : ℕ) → IsPermutation (said_to id effect xs) (said_to id effect ys)) → totals_from n id effects xs ≡ totals_from n id effects ys
totals_same n id [] xs ys h = refl
totals_same n id (e ∷ effects) xs ys h =
    ap₂ (λ t ts. t ∷ ts) (ap (λ t. t.number) (tally_of-IsPermutation e.comb (said_to id n xs) (said_to id n ys) (h n))) (totals_same (suc n) id effects xs ys h)

totals_by : (b : Bool) (m : Program) (seed t : ℕ) (w : List Agent) (id : ℕ) (effects : List Effect) → query_faults m seed t w ≡ []
    → totals_from 0 id effects (if b then said_by_both m seed t w else said_in m seed t w) ≡ totals_from 0 id effects (said_in m seed t w)
totals_by true m seed t w id effects none = sym (totals_same 0 id effects (said_in m seed t w) (said_by_both m seed t w) (λ effect. said_to_each m seed t w id effect none))
totals_by false m seed t w id effects none = refl

totals_are : (s : Setting) (t : ℕ) (w : List Agent) (a : Agent) → query_faults s.job.program s.job.seed t w ≡ [] → (class : Option Class)
    → totals_of (said s t w) a class ≡ totals_in s.job.program s.job.seed t w a class
totals_are s t w a none None = refl
totals_are s t w a none (Some class) = totals_by s.invert s.job.program s.job.seed t w a.id class.effects none

-- where no query faults, each agent becomes what the meaning makes of it
becomes_next : (s : Setting) (t : ℕ) (w : List Agent) → query_faults s.job.program s.job.seed t w ≡ [] → (a : Agent) → becomes s t (said s t w) a ≡ next s.job.program s.job.seed t w a
becomes_next s t w none a =
    let class : Option Class = class_of s.job.program a in
    ap (λ totals. next_in s.job.seed t class totals a) (totals_are s t w a none class)

pub all_become_next : (s : Setting) (t : ℕ) (w : List Agent) → query_faults s.job.program s.job.seed t w ≡ [] → all_becoming s t w ≡ all_next s.job.program s.job.seed t w
all_become_next s t w none = ap (λ f. map f w) (λ i a. becomes_next s t w none a i)

-- agents without a fault leave what becomes of them
left_next : (f : Agent → Result Next Fault) (agents : List Agent) → filter_map result_err (map f agents) ≡ []
    → map (λ p. left_or_kept p.0 p.1) (zip agents (map f agents)) ≡ filter_map result_ok (map f agents)
left_next f [] none = refl
left_next f (a ∷ agents) none = (elim (f a) as (λ r. cons_option (result_err r) (filter_map result_err (map f agents)) ≡ []
    → left_or_kept a r ∷ map (λ p. left_or_kept p.0 p.1) (zip agents (map f agents)) ≡ cons_option (result_ok r) (filter_map result_ok (map f agents))) [
      | Ok n ↦ λ none. ap (λ ns. n ∷ ns) (left_next f agents none)
      | Err e ↦ λ none. absurd (cc)
    ]) none

-- a rank that is found is one of those that are looked at
pub found_below : (p : ℕ → Bool) (a n r : ℕ) → find p (range_with_len a n) ≡ Some r → r < a + n
found_below p a zero r e = absurd (cc)
found_below p a (suc n) r e = (elim (p a) as (λ v. cond v (Some a) (find p (range_with_len (a + 1) n)) ≡ Some r → r < a + suc n) [
  | true ↦ λ e. let same : a ≡ r = cc in omega (arith, same)
  | false ↦ λ e. omega (arith, found_below p (a + 1) n r e)
]) e

child_there : {A : Type 0} (xs : List A) (r : ℕ) → r < length xs → slice_get xs r ≡ None → ⊥
child_there [] r low e = absurd (omega arith)
child_there (x ∷ xs) zero low e = absurd (cc)
child_there (x ∷ xs) (suc r) low e = child_there xs r (omega arith) e

-- where nothing is at a rank that is found, none is found, and all items stand before it
pub all_fit : {A : Type 0} (born : List A) (o : Option ℕ) → ((r : ℕ) → o ≡ Some r → r < length born) → option_and_then (slice_get born) o ≡ None → take (unwrap_or o (length born)) born ≡ born
all_fit born None low none = take_all (length born) born (omega arith)
all_fit born (Some r) low none = absurd (child_there born r (low r refl) none)

-- where no parent goes too far all children are born
pub fitting_all : (lives : List Agent) (free : ℕ) (born : List Agent) → first_too_far lives free born ≡ None → fitting lives free born ≡ born
fitting_all lives free born none =
    let ranks : List ℕ = range_with_len 0 (length born) in
    let test : ℕ → Bool = goes_too_far lives free born in
    all_fit born (find test ranks) (λ r e. omega (arith, found_below test 0 (length born) r e)) none

seconds_numbered : (n : ℕ) (born : List Agent) → map (λ (p : ℕ × Agent). p.1) (map (λ p. (p.0.id, p.1)) (zip born (numbered n born))) ≡ numbered n born
seconds_numbered n [] = refl
seconds_numbered n (c ∷ born) = ap (λ rest. record c { id = n } ∷ rest) (seconds_numbered (suc n) born)

-- the agents of a continued world
pub seconds_both : (lives born : List Agent) (n : ℕ) → map (λ (p : ℕ × Agent). p.1) (map (λ a. (a.id, a)) lives ++ map (λ p. (p.0.id, p.1)) (zip born (numbered n born))) ≡ lives ++ numbered n born
seconds_both [] born n = seconds_numbered n born
seconds_both (a ∷ lives) born n = ap (λ rest. a ∷ rest) (seconds_both lives born n)

-- what it takes to have a next world
record NoneFaulty (query update birth : Option Fault) (new world : World) : Type 0 where
  pub no_query : query ≡ None
  pub no_update : update ≡ None
  pub no_birth : birth ≡ None
  pub same : new ≡ world

none_faulty : (query update birth : Option Fault) (new world : World) → unless_faulty query update birth new ≡ Ok world → NoneFaulty query update birth new world
none_faulty (Some f) update birth new world e = absurd (cc)
none_faulty None (Some f) birth new world e = absurd (cc)
none_faulty None None (Some f) new world e = absurd (cc)
none_faulty None None None new world e = record { no_query = refl; no_update = refl; no_birth = refl; same = cc }

-- what a world's agents leave, where none faults
pub left_then : (s : Setting) (t : ℕ) (w : List Agent) → query_faults s.job.program s.job.seed t w ≡ [] → filter_map result_err (all_next s.job.program s.job.seed t w) ≡ []
    → all_left s t w ≡ filter_map result_ok (all_next s.job.program s.job.seed t w)
left_then s t w none no_update =
    ap (λ rs. map (λ p. left_or_kept p.0 p.1) (zip w rs)) (all_become_next s t w none) ∙ left_next (next s.job.program s.job.seed t w) w no_update

-- the world behind one that has a next world is that
pub continued_step : (s : Setting) (t : ℕ) (world new : World) → step s.job.program s.job.seed t world ≡ Ok new → continued s t world ≡ new
continued_step s t world new e =
    let m : Program = s.job.program in
    let nexts : List (Result Next Fault) = all_next m s.job.seed t world.agents in
    let left : List Next = filter_map result_ok nexts in
    let lives : List Agent = living left in
    let born : List Agent = children left in
    let none = none_faulty (least (query_faults m s.job.seed t world.agents)) (least (filter_map result_err nexts)) (option_map (birth_fault m t) (first_too_far lives world.next born)) (grown world.next lives born) new e in
    let no_query : query_faults m s.job.seed t world.agents ≡ [] = (least_none (query_faults m s.job.seed t world.agents)).0 none.no_query in
    let no_update : filter_map result_err nexts ≡ [] = (least_none (filter_map result_err nexts)).0 none.no_update in
    let is_left : all_left s t world.agents ≡ left = left_then s t world.agents no_query no_update in
    let fits : fitting lives world.next born ≡ born = fitting_all lives world.next born (none_mapped (birth_fault m t) (first_too_far lives world.next born) none.no_birth) in
    let made : List Next → World = λ ns. record {
      agents = map (λ (p : ℕ × Agent). p.1) (map (λ a. (a.id, a)) (living ns) ++ map (λ p. (p.0.id, p.1)) (zip (fitting (living ns) world.next (children ns)) (numbered world.next (fitting (living ns) world.next (children ns)))));
      next = world.next + length (fitting (living ns) world.next (children ns));
    } in
    let with_born : List Agent → World = λ bs. record { agents = map (λ (p : ℕ × Agent). p.1) (map (λ a. (a.id, a)) lives ++ map (λ p. (p.0.id, p.1)) (zip bs (numbered world.next bs))); next = world.next + length bs } in
    ap made is_left ∙ ap with_born fits ∙ ap (λ agents. record { agents = agents; next = world.next + length born }) (seconds_both lives born world.next) ∙ none.same

-- the world before one is there
world_before : (s : Setting) (n : ℕ) (world : World) (before : Result World Fault) → stepped s.job (s.job.first + n) before ≡ Ok world → (v : World) × (before ≡ Ok v)
world_before s n world (Ok v) e = (v, refl)
world_before s n world (Err f) e = absurd (cc)

pub continued_is : (s : Setting) (n : ℕ) (world : World) → world_after s.job n ≡ Ok world → continued_after s n ≡ world
unfolding world_after continued_after
continued_is s zero world e = cc
continued_is s (suc n) world e =
    let (v, is) = world_before s n world (world_after s.job n) e in
    ap (continued s (s.job.first + n)) (continued_is s n v is) ∙ continued_step s (s.job.first + n) v world (ap (stepped s.job (s.job.first + n)) (sym is) ∙ e)
