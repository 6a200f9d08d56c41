-- What a part comes to by the censuses of all.
use Rattle.std.proofs.Common.{◌≡◌, ◌∙◌, sym, ap, ap₂, subst, ℕ, ◌+◌, ◌≤◌, ◌^◌, List, [], ◌∷◌, map, filter_map, flat_map, length, Option, Some, None, arith, refl, true}
use Rattle.std.specs.Prelude.{slice_get, option_map}
use Rattle.std.specs.List.{list_all}
use Rattle.std.specs.List.Sorted.{IsStrictlyIncreasing}
use Rattle.std.specs.Option.{option_and_then}
use Rattle.brace_model.specs.declared.fault.Fault.{Fault}
use Rattle.brace_model.specs.declared.world.Agent.{Agent}
use Rattle.brace_model.specs.declared.world.Parent.{Parent}
use Rattle.brace_model.specs.declared.world.Census.{Census}
use Rattle.brace_model.specs.World.{World, ids}
use Rattle.brace_model.specs.Lawful.{is_lawful_agent}
use Rattle.brace_model.specs.Step.{children}
use Rattle.brace_model.specs.FaultOrder.{least}
use Rattle.brace_pieces.specs.declared.setting.Setting.{Setting}
use Rattle.brace_pieces.specs.declared.setting.Stage.TheVariants as stage
use Rattle.brace_pieces.specs.declared.piece.Piece.{Piece}
use Rattle.brace_pieces.specs.Steps.{step, met}
use Rattle.brace_pieces.specs.Continued.{all_left, listed, on}
use Rattle.brace_pieces.specs.Together.{with_number, children_of}
use Rattle.brace_pieces.specs.Right.{census_of}
use Rattle.brace_pieces.specs.Censuses.{IsSumOf, IsCounted, rank_too_far, parent_fault, fault_told}
use Rattle.brace_pieces.proofs.OnLemmas.{on_rises, on_whole, on_classed, on_next}
use Rattle.brace_pieces.proofs.LimitLemmas.{on_numbered}
use Rattle.brace_pieces.proofs.GivenLemmas.{children_rise}
use Rattle.brace_pieces.proofs.CensusLemmas.{all_bear, all_is, faults_told, born_by_rank, next_by_rank}
use Rattle.brace_num.proofs.Orders.{keys_by_rises}
use Rattle.brace_herd.specs.declared.work.Worker.{Worker}
use Rattle.brace_herd.specs.Works.{found_in_work}
use Rattle.brace_pieces.specs.Exchanged.{counts_brought}
use Rattle.brace_fold.specs.declared.order.Moved.{Moved}
use Rattle.brace_fold.specs.Listed.{AreStored}
use Rattle.brace_herd.specs.Ready.{own_in, left_in, HasLeft, HasBorn}
use Rattle.brace_herd.specs.Workers.{IsWorker, IsWork}
use Rattle.brace_herd.proofs.HoldWork.{mine_lawful}
use Rattle.brace_herd.proofs.LawfulOn.{left_lawful}
use Rattle.brace_herd.proofs.WorkTaken.{censuses_bring}
use Rattle.brace_herd.proofs.WorkHeard.{step_ticks}

-- a fault that may be there is the least of its list
least_listed : (o : Option Fault) → least (listed o) ≡ o
least_listed None = refl
least_listed (Some f) = refl

-- parents have the ids that their children bear
parent_ids : (kids : List Agent) → map (λ (q : Parent). q.id) (census_of [] kids).parents ≡ ids kids
parent_ids [] = refl
parent_ids (c ∷ kids) = ap (λ ns. c.id ∷ ns) (parent_ids kids)

-- what a part counts of its own in columns is added up with what pieces bring
pub sum_is : (worker : Worker) (part : IsWorker worker) (t : ℕ) (left : Moved)
    (born bears : List Agent) (next : ℕ) → HasLeft worker.setting.now worker.part t left born next
    → bears ≡ born → (others : List Census) (own all : Census)
    → ((agents : List Agent) → AreStored worker.setting.now.job.program agents left
    → list_all (is_lawful_agent worker.setting.now.job.program) agents ≡ true
    → own ≡ census_of agents bears)
    → IsSumOf (own ∷ others) all
    → IsSumOf (census_of (left_in worker.setting.now worker.part t) born ∷ others) all
sum_is worker part t left born bears next has same others own all counts sum =
    let s = worker.setting.now in
    let lives = left_in s worker.part t in
    let lawful = left_lawful s part.lawful t (on s t).agents _ (mine_lawful worker part t) in
    subst (λ (c : Census). IsSumOf (c ∷ others) all)
    (counts lives has.lives lawful ∙ ap (census_of lives) same) sum

module _ (worker : Worker) (part : IsWorker worker) (t : ℕ) (pieces : List Piece)
    (work : IsWork worker stage.Census t pieces) (left : Moved) (born : List Agent)
    (has : HasLeft worker.setting.now worker.part t left born worker.next)
    (all : Census) (sum : IsSumOf (census_of
    (left_in worker.setting.now worker.part t) born ∷ flat_map counts_brought pieces) all) where
  abbrev s : Setting
  s = worker.setting.now

  abbrev p : ℕ
  p = worker.part

  abbrev world : World
  world = on s t

  counted : IsCounted s t p world all
  counted = record {
    setting_is_lawful = part.lawful;
    is_part = part.is_part;
    ids_rise = on_rises s part.lawful t;
    are_whole = on_whole s part.lawful part.numbers t;
    have_classes = on_classed s part.lawful part.numbers t;
    is_sum = subst (λ cs. IsSumOf cs all)
        (ap₂ (λ c cs. c ∷ cs) (ap (census_of (left_in s p t)) has.bears)
        (censuses_bring s worker.number p t work.stands
        (met s (step stage.Census t) p) pieces work.took)) sum;
  }

  -- the next free id is one
  pub low_next : worker.next ≤ 2 ^ 63
  low_next = let low = (on_numbered s part.lawful t).in_range in omega (arith, low, work.next_is)

  pub rising : IsStrictlyIncreasing (map (λ (q : Parent). q.id) all.parents)
  rising =
      let kids : List Agent = children (all_left s t world.agents) in
      subst (λ (c : Census). IsStrictlyIncreasing (map (λ (q : Parent). q.id) c.parents)) (sym (all_is s t p world all counted))
      (subst IsStrictlyIncreasing (sym (parent_ids kids)) (keys_by_rises (λ (a : Agent). a.id) kids (children_rise s t part.lawful world.agents counted.ids_rise counted.are_whole p)))

  -- the first parent that goes too far
  module _ (first : Option Parent) (is : first ≡ option_and_then (slice_get all.parents) (rank_too_far s.job.program worker.next all)) where
    told : fault_told s.job.program worker.next t all ≡ option_map (parent_fault s.job.program t) first
    told = ap (option_map (parent_fault s.job.program t)) (sym is)

    pub found_is : least (found_in_work s p stage.Census t) ≡ option_map (parent_fault s.job.program t) first
    found_is =
        ap least (sym (faults_told s t p world all counted) ∙ ap (λ n. listed (fault_told s.job.program n t all)) (sym work.next_is))
        ∙ least_listed (fault_told s.job.program worker.next t all) ∙ told

    pub none_told : first ≡ None → fault_told s.job.program worker.next t all ≡ None
    none_told none = told ∙ ap (option_map (parent_fault s.job.program t)) none

    -- where none does, all children are born
    pub has_born : first ≡ None → (numbered : List Agent) → numbered ≡ filter_map (with_number worker.next (map (λ (q : Parent). q.id) all.parents)) born
        → HasBorn s p t left numbered (worker.next + length all.parents)
    has_born none numbered by_rank =
        let bear = all_bear s.job.program world.next t all (ap (λ n. fault_told s.job.program n t all) (sym work.next_is) ∙ none_told none) in
        let low = (step_ticks s worker.number t stage.Census (λ e. absurd (cc)) work.stands).0 in
        record {
          lives = has.lives;
          born_so =
              by_rank
              ∙ ap₂ (λ n kids. filter_map (with_number n (map (λ (q : Parent). q.id) all.parents)) kids) work.next_is has.bears
              ∙ ap (λ ps. filter_map (with_number world.next (map (λ (q : Parent). q.id) ps)) (children_of s t world.agents (own_in s p t))) (sym bear)
              ∙ born_by_rank s t p world all counted (own_in s p t);
          next_is =
              ap₂ (λ n k. n + k) work.next_is (ap length (sym bear)) ∙ next_by_rank s t p world all counted
              ∙ sym (ap (λ (w : World). w.next) (on_next s t low));
        }
