-- What a run saves is a checkpoint that tells its world, or its agents alone where no class bears
-- children.
use Rattle.std.proofs.Common.{◌≡◌, refl, ap₂, subst, ℕ, ℤ, zero, suc, ◌+◌, ◌-◌, ◌^◌, ◌≤◌, ◌<◌, nat_le, List, [], ◌∷◌, Contains, Bool, true, false, true≢false, if◌then◌else◌, ◌&&◌, Result, Ok, Err, w64, arith}
use Rattle.std.specs.Prelude.{FitsSigned}
use Rattle.std.specs.List.{list_all}
use Rattle.std.proofs.lemmas.Bool.{and_parts}
use Rattle.brace_num.specs.Exact.{fits}
use Rattle.brace_model.specs.declared.fault.Fault.{Fault}
use Rattle.brace_model.specs.declared.job.Job.{Job}
use Rattle.brace_model.specs.declared.program.Program.{Program}
use Rattle.brace_model.specs.declared.program.Value.{Value}
use Rattle.brace_model.specs.declared.program.Value.TheVariants.{Int, Fixed, Flag}
use Rattle.brace_model.specs.declared.world.Agent.{Agent}
use Rattle.brace_model.specs.Lawful.{LawfulAgents, LawfulJob, has_states, is_lawful_agent}
use Rattle.brace_model.specs.Next.{has_births}
use Rattle.brace_model.specs.Run.{stepped, world_after}
use Rattle.brace_model.specs.Step.{greatest_id}
use Rattle.brace_model.specs.World.{IsNumbered, RisesById, World, class_of, least_next, number, value_at, world_of, world_with}
use Rattle.brace_eval.proofs.LawfulLemmas.{steps-lawful}
use Rattle.brace_pieces.specs.declared.setting.Setting.{Setting}
use Rattle.brace_pieces.specs.Continued.{on}
use Rattle.brace_pieces.specs.Numbers.{NumbersFit}
use Rattle.brace_pieces.specs.Settings.{LawfulSetting}
use Rattle.brace_pieces.specs.Together.{AreWhole, HaveClasses}
use Rattle.brace_pieces.proofs.LimitLemmas.{on_numbered}
use Rattle.brace_pieces.proofs.OnLemmas.{on_classed, on_rises, on_whole}
use Rattle.brace_pieces.proofs.WorldLemmas.{continued_is}
use Rattle.brace_rows.proofs.Order.{rising_are_numbered}
use Rattle.brace_save.specs.Lines.{IsText}
use Rattle.brace_save.specs.Texts.{IsMoment, Moment, lines, text, value_fits}
use Rattle.brace_desk.specs.Shows.{checkpoint_file}
use Rattle.brace_command.specs.Restarts.{told_world}
use Rattle.brace_num.proofs.Lists.{in_more}

-- ---- worlds stay lawful

same_agents : (w v : World) → ◌≡◌ {A = Result World Fault} (Ok w) (Ok v) → w.agents ≡ v.agents
same_agents w v e = cc

lawful_step : (job : Job) (n : ℕ) (world : World) (before : Result World Fault) → LawfulJob job → ((w : World) → before ≡ Ok w → LawfulAgents job.program w.agents)
    → stepped job (job.first + n) before ≡ Ok world → LawfulAgents job.program world.agents
lawful_step job n world (Ok w) lawful earlier e = steps-lawful job.program job.seed (job.first + n) w world lawful.program_is_lawful (earlier w refl) e
lawful_step job n world (Err f) lawful earlier e = absurd cc

lawful_after : (job : Job) (n : ℕ) (world : World) → LawfulJob job → world_after job n ≡ Ok world → LawfulAgents job.program world.agents
unfolding world_after
lawful_after job zero world lawful e = subst (LawfulAgents job.program) (same_agents job.start world e) lawful.start_is_lawful
lawful_after job (suc n) world lawful e = lawful_step job n world (world_after job n) lawful (λ w is. lawful_after job n w lawful is) e

-- ---- values fit

fit_back : (z : ℤ) → FitsSigned w64 z → fits z ≡ true
fit_back z e = grind (arith, e)

value_back : (v : Value) → FitsSigned w64 (number v) → value_fits v ≡ true
value_back (Int n) e = fit_back n e
value_back (Fixed n) e = fit_back n e
value_back (Flag b) e = refl

values_back : (values : List Value) → ((i : ℕ) → FitsSigned w64 (number (value_at values i))) → list_all value_fits values ≡ true
values_back [] fit = refl
values_back (v ∷ rest) fit = ap₂ (λ (a b : Bool). a && b) (value_back v (fit 0)) (values_back rest (λ i. fit (suc i)))

each_fits : (agents : List Agent) → ((a : Agent) → Contains agents a → list_all value_fits a.states ≡ true) → list_all (λ a. list_all value_fits a.states) agents ≡ true
each_fits [] fit = refl
each_fits (a ∷ rest) fit = ap₂ (λ (x y : Bool). x && y) (fit a (0, omega arith, refl)) (each_fits rest (λ b has. fit b (in_more a rest b has)))

agents_fit : (program : Program) (agents : List Agent) → AreWhole program agents → HaveClasses program agents → list_all (λ a. list_all value_fits a.states) agents ≡ true
agents_fit program agents whole classed = each_fits agents (λ a has. let (class, is) = classed a has in values_back a.states (whole a class has is).values_fit)

few_ids : (program : Program) (agents : List Agent) → list_all (is_lawful_agent program) agents ≡ true → list_all (λ a. nat_le a.id greatest_id) agents ≡ true
few_ids program [] lawful = refl
few_ids program (a ∷ rest) lawful =
    let (first, others) = and_parts (is_lawful_agent program a) (list_all (is_lawful_agent program) rest) lawful in
    let (low, states) = and_parts (nat_le a.id greatest_id) (has_states (class_of program a) a) first in
    ap₂ (λ (x y : Bool). x && y) low (few_ids program rest others)

-- ---- what is saved

module _ (s : Setting) (lawful : LawfulSetting s) (numbers : NumbersFit s) (short : s.job.seed < 2 ^ 64) (tick : ℕ) (world : World)
    (from : s.job.first ≤ tick) (to_ : tick ≤ s.job.last) (reached : world_after s.job (tick - s.job.first) ≡ Ok world) where
  is_on : on s tick ≡ world
  is_on = continued_is s (tick - s.job.first) world reached

  lawful_agents : LawfulAgents s.job.program world.agents
  lawful_agents = lawful_after s.job (tick - s.job.first) world lawful.job_is_lawful reached

  whole : AreWhole s.job.program world.agents
  whole = subst (λ (w : World). AreWhole s.job.program w.agents) is_on (on_whole s lawful numbers tick)

  classed : HaveClasses s.job.program world.agents
  classed = subst (λ (w : World). HaveClasses s.job.program w.agents) is_on (on_classed s lawful numbers tick)

  rising : RisesById world.agents
  rising = subst (λ (w : World). RisesById w.agents) is_on (on_rises s lawful tick)

  -- the moment of the tick, with some world
  abbrev at_tick : World → Moment
  at_tick w = record { tick = tick; seed = s.job.seed; world = w }

  -- the agents of the tick's world, with a next free id
  moment_is : (tells_next : Bool) (next : ℕ) → IsNumbered (world_with world.agents next) → (tells_next ≡ false → world_with world.agents next ≡ world_of world.agents)
      → IsMoment s.job.program tells_next (at_tick (world_with world.agents next))
  moment_is tells_next next numbered least = record {
    tick_in_range = let last = lawful.job_is_lawful.last_in_range in omega (arith, to_, last);
    seed_in_range = short;
    numbered = numbered;
    lawful = lawful_agents;
    values_fit = agents_fit s.job.program world.agents whole classed;
    least = least;
  }

  in_version : (b : Bool) → IsText s.job.program (at_tick (if b then world else world_of world.agents)) (text (lines s.job.program b (at_tick world)))
  in_version true = record {
    tells_next = true;
    moment_is = moment_is true world.next (subst IsNumbered is_on (on_numbered s lawful tick)) (λ e. absurd (true≢false e));
    same = refl;
  }
  in_version false = record {
    tells_next = false;
    moment_is = moment_is false (least_next world.agents) (rising_are_numbered world.agents rising (few_ids s.job.program world.agents lawful_agents.each_is_lawful)) (λ e. refl);
    same = refl;
  }

  -- the file of an end is a text of the moment that the end comes to
  pub saved_tells : (name : List ℕ) → IsText s.job.program (at_tick (told_world s.job.program world)) (checkpoint_file name s tick world).1
  saved_tells name = in_version (has_births s.job.program)
