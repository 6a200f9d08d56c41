-- How much a part gives to others, step by step, and how much all parts give in a run.
use Rattle.std.specs.Prelude.{ℕ, ◌+◌, nat_lt, List, filter, length, take, sum_by}
use Rattle.std.specs.List.{range_with_len}
use Rattle.brace_model.specs.declared.world.Agent.{Agent}
use Rattle.brace_pieces.specs.declared.setting.Setting.{Setting}
use Rattle.brace_pieces.specs.declared.setting.Stage.{Stage}
use Rattle.brace_pieces.specs.declared.setting.Stage.TheVariants.{Hand, Border, Effects, Move}
use Rattle.brace_pieces.specs.declared.setting.Step.{Step}
use Rattle.brace_pieces.specs.Settings.{parts}
use Rattle.brace_pieces.specs.Steps.{steps, met}
use Rattle.brace_pieces.specs.Continued.{on}
use Rattle.brace_pieces.specs.Right.{handed, border, shares, moved}
use Rattle.brace_pieces.specs.declared.counts.Counts.{Counts}

-- nothing is given
abbrev pub no_counts : Counts
no_counts = record { border = 0; effects = 0; moved = 0; handed = 0 }

-- two counts together
abbrev pub together : Counts → Counts → Counts
together a b = record {
  border = a.border + b.border;
  effects = a.effects + b.effects;
  moved = a.moved + b.moved;
  handed = a.handed + b.handed;
}

-- the counts of all items of a list, summed
abbrev pub summed : {A : Type 0} → (A → Counts) → List A → Counts
summed counts list = record {
  border = sum_by (λ x. (counts x).border) list;
  effects = sum_by (λ x. (counts x).effects) list;
  moved = sum_by (λ x. (counts x).moved) list;
  handed = sum_by (λ x. (counts x).handed) list;
}

-- of agents that go to another part in a move those that lived before: a child is not moved
abbrev pub lived : ℕ → List Agent → List Agent
lived next agents = filter (λ a. nat_lt a.id next) agents

-- how much a part gives to another in a step of a stage and tick
abbrev pub given_to : Setting → ℕ → Stage → ℕ → ℕ → Counts
given_to s p Hand tick q =
    record no_counts { handed = length (handed s tick p q (on s tick).agents) }
given_to s p Border tick q =
    record no_counts { border = length (border s tick p q (on s tick).agents) }
given_to s p Effects tick q =
    record no_counts { effects = length (shares s tick p q (on s tick).agents) }
given_to s p Move tick q =
    let world = on s tick in
    record no_counts { moved = length (lived world.next (moved s tick p q world)) }
given_to s p _ tick q = no_counts

-- how much it gives in a step to all whom it meets
abbrev pub given_in : Setting → ℕ → Step → Counts
given_in s p at = summed (given_to s p at.stage at.tick) (met s at p)

-- how much it gives in the first steps of a run, so many of them
abbrev pub counts_behind : Setting → ℕ → ℕ → Counts
counts_behind s p many = summed (given_in s p) (take many (steps s))

-- how much it gives in all steps up to the one of a number
abbrev pub counts_up_to : Setting → ℕ → ℕ → Counts
counts_up_to s p number = counts_behind s p (number + 1)

-- how much all parts give in all steps
abbrev pub all_given : Setting → Counts
all_given s = summed (λ p. counts_up_to s p (length (steps s))) (range_with_len 0 (parts s))
