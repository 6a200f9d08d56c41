-- Lanes can be made for the schedule of a lawful run, with one actor more than it has parts.
use Rattle.std.proofs.Common.{◌+◌, ◌≤◌, ◌^◌, List, length, filter, arith}
use Rattle.std.proofs.lemmas.List.{length-map}
use Rattle.brace_core.specs.Schedule.{Pair}
use Rattle.brace_core.specs.Lanes.{AreBelow}
use Rattle.brace_core.proofs.Lawful.{names_below}
use Rattle.brace_pieces.specs.declared.setting.Setting.{Setting}
use Rattle.brace_pieces.specs.declared.setting.Step.{Step}
use Rattle.brace_pieces.specs.Settings.{LawfulSetting, parts}
use Rattle.brace_pieces.specs.Steps.{steps, meet, pairs_below, schedule}
use Rattle.brace_pieces.proofs.CutLemmas.{cuts_lawful}
use Rattle.brace_pieces.proofs.ScheduleLemmas.{schedule_lawful}
use Rattle.brace_pieces.proofs.WalkLemmas.{steps_short}

pub few_actors : (s : Setting) → LawfulSetting s → parts s + 1 ≤ 65
few_actors s lawful = omega (arith, (cuts_lawful s.epoch s.cuts s.job.first lawful.plan_is_lawful).parts_are_few)

pub parts_below : (s : Setting) → AreBelow (schedule s) (parts s + 1)
parts_below s = names_below (schedule s) (schedule_lawful s)

abbrev pairs_at : Setting → Step → List Pair
pairs_at s at = filter (λ m. meet s at m.from m.to) (pairs_below (parts s + 1))

pub schedule_short : (s : Setting) → LawfulSetting s → length (schedule s).steps ≤ 2 ^ 40
schedule_short s lawful = omega (arith, length-map (steps s) (pairs_at s), steps_short s, lawful.job_is_lawful.last_in_range)
