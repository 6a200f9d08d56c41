-- A small run over two parts, whose events are counted by the definitions alone.
use Rattle.std.proofs.Common.{◌≡◌, refl, pos, [], ◌∷◌, false, None, codes}
use Rattle.brace_core.specs.Events.{events_of}
use Rattle.brace_model.specs.declared.program.Class.{Class}
use Rattle.brace_model.specs.World.{world_of}
use Rattle.brace_pieces.specs.declared.setting.Setting.{Setting}
use Rattle.brace_pieces.specs.Steps.{schedule}

-- a class whose agents see 2 units far
abbrev seeing : Class
seeing = record { name = codes "F"; visible = pos 2000000; reach = pos 0; x = 0; y = 1; states = []; effects = []; query = []; die = None; spawn = None }

-- one tick of it, which ends an epoch, over a plane that is cut at 2 units along x
abbrev two_parts : Setting
two_parts = record {
  job = record { program = record { classes = seeing ∷ []; sites = [] }; seed = 0; first = 0; last = 1; every = 1; start = world_of [] };
  cuts = record { lines = record { tick = 0; cuts = record { xs = pos 2000000 ∷ []; ys = [] } } ∷ [] };
  epoch = 16;
  invert = false;
}

-- both parts put, take and work in four steps; the publisher works in each, and meets both in the last
pub events_are_counted : events_of (schedule two_parts) ≡ 32
events_are_counted = refl
