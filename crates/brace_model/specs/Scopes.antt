-- The scope that an environment and a drawer stand for.
use Rattle.std.specs.Prelude.{option_copied}
use Rattle.brace_draw.specs.declared.Drawer.{Drawer}
use Rattle.brace_model.specs.declared.job.Env.{Env}
use Rattle.brace_model.specs.Value.{Scope}

-- what an environment binds, with the seed of a drawer
abbrev pub scope_of : Env → Drawer → Scope
scope_of env drawer =
    record {
      tick = env.tick;
      seed = drawer.seed;
      this = env.this.now;
      outer = option_copied env.outer;
      inner = option_copied env.inner;
      locals = env.locals.now;
      totals = env.totals.now;
    }
