use Rattle.brace_core.proofs.Fronts.{front_lawful, names_first, front_run, front_end, goes_on, stopped_put, stopped_taken}
use Rattle.brace_core.proofs.laws.front_law.Goals as goal

pub returns : goal.returns
returns c = record {
  lawful = front_lawful;
  names = names_first;
  run = front_run;
  end = front_end;
  progress = goes_on;
  all_put = stopped_put;
  all_taken = stopped_taken;
}
