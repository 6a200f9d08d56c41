use Rattle.brace_core.proofs.CoreLaw.{put_in_order, taken_in_order, no_name_twice, all_put, all_taken, consecutive, two_in_flight, answered, progress}
use Rattle.brace_core.proofs.Counts.{counted}
use Rattle.brace_core.proofs.laws.core_law.Goals as goal

pub returns : goal.returns
returns c = record {
  put_in_order = put_in_order;
  taken_in_order = taken_in_order;
  no_name_twice = no_name_twice;
  all_put = all_put;
  all_taken = all_taken;
  consecutive = consecutive;
  two_in_flight = two_in_flight;
  answered = answered;
  progress = progress;
  counted = counted;
}
