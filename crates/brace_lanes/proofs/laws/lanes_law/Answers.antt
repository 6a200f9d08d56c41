use Rattle.brace_lanes.proofs.StepsKept.{two_at_most, fewer_than_two}
use Rattle.brace_lanes.proofs.StateLemmas.{two_fly, put_is_turn, take_is_turn}
use Rattle.brace_lanes.proofs.laws.lanes_law.Goals as goal

pub returns : goal.returns
returns g c = record {
  in_order = λ n seats made s k. k.in_order;
  answered = λ n seats made s k. k.answered;
  two_in_flight = two_at_most;
  fewer_where_answered = fewer_than_two;
  two_fly = λ n seats made s k p q lp lq plan flight fly. two_fly n seats made s k plan flight fly p q lp lq;
  puts = λ n seats made s k j v at name from to plan. put_is_turn n seats made s k j v at name from to plan;
  takes = λ n seats made s k j v at name from to plan. take_is_turn n seats made s k j v at name from to plan;
}
