use Rattle.brace_pieces.proofs.OrderLemmas.{ends_shown, stands_once, shows_later, shows_before}
use Rattle.brace_pieces.proofs.EpochLemmas.{last_is_end, shown_alike}
use Rattle.brace_pieces.proofs.laws.ends_are_shown.Goals as goal

pub returns : goal.returns
returns c = record {
  shows = ends_shown;
  once = stands_once;
  behind = shows_later;
  before = λ s i j at end e other f. shows_before s i j at end e f;
  last = last_is_end;
  cuts = λ s end t lawful ends. shown_alike s lawful end t;
}
