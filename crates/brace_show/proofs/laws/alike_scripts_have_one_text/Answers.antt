use Rattle.brace_show.proofs.Unplaced.{one_text}
use Rattle.brace_show.proofs.laws.alike_scripts_have_one_text.Goals as goal

pub returns : goal.returns
returns c tree other alike = one_text tree other alike
