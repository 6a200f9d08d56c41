use Rattle.brace_audit.proofs.LawLemmas.{joined_lines, no_line, no_line_0, lines_before, line_told}
use Rattle.brace_audit.proofs.LineLemmas.{differs_nowhere}
use Rattle.brace_audit.proofs.laws.differs_in_the_first_other_line.Goals as goal

pub returns : goal.returns
returns c =
    record {
      whole = joined_lines;
      equal = λ a b. (no_line a b, differs_nowhere a b);
      numbered = no_line_0;
      before = lines_before;
      first = line_told;
    }
