use Rattle.std.proofs.Common.{◌≡◌, ◌∙◌, None, ap, map, rules, string_bytes}
use Rattle.std.specs.Prelude.{option_and_then}
use Rattle.clap.specs.Matches.{first_value, found_of}
use Rattle.brace_words.specs.Lines.{line_found, line_of, taken}
use Rattle.brace_words.proofs.LineLemmas.{line_said, no_line, not_taken_where, taken_where}
use Rattle.brace_words.proofs.read.read_line.Goals as goal

pub returns-in_default-kind : goal.returns-in_default-kind
returns-in_default-kind c = record {
  line = tt;
  usage = λ _. no_line c.in-Ok.command _ c.in-Err.error c.in-Ok.ensures c.in-Err.ensures.kinds
      (λ memory. c.in_default-kind.not-OutOfMemory (c.kind.ensures ∙ memory));
  taken = tt;
  bounds = tt;
}

pub returns-in_err-line-clause-usage : goal.returns-in_err-line-clause-usage
returns-in_err-line-clause-usage c =
    let matches = c.in-Ok-try_get_matches_from.matches in
    let said = line_said c.in-Ok.command (map string_bytes c.args.words.now) matches c.in-Ok.ensures
    c.in-Ok-try_get_matches_from.ensures.kinds c.in-Ok-try_get_matches_from.ensures.matches in
    let none : line_found (first_value (found_of matches)) ≡ None
    → line_of (map string_bytes c.args.words.now) ≡ None =
    λ h. said ∙ ap (option_and_then taken) h in
    search (rules, none)

pub returns-then-takes-clause-line : goal.returns-then-takes-clause-line
returns-then-takes-clause-line c =
    line_said c.in-Ok.command _ c.in-Ok-try_get_matches_from.matches c.in-Ok.ensures
    c.in-Ok-try_get_matches_from.ensures.kinds c.in-Ok-try_get_matches_from.ensures.matches
    ∙ ap (option_and_then taken) c.in_ok-line.ensures.line
    ∙ taken_where c.in_ok-line.line (search rules)

pub returns-clause-usage : goal.returns-clause-usage
returns-clause-usage c _ =
    line_said c.in-Ok.command _ c.in-Ok-try_get_matches_from.matches c.in-Ok.ensures
    c.in-Ok-try_get_matches_from.ensures.kinds c.in-Ok-try_get_matches_from.ensures.matches
    ∙ ap (option_and_then taken) c.in_ok-line.ensures.line
    ∙ not_taken_where c.in_ok-line.line (search rules)
