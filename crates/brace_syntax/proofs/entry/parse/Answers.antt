use Rattle.std.proofs.Common.{List, subst}
use Rattle.brace_tok.specs.declared.kinds.Token.{Token}
use Rattle.brace_syntax.specs.Reads.{Reads}
use Rattle.brace_syntax.proofs.GoesClass.{script-sound}
use Rattle.brace_syntax.proofs.ClassFound.{one_tree, no_script}
use Rattle.brace_syntax.proofs.Unfit.{place_of_stop}
use Rattle.brace_syntax.proofs.Spelled.{spelled_of}
use Rattle.brace_syntax.proofs.entry.parse.Goals as goal

pub new-tokens-requires : goal.new-tokens-requires
new-tokens-requires c = spelled_of _ _ c.requires.sized c.requires.spelled

pub returns-in-Ok-clause-reads : goal.returns-in-Ok-clause-reads
returns-in-Ok-clause-reads c =
    subst (λ (z : List Token). Reads c.args.src.now z c.in-Ok.tree) c.new-tokens.ensures.rest (script-sound c.args.src.now _ _ c.in-Ok.tree c.new-tokens.ensures.src c.in-Ok.ensures)

pub returns-in-Ok-clause-read : goal.returns-in-Ok-clause-read
returns-in-Ok-clause-read c tree r shallow =
    one_tree _ _ c.in-Ok.tree tree
    (subst (λ (z : List Token). Reads c.args.src.now z c.in-Ok.tree) c.new-tokens.ensures.rest (script-sound c.args.src.now _ _ c.in-Ok.tree c.new-tokens.ensures.src c.in-Ok.ensures))
    r

pub returns-in-Ok-clause-unread : goal.returns-in-Ok-clause-unread
returns-in-Ok-clause-unread c shallow none =
    none c.in-Ok.tree
    (subst (λ (z : List Token). Reads c.args.src.now z c.in-Ok.tree) c.new-tokens.ensures.rest (script-sound c.args.src.now _ _ c.in-Ok.tree c.new-tokens.ensures.src c.in-Ok.ensures))

pub returns-in-Err-NoReading-clause-refused : goal.returns-in-Err-NoReading-clause-refused
returns-in-Err-NoReading-clause-refused c =
    (c.in_default.ensures, no_script _ _ _ c.in-Err-NoReading.field-0 c.in-Err-NoReading.at c.in-Err-NoReading.field-0-is c.new-tokens.ensures.src c.new-tokens.ensures.rest c.in-Err-NoReading.ensures)

pub returns-in-Err-NoReading-clause-read : goal.returns-in-Err-NoReading-clause-read
returns-in-Err-NoReading-clause-read c tree r shallow =
    absurd (no_script _ _ _ c.in-Err-NoReading.field-0 c.in-Err-NoReading.at c.in-Err-NoReading.field-0-is c.new-tokens.ensures.src c.new-tokens.ensures.rest c.in-Err-NoReading.ensures tree r)

pub returns-in-Err-NoReading-clause-place : goal.returns-in-Err-NoReading-clause-place
returns-in-Err-NoReading-clause-place c =
    place_of_stop _ _ _ c.in-Err-NoReading.field-0 c.in-Err-NoReading.at c.requires.spelled c.in-Err-NoReading.field-0-is c.new-tokens.ensures.src c.new-tokens.ensures.rest c.in-Err-NoReading.ensures
