use Rattle.std.proofs.Common.{sym}
use Rattle.brace_layout.proofs.AlikeScripts.{clean_either, same_programs, formatted, alike_again}
use Rattle.brace_layout.proofs.laws.canonical_texts_mean_the_same.Goals as goal

pub returns-clause-resolved : goal.returns-clause-resolved
returns-clause-resolved c src r is = formatted src r is

pub returns-clause-faultless : goal.returns-clause-faultless
returns-clause-faultless c src r q is also clean = clean_either r q (alike_again src r is q also) clean

pub returns-clause-programs : goal.returns-clause-programs
returns-clause-programs c src r q is also = sym (same_programs r q (alike_again src r is q also))
