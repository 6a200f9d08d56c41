use Rattle.brace_layout.proofs.AlikeScripts.{same_check_faults, clean_either, same_programs}
use Rattle.brace_layout.proofs.laws.alike_scripts_mean_the_same.Goals as goal

pub returns-clause-faults : goal.returns-clause-faults
returns-clause-faults c r q alike = same_check_faults r q alike

pub returns-clause-faultless : goal.returns-clause-faultless
returns-clause-faultless c r q alike none = clean_either r q alike none

pub returns-clause-programs : goal.returns-clause-programs
returns-clause-programs c r q alike = same_programs r q alike
