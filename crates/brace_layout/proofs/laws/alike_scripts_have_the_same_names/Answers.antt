use Rattle.brace_layout.proofs.AlikeScripts.{same_name_faults, none_either, same_targets}
use Rattle.brace_layout.proofs.laws.alike_scripts_have_the_same_names.Goals as goal

pub returns-clause-faults : goal.returns-clause-faults
returns-clause-faults c tree other alike = same_name_faults tree other alike

pub returns-clause-faultless : goal.returns-clause-faultless
returns-clause-faultless c tree other alike none = none_either tree other alike none

pub returns-clause-targets : goal.returns-clause-targets
returns-clause-targets c tree other alike = same_targets tree other alike
