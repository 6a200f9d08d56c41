use Rattle.brace_pieces.proofs.HeldLemmas.{held_is, handed_is}
use Rattle.brace_pieces.proofs.MoveLemmas.{moved_is}
use Rattle.brace_pieces.proofs.GivenLemmas.{given_with_births, given_is}
use Rattle.brace_pieces.proofs.AllLemmas.{all_is}
use Rattle.brace_pieces.proofs.OnLemmas.{on_rises, on_whole, on_classed, on_next}
use Rattle.brace_pieces.proofs.LimitLemmas.{on_numbered}
use Rattle.brace_pieces.proofs.laws.parts_make_the_world.Goals as goal

pub returns-clause-held : goal.returns-clause-held
returns-clause-held c s t p world agents lawful part up on sorted = held_is s lawful p part t world agents up on sorted

pub returns-clause-recut : goal.returns-clause-recut
returns-clause-recut c s t p world agents lawful part up on sorted = handed_is s lawful p part t world agents up on sorted

pub returns-clause-moved : goal.returns-clause-moved
returns-clause-moved c s t p world agents lawful part up rises whole after sorted = moved_is s lawful t p part world up whole after agents rises sorted

pub returns-clause-given : goal.returns-clause-given
returns-clause-given c s t p q world lawful up whole = given_with_births s t lawful world.agents up whole p q world.next

pub returns-clause-given_by_the_living : goal.returns-clause-given_by_the_living
returns-clause-given_by_the_living c s t p q world lawful none up whole = given_is s t lawful world.agents up whole p none q world.next

pub returns-clause-rises : goal.returns-clause-rises
returns-clause-rises c s t lawful = on_rises s lawful t

pub returns-clause-whole : goal.returns-clause-whole
returns-clause-whole c s t lawful numbers = on_whole s lawful numbers t

pub returns-clause-next : goal.returns-clause-next
returns-clause-next c s t le = on_next s t le

pub returns-clause-all : goal.returns-clause-all
returns-clause-all c s t world agents lawful up classed sorted = all_is s lawful t world agents up classed sorted

pub returns-clause-classed : goal.returns-clause-classed
returns-clause-classed c s t lawful numbers = on_classed s lawful numbers t

pub returns-clause-numbered : goal.returns-clause-numbered
returns-clause-numbered c s t lawful = on_numbered s lawful t
