use Rattle.brace_check.proofs.LawfulProof.{sites_in_order}
use Rattle.brace_check.proofs.laws.sites_are_numbered_in_text_order.Goals as goal

pub returns : goal.returns
returns c src r is = sites_in_order src r is
