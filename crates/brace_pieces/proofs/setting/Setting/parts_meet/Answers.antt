use Rattle.brace_pieces.proofs.CutLemmas.{lawful_as, part_as}
use Rattle.brace_pieces.proofs.setting.Setting.parts_meet.Goals as goal

pub near-requires : goal.near-requires
near-requires c = record {
  lawful = lawful_as _ _ _ _ c.cuts_at.ensures c.requires.plan;
  p_in_range = part_as _ _ c.args.self.now.job.first _ _ _ c.cuts_at.ensures c.requires.plan c.requires.p_in_range;
  q_in_range = part_as _ _ c.args.self.now.job.first _ _ _ c.cuts_at.ensures c.requires.plan c.requires.q_in_range;
}
