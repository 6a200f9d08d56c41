use Rattle.brace_pieces.proofs.CutLemmas.{lawful_as, part_as}
use Rattle.brace_pieces.proofs.setting.Setting.are_recut.Goals as goal

pub share-requires : goal.share-requires
share-requires c = record {
  before = lawful_as _ _ _ _ c.cuts_at-before.ensures c.requires.plan;
  after = lawful_as _ _ _ _ c.cuts_at-after.ensures c.requires.plan;
  p_in_range = part_as _ _ c.args.self.now.job.first _ _ _ c.cuts_at-before.ensures c.requires.plan c.requires.p_in_range;
  q_in_range = part_as _ _ c.args.self.now.job.first _ _ _ c.cuts_at-after.ensures c.requires.plan c.requires.q_in_range;
}

pub share-requires-else-share : goal.share-requires-else-share
share-requires-else-share c = record {
  before = lawful_as _ _ _ _ c.cuts_at-before.ensures c.requires.plan;
  after = lawful_as _ _ _ _ c.cuts_at-after.ensures c.requires.plan;
  p_in_range = part_as _ _ c.args.self.now.job.first _ _ _ c.cuts_at-before.ensures c.requires.plan c.requires.q_in_range;
  q_in_range = part_as _ _ c.args.self.now.job.first _ _ _ c.cuts_at-after.ensures c.requires.plan c.requires.p_in_range;
}
