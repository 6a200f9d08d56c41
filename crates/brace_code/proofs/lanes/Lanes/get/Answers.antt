use Rattle.std.proofs.Common.{rules}
use Rattle.brace_code.proofs.RowLemmas.{lane_got}
use Rattle.brace_code.proofs.lanes.Lanes.get.Goals as goal

pub returns : goal.returns
returns c =
    let s = c.self.inside in
    lane_got c.args.self.now s.count s.this s.outer s.inner s.place c.self.view_is c.args.number
    _ _ _ _ (search rules) c.at.ensures c.at-2.ensures c.at-3.ensures c.at-4.ensures
