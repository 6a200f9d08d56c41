use Rattle.std.proofs.Common.{rules}
use Rattle.brace_code.proofs.RowLemmas.{lanes_picked}
use Rattle.brace_code.proofs.lanes.Lanes.picked.Goals as goal

pub returns : goal.returns
returns c =
    let s = c.self.inside in
    lanes_picked c.args.self.now s.count s.this s.outer s.inner s.place c.self.view_is
    c.args.numbers.now _ c.in_ok-picked.field-0 c.in_ok-picked-2.field-0 c.in_ok-picked-3.field-0
    c.in_ok-picked-4.field-0 (search rules) (search rules) c.in_ok-picked.ensures
    c.in_ok-picked-2.ensures c.in_ok-picked-3.ensures c.in_ok-picked-4.ensures
