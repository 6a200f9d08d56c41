use Rattle.std.proofs.Common.{◌≤◌, ◌-◌, length, rules}
use Rattle.std.specs.Vec.{vec_len}
use Rattle.brace_fold.proofs.Looks.{roomy}
use Rattle.brace_fold.proofs.seeing.make_room.Goals as goal

pub returns-in_ok-resize-clause-kept : goal.returns-in_ok-resize-clause-kept
returns-in_ok-resize-clause-kept c =
    let less : length c.args.rows.now.items ≤ c.args.count = search rules in
    roomy c.args.rows.now.items c.resize.new.self.items c.args.count
    (c.args.count - vec_len c.args.rows.now) less c.in_ok-resize.ensures.items
