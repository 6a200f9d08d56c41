use Rattle.std.proofs.Common.{◌≡◌, ◌∙◌, ◌-◌, pos, rules, w64, to_z, of_z}
use Rattle.brace_code.specs.Lanes.{words_of}
use Rattle.brace_fold.proofs.Sayings.{counted}
use Rattle.brace_fold.proofs.spoken.CountedSpoken.total.Goals as goal

pub returns : goal.returns
returns c = λ n low long.
    let many : to_z w64 (of_z w64 c.in_ok-count.count) ≡ pos (c.args.next - c.args.from) =
    search rules in
    many ∙ counted c.args.self.now.ty (words_of n c.args.self.now.words) c.args.from c.args.next n
    low long
