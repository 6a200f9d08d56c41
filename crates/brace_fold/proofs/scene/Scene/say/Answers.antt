use Rattle.std.proofs.Common.{rules}
use Rattle.brace_fold.specs.inner.Ears.{AreHeard, hearing}
use Rattle.brace_fold.proofs.Sayings.{are-told}
use Rattle.brace_fold.proofs.scene.Scene.say.Goals as goal

pub returns : goal.returns
returns c = λ scopes stands long.
    let all = hearing c.in-Some.hearers in
    let heard : AreHeard c.args.self.now c.args.effect c.args.ty all c.args.words
    c.args.heard.now c.say_hearers.new.heard = search rules in
    heard.each c.args.who scopes
    (are-told c.args.self.now c.args.crowd.now c.args.who all scopes stands
    (c.in-Some.ensures c.args.self.now scopes stands) c.in_ok-expect_there.ensures) long
