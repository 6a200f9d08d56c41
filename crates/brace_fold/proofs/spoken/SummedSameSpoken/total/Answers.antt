use Rattle.std.proofs.Common.{◌≡◌, ◌∙◌, ◌-◌, ap, map, rules, w64, to_z, of_z}
use Rattle.std.specs.Prelude.{replicate}
use Rattle.brace_model.specs.declared.program.Comb.TheVariants.{Sum}
use Rattle.brace_model.specs.Total.{total_of}
use Rattle.brace_model.specs.Value.{typed}
use Rattle.brace_code.proofs.ViewLemmas.{same_part}
use Rattle.brace_fold.proofs.spoken.SummedSameSpoken.total.Goals as goal

pub returns : goal.returns
returns c = λ n low long.
    let me = c.args.self.now in
    let kept : to_z w64 (of_z w64 c.in_ok-total.total) ≡ c.in_ok-total.total = search rules in
    let word : to_z w64 (of_z w64 me.word) ≡ me.word = search rules in
    kept ∙ c.in_ok-total.ensures
    ∙ ap (λ w. total_of Sum (map (typed me.ty) (replicate (c.args.next - c.args.from) w))) word
    ∙ ap (λ words. total_of Sum (map (typed me.ty) words))
    (same_part n c.args.from c.args.next me.word low)
