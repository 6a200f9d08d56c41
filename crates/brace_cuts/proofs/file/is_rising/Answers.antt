use Rattle.std.proofs.Common.{◌≡◌, ◌∙◌, None, Bor, ap, sym}
use Rattle.std.specs.Prelude.{◌&&◌, option_map}
use Rattle.std.specs.List.{last_or}
use Rattle.brace_cuts.specs.declared.plan.CutLine.{CutLine}
use Rattle.brace_cuts.specs.CutPlans.{is_later}
use Rattle.brace_cuts.proofs.Orders.{last_at}
use Rattle.brace_cuts.proofs.file.is_rising.Goals as goal

pub returns-then-both_rise : goal.returns-then-both_rise
returns-then-both_rise c =
    let last : option_map (λ (line : Bor CutLine). line.now) c.last.result ≡ last_or None c.args.earlier.now = c.last.ensures.value ∙ last_at c.args.earlier.now in
    c.is_later.ensures ∙ ap (λ o. is_later o c.args.line.now.tick) last
    ∙ ap (λ b. b && is_later (last_or None c.args.earlier.now) c.args.line.now.tick) (sym c.if-both_rise.true ∙ c.both_rise.ensures)
