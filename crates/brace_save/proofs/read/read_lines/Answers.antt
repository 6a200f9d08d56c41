use Rattle.std.proofs.Common.{◌≡◌, ◌<◌, ◌∙◌, ℕ, List, Bor, map, length, sym, ap, subst, rules, Result, Ok, Err}
use Rattle.brace_num.proofs.Options.{ok_same}
use Rattle.brace_model.specs.declared.world.Agent.{Agent}
use Rattle.brace_model.specs.World.{IsNumbered}
use Rattle.brace_save.specs.declared.kinds.Point.{Point}
use Rattle.brace_save.specs.Lines.{AreOf, IsRead, read}
use Rattle.brace_save.specs.inner.Spelled.{IsAgentLine}
use Rattle.brace_save.specs.inner.Steps.{line, told, front_length}
use Rattle.brace_save.specs.Texts.{Moment}
use Rattle.brace_save.proofs.read.read_lines.Goals as goal

pub returns-in_err-read_end-clause-refused : goal.returns-in_err-read_end-clause-refused
returns-in_err-read_end-clause-refused c = λ lawful cause err ok.
    let all = map (λ (l : Bor (List ℕ)). l.now) c.args.lines.now in
    let program = c.args.program.now in
    let b = c.in_ok-heading.heading.tells_next in
    let failed : c.read_end.result ≡ Err cause = search rules in
    let same : c.as_slice.result.now ≡ c.in_ok-agents.agents.items = c.as_slice.ensures.value in
    c.read_end.ensures.refused lawful
    (subst (λ l. front_length program b l < length c.args.lines.now → (a : Agent) → IsAgentLine program a (line all (front_length program b l)) → ⊥) (sym same) (c.in_ok-agents.ensures.ended lawful))
    cause failed ok

abbrev moment_in : Point → Moment
moment_in point = record { tick = point.tick; seed = point.seed; world = point.world }

pub returns-clause-point : goal.returns-clause-point
returns-clause-point c = λ lawful point e.
    let all = map (λ (l : Bor (List ℕ)). l.now) c.args.lines.now in
    let h = c.in_ok-heading.heading in
    let same : c.as_slice.result.now ≡ c.in_ok-agents.agents.items = c.as_slice.ensures.value in
    let (are, none) = c.in_ok-read_end.ensures.whole in
    let mine : AreOf c.args.program.now (told h c.in_ok-agents.agents.items) all = subst (λ l. AreOf c.args.program.now (told h l) all) same are in
    let packed : told h c.in_ok-agents.agents.items ≡ told h c.in_ok-herd.herd =
    ap (told h) (sym (c.in_ok-herd.ensures ∙ c.as_slice-2.ensures.value)) in
    let moment : told h c.in_ok-agents.agents.items ≡ moment_in point =
    packed
    ∙ ap (λ w. record { tick = h.tick; seed = h.seed; world = w }) (sym c.world_of.ensures)
    ∙ ap moment_in (ok_same (record { tick = h.tick; seed = h.seed; world = c.world_of.result }) point e) in
    subst (λ m. IsRead c.args.program.now all c.args.rest.now (Ok m)) moment (read (told h c.in_ok-agents.agents.items) mine none)

pub world_of-requires : goal.world_of-requires
world_of-requires c =
    let h = c.in_ok-heading.heading in
    let packed = c.in_ok-herd.ensures ∙ c.as_slice-2.ensures.value in
    subst (λ l. IsNumbered (told h l).world) (sym packed) c.in_ok-agents.ensures.stand.moment_is.numbered
