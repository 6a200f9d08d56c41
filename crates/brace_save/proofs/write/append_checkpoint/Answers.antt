use Rattle.std.proofs.Common.{◌≡◌, ◌∙◌, ◌++◌, [], ◌∷◌, ℕ, flat_map, ap}
use Rattle.std.specs.Prelude.{codes}
use Rattle.std.proofs.lemmas.Result.{on_ok_weaker}
use Rattle.brace_model.specs.declared.world.Agent.{Agent}
use Rattle.brace_model.specs.declared.program.Class.{Class}
use Rattle.brace_model.specs.World.{world_with}
use Rattle.brace_model.specs.Published.{agent_text}
use Rattle.brace_save.specs.Texts.{Moment, class_line, count_line, end_line, lines, text}
use Rattle.brace_save.proofs.Written.{heading_alike, checkpoint_appended}
use Rattle.brace_save.proofs.write.append_checkpoint.Goals as goal

pub returns-clause-printed : goal.returns-clause-printed
returns-clause-printed c =
    let program = c.args.program.now in
    let m : Moment = record { tick = c.args.tick; seed = c.args.seed; world = world_with c.args.agents.now c.args.next } in
    let out = c.args.out.now.items in
    let started = c.append_heading.new.out.items in
    let classed = c.append_classes.new.out.items in
    let listed = c.append_agents.new.out.items in
    on_ok_weaker c.append_count.result
    (λ (e : c.append_count.new.out.items ≡ listed ++ count_line (codes "end ") c.len.result ++ 10 ∷ []). checkpoint_appended program c.has_births.result m out started classed listed c.append_count.new.out.items (c.in_ok-append_heading.ensures.printed ∙ ap (λ l. out ++ text l) (heading_alike c.has_births.result c.args.tick c.args.seed c.args.next c.args.agents.now))
    (c.in_ok-append_classes.ensures.printed ∙ ap (λ l. started ++ flat_map (λ (k : Class). class_line k ++ 10 ∷ []) l) c.as_slice.ensures)
    c.in_ok-append_agents.ensures.printed
    (e ∙ ap (λ (n : ℕ). listed ++ count_line (codes "end ") n ++ 10 ∷ []) c.len.ensures)
    ∙ ap (λ b. out ++ text (lines program b m)) c.has_births.ensures)
    c.append_count.ensures.printed
