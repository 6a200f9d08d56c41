use Rattle.std.proofs.Common.{◌∙◌, sym, subst, ℕ, ℤ, rules}
use Rattle.std.specs.Int.{w128}
use Rattle.std.specs.Prelude.{FitsSigned}
use Rattle.std.proofs.lemmas.Int.{to_z-of_z}
use Rattle.std.proofs.lemmas.List.Sorted.{answers_always}
use Rattle.brace_eval.specs.Heard.{AreTold}
use Rattle.brace_comb.specs.Totals.{tally}
use Rattle.brace_herd.proofs.TableOnes.{found_there, found_nowhere}
use Rattle.brace_herd.proofs.TableTells.{on_ok}
use Rattle.brace_herd.proofs.tell.join_entry.Goals as goal

pub returns-in-Ok : goal.returns-in-Ok
returns-in-Ok c =
    let entry = c.args.entry.now in
    let program = c.args.program.now in
    let fits : FitsSigned w128 c.number-number.result = search rules in
    let found = c.in-Ok.ensures.position (λ a. a.id) (answers_always _ _ _ (λ f a r g called. search rules)) in
    record {
      told = on_ok c.join.result c.join.ensures.told (λ join said told faults heard tells.
          join tells.agent said told faults
          (found_there c.args.held.now c.requires.rises c.in-Ok.place entry.target tells.agent c.in-Ok.ensures.bound found tells.is_held tells.is_target)
          heard
          (subst (λ (n : ℤ). AreTold program tells.agent entry.field n c.count-count.result told) (sym (to_z-of_z w128 c.number-number.result fits ∙ c.number-number.ensures))
          (subst (λ (n : ℕ). AreTold program tells.agent entry.field (tally entry.total).number n told) (sym c.count-count.ensures) tells.values)));
    }

pub returns-in-Err : goal.returns-in-Err
returns-in-Err c =
    let found = c.in-Err.ensures.position (λ a. a.id) (answers_always _ _ _ (λ f a r g called. search rules)) in
    record {
      told = λ said told faults heard tells.
          absurd (found_nowhere c.args.held.now c.requires.rises c.in-Err.field-0 c.args.entry.now.target tells.agent found tells.is_held tells.is_target);
    }
