use Rattle.std.proofs.Common.{◌∙◌, subst, [], ◌∷◌, ◌++◌, ℕ, List, Err}
use Rattle.std.specs.List.Sorted.{IsBinarySearchResult}
use Rattle.std.specs.Ordering.{nat_cmp}
use Rattle.brace_model.specs.Query.{Saying}
use Rattle.brace_eval.specs.Heard.{IsHeard}
use Rattle.brace_eval.proofs.TableLemmas.{search-none, stands-one}
use Rattle.brace_eval.proofs.SceneLemmas.{found-agent}
use Rattle.brace_eval.proofs.HeardLemmas.{heard-nobody}
use Rattle.brace_eval.proofs.scene.Scene.say.Goals as goal

pub returns-in_default : goal.returns-in_default
returns-in_default c said faults is =
    let scene = c.args.self.now in
    let s : Saying = record { target = c.args.id; field = c.args.effect; value = c.args.v } in
    let found : IsBinarySearchResult (λ y. nat_cmp y c.args.id) _ (Err c.in_default.field-0) =
    subst (λ (l : List ℕ). IsBinarySearchResult (λ y. nat_cmp y c.args.id) l (Err c.in_default.field-0)) (c.deref.ensures.value ∙ c.requires.ids) c.in_default.ensures.position in
    heard-nobody scene.program.now scene.agents.now said faults c.args.heard.now is s (search-none scene.agents.now c.requires.rises c.args.id c.in_default.field-0 found)

pub returns : goal.returns
returns c said faults is =
    let scene = c.args.self.now in
    let saying : ℕ → Saying = λ id. record { target = id; field = c.args.effect; value = c.args.v } in
    let (le, id) = found-agent scene c.requires c.args.id _ c.in-Ok.i c.deref.ensures.value c.in-Ok.ensures.position in
    let (a, there, same) = stands-one scene.agents.now c.in-Ok.i c.args.id le id in
    subst (λ (n : ℕ). IsHeard scene.program.now scene.agents.now (said ++ saying n ∷ []) faults c.say.new.self) same
    (c.in_ok-say.ensures.said a said faults there is)
