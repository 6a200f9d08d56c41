use Rattle.std.proofs.Common.{◌≡◌, ◌∙◌, sym, ap, subst, [], ◌∷◌, ℕ, true, false, Bool, Option}
use Rattle.std.specs.Prelude.{if◌then◌else◌}
use Rattle.brace_model.specs.declared.program.Spawn.{Spawn}
use Rattle.brace_model.specs.declared.program.Value.TheVariants.{Flag}
use Rattle.brace_model.specs.Value.{Worth, value}
use Rattle.brace_model.specs.Next.{spawns_in, gifts_in, holds}
use Rattle.brace_model.specs.Scopes.{scope_of}
use Rattle.brace_eval.specs.inner.Updates.{Meets, gift_worths}
use Rattle.brace_eval.proofs.UpdateLemmas.{meets-ok, meets-then, scope_from}
use Rattle.brace_eval.proofs.update.child.Goals as goal

pub returns-in_default-clause-met : goal.returns-in_default-clause-met
returns-in_default-clause-met c =
    let scope = scope_of c.args.env.now c.args.drawer.now in
    subst (λ (s : Option Spawn). Meets (spawns_in scope s ∷ gifts_in scope s) c.args.first.now c.args.first.now) (sym c.in_default.is) (meets-ok (Flag false) c.args.first.now)

pub returns-clause-met : goal.returns-clause-met
returns-clause-met c =
    let scope = scope_of c.args.env.now c.args.drawer.now in
    let spawn = c.in-Some.spawn in
    let w = value spawn.when scope in
    let is : c.eval.result ≡ w = c.eval.ensures.value in
    let held : holds w ≡ true = ap holds (sym is) ∙ sym c.is_held.ensures.held ∙ c.if-not-is_held.false in
    let first : Meets (w ∷ []) c.args.first.now c.is_held.new.first =
    subst (λ (x : Worth). Meets (x ∷ []) c.args.first.now c.is_held.new.first) is c.is_held.ensures.met in
    let second : Meets (gift_worths scope spawn.gifts) c.is_held.new.first c.gifts.new.first =
    subst (λ (n : ℕ). Meets (gift_worths (scope_from c.args.env.now n) spawn.gifts) c.is_held.new.first c.gifts.new.first) c.eval.ensures.seed
    (rw c.as_slice.ensures at c.in_ok-given.ensures.met) in
    let all = meets-then (w ∷ []) (gift_worths scope spawn.gifts) c.args.first.now c.is_held.new.first c.gifts.new.first first second in
    subst (λ (s : Option Spawn). Meets (spawns_in scope s ∷ gifts_in scope s) c.args.first.now c.gifts.new.first) (sym c.in-Some.is)
    (subst (λ (b : Bool). Meets (w ∷ (if b then gift_worths scope spawn.gifts else [])) c.args.first.now c.gifts.new.first) (sym held) all)
