use Rattle.std.proofs.Common.{◌≡◌, ◌∙◌, ◌≤◌, ap, sym, subst, length, map, arith, rules, ℕ, List, w64, to_z, of_z}
use Rattle.brace_model.specs.Query.{Saying}
use Rattle.brace_model.specs.Total.{total_of}
use Rattle.brace_model.specs.Value.{typed}
use Rattle.brace_code.specs.Lanes.{words_of}
use Rattle.brace_fold.specs.inner.Crowds.{rows}
use Rattle.brace_fold.specs.inner.Deeds.{between}
use Rattle.brace_fold.specs.Hears.{Hears}
use Rattle.brace_fold.proofs.Alikes.{hears-none}
use Rattle.brace_fold.proofs.Sayings.{says-all, says-more}
use Rattle.brace_fold.proofs.Walks.{between-long}
use Rattle.brace_fold.proofs.scene.Scene.say_runs.Goals as goal

pub loop-at-init : goal.loop-at-init
loop-at-init g c = record {
  within = omega arith;
  said = λ who scopes told long.
      hears-none c.args.self.now.program.now (rows c.args.self.now) c.args.heard.now;
}

pub loop-at-preserved : goal.loop-at-preserved
loop-at-preserved g c = record {
  within = c.run_end-next.ensures.within.1;
  said = λ who scopes told long.
      let type = g.S.Spoken.type_of c.args.spoken.now in
      let words = words_of (length scopes) (g.S.Spoken.reads c.args.spoken.now) in
      let at = c.loop-at.at in
      let next = c.run_end-next.result in
      let these = between at next words in
      let last : next ≤ length scopes =
      subst (λ (n : ℕ). next ≤ n) told.long c.run_end-next.ensures.within.1 in
      let many = between-long at next words (subst (λ (n : ℕ). next ≤ n) (sym long) last) in
      let kept : to_z w64 (of_z w64 c.in-Some.number) ≡ c.in-Some.number = search rules in
      let is = kept ∙ c.in-Some.ensures (length scopes) last long
      ∙ ap (λ k. total_of k (map (typed type) these)) (sym c.comb.ensures) in
      says-more c.args.self.now who c.args.ear.now.effect type scopes words at next
      c.args.hearers.now _ c.args.heard.now c.loop-at.heard c.say_to.new.heard
      told long (omega (arith, c.run_end-next.ensures.within.0)) c.run_end-next.ensures.within.1
      (search rules) (λ k from low. c.run_end-next.ensures.same k from low)
      (λ x found. c.in_ok-say_to.ensures x type these found
      (c.in_ok-count.ensures ∙ sym many) is)
      (c.loop-at.invariant.said who scopes told long);
}

pub returns : goal.returns
returns g c = record {
  each = λ who scopes told long.
      let low = subst (λ (n : ℕ). n ≤ c.loop-at.at) told.long c.loop-at-test.false in
      subst (λ (l : List Saying).
      Hears c.args.self.now.program.now (rows c.args.self.now) l c.args.heard.now c.loop-at.heard)
      (says-all who c.args.ear.now.effect (g.S.Spoken.type_of c.args.spoken.now) scopes
      (words_of (length scopes) (g.S.Spoken.reads c.args.spoken.now)) c.loop-at.at low long)
      (c.loop-at.invariant.said who scopes told long);
}
