use Rattle.std.proofs.Common.{◌≡◌, ◌∙◌, ◌<◌, ◌≤◌, ap, sym, subst, refl, length, map, arith, rules, ℕ, List, w64, to_z, of_z}
use Rattle.std.proofs.lemmas.List.{take_all}
use Rattle.brace_model.specs.Query.{Saying}
use Rattle.brace_model.specs.Total.{total_of}
use Rattle.brace_model.specs.Value.{typed}
use Rattle.brace_code.specs.Lanes.{words_of}
use Rattle.brace_fold.specs.inner.Crowds.{rows, spread}
use Rattle.brace_fold.specs.inner.Deeds.{between}
use Rattle.brace_fold.specs.Hears.{Hears}
use Rattle.brace_fold.proofs.Alikes.{hears-none}
use Rattle.brace_fold.proofs.Sayings.{says-all, says-more, stretch-at, stretch-next, stretch-within}
use Rattle.brace_fold.proofs.Walks.{between-long}
use Rattle.brace_fold.proofs.scene.Scene.say_stretches.Goals as goal

pub loop-stretch-init : goal.loop-stretch-init
loop-stretch-init g c = record {
  at = refl;
  said = λ who scopes told long.
      hears-none c.args.self.now.program.now (rows c.args.self.now) c.args.heard.now;
}

pub loop-stretch-preserved : goal.loop-stretch-preserved
loop-stretch-preserved g c =
    let all = c.args.stretches.now in
    let i = c.loop-stretch.stretch-index in
    let low : i < length all = c.loop-stretch-test.true in
    let at = c.loop-stretch.at in
    let next = c.in-Some.next in
    let front = c.loop-stretch.invariant.at in
    let ends = c.in-Some.ensures.next in
    let some = c.in-Some.ensures.some in
    record {
      at = stretch-next all i _ low at next front ends;
      said = λ who scopes told long.
          let most = stretch-within all i _ low at next front ends in
          let rows_at = stretch-at all i _ low at next front ends in
          let type = g.S.Spoken.type_of c.args.spoken.now in
          let words = words_of (length scopes) (g.S.Spoken.reads c.args.spoken.now) in
          let these = between at next words in
          let last : next ≤ length scopes = subst (λ (n : ℕ). next ≤ n) told.long most in
          let many = between-long at next words (subst (λ (n : ℕ). next ≤ n) (sym long) last) in
          let kept : to_z w64 (of_z w64 c.in-Some-total.number) ≡ c.in-Some-total.number =
          search rules in
          let is = kept ∙ c.in-Some-total.ensures (length scopes) last long
          ∙ ap (λ k. total_of k (map (typed type) these)) (sym c.comb.ensures) in
          says-more c.args.self.now who c.args.ear.now.effect type scopes words at next
          (spread all) _ c.args.heard.now c.loop-stretch.heard c.say_to.new.heard told long some
          most (sym (rows_at at (omega arith) some))
          (λ k from less. rows_at k (omega (arith, from)) less)
          (λ x found. c.in_ok-say_to.ensures x type these found
          (omega (arith, ends, many)) is)
          (c.loop-stretch.invariant.said who scopes told long);
    }

pub returns : goal.returns
returns g c = record {
  each = λ who scopes told long.
      let all = c.args.stretches.now in
      let whole = ap (λ l. length (spread l))
      (take_all c.loop-stretch.stretch-index all c.loop-stretch-test.false) in
      let low : length scopes ≤ c.loop-stretch.at =
      omega (arith, whole, c.loop-stretch.invariant.at, told.long) in
      subst (λ (l : List Saying).
      Hears c.args.self.now.program.now (rows c.args.self.now) l c.args.heard.now
      c.loop-stretch.heard)
      (says-all who c.args.ear.now.effect (g.S.Spoken.type_of c.args.spoken.now) scopes
      (words_of (length scopes) (g.S.Spoken.reads c.args.spoken.now)) c.loop-stretch.at low long)
      (c.loop-stretch.invariant.said who scopes told long);
}
