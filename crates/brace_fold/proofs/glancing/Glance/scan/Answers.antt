use Rattle.std.proofs.Common.{◌≡◌, ◌∙◌, ℕ, Bool, ◌+◌, ◌*◌, ◌++◌, [], ap, arith, rules, sym, take}
use Rattle.std.proofs.lemmas.List.{append-nil, take_all}
use Rattle.brace_fold.specs.inner.Glances.{AreClear, sees_at}
use Rattle.brace_fold.specs.inner.Sights.{found_in, spots_along}
use Rattle.brace_fold.proofs.Glances.{scans_four}
use Rattle.brace_fold.proofs.Sortings.{nowhere}
use Rattle.brace_fold.proofs.Walks.{between-long}
use Rattle.brace_fold.proofs.glancing.Glance.scan.Goals as goal

pub loop-four-init : goal.loop-four-init
loop-four-init c =
    let front = take c.args.from c.args.out.now in
    record {
      most = omega arith;
      within = omega arith;
      room = c.requires.room;
      so_far = λ spots eye is clear.
          sym (append-nil front)
          ∙ ap (λ n. front ++ found_in eye [] (take n (spots_along c.args.run spots)))
          (let e : 0 ≡ 4 * 0 = omega arith in e);
    }

pub put_four-count-requires-clause-room : goal.put_four-count-requires-clause-room
put_four-count-requires-clause-room c =
    let so_far = c.loop-four.invariant in
    omega (arith, so_far.within, so_far.room, c.loop-four-test.true)

pub loop-four-preserved : goal.loop-four-preserved
loop-four-preserved c =
    let xs = c.args.self.now.xs.now in
    let ys = c.args.self.now.ys.now in
    let run = c.args.run in
    let four = c.loop-four.four in
    let row = run.start + 4 * four in
    let so_far = c.loop-four.invariant in
    let front = take c.args.from c.args.out.now in
    record {
      most = omega (arith, c.loop-four-test.true);
      within = omega (arith, c.put_four-count.ensures.next, so_far.within);
      room = search rules;
      so_far = λ spots eye is clear.
          let sees : ℕ → Bool = sees_at eye run.end spots nowhere in
          let behind : AreClear eye xs ys row run.end spots = record {
            within = clear.within;
            each = λ k d from to. clear.each k d (omega (arith, from)) to;
          } in
          scans_four eye xs ys run spots clear (4 * four) front _ _ nowhere
          (c.put_four-count.ensures.front (sees (row + 0)) (sees (row + 1)) (sees (row + 2))
          (sees (row + 3)) (c.far_of_four.ensures.bits spots eye nowhere is behind))
          (so_far.so_far spots eye is clear)
          ∙ ap (λ n. front ++ found_in eye [] (take n (spots_along run spots)))
          (let e : 4 * four + 4 ≡ 4 * (four + 1) = omega arith in e);
    }

pub returns-clause-found : goal.returns-clause-found
returns-clause-found c = λ spots eye is clear.
    let run = c.args.run in
    let so_far = c.loop-four.invariant in
    so_far.so_far spots eye is clear
    ∙ ap (λ l. take c.args.from c.args.out.now ++ found_in eye [] l)
    (take_all (4 * c.loop-four.four) (spots_along run spots) (omega (
      arith,
      so_far.most,
      c.loop-four-test.false,
      c.requires.reach,
      c.requires.rises,
      between-long run.start run.end spots clear.within,
    )))
