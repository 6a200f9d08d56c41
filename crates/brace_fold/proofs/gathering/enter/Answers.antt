use Rattle.std.proofs.Common.{◌≡◌, ◌∙◌, ◌+◌, ◌-◌, ◌++◌, ap, length, refl, rules, arith, sym}
use Rattle.std.specs.Prelude.{replicate}
use Rattle.std.specs.Vec.{vec_len}
use Rattle.brace_fold.specs.inner.Deeds.{between}
use Rattle.brace_fold.proofs.Enterings.{entered-in, grown_to, reached, reaching, repeated, resized}
use Rattle.brace_fold.proofs.gathering.enter.Goals as goal

pub returns-clause-full : goal.returns-clause-full
returns-clause-full c =
    let old = c.args.lanes.now in
    let lane = c.args.lane in
    let more = c.in-Ok.more in
    let so : more ≡ c.args.count - old.count = search rules in
    record {
      near = c.requires.within;
      this = grown_to old.this.items c.repeat.new.this.items c.args.count more lane.this
          c.in_ok-repeat.ensures.this (omega (arith, so, c.requires.full.this, c.requires.rises));
      place = grown_to old.place.items c.repeat.new.place.items c.args.count more lane.place
          c.in_ok-repeat.ensures.place
          (omega (arith, so, c.requires.full.place, c.requires.rises));
      outer = λ some. c.in_ok-fill_outer.ensures.len some;
    }

pub returns-clause-lanes : goal.returns-clause-lanes
returns-clause-lanes c =
    let old = c.args.lanes.now in
    let lane = c.args.lane in
    let from = old.count in
    let count = c.args.count in
    let near = between from count old.near.items in
    let more = length near in
    let long : more ≡ count - from =
    reached old.near.items from count c.requires.rises c.requires.within in
    let many : count ≡ from + more = omega (arith, long, c.requires.rises) in
    let cut : c.in-Ok.more ≡ count - from = search rules in
    let so : c.in-Ok.more ≡ more = cut ∙ sym long in
    entered-in old (record {
      count = count;
      near = old.near;
      this = c.repeat.new.this;
      place = c.repeat.new.place;
      outer = c.fill_outer.new.rows;
    }) lane near from refl many
    (reaching old.near.items from count more long c.requires.rises)
    (repeated old.this.items c.repeat.new.this.items from more lane.this
    (c.in_ok-repeat.ensures.this ∙ ap (λ n. old.this.items ++ replicate n lane.this) so)
    c.requires.full.this)
    (repeated old.place.items c.repeat.new.place.items from more lane.place
    (c.in_ok-repeat.ensures.place ∙ ap (λ n. old.place.items ++ replicate n lane.place) so)
    c.requires.full.place)
    c.args.depth (λ some. repeated old.outer.items c.fill_outer.new.rows.items from more lane.outer
    (resized old.outer.items c.fill_outer.new.rows.items count (vec_len old.outer) from more
    lane.outer (c.in_ok-fill_outer.ensures.items some) (search rules) (c.requires.full.outer some)
    many) (c.requires.full.outer some))
