use Rattle.std.proofs.Common.{◌≡◌, ◌<◌, ◌+◌, ◌^◌, ◌∙◌, ◌∷◌, None, ap, sym, subst, arith, rules}
use Rattle.std.specs.Prelude.{slice_index}
use Rattle.brace_lanes.specs.Places.{place, slot}
use Rattle.brace_lanes.specs.Rule.{IsRightAt}
use Rattle.brace_lanes.specs.Views.{claimed, has_put}
use Rattle.brace_lanes.proofs.SeatLemmas.{put_counted, put_level, put_puts, put_right}
use Rattle.brace_lanes.proofs.seat.LaneSeat.put.Goals as goal

pub fill-requires-clause-empty : goal.fill-requires-clause-empty
fill-requires-clause-empty g c =
    let at = place c.self.inside.actors c.args.name.from c.args.name.to in
    let k = put_counted g.F.Cargo.schedule g.F.Cargo.right c.self.inside.place c.self.inside.actors c.self.inside.put.items c.self.inside.taken.items c.self.invariant c.args.self.now c.self.view_is c.args.name c.requires.next c.index-count.result.now c.index-count.ensures in
    ap (λ m. m.1) c.claim.ensures.claimed.claimed ∙ λ i. (slot c.self.inside.actors at (k.is i), None) ∷ c.self.invariant.no_slot i

pub store_put-requires-clause-count : goal.store_put-requires-clause-count
store_put-requires-clause-count g c =
    let at = place c.self.inside.actors c.args.name.from c.args.name.to in
    let k = put_counted g.F.Cargo.schedule g.F.Cargo.right c.self.inside.place c.self.inside.actors c.self.inside.put.items c.self.inside.taken.items c.self.invariant c.args.self.now c.self.view_is c.args.name c.requires.next c.index-count.result.now c.index-count.ensures in
    let now : c.fill.new.seat.me.0 ≡ claimed c.self.inside.place.me.0 at = ap (λ m. m.0) c.fill.ensures.filled ∙ ap (λ m. m.0) c.claim.ensures.claimed.claimed in
    ap (λ u. slice_index u.put at) now ∙ k.is

pub store_put-requires-clause-answered : goal.store_put-requires-clause-answered
store_put-requires-clause-answered g c =
    let at = place c.self.inside.actors c.args.name.from c.args.name.to in
    let k = put_counted g.F.Cargo.schedule g.F.Cargo.right c.self.inside.place c.self.inside.actors c.self.inside.put.items c.self.inside.taken.items c.self.invariant c.args.self.now c.self.view_is c.args.name c.requires.next c.index-count.result.now c.index-count.ensures in
    let l = put_level g.F.Cargo.schedule g.F.Cargo.right c.self.inside.place c.self.inside.actors c.self.inside.put.items c.self.inside.taken.items c.self.invariant c.args.self.now c.self.view_is c.args.name c.requires.next c.requires.answered in
    let now : c.fill.new.seat.me.0 ≡ claimed c.self.inside.place.me.0 at = ap (λ m. m.0) c.fill.ensures.filled ∙ ap (λ m. m.0) c.claim.ensures.claimed.claimed in
    ap (λ u. slice_index u.taken at) now ∙ sym l ∙ k.is

pub store_put-requires-clause-short : goal.store_put-requires-clause-short
store_put-requires-clause-short g c =
    let k = put_counted g.F.Cargo.schedule g.F.Cargo.right c.self.inside.place c.self.inside.actors c.self.inside.put.items c.self.inside.taken.items c.self.invariant c.args.self.now c.self.view_is c.args.name c.requires.next c.index-count.result.now c.index-count.ensures in
    k.can_rise

pub store_put-requires-clause-piece : goal.store_put-requires-clause-piece
store_put-requires-clause-piece g c =
    let at = place c.self.inside.actors c.args.name.from c.args.name.to in
    let k = put_counted g.F.Cargo.schedule g.F.Cargo.right c.self.inside.place c.self.inside.actors c.self.inside.put.items c.self.inside.taken.items c.self.invariant c.args.self.now c.self.view_is c.args.name c.requires.next c.index-count.result.now c.index-count.ensures in
    let now : c.fill.new.seat.me.0 ≡ claimed c.self.inside.place.me.0 at = ap (λ m. m.0) c.fill.ensures.filled ∙ ap (λ m. m.0) c.claim.ensures.claimed.claimed in
    let fits = put_right g.F.Cargo.schedule g.F.Cargo.right c.self.inside.place c.self.inside.actors c.self.inside.put.items c.self.inside.taken.items c.self.invariant c.args.self.now c.self.view_is c.args.name c.requires.next c.index-count.result.now k.is c.args.piece c.requires.right in
    (c.args.piece, ap (λ m. m.1) c.fill.ensures.filled, subst (λ s. IsRightAt g.F.Cargo.schedule g.F.Cargo.right s c.self.inside.actors at c.index-count.result.now c.args.piece) (sym (ap (λ u. u.setting) now)) fits)

pub overflow_add-count : goal.overflow_add-count
overflow_add-count g c =
    let k = put_counted g.F.Cargo.schedule g.F.Cargo.right c.self.inside.place c.self.inside.actors c.self.inside.put.items c.self.inside.taken.items c.self.invariant c.args.self.now c.self.view_is c.args.name c.requires.next c.index-count.result.now c.index-count.ensures in
    let h : c.index-count.result.now + 1 < 2 ^ 64 = k.can_rise in search (h, rules)

pub index_mut-requires : goal.index_mut-requires
index_mut-requires g c =
    let k = put_counted g.F.Cargo.schedule g.F.Cargo.right c.self.inside.place c.self.inside.actors c.self.inside.put.items c.self.inside.taken.items c.self.invariant c.args.self.now c.self.view_is c.args.name c.requires.next c.index-count.result.now c.index-count.ensures in
    let h = k.inside in omega (arith, h, c.self.inside.put.ok.0)

pub returns-clause-put : goal.returns-clause-put
returns-clause-put g c =
    let at = place c.self.inside.actors c.args.name.from c.args.name.to in
    let k = put_counted g.F.Cargo.schedule g.F.Cargo.right c.self.inside.place c.self.inside.actors c.self.inside.put.items c.self.inside.taken.items c.self.invariant c.args.self.now c.self.view_is c.args.name c.requires.next c.index-count.result.now c.index-count.ensures in
    let now : c.fill.new.seat.me.0 ≡ claimed c.self.inside.place.me.0 at = ap (λ m. m.0) c.fill.ensures.filled ∙ ap (λ m. m.0) c.claim.ensures.claimed.claimed in
    put_puts g.F.Cargo.schedule g.F.Cargo.right c.self.inside.place c.self.inside.actors c.self.inside.put.items c.self.inside.taken.items c.self.invariant c.args.self.now c.self.view_is c.args.name k.own k.other c.store_put.new.seat.me.0
    (ap (λ m. m.0) c.store_put.ensures.put ∙ ap (λ u. has_put u at) now)
