use Rattle.std.proofs.Common.{◌<◌, ◌+◌, ◌^◌, arith, rules}
use Rattle.brace_lanes.proofs.SeatLemmas.{take_counted, miss_misses, miss_sound, hit_out, hit_count, hit_seen, hit_takes, hit_misses, hit_found, hit_right, hit_sound}
use Rattle.brace_lanes.proofs.seat.LaneSeat.take.Goals as goal

pub invariant_of-self : goal.invariant_of-self
invariant_of-self g c =
    let k = take_counted g.F.Cargo.schedule g.F.Cargo.right c.self.inside.place c.self.inside.actors c.self.inside.put.items c.self.inside.taken.items c.self.invariant c.args.self.now c.self.view_is c.args.name c.requires.next c.index-count.result.now c.index-count.ensures in
    miss_sound g.F.Cargo.schedule g.F.Cargo.right c.self.inside.place c.self.inside.actors c.self.inside.put.items c.self.inside.taken.items c.self.invariant c.args.self.now c.self.view_is c.args.name k.other k.own c.look.result c.index-count.result.now k.is c.look.new.seat c.look.ensures.same.0 c.look.ensures.looked c.if-look-count.true

pub returns-then-look-count-clause-misses : goal.returns-then-look-count-clause-misses
returns-then-look-count-clause-misses g c =
    let k = take_counted g.F.Cargo.schedule g.F.Cargo.right c.self.inside.place c.self.inside.actors c.self.inside.put.items c.self.inside.taken.items c.self.invariant c.args.self.now c.self.view_is c.args.name c.requires.next c.index-count.result.now c.index-count.ensures in
    miss_misses g.F.Cargo.schedule g.F.Cargo.right c.self.inside.place c.self.inside.actors c.self.inside.put.items c.self.inside.taken.items c.self.invariant c.args.self.now c.self.view_is c.args.name k.other k.own c.look.result c.index-count.result.now k.is c.look.new.seat c.look.ensures.same.0 c.look.ensures.looked c.if-look-count.true

pub clear-piece-requires-clause-held : goal.clear-piece-requires-clause-held
clear-piece-requires-clause-held g c =
    let k = take_counted g.F.Cargo.schedule g.F.Cargo.right c.self.inside.place c.self.inside.actors c.self.inside.put.items c.self.inside.taken.items c.self.invariant c.args.self.now c.self.view_is c.args.name c.requires.next c.index-count.result.now c.index-count.ensures in
    hit_out g.F.Cargo.schedule g.F.Cargo.right c.self.inside.place c.self.inside.actors c.self.inside.put.items c.self.inside.taken.items c.self.invariant c.args.self.now c.self.view_is c.args.name k.other k.own c.look.result c.index-count.result.now k.is c.look.new.seat c.look.ensures.same.0 c.look.ensures.looked c.if-look-count.false

pub store_taken-requires-clause-count : goal.store_taken-requires-clause-count
store_taken-requires-clause-count g c =
    let k = take_counted g.F.Cargo.schedule g.F.Cargo.right c.self.inside.place c.self.inside.actors c.self.inside.put.items c.self.inside.taken.items c.self.invariant c.args.self.now c.self.view_is c.args.name c.requires.next c.index-count.result.now c.index-count.ensures in
    hit_count g.F.Cargo.schedule g.F.Cargo.right c.self.inside.place c.self.inside.actors c.self.inside.put.items c.self.inside.taken.items c.self.invariant c.args.self.now c.self.view_is c.args.name k.other k.own c.look.result c.index-count.result.now k.is c.look.new.seat c.look.ensures.same.0 c.look.ensures.looked c.if-look-count.false c.clear-piece.new.seat c.clear-piece.ensures.same.0 c.clear-piece.result c.clear-piece.ensures.found c.clear-piece.ensures.cleared

pub store_taken-requires-clause-seen : goal.store_taken-requires-clause-seen
store_taken-requires-clause-seen g c =
    let k = take_counted g.F.Cargo.schedule g.F.Cargo.right c.self.inside.place c.self.inside.actors c.self.inside.put.items c.self.inside.taken.items c.self.invariant c.args.self.now c.self.view_is c.args.name c.requires.next c.index-count.result.now c.index-count.ensures in
    hit_seen g.F.Cargo.schedule g.F.Cargo.right c.self.inside.place c.self.inside.actors c.self.inside.put.items c.self.inside.taken.items c.self.invariant c.args.self.now c.self.view_is c.args.name k.other k.own c.look.result c.index-count.result.now k.is c.look.new.seat c.look.ensures.same.0 c.look.ensures.looked c.if-look-count.false c.clear-piece.new.seat c.clear-piece.ensures.same.0 c.clear-piece.result c.clear-piece.ensures.found c.clear-piece.ensures.cleared

pub store_taken-requires-clause-short : goal.store_taken-requires-clause-short
store_taken-requires-clause-short g c =
    let k = take_counted g.F.Cargo.schedule g.F.Cargo.right c.self.inside.place c.self.inside.actors c.self.inside.put.items c.self.inside.taken.items c.self.invariant c.args.self.now c.self.view_is c.args.name c.requires.next c.index-count.result.now c.index-count.ensures in
    k.can_rise

pub overflow_add-count : goal.overflow_add-count
overflow_add-count g c =
    let k = take_counted g.F.Cargo.schedule g.F.Cargo.right c.self.inside.place c.self.inside.actors c.self.inside.put.items c.self.inside.taken.items c.self.invariant c.args.self.now c.self.view_is c.args.name c.requires.next c.index-count.result.now c.index-count.ensures in
    let h : c.index-count.result.now + 1 < 2 ^ 64 = k.can_rise in search (h, rules)

pub index_mut-requires : goal.index_mut-requires
index_mut-requires g c =
    let k = take_counted g.F.Cargo.schedule g.F.Cargo.right c.self.inside.place c.self.inside.actors c.self.inside.put.items c.self.inside.taken.items c.self.invariant c.args.self.now c.self.view_is c.args.name c.requires.next c.index-count.result.now c.index-count.ensures in
    let h = k.inside in omega (arith, h, c.self.inside.taken.ok.0)

pub invariant_of-self-2 : goal.invariant_of-self-2
invariant_of-self-2 g c =
    let k = take_counted g.F.Cargo.schedule g.F.Cargo.right c.self.inside.place c.self.inside.actors c.self.inside.put.items c.self.inside.taken.items c.self.invariant c.args.self.now c.self.view_is c.args.name c.requires.next c.index-count.result.now c.index-count.ensures in
    hit_sound g.F.Cargo.schedule g.F.Cargo.right c.self.inside.place c.self.inside.actors c.self.inside.put.items c.self.inside.taken.items c.self.invariant c.args.self.now c.self.view_is c.args.name k.other k.own c.look.result c.index-count.result.now k.is c.look.new.seat c.look.ensures.same.0 c.look.ensures.looked c.if-look-count.false c.clear-piece.new.seat c.clear-piece.ensures.same.0 c.clear-piece.result c.clear-piece.ensures.found c.clear-piece.ensures.cleared c.store_taken.new.seat c.store_taken.ensures.same.0 c.store_taken.ensures.taken

pub returns-clause-taken : goal.returns-clause-taken
returns-clause-taken g c =
    let k = take_counted g.F.Cargo.schedule g.F.Cargo.right c.self.inside.place c.self.inside.actors c.self.inside.put.items c.self.inside.taken.items c.self.invariant c.args.self.now c.self.view_is c.args.name c.requires.next c.index-count.result.now c.index-count.ensures in
    hit_takes g.F.Cargo.schedule g.F.Cargo.right c.self.inside.place c.self.inside.actors c.self.inside.put.items c.self.inside.taken.items c.self.invariant c.args.self.now c.self.view_is c.args.name k.other k.own c.look.result c.index-count.result.now k.is c.look.new.seat c.look.ensures.same.0 c.look.ensures.looked c.if-look-count.false c.clear-piece.new.seat c.clear-piece.ensures.same.0 c.clear-piece.result c.clear-piece.ensures.found c.clear-piece.ensures.cleared c.store_taken.new.seat c.store_taken.ensures.same.0 c.store_taken.ensures.taken

pub returns-clause-misses : goal.returns-clause-misses
returns-clause-misses g c =
    let k = take_counted g.F.Cargo.schedule g.F.Cargo.right c.self.inside.place c.self.inside.actors c.self.inside.put.items c.self.inside.taken.items c.self.invariant c.args.self.now c.self.view_is c.args.name c.requires.next c.index-count.result.now c.index-count.ensures in
    hit_misses g.F.Cargo.schedule g.F.Cargo.right c.self.inside.place c.self.inside.actors c.self.inside.put.items c.self.inside.taken.items c.self.invariant c.args.self.now c.self.view_is c.args.name k.other k.own c.look.result c.index-count.result.now k.is c.look.new.seat c.look.ensures.same.0 c.look.ensures.looked c.if-look-count.false c.clear-piece.new.seat c.clear-piece.ensures.same.0 c.clear-piece.result c.clear-piece.ensures.found c.clear-piece.ensures.cleared c.store_taken.new.seat c.store_taken.ensures.same.0 c.store_taken.ensures.taken

pub returns-clause-found : goal.returns-clause-found
returns-clause-found g c =
    let k = take_counted g.F.Cargo.schedule g.F.Cargo.right c.self.inside.place c.self.inside.actors c.self.inside.put.items c.self.inside.taken.items c.self.invariant c.args.self.now c.self.view_is c.args.name c.requires.next c.index-count.result.now c.index-count.ensures in
    hit_found g.F.Cargo.schedule g.F.Cargo.right c.self.inside.place c.self.inside.actors c.self.inside.put.items c.self.inside.taken.items c.self.invariant c.args.self.now c.self.view_is c.args.name k.other k.own c.look.result c.index-count.result.now k.is c.look.new.seat c.look.ensures.same.0 c.look.ensures.looked c.if-look-count.false c.clear-piece.new.seat c.clear-piece.ensures.same.0 c.clear-piece.result c.clear-piece.ensures.found c.clear-piece.ensures.cleared c.store_taken.new.seat c.store_taken.ensures.same.0 c.store_taken.ensures.taken

pub returns-clause-right : goal.returns-clause-right
returns-clause-right g c =
    let k = take_counted g.F.Cargo.schedule g.F.Cargo.right c.self.inside.place c.self.inside.actors c.self.inside.put.items c.self.inside.taken.items c.self.invariant c.args.self.now c.self.view_is c.args.name c.requires.next c.index-count.result.now c.index-count.ensures in
    hit_right g.F.Cargo.schedule g.F.Cargo.right c.self.inside.place c.self.inside.actors c.self.inside.put.items c.self.inside.taken.items c.self.invariant c.args.self.now c.self.view_is c.args.name k.other k.own c.look.result c.index-count.result.now k.is c.look.new.seat c.look.ensures.same.0 c.look.ensures.looked c.if-look-count.false c.clear-piece.new.seat c.clear-piece.ensures.same.0 c.clear-piece.result c.clear-piece.ensures.found c.clear-piece.ensures.cleared c.store_taken.new.seat c.store_taken.ensures.same.0 c.store_taken.ensures.taken c.requires.next
