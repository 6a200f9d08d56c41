use Rattle.std.proofs.Common.{◌≡◌, ◌+◌, ◌-◌, ◌<◌, ◌^◌, ◌++◌, length, take, drop, arith}
use Rattle.brace_wire.specs.Frames.{four, body, frame}
use Rattle.brace_wire.proofs.WriteLemmas.{on_ok, framed, framed_length, room_for_length}
use Rattle.brace_wire.proofs.encoding.append_frame.Goals as goal

pub set_length-requires : goal.set_length-requires
set_length-requires c =
    room_for_length c.args.out.now.items c.append_four.new.out.items c.append_body.new.out.items c.args.f.now c.len-start.result (omega (arith, c.len-start.ensures, c.args.out.now.ok.0)) c.in_ok-append_four.ensures.written c.in_ok-append_body.ensures.written

pub returns-clause-written : goal.returns-clause-written
returns-clause-written c =
    let f = c.args.f.now in
    let start = c.len-start.result in
    let whole = c.append_body.new.out.items in
    on_ok c.set_length.result (c.set_length.new.out.items ≡ take start whole ++ four (length whole - (start + 4)) ++ drop (start + 4) whole) (c.set_length.new.out.items ≡ c.args.out.now.items ++ frame f) c.set_length.ensures.written
    (framed c.args.out.now.items c.append_four.new.out.items whole c.set_length.new.out.items f start (omega (arith, c.len-start.ensures, c.args.out.now.ok.0)) c.in_ok-append_four.ensures.written c.in_ok-append_body.ensures.written)

pub returns-clause-short : goal.returns-clause-short
returns-clause-short c =
    let f = c.args.f.now in
    let start = c.len-start.result in
    let whole = c.append_body.new.out.items in
    on_ok c.set_length.result (length whole - (start + 4) < 2 ^ 32) (length (body f) < 2 ^ 32) c.set_length.ensures.short
    (framed_length c.args.out.now.items c.append_four.new.out.items whole f start (omega (arith, c.len-start.ensures, c.args.out.now.ok.0)) c.in_ok-append_four.ensures.written c.in_ok-append_body.ensures.written)
