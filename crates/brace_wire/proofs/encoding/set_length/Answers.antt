use Rattle.std.proofs.Common.{◌+◌, ◌-◌, length, arith, rules}
use Rattle.brace_wire.specs.Frames.{four}
use Rattle.brace_wire.proofs.WriteLemmas.{patched, length_four}
use Rattle.brace_wire.proofs.encoding.set_length.Goals as goal

pub returns-in-Ok-clause-written : goal.returns-in-Ok-clause-written
unfolding four
returns-in-Ok-clause-written c =
    let items = c.args.out.now.items in
    let start = c.args.start in
    let n = length items - (start + 4) in
    patched items c.deref_mut.result.now c.copy_from_slice.new.self (four n) start (start + 4 - start) c.args.out.now.len
    (search (c.deref_mut.ensures.value, rules))
    (search (c.copy_from_slice.ensures.after, c.to_be_bytes.ensures, c.in-Ok.ensures, c.len.ensures, rules))
    (omega arith) (length_four n) c.requires (search (c.type_inv.out, c.len.ensures, rules))
