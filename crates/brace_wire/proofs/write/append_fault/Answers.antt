use Rattle.std.proofs.Common.{◌≡◌, ◌++◌}
use Rattle.brace_wire.specs.Frames.{four, eight, optional, phase, kind, fault}
use Rattle.brace_wire.proofs.WriteLemmas.{on_ok, seven_written}
use Rattle.brace_wire.proofs.write.append_fault.Goals as goal

pub returns-clause-written : goal.returns-clause-written
unfolding fault
returns-clause-written c =
    let f = c.args.f in
    on_ok c.append_kind.result (c.append_kind.new.out.items ≡ c.append_optional-2.new.out.items ++ kind f.kind) (c.append_kind.new.out.items ≡ c.args.out.now.items ++ fault f) c.append_kind.ensures.written
    (seven_written c.args.out.now.items c.append_eight.new.out.items c.append_phase.new.out.items c.append_eight-2.new.out.items c.append_four.new.out.items c.append_optional.new.out.items c.append_optional-2.new.out.items c.append_kind.new.out.items
    (eight f.tick) (phase f.phase) (eight f.agent) (four f.site) (optional f.outer) (optional f.inner) (kind f.kind) c.in_ok-append_eight.ensures.written c.in_ok-append_phase.ensures.written c.in_ok-append_eight-2.ensures.written c.in_ok-append_four.ensures.written
    c.in_ok-append_optional.ensures.written c.in_ok-append_optional-2.ensures.written)
