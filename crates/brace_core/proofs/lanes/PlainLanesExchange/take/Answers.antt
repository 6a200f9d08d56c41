use Rattle.std.proofs.Common.{◌≡◌, sym, Bool, false, Option, Some, None}
use Rattle.std.specs.Prelude.{is_some, IfNone}
use Rattle.brace_core.proofs.LaneLemmas.{few_taken, take_done}
use Rattle.brace_core.proofs.lanes.PlainLanesExchange.take.Goals as goal

at_none : {F : Type 0} (out : Option F) (b : Bool) → is_some out ≡ b → IfNone out (b ≡ false)
at_none None b is = sym is
at_none (Some x) b is = tt

pub take-requires : goal.take-requires
take-requires g c = few_taken g.F.Freight.schedule g.F.Freight.right _ c.args.self.now c.self.view_is c.self.invariant c.args.name c.index_mut.result.now c.index_mut.ensures.value c.requires.next

pub invariant_of-self : goal.invariant_of-self
invariant_of-self g c = (take_done g.F.Freight.schedule g.F.Freight.right _ c.args.self.now c.self.view_is c.self.invariant c.args.name c.index_mut.result.now c.index_mut.ensures.value
    c.take.result c.take.new.self c.take.ensures.taken c.take.ensures.pieces c.take.ensures.found c.requires.next).sound

pub returns : goal.returns
returns g c =
    let done = take_done g.F.Freight.schedule g.F.Freight.right _ c.args.self.now c.self.view_is c.self.invariant c.args.name c.index_mut.result.now c.index_mut.ensures.value
    c.take.result c.take.new.self c.take.ensures.taken c.take.ensures.pieces c.take.ensures.found c.requires.next in
    record { same = done.same; actors = done.actors; put = done.puts; taken = done.takes; right = done.is_right; found = done.found; event = done.event; counted = done.none; found_none = at_none c.take.result _ done.none }
