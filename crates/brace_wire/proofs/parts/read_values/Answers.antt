use Rattle.std.proofs.Common.{◌≡◌, ◌∙◌, ◌+◌, ◌++◌, ◌∷◌, [], List, Some, ap, sym, drop}
use Rattle.std.proofs.lemmas.List.{at_drop_more}
use Rattle.std.proofs.lemmas.Result.{err_from_is_err_and}
use Rattle.brace_model.specs.declared.program.Value.{Value}
use Rattle.brace_wire.specs.inner.Reading.{values_at}
use Rattle.brace_wire.proofs.Loops.{with_front, at_drop_end, value_goes_on, value_ends, values_done}
use Rattle.brace_wire.proofs.parts.read_values.Goals as goal

pub returns-in_err-v : goal.returns-in_err-v
returns-in_err-v c =
    let p = err_from_is_err_and c.from_residual-in_err-v.result c.from_residual-in_err-v.ensures.1 in
    let front = c.loop-ty.values.items in
    let types = c.args.types.now in
    let rest = c.loop-ty.rest.now in
    let i = c.loop-ty.ty-index in
    let total = values_at types c.args.bytes.now in
    let split = at_drop_more (λ ts. with_front front (values_at ts rest)) types i _ c.loop-ty-test.true in
    rw (p.1, p.2) (value_ends c.in_err-v.field-0.0 front _ (drop (i + 1) types) rest total c.in_err-v.ensures (sym split ∙ c.loop-ty.invariant))

pub loop-ty-preserved : goal.loop-ty-preserved
loop-ty-preserved c =
    let front = c.loop-ty.values.items in
    let types = c.args.types.now in
    let rest = c.loop-ty.rest.now in
    let i = c.loop-ty.ty-index in
    let v = c.in_ok-v.v in
    let total = values_at types c.args.bytes.now in
    let e : c.push.new.self.items ≡ front ++ v ∷ [] = c.in_ok-push.ensures.items in
    let split = at_drop_more (λ ts. with_front front (values_at ts rest)) types i _ c.loop-ty-test.true in
    rw e (value_goes_on front _ (drop (i + 1) types) rest v c.in_ok-v.after.now total c.in_ok-v.ensures (sym split ∙ c.loop-ty.invariant))

pub returns : goal.returns
returns c =
    let types = c.args.types.now in
    let rest = c.loop-ty.rest.now in
    let none = at_drop_end (λ ts. with_front c.loop-ty.values.items (values_at ts rest)) types c.loop-ty.ty-index c.loop-ty-test.false in
    values_done c.loop-ty.values.items rest (values_at types c.args.bytes.now) (sym none ∙ c.loop-ty.invariant)
    ∙ ap (λ (l : List Value). Some (l, rest)) (sym c.from_vec.ensures)
