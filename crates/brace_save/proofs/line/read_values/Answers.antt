use Rattle.std.proofs.Common.{◌≡◌, ◌+◌, ◌∙◌, ◌++◌, ◌∷◌, [], length, map, true, None, Some, ap, sym, subst}
use Rattle.std.specs.Result.{result_ok}
use Rattle.std.specs.List.{list_all}
use Rattle.std.proofs.lemmas.List.{length_push, length-map}
use Rattle.brace_model.specs.declared.program.State.{State}
use Rattle.brace_rows.specs.AgentFile.{field, value_of}
use Rattle.brace_rows.proofs.Values.{ReadSoFar, read_bad, read_end, read_more}
use Rattle.brace_save.specs.Texts.{value_fits}
use Rattle.brace_save.proofs.Fitting.{fit_more}
use Rattle.brace_save.proofs.line.read_values.Goals as goal

pub returns-in_default-clause-values : goal.returns-in_default-clause-values
returns-in_default-clause-values c =
    let states = c.args.states.now in
    let fields = map (λ f. f.now) c.args.fields.now in
    let s = c.index-states-i.result in
    let i = c.loop-i.i in
    let none : None ≡ value_of s.ty (field (i + 2) fields) =
    sym c.in_default.is ∙ c.fitting_value.ensures.reading ∙ ap (λ (k : State). value_of k.ty c.field_at.result.now) (sym c.index-states-i.is) ∙ ap (value_of s.ty) c.field_at.ensures in
    ap result_ok (read_bad states fields c.loop-i.values.items i s (length-map c.args.fields.now (λ f. f.now) ∙ c.requires) c.loop-i-test.true c.index-states-i.is c.loop-i.invariant.so_far none)

pub loop-i-preserved : goal.loop-i-preserved
loop-i-preserved c =
    let states = c.args.states.now in
    let fields = map (λ f. f.now) c.args.fields.now in
    let values = c.loop-i.values.items in
    let s = c.index-states-i.result in
    let i = c.loop-i.i in
    let v = c.in-Some.value in
    let items : c.push.new.self.items ≡ values ++ v ∷ [] = c.in_ok-push.ensures.items in
    let some : Some v ≡ value_of s.ty (field (i + 2) fields) =
    sym c.in-Some.is ∙ c.fitting_value.ensures.reading ∙ ap (λ (k : State). value_of k.ty c.field_at.result.now) (sym c.index-states-i.is) ∙ ap (value_of s.ty) c.field_at.ensures in
    record {
      so_far = subst (λ l. ReadSoFar states fields l (i + 1)) (sym items) (read_more states fields values i s v (length-map c.args.fields.now (λ f. f.now) ∙ c.requires) c.loop-i-test.true c.index-states-i.is c.loop-i.invariant.so_far some);
      many = ap length items ∙ length_push values v ∙ ap (λ n. n + 1) c.loop-i.invariant.many;
      fit = subst (λ l. list_all value_fits l ≡ true) (sym items) (fit_more values v c.loop-i.invariant.fit c.in-Some.ensures.fits);
    }

pub returns-clause-values : goal.returns-clause-values
returns-clause-values c =
    let fields = map (λ f. f.now) c.args.fields.now in
    ap Some c.from_vec.ensures
    ∙ ap result_ok (read_end c.args.states.now fields c.loop-i.values.items c.loop-i.i (length-map c.args.fields.now (λ f. f.now) ∙ c.requires) c.loop-i-test.false c.loop-i.invariant.so_far)
