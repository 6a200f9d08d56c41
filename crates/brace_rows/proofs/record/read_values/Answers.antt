use Rattle.std.proofs.Common.{◌≡◌, ◌+◌, ◌∙◌, ◌++◌, ◌∷◌, [], length, None, Some, Ok, Err, ap, sym, subst, rules}
use Rattle.std.proofs.lemmas.List.{length_push}
use Rattle.csv.specs.Records.{fields_of}
use Rattle.brace_rows.specs.AgentFile.{field, value_of}
use Rattle.brace_rows.proofs.Values.{ReadSoFar, read_bad, read_end, read_more}
use Rattle.brace_rows.proofs.record.read_values.Goals as goal

pub returns-in_default : goal.returns-in_default
returns-in_default c =
    let states = c.args.states.now in
    let fields = fields_of c.args.row.now in
    let s = c.state-item.result in
    let i = c.loop-state.state-index in
    let place : c.len-column.result ≡ i = search rules in
    let none : None ≡ value_of s.ty (field (i + 2) fields) =
    sym c.in_default.is ∙ c.read_value.ensures ∙ ap (value_of s.ty) c.field_at.ensures ∙ ap (λ n. value_of s.ty (field (n + 2) fields)) place in
    ap (λ n. Err (n + 2)) place ∙ read_bad states fields c.loop-state.values.items i s c.requires c.loop-state-test.true c.state-item.is c.loop-state.invariant.so_far none

pub loop-state-preserved : goal.loop-state-preserved
loop-state-preserved c =
    let states = c.args.states.now in
    let fields = fields_of c.args.row.now in
    let values = c.loop-state.values.items in
    let s = c.state-item.result in
    let i = c.loop-state.state-index in
    let v = c.in-Some.value in
    let items : c.push.new.self.items ≡ values ++ v ∷ [] = c.in_ok-push.ensures.items in
    let place : c.len-column.result ≡ i = search rules in
    let some : Some v ≡ value_of s.ty (field (i + 2) fields) =
    sym c.in-Some.is ∙ c.read_value.ensures ∙ ap (value_of s.ty) c.field_at.ensures ∙ ap (λ n. value_of s.ty (field (n + 2) fields)) place in
    record {
      so_far = subst (λ l. ReadSoFar states fields l (i + 1)) (sym items) (read_more states fields values i s v c.requires c.loop-state-test.true c.state-item.is c.loop-state.invariant.so_far some);
      many = ap length items ∙ length_push values v ∙ ap (λ n. n + 1) c.loop-state.invariant.many;
    }

pub returns : goal.returns
returns c =
    ap Ok c.from_vec.ensures
    ∙ read_end c.args.states.now (fields_of c.args.row.now) c.loop-state.values.items c.loop-state.state-index c.requires c.loop-state-test.false c.loop-state.invariant.so_far
