use Rattle.std.proofs.Common.{◌∙◌, ap, sym, Bor, List, ℕ}
use Rattle.std.specs.Prelude.{option_map}
use Rattle.csv.specs.Records.{fields_of}
use Rattle.brace_rows.proofs.Values.{field_some, field_none}
use Rattle.brace_rows.proofs.record.field_at.Goals as goal

pub returns-in-Some : goal.returns-in-Some
returns-in-Some c =
    field_some (fields_of c.args.row.now) c.args.i c.in-Some.text.now
    (ap (option_map (λ (s : Bor (List ℕ)). s.now)) (sym c.in-Some.is) ∙ c.get.ensures.value)

pub returns-in-None : goal.returns-in-None
returns-in-None c =
    field_none (fields_of c.args.row.now) c.args.i
    (ap (option_map (λ (s : Bor (List ℕ)). s.now)) (sym c.in-None.is) ∙ c.get.ensures.value)
