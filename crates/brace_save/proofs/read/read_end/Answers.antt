use Rattle.std.proofs.Common.{◌≡◌, ◌<◌, ◌+◌, ◌∙◌, ℕ, List, [], Bor, map, length, true, false, sym, ap, subst, arith, rules, Err}
use Rattle.std.specs.Prelude.{codes}
use Rattle.std.specs.Str.{bytes_eq}
use Rattle.std.proofs.lemmas.Bool.{true≢false}
use Rattle.std.proofs.lemmas.List.{length-map, nil_from_length}
use Rattle.std.proofs.lemmas.Slice.Eq.{bytes_eq-Decides}
use Rattle.brace_save.specs.declared.kinds.PointFault.TheVariants.{Incomplete, BadLine}
use Rattle.brace_save.specs.Lines.{IsRead}
use Rattle.brace_save.specs.Texts.{count_line, end_line}
use Rattle.brace_save.specs.inner.Steps.{line, front_length}
use Rattle.brace_save.proofs.Ends.{end_missing, line_bad, line_behind, rest_behind, whole}
use Rattle.brace_save.proofs.read.read_end.Goals.{then-end-lines-2-via-then-end-lines-2, then-end-lines-2-via-else-end-lines-2+then-not-is_empty}
use Rattle.brace_save.proofs.read.read_end.Goals as goal

pub returns-then-end-lines-clause-refused : goal.returns-then-end-lines-clause-refused
returns-then-end-lines-clause-refused c = λ lawful none cause err ok.
    let all = map (λ (l : Bor (List ℕ)). l.now) c.args.lines.now in
    let same : Incomplete ≡ cause = cc in
    let long = length-map c.args.lines.now (λ (l : Bor (List ℕ)). l.now) in
    subst (λ k. IsRead c.args.program.now all c.args.rest.now (Err k)) same
    (end_missing c.args.program.now c.args.heading c.args.agents.now all c.args.rest.now lawful c.requires (omega (arith, long, c.end_of-end.ensures, c.if-end-lines.true)))

pub returns-then-not-branch-clause-refused : goal.returns-then-not-branch-clause-refused
returns-then-not-branch-clause-refused c = λ lawful none cause err ok.
    let all = map (λ (l : Bor (List ℕ)). l.now) c.args.lines.now in
    let agents = c.args.agents.now in
    let n = front_length c.args.program.now c.args.heading.tells_next agents in
    let long = length-map c.args.lines.now (λ (l : Bor (List ℕ)). l.now) in
    let at = c.end_of-end.ensures in
    let same : BadLine (n + 1) ≡ cause = ap (λ k. BadLine (k + 1)) (sym at) ∙ cc in
    let below : n < length c.args.lines.now = omega (arith, at, c.if-end-lines.false) in
    let differs : bytes_eq (count_line (codes "end ") (length agents)) c.field_at.result.now ≡ false = search rules in
    subst (λ k. IsRead c.args.program.now all c.args.rest.now (Err k)) same
    (line_bad c.args.program.now c.args.heading agents all c.args.rest.now lawful c.requires (omega (arith, below, long))
    (λ e. true≢false (sym ((bytes_eq-Decides (end_line agents) c.field_at.result.now).1 (sym (c.field_at.ensures ∙ ap (line all) at ∙ e))) ∙ differs))
    (λ a told may. none below a told))

pub returns-then-end-lines-2-clause-refused : goal.returns-then-end-lines-2-clause-refused
returns-then-end-lines-2-clause-refused c = λ lawful none cause err ok.
    let all = map (λ (l : Bor (List ℕ)). l.now) c.args.lines.now in
    let agents = c.args.agents.now in
    let n = front_length c.args.program.now c.args.heading.tells_next agents in
    let long = length-map c.args.lines.now (λ (l : Bor (List ℕ)). l.now) in
    let at = c.end_of-end.ensures in
    let same : BadLine (n + 2) ≡ cause = ap (λ k. BadLine (k + 2)) (sym at) ∙ cc in
    let is : bytes_eq (count_line (codes "end ") (length agents)) c.field_at.result.now ≡ true = search rules in
    let end : line all n ≡ end_line agents = sym (c.field_at.ensures ∙ ap (line all) at) ∙ sym ((bytes_eq-Decides (end_line agents) c.field_at.result.now).0 is) in
    subst (λ k. IsRead c.args.program.now all c.args.rest.now (Err k)) same
    (elim c.then-end-lines-2.branch [
      | then-end-lines-2-via-then-end-lines-2 w ↦
          line_behind c.args.program.now c.args.heading agents all c.args.rest.now lawful c.requires end (omega (arith, at, long, w.if-end-lines-2.true))
      | then-end-lines-2-via-else-end-lines-2+then-not-is_empty w ↦
          let some : c.args.rest.now ≡ [] → ⊥ = search rules in
          rest_behind c.args.program.now c.args.heading agents all c.args.rest.now c.requires end (omega (arith, at, long, w.if-end-lines-2.false, c.if-end-lines.false)) some
    ])

pub returns-clause-whole : goal.returns-clause-whole
returns-clause-whole c =
    let all = map (λ (l : Bor (List ℕ)). l.now) c.args.lines.now in
    let agents = c.args.agents.now in
    let n = front_length c.args.program.now c.args.heading.tells_next agents in
    let long = length-map c.args.lines.now (λ (l : Bor (List ℕ)). l.now) in
    let at = c.end_of-end.ensures in
    let is : bytes_eq (count_line (codes "end ") (length agents)) c.field_at.result.now ≡ true = search rules in
    let end : line all n ≡ end_line agents = sym (c.field_at.ensures ∙ ap (line all) at) ∙ sym ((bytes_eq-Decides (end_line agents) c.field_at.result.now).0 is) in
    let zero : length c.args.rest.now ≡ 0 = search rules in
    let none : c.args.rest.now ≡ [] = nil_from_length c.args.rest.now zero in
    (whole c.args.program.now c.args.heading agents all c.requires (omega (arith, at, long, c.if-end-lines.false)) end (omega (arith, at, long, c.if-end-lines-2.false)), none)
