use Rattle.std.proofs.Common.{◌≡◌, ◌≤◌, ◌∙◌, ℕ, List, Bor, map, length, true, false, sym, ap₂, subst, arith, rules, Err}
use Rattle.std.specs.Str.{bytes_eq}
use Rattle.std.proofs.lemmas.Bool.{true≢false}
use Rattle.std.proofs.lemmas.List.{length-map}
use Rattle.std.proofs.lemmas.Slice.Eq.{bytes_eq-Decides}
use Rattle.brace_save.specs.declared.kinds.PointFault.TheVariants.{Incomplete, BadVersion}
use Rattle.brace_save.specs.Lines.{IsRead}
use Rattle.brace_save.specs.inner.Steps.{line, version}
use Rattle.brace_save.proofs.Begins.{bad_version, ended_at_once}
use Rattle.brace_save.proofs.read.read_version.Goals as goal

pub returns-then-is_empty-clause-refused : goal.returns-then-is_empty-clause-refused
returns-then-is_empty-clause-refused c = λ program rest cause err.
    let all = map (λ (l : Bor (List ℕ)). l.now) c.args.lines.now in
    let none : length c.args.lines.now ≡ 0 = search rules in
    let same : Incomplete ≡ cause = cc in
    subst (λ k. IsRead program all rest (Err k)) same (ended_at_once program all rest (omega (arith, none, length-map c.args.lines.now (λ (l : Bor (List ℕ)). l.now))))

pub returns-then-eq-clause-first : goal.returns-then-eq-clause-first
returns-then-eq-clause-first c =
    let first = line (map (λ (l : Bor (List ℕ)). l.now) c.args.lines.now) 0 in
    let eq : bytes_eq first (version false) ≡ true = ap₂ bytes_eq (sym c.field_at-first.ensures) (sym c.as_slice.ensures) ∙ sym c.eq.ensures ∙ c.if-eq.true in
    let is : first ≡ version false = (bytes_eq-Decides first (version false)).0 eq in
    (search rules, is)

pub returns-then-eq-2-clause-first : goal.returns-then-eq-2-clause-first
returns-then-eq-2-clause-first c =
    let first = line (map (λ (l : Bor (List ℕ)). l.now) c.args.lines.now) 0 in
    let eq : bytes_eq first (version true) ≡ true = ap₂ bytes_eq (sym c.field_at-first.ensures) (sym c.as_slice-else-eq.ensures) ∙ sym c.eq-else-eq.ensures ∙ c.if-eq-2.true in
    let is : first ≡ version true = (bytes_eq-Decides first (version true)).0 eq in
    (search rules, is)

pub returns-else-eq-2-clause-refused : goal.returns-else-eq-2-clause-refused
returns-else-eq-2-clause-refused c = λ program rest cause err.
    let all = map (λ (l : Bor (List ℕ)). l.now) c.args.lines.now in
    let first = line all 0 in
    let same : BadVersion ≡ cause = cc in
    let some : 1 ≤ length c.args.lines.now = search rules in
    let one : bytes_eq first (version false) ≡ false = ap₂ bytes_eq (sym c.field_at-first.ensures) (sym c.as_slice.ensures) ∙ sym c.eq.ensures ∙ c.if-eq.false in
    let two : bytes_eq first (version true) ≡ false = ap₂ bytes_eq (sym c.field_at-first.ensures) (sym c.as_slice-else-eq.ensures) ∙ sym c.eq-else-eq.ensures ∙ c.if-eq-2.false in
    subst (λ k. IsRead program all rest (Err k)) same (bad_version program all rest (omega (arith, some, length-map c.args.lines.now (λ (l : Bor (List ℕ)). l.now)))
    (λ e. true≢false (sym ((bytes_eq-Decides first (version false)).1 e) ∙ one))
    (λ e. true≢false (sym ((bytes_eq-Decides first (version true)).1 e) ∙ two)))
