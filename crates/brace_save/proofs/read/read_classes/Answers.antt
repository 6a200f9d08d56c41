use Rattle.std.proofs.Common.{◌≡◌, ◌<◌, ◌+◌, ◌∙◌, ℕ, List, Bor, map, length, get_or, true, false, sym, ap, subst, arith, rules, Err}
use Rattle.std.specs.Str.{bytes_eq}
use Rattle.std.proofs.lemmas.Bool.{true≢false}
use Rattle.std.proofs.lemmas.List.{length-map}
use Rattle.std.proofs.lemmas.Slice.Eq.{bytes_eq-Decides}
use Rattle.brace_save.specs.declared.kinds.PointFault.TheVariants.{Incomplete, OtherClasses}
use Rattle.brace_save.specs.Lines.{IsRead}
use Rattle.brace_save.specs.Texts.{class_line}
use Rattle.brace_save.specs.inner.Steps.{line, place}
use Rattle.brace_save.proofs.Classes.{class_bad, class_missing, stand_more}
use Rattle.brace_save.proofs.read.read_classes.Goals as goal

pub returns-then-i-lines-clause-refused : goal.returns-then-i-lines-clause-refused
returns-then-i-lines-clause-refused c = λ rest cause err ok.
    let all = map (λ (l : Bor (List ℕ)). l.now) c.args.lines.now in
    let same : Incomplete ≡ cause = cc in
    let long = length-map c.args.lines.now (λ (l : Bor (List ℕ)). l.now) in
    let inside : c.loop-class.class-index < length c.args.program.now.classes = search rules in
    subst (λ k. IsRead c.args.program.now all rest (Err k)) same
    (class_missing c.args.program.now c.args.heading all rest c.loop-class.class-index c.requires c.loop-class.invariant.stand inside
    (omega (arith, long, c.if-i-lines.true, c.loop-class.invariant.at)))

pub returns-then-not-branch-clause-refused : goal.returns-then-not-branch-clause-refused
returns-then-not-branch-clause-refused c = λ rest cause err ok.
    let all = map (λ (l : Bor (List ℕ)). l.now) c.args.lines.now in
    let j = c.loop-class.class-index in
    let class = c.class-item.result in
    let same : OtherClasses ≡ cause = cc in
    let long = length-map c.args.lines.now (λ (l : Bor (List ℕ)). l.now) in
    let inside : j < length c.args.program.now.classes = search rules in
    let at : line all c.loop-class.i ≡ line all (place c.args.heading.tells_next + j) = ap (line all) c.loop-class.invariant.at in
    let one : class ≡ get_or c.args.program.now.classes j class = search rules in
    let differs : bytes_eq (class_line class) c.field_at.result.now ≡ false = search rules in
    subst (λ k. IsRead c.args.program.now all rest (Err k)) same
    (class_bad c.args.program.now c.args.heading all rest j class c.requires c.loop-class.invariant.stand inside
    (omega (arith, long, c.if-i-lines.false, c.loop-class.invariant.at))
    (λ e. true≢false (sym ((bytes_eq-Decides (class_line class) c.field_at.result.now).1 (ap class_line one ∙ sym (c.field_at.ensures ∙ at ∙ e))) ∙ differs)))

pub loop-class-preserved : goal.loop-class-preserved
loop-class-preserved c =
    let all = map (λ (l : Bor (List ℕ)). l.now) c.args.lines.now in
    let j = c.loop-class.class-index in
    let class = c.class-item.result in
    let long = length-map c.args.lines.now (λ (l : Bor (List ℕ)). l.now) in
    let inside : j < length c.args.program.now.classes = search rules in
    let at : line all c.loop-class.i ≡ line all (place c.args.heading.tells_next + j) = ap (line all) c.loop-class.invariant.at in
    let one : class ≡ get_or c.args.program.now.classes j class = search rules in
    let same : bytes_eq (class_line class) c.field_at.result.now ≡ true = search rules in
    let is : class_line class ≡ c.field_at.result.now = (bytes_eq-Decides (class_line class) c.field_at.result.now).0 same in
    record {
      at = omega (arith, c.loop-class.invariant.at);
      there = omega (arith, c.if-i-lines.false);
      stand = stand_more c.args.program.now c.args.heading all j class c.loop-class.invariant.stand inside
          (omega (arith, long, c.if-i-lines.false, c.loop-class.invariant.at))
          (sym at ∙ sym c.field_at.ensures ∙ sym is ∙ ap class_line one);
    }
