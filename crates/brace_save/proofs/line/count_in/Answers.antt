use Rattle.std.proofs.Common.{◌≡◌, ◌≤◌, ◌∙◌, sym, subst, arith}
use Rattle.brace_save.specs.Texts.{count_line}
use Rattle.brace_save.proofs.CountLines.{no_word, no_count, same_count, is_count_line, not_canonical}
use Rattle.brace_save.proofs.line.count_in.Goals.{else-n-most-via-then-n-most+in_ok-is_canonical+else-branch, else-n-most-via-else-n-most}
use Rattle.brace_save.proofs.line.count_in.Goals as goal

pub returns-in_default-clause-none : goal.returns-in_default-clause-none
returns-in_default-clause-none c = λ e n le is. no_word c.args.word.now c.args.line.now c.in_default.ensures.cases n is

pub returns-in_default-read_count-clause-none : goal.returns-in_default-read_count-clause-none
returns-in_default-read_count-clause-none c = λ e n le is.
    no_count c.args.word.now c.args.line.now c.in-Some.digits.now c.read_count.result c.in-Some.ensures.cases.1 c.read_count.ensures.reading (sym c.in_default-read_count.is)
    n (omega (arith, le, c.ranges.most.fits)) is

pub returns-then-branch-clause-some : goal.returns-then-branch-clause-some
returns-then-branch-clause-some c = λ n e.
    let word = c.args.word.now in
    let line = c.args.line.now in
    let m = c.in-Some-read_count.n in
    let same : m ≡ n = cc in
    subst (λ k. (k ≤ c.args.most) × (line ≡ count_line word k)) same
    (c.if-n-most.true, is_count_line word line c.in-Some.digits.now m c.in-Some.ensures.cases.0 c.in-Some.ensures.cases.1 (sym c.in_ok-is_canonical.ensures ∙ c.if-branch.true))

pub returns-else-n-most-clause-none : goal.returns-else-n-most-clause-none
returns-else-n-most-clause-none c = λ e n le is.
    let m = c.in-Some-read_count.n in
    let digits = c.in-Some.digits.now in
    let both = same_count c.args.word.now c.args.line.now digits c.read_count.result m c.in-Some.ensures.cases.1 c.read_count.ensures.reading (sym c.in-Some-read_count.is)
    n (omega (arith, le, c.ranges.most.fits)) is in
    elim c.else-n-most.branch [
      | else-n-most-via-then-n-most+in_ok-is_canonical+else-branch w ↦ not_canonical digits m (sym w.in_ok-is_canonical.ensures ∙ w.if-branch.false) both.1
      | else-n-most-via-else-n-most w ↦ omega (arith, w.if-n-most.false, le, both.0)
    ]
