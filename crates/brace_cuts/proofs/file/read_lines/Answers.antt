use Rattle.std.proofs.Common.{◌≡◌, ◌∙◌, ◌+◌, ◌<◌, ◌++◌, ◌∷◌, [], Bor, List, ℕ, Some, None, length, map, drop, ap, sym, subst, arith, rules}
use Rattle.std.proofs.lemmas.List.{length_push}
use Rattle.brace_cuts.specs.CutPlans.{fault_behind}
use Rattle.brace_cuts.proofs.FirstFault.{ReadTo, read_none, same_fault}
use Rattle.brace_cuts.proofs.PlanLemmas.{PlanSoFar, none_so_far, whole_plan}
use Rattle.brace_cuts.proofs.Reading.{good_line, bad_line, no_line}
use Rattle.brace_cuts.proofs.file.read_lines.Goals as goal

pub loop-text-init : goal.loop-text-init
loop-text-init c =
    let texts = map (λ (t : Bor (List ℕ)). t.now) c.args.texts.now in
    let none : c.new-lines.result ≡ [] = c.new-lines.ensures in
    record {
      read = subst (λ l. ReadTo c.args.epoch texts texts l 1) (sym none) (read_none c.args.epoch texts);
      lawful = subst (PlanSoFar c.args.epoch) (sym none) (none_so_far c.args.epoch);
      many = ap length none;
    }

pub loop-text-preserved : goal.loop-text-preserved
loop-text-preserved c =
    let now = λ (t : Bor (List ℕ)). t.now in
    let epoch = c.args.epoch in
    let i = c.loop-text.text-index in
    let lines = c.loop-text.lines in
    let line = c.in-Ok.line in
    let so_far = c.loop-text.invariant in
    let pushed : c.push.new.self ≡ lines ++ line ∷ [] = c.in_ok-push-in-Ok.ensures.ok in
    let none = subst (λ l. fault_behind epoch l c.in_ok-line.line ≡ None) c.as_slice-in-loop-text.ensures c.in-Ok.ensures.ok.1 in
    let (read, lawful) = good_line now epoch c.args.texts.now i _ lines c.in_ok-line.line line c.loop-text-test.true so_far.read so_far.lawful c.in_ok-line.ensures c.in-Ok.ensures.ok.0 none in
    record {
      read = subst (λ l. ReadTo epoch (map now c.args.texts.now) (drop (i + 1) (map now c.args.texts.now)) l (i + 1 + 1)) (sym pushed) read;
      lawful = subst (PlanSoFar epoch) (sym pushed) lawful;
      many = ap length pushed ∙ length_push lines line ∙ ap (λ n. n + 1) so_far.many;
    }

pub returns-in-Err-clause-first : goal.returns-in-Err-clause-first
returns-in-Err-clause-first c number kind e =
    let now = λ (t : Bor (List ℕ)). t.now in
    let epoch = c.args.epoch in
    let i = c.loop-text.text-index in
    let so_far = c.loop-text.invariant in
    let some = subst (λ l. fault_behind epoch l c.in_ok-line.line ≡ Some c.in-Err.kind) c.as_slice-in-loop-text.ensures c.in-Err.ensures.err in
    let place : length c.as_slice.result.now + 1 ≡ i + 1 = ap (λ l. length l + 1) c.as_slice.ensures ∙ ap (λ n. n + 1) so_far.many in
    bad_line now epoch c.args.texts.now i _ c.loop-text.lines c.in_ok-line.line c.in-Err.kind c.loop-text-test.true so_far.read c.in_ok-line.ensures some
    ∙ ap (λ n. Some (n, c.in-Err.kind)) (sym place) ∙ same_fault _ number c.in-Err.kind kind e

pub returns : goal.returns
returns c =
    let now = λ (t : Bor (List ℕ)). t.now in
    let so_far = c.loop-text.invariant in
    let both = no_line now c.args.epoch c.args.texts.now c.loop-text.text-index c.loop-text.lines c.loop-text-test.false so_far.read in
    let some : 0 < length c.loop-text.lines = omega (arith, so_far.many, c.requires.some, c.loop-text-test.false) in
    record { lines = both.0; faultless = both.1; first = search rules; lawful = whole_plan c.args.epoch c.loop-text.lines some so_far.lawful }
