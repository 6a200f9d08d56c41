use Rattle.std.proofs.Common.{◌≡◌, ◌∙◌, ◌+◌, ◌++◌, ◌∷◌, [], Bor, List, ℕ, None, Some, length, map, drop, ap, sym, subst, arith, rules}
use Rattle.std.proofs.lemmas.List.{length_push}
use Rattle.brace_watch.specs.Watches.{watch_with, fault_of}
use Rattle.brace_watch.proofs.FirstFault.{ReadTo, good_line, bad_line, no_line, same_fault}
use Rattle.brace_watch.proofs.file.read_lines.Goals as goal

pub loop-text-preserved : goal.loop-text-preserved
loop-text-preserved c =
    let now = λ (t : Bor (List ℕ)). t.now in
    let program = c.args.program.now in
    let i = c.loop-text.text-index in
    let watches = c.loop-text.watches in
    let watch = c.in-Ok.watch in
    let r = c.in_ok-watch_of.field-0 in
    let so_far = c.loop-text.invariant in
    let pushed : c.push.new.self ≡ watches ++ watch ∷ [] = c.in_ok-push-in-Ok.ensures.ok in
    let place : length c.as_slice.result.now + 1 ≡ i + 1 = ap (λ l. length l + 1) c.as_slice.ensures ∙ ap (λ n. n + 1) so_far.many in
    let long : length c.push.new.self ≡ i + 1 = ap length pushed ∙ length_push watches watch ∙ ap (λ n. n + 1) so_far.many in
    let none = subst (λ n. fault_of n r ≡ None) place c.in-Ok.ensures.ok.1 in
    record {
      read = subst (λ l. ReadTo program (map now c.args.texts.now) (drop (i + 1) (map now c.args.texts.now)) l (i + 1 + 1)) (sym pushed)
          (good_line now program c.args.texts.now i _ watches r watch c.loop-text-test.true so_far.read (c.in_ok-watch_of.ensures ∙ ap (watch_with program) c.in_ok-line.ensures) c.in-Ok.ensures.ok.0 none);
      many = long;
      few = omega (arith, long, place, c.in-Ok.ensures.few);
    }

pub returns-in-Err-clause-first : goal.returns-in-Err-clause-first
returns-in-Err-clause-first c number kind e =
    let now = λ (t : Bor (List ℕ)). t.now in
    let program = c.args.program.now in
    let i = c.loop-text.text-index in
    let r = c.in_ok-watch_of.field-0 in
    let so_far = c.loop-text.invariant in
    let place : length c.as_slice.result.now + 1 ≡ i + 1 = ap (λ l. length l + 1) c.as_slice.ensures ∙ ap (λ n. n + 1) so_far.many in
    let some = subst (λ n. fault_of n r ≡ Some c.in-Err.kind) place c.in-Err.ensures.err in
    bad_line now program c.args.texts.now i _ c.loop-text.watches r c.in-Err.kind c.loop-text-test.true so_far.read (c.in_ok-watch_of.ensures ∙ ap (watch_with program) c.in_ok-line.ensures) some
    ∙ ap (λ n. Some (n, c.in-Err.kind)) (sym place) ∙ same_fault _ number c.in-Err.kind kind e

pub returns : goal.returns
returns c =
    let both = no_line (λ (t : Bor (List ℕ)). t.now) c.args.program.now c.args.texts.now c.loop-text.text-index c.loop-text.watches c.loop-text-test.false c.loop-text.invariant.read in
    record { watches = both.0; faultless = both.1; first = search rules; few = c.loop-text.invariant.few }
