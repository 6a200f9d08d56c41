use Rattle.std.proofs.Common.{◌≡◌, ◌∙◌, Bor, List, ℕ, map, ap}
use Rattle.brace_watch.specs.Lines.{texts_of}
use Rattle.brace_watch.specs.Watches.{watches_in}
use Rattle.brace_watch.proofs.Asked.{each_asked}
use Rattle.brace_watch.proofs.file.read_watch.Goals as goal

pub returns-clause-each : goal.returns-clause-each
returns-clause-each c =
    let program = c.args.program.now in
    let texts : map (λ (t : Bor (List ℕ)). t.now) c.as_slice.result.now ≡ texts_of c.args.bytes.now =
    ap (map (λ (t : Bor (List ℕ)). t.now)) c.as_slice.ensures.value ∙ c.in_ok-texts.ensures in
    each_asked program (texts_of c.args.bytes.now) c.into_vec.result.items (c.into_vec.ensures ∙ c.in_ok-watches.ensures.watches ∙ ap (watches_in program) texts)
