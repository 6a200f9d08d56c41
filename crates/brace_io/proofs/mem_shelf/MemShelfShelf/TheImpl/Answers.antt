-- What an append of a shelf in memory says is what each shelf's append has to say.
use Rattle.std.proofs.Common.{◌≡◌, ◌∙◌, ◌+◌, ◌-◌, ◌^◌, min, take, ap, arith}
use Rattle.std.proofs.lemmas.Result.{IfOk-weaker}
use Rattle.brace_io.specs.MemShelves.{Shelved, stopped_at}
use Rattle.brace_io.proofs.AppendLemmas.{only_alone, adds_more, adds_none, some_at, on_err}
use Rattle.brace_io.proofs.mem_shelf.MemShelfShelf.TheImpl.Goals as goal

pub append-tells : goal.append-tells
append-tells c =
    let before = c.args.self.now in
    let after = c.new.self.now in
    let piece = c.args.piece.now in
    let some = some_at c.result before piece c.ensures.fails c.ensures.count in
    record {
      only = λ name w. only_alone before.entries after.entries name (c.ensures.others name w);
      within = IfOk-weaker c.result _ _ (λ n e. omega (arith, e)) c.ensures.count;
      adds = IfOk-weaker c.result _ _ (λ n e name w. adds_more before.entries after.entries name (take n piece) (e name w)) c.ensures.adds;
      adds_front = on_err c.result (λ e name w. adds_none before.entries after.entries name piece (ap (λ (s : Shelved). s.entries) e)) c.ensures.stops;
      writes = IfOk-weaker c.result _ _ (λ n e _. ap (λ (s : Shelved). s.stage) e) c.ensures.rest;
      stops = on_err c.result (λ e name w. ap (λ (s : Shelved). s.stage) e ∙ ap stopped_at w) c.ensures.stops;
      stops_at_none = IfOk-weaker c.result _ _ (λ n e none there. absurd (e none there)) some;
      never_falls = c.ensures.never_falls;
      rose = on_err c.result (λ e. let f : after.faults ≡ min (before.faults + 1) (2 ^ 64 - 1) = ap (λ (s : Shelved). s.faults) e in omega (arith, f)) c.ensures.stops;
      rose_at_none = IfOk-weaker c.result _ _ (λ n e none there. absurd (e none there)) some;
    }
