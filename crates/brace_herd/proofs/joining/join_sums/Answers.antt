use Rattle.std.proofs.Common.{All, sym, subst}
use Rattle.std.specs.Bool.{OnTrue}
use Rattle.std.proofs.lemmas.List.Sorted.{Contains-permutation}
use Rattle.brace_fold.specs.Hears.{Hears}
use Rattle.brace_fold.proofs.Alikes.{hears-none}
use Rattle.brace_herd.specs.inner.Tables.{IsSilent}
use Rattle.brace_herd.proofs.HoldLemmas.{are_among, silent_told, tell_among}
use Rattle.brace_herd.proofs.TableTells.{on_ok}
use Rattle.brace_herd.proofs.joining.join_sums.Goals as goal

pub returns-then-are_silent : goal.returns-then-are_silent
returns-then-are_silent c all theirs mine told moved apart stand same rises tells =
    let program = c.args.program.now in
    let none = silent_told program mine c.args.pieces.now told
    (subst (λ b. OnTrue b (All IsSilent c.args.pieces.now)) c.if-are_silent.true
    c.are_silent.ensures) tells in
    subst (λ l. Hears program all l c.args.said.now c.args.said.now) (sym none)
    (hears-none program all c.args.said.now)

pub returns : goal.returns
returns c =
    on_ok c.join_pieces.result c.join_pieces.ensures
    (λ join all theirs mine told moved apart stand same rises tells.
    join all told moved apart
    (tell_among c.args.program.now mine all (λ a at. are_among all theirs c.args.own.now stand a
    (Contains-permutation mine theirs a same at)) c.args.pieces.now told tells))
