use Rattle.std.proofs.Common.{◌++◌, List, flat_map, refl, rules, sym}
use Rattle.brace_model.specs.declared.world.Agent.{Agent}
use Rattle.brace_pieces.specs.Exchanged.{brought}
use Rattle.brace_herd.proofs.TableGather.{gathers_all, taken}
use Rattle.brace_herd.proofs.gather.gathered.Goals as goal

pub loop-piece-preserved : goal.loop-piece-preserved
loop-piece-preserved c =
    let start : List Agent = c.args.agents ++ flat_map brought c.args.pieces.now.items in
    let more : List Agent = c.herd_in.result in (
      taken start c.loop-piece.agents more more c.append.new.self c.loop-piece.pieces.items
          c.pop.new.self.items c.in-Some.piece c.in-Some.ensures.items (sym c.herd_in.ensures) refl
          c.in_ok-append.ensures c.loop-piece.invariant.0,
      search rules,
    )

pub returns-clause-same : goal.returns-clause-same
returns-clause-same c =
    let start : List Agent = c.args.agents ++ flat_map brought c.args.pieces.now.items in
    gathers_all start c.loop-piece.agents c.loop-piece.pieces.items (search rules)
    c.loop-piece.invariant.0
