use Rattle.std.proofs.Common.{rules, to_z, of_z, w64}
use Rattle.brace_code.proofs.KernelLemmas.{row_made}
use Rattle.brace_code.proofs.kernels.row_words.Given.{the-over}
use Rattle.brace_code.proofs.kernels.row_words.Goals as goal

pub loop-k-preserved : goal.loop-k-preserved
loop-k-preserved g c = record {
  room = search rules;
  long = search rules;
  done = λ quiet.
      row_made c.loop-k.k (goal.F-post (the-over g.row.F g.F.laws g.F.Fn g.F.Fn-dict
      g.F.FnMut-dict g.F.FnOnce-dict g.F.Destruct-dict g.world g.met.F.Fn g.met.F.FnMut
      g.met.F.FnOnce g.met.F.Destruct) c.args.op) c.args.rows.now c.args.others.now
      c.args.column.now c.args.other.now _ _ c.op-word.result.0
      (to_z w64 (of_z w64 c.op-word.result.0)) c.op-word.result.1 (search rules) (search rules)
      (c.loop-k.invariant.done (search rules)) c.op-word.ensures (search rules) (search rules)
      (search rules) (search rules);
}

pub loop-k-2-preserved : goal.loop-k-2-preserved
loop-k-2-preserved g c = record {
  room = search rules;
  long = search rules;
  done = λ quiet.
      row_made c.loop-k-2.k (goal.F-post (the-over g.row.F g.F.laws g.F.Fn g.F.Fn-dict
      g.F.FnMut-dict g.F.FnOnce-dict g.F.Destruct-dict g.world g.met.F.Fn g.met.F.FnMut
      g.met.F.FnOnce g.met.F.Destruct) c.args.op) c.args.rows.now c.args.others.now
      c.args.column.now c.args.other.now _ _ c.op-word-in-loop-k-2.result.0
      (to_z w64 (of_z w64 c.op-word-in-loop-k-2.result.0)) c.op-word-in-loop-k-2.result.1
      (search rules) (search rules) (c.loop-k-2.invariant.done (search rules))
      c.op-word-in-loop-k-2.ensures (search rules) (search rules) (search rules) (search rules);
}
