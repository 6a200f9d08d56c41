use Rattle.std.proofs.Common.{sym, subst, refl, arith, List, ℕ}
use Rattle.std.proofs.lemmas.Bool.{eqb-true}
use Rattle.brace_tok.proofs.Rows.{Read, read_step, step_bounds, fault_of}
use Rattle.brace_tok.proofs.Unique.{read_all, one_list, no_list, only_memory, that_fault, spells_rises}
use Rattle.brace_tok.proofs.Named.{spells_names}
use Rattle.brace_tok.proofs.scan.tokens.Goals as goal

pub returns-in-Err-clause-refused : goal.returns-in-Err-clause-refused
returns-in-Err-clause-refused c = fault_of _ _ _ _ _ _ c.loop-rest.invariant refl c.step_at.ensures c.in-Err.ensures.err

pub returns-in-Err-clause-listed : goal.returns-in-Err-clause-listed
returns-in-Err-clause-listed c toks s = only_memory _ _ toks (fault_of _ _ _ _ _ _ c.loop-rest.invariant refl c.step_at.ensures c.in-Err.ensures.err) s

pub returns-in-Err-clause-faulted : goal.returns-in-Err-clause-faulted
returns-in-Err-clause-faulted c first s = that_fault _ _ first (fault_of _ _ _ _ _ _ c.loop-rest.invariant refl c.step_at.ensures c.in-Err.ensures.err) s

pub returns-clause-listed : goal.returns-clause-listed
returns-clause-listed c toks s = one_list _ _ toks (read_all _ _ _ (eqb-true _ _ (sym c.loop-rest-test.ensures)) c.loop-rest.invariant) s

pub returns-clause-faulted : goal.returns-clause-faulted
returns-clause-faulted c first s = no_list _ _ first (read_all _ _ _ (eqb-true _ _ (sym c.loop-rest-test.ensures)) c.loop-rest.invariant) s

pub returns-clause-rising : goal.returns-clause-rising
returns-clause-rising c = spells_rises _ _ (read_all _ _ _ (eqb-true _ _ (sym c.loop-rest-test.ensures)) c.loop-rest.invariant)

pub returns-clause-names : goal.returns-clause-names
returns-clause-names c = spells_names _ _ (read_all _ _ _ (eqb-true _ _ (sym c.loop-rest-test.ensures)) c.loop-rest.invariant)

pub loop-rest-smaller : goal.loop-rest-smaller
loop-rest-smaller c =
    let bounds = step_bounds _ _ _ _ _ _ c.step_at.ensures c.in-Ok.ensures.ok in
    let left = c.split_at.ensures.back_len in
    omega (arith, bounds.0, bounds.1, left)

pub loop-rest-preserved : goal.loop-rest-preserved
loop-rest-preserved c =
    subst (λ (t : List ℕ). Read c.args.src.now t c.pass.new.toks.items) (sym c.split_at.ensures.back)
    (read_step _ _ _ _ _ _ _ c.loop-rest.invariant refl c.step_at.ensures c.in-Ok.ensures.ok)
