use Rattle.std.proofs.Common.{◌∙◌, ◌++◌, List, ℕ, length, drop, sym, ap, arith, rules}
use Rattle.brace_wire.specs.Frames.{four}
use Rattle.brace_wire.specs.Streams.{is_whole}
use Rattle.brace_wire.proofs.StreamLemmas.{no_length, too_few, whole_when, length_and_rest, body_and_rest}
use Rattle.brace_wire.proofs.pieces.split_frame.Goals as goal

pub returns-in_default-clause-none : goal.returns-in_default-clause-none
returns-in_default-clause-none c = no_length c.args.bytes.now (search (c.in_default.ensures.read, c.in_default.ensures.bad, c.read_four.ensures, rules))

pub returns-then-rest-length-clause-none : goal.returns-then-rest-length-clause-none
returns-then-rest-length-clause-none c =
    let n = c.in-Ok.length in
    let h = length_and_rest c.args.bytes.now n c.in-Ok.rest.now (λ i. omega (arith, c.type_inv.bytes i)) c.in-Ok.ensures.read in
    ap is_whole h.0 ∙ too_few n c.in-Ok.rest.now h.1 c.if-rest-length.true

pub returns-clause-whole : goal.returns-clause-whole
returns-clause-whole c =
    let n = c.in-Ok.length in
    let h = length_and_rest c.args.bytes.now n c.in-Ok.rest.now (λ i. omega (arith, c.type_inv.bytes i)) c.in-Ok.ensures.read in
    ap is_whole h.0 ∙ whole_when n c.in-Ok.rest.now h.1 c.if-rest-length.false

pub returns-clause-parts : goal.returns-clause-parts
returns-clause-parts c =
    let n = c.in-Ok.length in
    let h = length_and_rest c.args.bytes.now n c.in-Ok.rest.now (λ i. omega (arith, c.type_inv.bytes i)) c.in-Ok.ensures.read in
    body_and_rest c.args.bytes.now c.in-Ok.rest.now n h.0 c.if-rest-length.false
    ∙ (ap (λ (x : List ℕ). four (length x) ++ (x ++ drop n c.in-Ok.rest.now)) (sym c.split_at.ensures.front)
    ∙ ap (λ (x : List ℕ). four (length c.split_at.result.0.now) ++ (c.split_at.result.0.now ++ x)) (sym c.split_at.ensures.back))
