use Rattle.std.proofs.Common.{arith}
use Rattle.brace_wire.proofs.PieceFormats.{found_frame, found_same, found_none}
use Rattle.brace_wire.proofs.pieces.read_frame.Goals as goal

pub returns-clause-found : goal.returns-clause-found
returns-clause-found c = found_frame c.args.types.now c.read_whole_body.result c.args.bytes.now (λ i. omega (arith, c.type_inv.bytes i)) c.read_whole_body.ensures

pub returns-clause-same : goal.returns-clause-same
returns-clause-same c = found_same c.args.types.now c.read_whole_body.result c.args.bytes.now (λ i. omega (arith, c.type_inv.bytes i)) c.read_whole_body.ensures

pub returns-clause-none : goal.returns-clause-none
returns-clause-none c = λ bad f fits same. found_none c.args.types.now c.read_whole_body.result c.args.bytes.now c.read_whole_body.ensures bad f fits same
