use Rattle.brace_save.specs.Lines.{moment_told}
use Rattle.brace_save.proofs.TextsRead.{front_incomplete, incomplete_told, judged, read_text, text_read}
use Rattle.brace_save.proofs.read.read_checkpoint.Goals as goal

pub returns-clause-judged : goal.returns-clause-judged
returns-clause-judged c = λ lawful. judged c.args.program.now c.args.bytes.now c.read_parts.result (c.read_parts.ensures.point lawful) (c.read_parts.ensures.refused lawful)

pub returns-clause-text : goal.returns-clause-text
returns-clause-text c = λ lawful point e. read_text c.args.program.now (record { tick = point.tick; seed = point.seed; world = point.world }) c.args.bytes.now (c.read_parts.ensures.point lawful point e)

pub returns-clause-read_back : goal.returns-clause-read_back
returns-clause-read_back c = λ lawful moment is ample.
    text_read c.args.program.now moment c.args.bytes.now (moment_told c.read_parts.result) lawful is
    (judged c.args.program.now c.args.bytes.now c.read_parts.result (c.read_parts.ensures.point lawful) (c.read_parts.ensures.refused lawful) ample)

pub returns-clause-cut : goal.returns-clause-cut
returns-clause-cut c = λ lawful moment whole n is below same ample.
    incomplete_told c.read_parts.result (front_incomplete c.args.program.now moment whole c.args.bytes.now n (moment_told c.read_parts.result) lawful is below same
    (judged c.args.program.now c.args.bytes.now c.read_parts.result (c.read_parts.ensures.point lawful) (c.read_parts.ensures.refused lawful) ample))
