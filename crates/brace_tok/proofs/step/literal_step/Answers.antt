use Rattle.std.proofs.Common.{take, drop, ap, ◌∙◌, arith}
use Rattle.brace_tok.specs.Pieces.{whole, fraction}
use Rattle.brace_tok.specs.Roles.{whole_kind, fixed_kind}
use Rattle.brace_tok.proofs.Standing.{whole_stands, fraction_stands, said, refused_as, said_two, refused_two}
use Rattle.brace_tok.proofs.step.literal_step.Goals as goal

pub returns-in-Some : goal.returns-in-Some
returns-in-Some c = (
  whole (take c.run_length-length.result c.args.text.now),
  whole_stands _ _ c.requires c.run_length-length.ensures ((rw c.split_at.ensures.back at c.decimals_length-decimals.ensures).0 c.if-decimals-eq0.true),
  said _ whole_kind _ _ _ c.in-Some.ensures c.split_at.ensures.front,
)

pub returns-in-None : goal.returns-in-None
returns-in-None c = (
  whole (take c.run_length-length.result c.args.text.now),
  _,
  whole_stands _ _ c.requires c.run_length-length.ensures ((rw c.split_at.ensures.back at c.decimals_length-decimals.ensures).0 c.if-decimals-eq0.true),
  refused_as _ whole_kind _ _ c.in-None.ensures c.split_at.ensures.front,
)

pub returns-in-Some-fixed_kind : goal.returns-in-Some-fixed_kind
returns-in-Some-fixed_kind c =
    let behind = c.split_at.ensures.back in
    let tail = (rw c.split_at.ensures.back at c.decimals_length-decimals.ensures).1 (omega arith) in (
      fraction (take c.run_length-length.result c.args.text.now) (take c.decimals_length-decimals.result (drop 1 (drop c.run_length-length.result c.args.text.now))),
      fraction_stands _ _ _ c.requires c.run_length-length.ensures tail.0 tail.1,
      said_two _ fixed_kind _ _ _ _ _ c.in-Some-fixed_kind.ensures c.split_at.ensures.front
          (c.split_at-else-decimals-eq0-2.ensures.front ∙ ap (take c.decimals_length-decimals.result) (c.split_at-else-decimals-eq0.ensures.back ∙ ap (drop 1) behind)),
    )

pub returns-in-None-fixed_kind : goal.returns-in-None-fixed_kind
returns-in-None-fixed_kind c =
    let behind = c.split_at.ensures.back in
    let tail = (rw c.split_at.ensures.back at c.decimals_length-decimals.ensures).1 (omega arith) in (
      fraction (take c.run_length-length.result c.args.text.now) (take c.decimals_length-decimals.result (drop 1 (drop c.run_length-length.result c.args.text.now))),
      _,
      fraction_stands _ _ _ c.requires c.run_length-length.ensures tail.0 tail.1,
      refused_two _ fixed_kind _ _ _ _ c.in-None-fixed_kind.ensures c.split_at.ensures.front
          (c.split_at-else-decimals-eq0-2.ensures.front ∙ ap (take c.decimals_length-decimals.result) (c.split_at-else-decimals-eq0.ensures.back ∙ ap (drop 1) behind)),
    )
