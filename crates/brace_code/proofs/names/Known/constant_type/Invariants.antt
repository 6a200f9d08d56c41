use Rattle.std.proofs.Common.{◌≡◌, drop}
use Rattle.brace_model.specs.Typing.{constant_type}
use Rattle.brace_code.proofs.names.Known.constant_type.Given as goal

abbrev pub invariant-loop-constant : goal.invariant-loop-constant
invariant-loop-constant l = constant_type (drop l.constant-index l.self.constants.now) l.number ≡ constant_type l.self.constants.now l.number
