-- What is seen of a line that lends its parts.
use Rattle.std.specs.Prelude.{option_map}
use Rattle.brace_watch.specs.declared.line.Test.{Test}
use Rattle.brace_watch.specs.declared.line.Line.{Line}
use Rattle.brace_watch.specs.Lines as written

-- a condition, with what its parts spell
abbrev pub seen_test : Test → written.Test
seen_test t = record { field = t.field.now; op = t.op; value = t.value.now }

-- a line, with what its parts spell
abbrev pub seen : Line → written.Line
seen line = record {
  kind = line.kind;
  class = line.class.now;
  field = option_map (λ name. name.now) line.field;
  test = option_map seen_test line.test;
}
