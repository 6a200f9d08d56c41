use Rattle.std.proofs.Common.{◌≡◌, ℕ, List, Some, false}
use Rattle.csv.specs.Machine.{ends_at_end}
use Rattle.csv.specs.Reading.{Ready, default_config, reader_config, reader_state, reader_trim}
use Rattle.csv.specs.declared.reader.Trim.TheVariants as trim
use Rattle.brace_rows.specs.AgentFile.{records_of}
use Rattle.brace_rows.specs.inner.Registers.{IsRegister}
use Rattle.brace_rows.proofs.FirstFault.{ReadTo}
use Rattle.brace_rows.proofs.Records.{records_left, source}
use Rattle.brace_rows.proofs.file.read_records.Given as goal

abbrev pub invariant-loop-number : goal.invariant-loop-number
invariant-loop-number l =
    (left : List ℕ) × record {
      trim : reader_trim l.reader ≡ trim.None;
      ready : Ready l.reader;
      config : reader_config l.reader ≡ default_config;
      known : source l.reader ≡ Some left;
      between : ends_at_end (reader_state l.reader) ≡ false;
      register : IsRegister l.register;
      read : ReadTo l.program (records_of l.fn.bytes) (records_left (reader_state l.reader) left) l.register.agents.items l.number;
    }
