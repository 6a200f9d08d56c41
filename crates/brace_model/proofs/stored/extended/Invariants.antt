use Rattle.std.proofs.Common.{◌≡◌, ◌++◌, take}
use Rattle.brace_model.proofs.stored.extended.Given as goal

abbrev pub invariant-loop-word : goal.invariant-loop-word
invariant-loop-word l = record {
  class : l.block.class ≡ l.initial.block.class;
  types : l.block.types ≡ l.initial.block.types;
  all : l.block.words ≡ l.initial.block.words ++ take l.word-index l.words;
}
