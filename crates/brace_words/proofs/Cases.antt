-- What the definition says of some words.
use Rattle.std.proofs.Common.{◌≡◌, false, [], ◌∷◌, Some, None, refl, codes}
use Rattle.clap.proofs.OnLiterals.{clap_on_literals}
use Rattle.brace_words.specs.Lines.{line_of}
use Rattle.brace_words.specs.declared.line.Line.{Line}
use Rattle.brace_words.specs.declared.mode.Mode.{Mode}
use Rattle.brace_words.specs.declared.mode.Mode.TheVariants as mode

-- a mode alone
abbrev only : Mode → Line
only mode = record {
  mode = mode;
  script = None;
  agents = None;
  from = None;
  ticks = None;
  count = None;
  seed = None;
  every = None;
  epoch = None;
  cuts = None;
  workers = None;
  order = None;
  invert = false;
  save = None;
  stats = false;
  link = None;
  published = None;
  watch = None;
  strips = None;
}

any_order : line_of (codes "--ticks=2" ∷ codes "--agents" ∷ codes "a" ∷ codes "run" ∷ codes "--script=s" ∷ [])
    ≡ Some (record (only mode.Run) { script = Some (codes "s"); agents = Some (codes "a"); ticks = Some 2 })
unfolding clap_on_literals line_of
any_order = refl

twice : line_of (codes "fmt" ∷ codes "--script" ∷ codes "s" ∷ codes "--script=s" ∷ []) ≡ None
unfolding clap_on_literals line_of
twice = refl

past_the_limit : line_of (codes "trial" ∷ codes "--count" ∷ codes "1" ∷ codes "--ticks=4294967297" ∷ []) ≡ None
unfolding clap_on_literals line_of
past_the_limit = refl

empty_name : line_of (codes "fmt" ∷ codes "--script=" ∷ []) ≡ None
unfolding clap_on_literals line_of
empty_name = refl

of_another_mode : line_of (codes "fmt" ∷ codes "--script=s" ∷ codes "--stats" ∷ []) ≡ None
unfolding clap_on_literals line_of
of_another_mode = refl

no_words : line_of [] ≡ None
unfolding clap_on_literals line_of
no_words = refl
