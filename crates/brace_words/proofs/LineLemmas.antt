-- What clap's clauses say of the words, for the command of this crate.
use Rattle.std.proofs.Common.{◌≡◌, ◌∙◌, true, false, List, [], ◌∷◌, Some, None, refl, sym, ap, subst, arith, inl, inr}
use Rattle.std.specs.Prelude.{option_and_then}
use Rattle.clap.specs.Walk.{Row, Text, is_empty, rows_of}
use Rattle.clap.specs.Simple.{App, HasMatchesOf, app_of, is_simple, matches_of}
use Rattle.clap.specs.Faults.{fault_of, is_simple_and_free}
use Rattle.clap.specs.Kinds.{HasKind, IsAmong, Kinds}
use Rattle.clap.specs.Matches.{found_of, first_value}
use Rattle.clap.specs.Values.{kind_of}
use Rattle.clap.specs.declared.parser.matches.ArgMatches.{ArgMatches}
use Rattle.clap.specs.declared.builder.command.Command.{Command}
use Rattle.clap.specs.declared.error.Error.{Error}
use Rattle.clap.specs.declared.error.kind.ErrorKind.{ErrorKind}
use Rattle.clap.specs.declared.error.kind.ErrorKind.TheVariants as kind
use Rattle.clap.proofs.OnLiterals.{clap_on_literals}
use Rattle.clap.proofs.WalkLemmas.{first_value-rows}
use Rattle.brace_words.specs.Command.{brace}
use Rattle.brace_words.specs.Options.{takes}
use Rattle.brace_words.specs.Values.{Found}
use Rattle.brace_words.specs.declared.line.Line.{Line}
use Rattle.brace_words.specs.Lines.{by_name, line_found, line_of, taken}

brace_simple : is_simple brace ≡ true
unfolding clap_on_literals
brace_simple = refl

brace_free : is_simple_and_free brace ≡ true
unfolding clap_on_literals
brace_free = refl

-- the getters read what clap's rows have for each name
by_getters : (m : ArgMatches) (rows : List Row) → rows_of (found_of m) ≡ rows
    → by_name rows ≡ first_value (found_of m)
by_getters m rows e =
    subst (λ rs. by_name rs ≡ first_value (found_of m)) e
    (λ i name. sym (first_value-rows (found_of m) name) i)

-- where clap takes the words, they are the line that was found and that its mode takes
pub line_said : (c : Command) (words : List Text) (m : ArgMatches) → app_of c ≡ brace
    → (is_simple_and_free (app_of c) ≡ true → fault_of (app_of c) words ≡ [])
    → HasMatchesOf (app_of c) words m
    → line_of words ≡ option_and_then taken (line_found (first_value (found_of m)))
unfolding line_of
line_said c words m as_brace none rows =
    let n : fault_of brace words ≡ [] =
    subst (λ (a : App). fault_of a words ≡ []) as_brace
    (none (ap is_simple_and_free as_brace ∙ brace_free)) in
    let r : rows_of (found_of m) ≡ matches_of brace words =
    subst (λ (a : App). rows_of (found_of m) ≡ matches_of a words) as_brace
    (rows (ap is_simple as_brace ∙ brace_simple)).0 in
    rw n (ap (λ (found : Found). option_and_then taken (line_found found)) (by_getters m _ r))

some_kind : (k : ErrorKind) (ks : Kinds) → IsAmong k ks → is_empty ks ≡ false
some_kind k [] h = absurd h
some_kind k (x ∷ xs) h = grind arith

-- where an error other than want of memory comes, they are no line
pub no_line : (c : Command) (words : List Text) (e : Error) → app_of c ≡ brace
    → (is_simple_and_free (app_of c) ≡ true → HasKind (fault_of (app_of c) words) e)
    → (kind_of e ≡ kind.OutOfMemory → ⊥) → line_of words ≡ None
unfolding line_of
no_line c words e as_brace has other =
    let h : HasKind (fault_of brace words) e =
    subst (λ (a : App). HasKind (fault_of a words) e) as_brace
    (has (ap is_simple_and_free as_brace ∙ brace_free)) in
    elim h [
      | inl memory ↦ absurd (other memory)
      | inr among ↦ rw (some_kind (kind_of e) (fault_of brace words) among) refl
    ]

pub taken_where : (line : Line) → takes line ≡ true → taken line ≡ Some line
taken_where line e = rw e refl

pub not_taken_where : (line : Line) → takes line ≡ false → taken line ≡ None
not_taken_where line e = rw e refl
